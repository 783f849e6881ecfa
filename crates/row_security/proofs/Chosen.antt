-- Exact angles for the zones of a row, and for their net positions.
use Rattle.std.proofs.Common.{◌≡◌, ℕ, zero, suc, ◌*◌, ◌<◌, ◌≤◌, ℤ, pos, ◌*ℤ◌, List, [], ◌∷◌, map, refl, sym, ap, ◌∙◌, arith}
use Rattle.std.specs.Prelude.{All}
use Rattle.std.specs.List.{AllZip}
use Rattle.std.proofs.lemmas.List.Elements.{All-cons, All-nil}
use Rattle.whole_laws.specs.Ring.{ring}
use Rattle.whole_laws.specs.Sums.{at}
use Rattle.fractions.specs.Fractions.{Fraction, Same, whole}
use Rattle.fractions.specs.FractionLaws.{Same_trans}
use Rattle.fb_types.specs.declared.grid.Grid.{Grid}
use Rattle.fb_types.specs.declared.keys.Block.{Block}
use Rattle.grid_state.specs.GridState.{GridState, classes_of, IsSound}
use Rattle.grid_laplacian.specs.Laws.{laplacian_at}
use Rattle.grid_laplacian.proofs.LawProofs.{existence_holds}
use Rattle.security.specs.Quotients.{divisor_of, divided}
use Rattle.security.specs.Balances.{base_balance, block_weights, balance_with}
use Rattle.security.specs.Flows.{ExactAngles, AreAnglesOf, AreAnglesFor, AreAnglesOfKey}
use Rattle.security.specs.Rows.{KeyedZone, SolvedZone}
use Rattle.security.specs.Points.{exchanges_at}
use Rattle.row_security.specs.Choices.{HasChoices}
use Rattle.row_security.proofs.Multiples.{some_multiple}

-- ---- angles of a right side

angles_of : (s : GridState) → IsSound s → List ℤ → ExactAngles
angles_of s sound p = let x = existence_holds s sound p in record { angles = x.0; scale = x.1 }

are_angles : (s : GridState) (sound : IsSound s) (p : List ℤ) → AreAnglesOf s p (angles_of s sound p)
unfolding angles_of
are_angles s sound p = let x = existence_holds s sound p in x.2

-- ---- of the zones

block_angles : (s : GridState) → IsSound s → List Block → List ExactAngles
block_angles s sound blocks = map (λ block. angles_of s sound (block_weights s block)) blocks

are_block_angles : (s : GridState) (sound : IsSound s) (blocks : List Block) → AllZip (λ block e. AreAnglesOf s (block_weights s block) e) blocks (block_angles s sound blocks)
unfolding block_angles
are_block_angles s sound [] = tt
are_block_angles s sound (block ∷ blocks) = (are_angles s sound (block_weights s block), are_block_angles s sound blocks)

solved : (s : GridState) → IsSound s → KeyedZone → SolvedZone
solved s sound zone = record { zone = zone; blocks = block_angles s sound zone.key.blocks }

same_zones : (s : GridState) (sound : IsSound s) (zones : List KeyedZone) → map (λ z. z.zone) (map (solved s sound) zones) ≡ zones
unfolding solved
same_zones s sound [] = refl
same_zones s sound (zone ∷ zones) = ap (λ zs. zone ∷ zs) (same_zones s sound zones)

all_solved : (s : GridState) (sound : IsSound s) (zones : List KeyedZone) → All (λ z. AreAnglesOfKey s z.zone.key z.blocks) (map (solved s sound) zones)
unfolding solved
all_solved s sound [] = All-nil (λ (z : SolvedZone). AreAnglesOfKey s z.zone.key z.blocks)
all_solved s sound (zone ∷ zones) =
    All-cons (λ (z : SolvedZone). AreAnglesOfKey s z.zone.key z.blocks) (solved s sound zone) (map (solved s sound) zones) (are_block_angles s sound zone.key.blocks) (all_solved s sound zones)

-- ---- of net positions

scale_is : (d : ℕ) → 1 ≤ d → divisor_of (pos d) ≡ pos d
scale_is zero h = absurd (omega arith)
scale_is (suc d) h = refl

some_product : (d q : ℕ) → 1 ≤ d → 0 < q → 1 ≤ d * q
some_product zero q h k = absurd (omega arith)
some_product (suc d) zero h k = absurd (omega arith)
some_product (suc d) (suc q) h k = omega arith

-- angles of q times a balance are angles of the balance, over q times their denominator
narrowed : (s : GridState) (r : ℕ → Fraction) (q : ℕ) (p : List ℤ) (e : ExactAngles) → 0 < q → ((c : ℕ) → c < classes_of s → Same (divided (whole (at p c)) (pos q)) (r c)) → AreAnglesOf s p e
    → AreAnglesFor s r (record { angles = e.angles; scale = e.scale * q })
narrowed s r q p e positive scaled h = record {
  each_class = h.each_class;
  positive = some_product e.scale q h.positive positive;
  fixed = h.fixed;
  balanced = λ i l free. Same_trans
      (record { same = step (laplacian_at s e.angles i) (at p i) (h.balanced i l free) })
      (scaled i l);
}
  where
    plain : (a d k : ℤ) → (d *ℤ a) *ℤ (pos 1 *ℤ k) ≡ a *ℤ (pos 1 *ℤ (d *ℤ k))
    plain a d k = simp ring

    step : (z a : ℤ) → z ≡ pos e.scale *ℤ a → z *ℤ (pos 1 *ℤ divisor_of (pos q)) ≡ a *ℤ (pos 1 *ℤ divisor_of (pos (e.scale * q)))
    step z a same =
        ap (λ v. v *ℤ (pos 1 *ℤ divisor_of (pos q))) same ∙ ap (λ v. (pos e.scale *ℤ a) *ℤ (pos 1 *ℤ v)) (scale_is q positive)
        ∙ plain a (pos e.scale) (pos q) ∙ ap (λ v. a *ℤ (pos 1 *ℤ v)) (sym (scale_is (e.scale * q) (some_product e.scale q h.positive positive)))

-- ---- the law

pub has_choices : (s : GridState) → IsSound s → (grid : Grid) → HasChoices s grid
has_choices s sound grid = record {
  some = λ zones. (
    record { reference = angles_of s sound (base_balance s grid); zones = map (solved s sound) zones },
    record { reference = are_angles s sound (base_balance s grid); same_zones = same_zones s sound zones; blocks = all_solved s sound zones },
  );
  each = λ zones x.
      let times = some_multiple s grid (exchanges_at zones x) in
      let e = angles_of s sound times.balance in (
        record { angles = e.angles; scale = e.scale * times.multiple },
        narrowed s (balance_with s grid (exchanges_at zones x)) times.multiple times.balance e times.scaled.positive times.scaled.scaled (are_angles s sound times.balance),
      );
}
