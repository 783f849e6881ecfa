-- The flow where zones have other net positions, from the flows at the reference and of the blocks.
use Rattle.std.proofs.Common.{◌≡◌, ℕ, zero, suc, ◌≤◌, ◌^◌, Bool, true, false, cond, ℤ, pos, ◌+ℤ◌, ◌-ℤ◌, ◌*ℤ◌, List, [], ◌∷◌, map, get_or, refl, sym, ap, ◌∙◌, arith}
use Rattle.std.specs.Prelude.{All}
use Rattle.std.specs.List.{AllZip, zip}
use Rattle.std.proofs.lemmas.List.Elements.{All-cons, All-nil}
use Rattle.whole_laws.specs.Ring.{ring}
use Rattle.whole_laws.specs.Sums.{at}
use Rattle.fractions.specs.Fractions.{Fraction, Same, whole, plus, times, total}
use Rattle.fractions.specs.FractionLaws.{Same_refl, Same_sym, Same_trans, Same-plus, Same-times, Same-over, over-plus, over-times, times-over}
use Rattle.fractions.specs.TotalLaws.{Same-total}
use Rattle.fb_types.specs.declared.grid.Grid.{Grid}
use Rattle.fb_types.specs.declared.keys.Block.{Block}
use Rattle.grid_state.specs.GridState.{GridState, class_at, carries_at, IsSound}
use Rattle.grid_laplacian.specs.Laws.{laplacian_at}
use Rattle.security.specs.Quotients.{divisor_of, divisor-positive, divided}
use Rattle.security.specs.Balances.{of_class, base_balance, weight_at, block_weights, balance_with}
use Rattle.security.specs.Flows.{ExactAngles, AreAnglesOf, AreAnglesFor, NumberedBranch, flow_of, shifted_by, in_watts, factor_of, AreAnglesOfKey}
use Rattle.exact_flows.specs.AddedFlows.{SolvedExchange, Superposition}
use Rattle.exact_flows.proofs.Listed.{at_classes, class_below}
use Rattle.exact_flows.proofs.Solutions.{Solution, Meets, flow, join, stretch, narrow, joined, Meets-join, Meets-stretch, Meets-narrow, Meets-same, Meets-joined, Meets_unique, flow-join, flow-stretch, flow-narrow, flow_unique, flow-joined}
use Rattle.exact_flows.proofs.Points.{block_part, zone_part, moved, balance_is}

-- ---- angles as solutions

abbrev as_solution : ExactAngles → Solution
as_solution e = record { angle = at e.angles; scale = divisor_of (pos e.scale); positive = divisor-positive (pos e.scale) }

scale_is : (d : ℕ) → 1 ≤ d → divisor_of (pos d) ≡ pos d
scale_is zero h = absurd (omega arith)
scale_is (suc d) h = refl

solution_meets : (s : GridState) (p : List ℤ) (e : ExactAngles) → AreAnglesOf s p e → Meets s (λ i. whole (at p i)) (as_solution e)
solution_meets s p e h = record {
  held = h.fixed;
  balanced = λ i l free. record { same = step (laplacian_at s e.angles i) (pos e.scale) (divisor_of (pos e.scale)) (at p i) (scale_is e.scale h.positive) (h.balanced i l free) };
}
  where
    step : (a d k q : ℤ) → k ≡ d → a ≡ d *ℤ q → a *ℤ pos 1 ≡ q *ℤ (pos 1 *ℤ k)
    step a d k q e h = ap (λ v. v *ℤ pos 1) h ∙ plain d q ∙ ap (λ v. q *ℤ (pos 1 *ℤ v)) (sym e)
      where
        plain : (d q : ℤ) → (d *ℤ q) *ℤ pos 1 ≡ q *ℤ (pos 1 *ℤ d)
        plain d q = simp ring

-- ---- blocks and zones

abbrev block_divisor : Block → ℤ
block_divisor block = pos (10 ^ 8) *ℤ block.total

abbrev block_solution : Block × ExactAngles → Solution
block_solution z = narrow (divisor_of (block_divisor z.0)) (divisor-positive (block_divisor z.0)) (stretch z.0.share (as_solution z.1))

block_meets : (s : GridState) (block : Block) (e : ExactAngles) → AreAnglesOf s (block_weights s block) e → Meets s (λ i. block_part s i block) (block_solution (block, e))
block_meets s block e h =
    Meets-narrow s (divisor_of (block_divisor block)) (divisor-positive (block_divisor block)) (λ i. times block.share (whole (of_class s (weight_at block) i))) (stretch block.share (as_solution e))
    (Meets-stretch s block.share (λ i. whole (of_class s (weight_at block) i)) (as_solution e)
    (Meets-same s (λ i. whole (at (block_weights s block) i)) (λ i. whole (of_class s (weight_at block) i)) (as_solution e)
    (λ i l. record { same = ap (λ v. v *ℤ pos 1) (at_classes s (of_class s (weight_at block)) i l) }) (solution_meets s (block_weights s block) e h)))

abbrev SolvesBlock : GridState → Block → ExactAngles → Type 0
SolvesBlock s block e = AreAnglesOf s (block_weights s block) e

blocks_meet : (s : GridState) (blocks : List Block) (es : List ExactAngles) → AllZip (SolvesBlock s) blocks es → All (λ z. Meets s (λ i. block_part s i z.0) (block_solution z)) (zip blocks es)
blocks_meet s [] es h = All-nil (λ (z : Block × ExactAngles). Meets s (λ i. block_part s i z.0) (block_solution z))
blocks_meet s (b ∷ bs) [] h = absurd h
blocks_meet s (b ∷ bs) (e ∷ es) h = All-cons (λ (z : Block × ExactAngles). Meets s (λ i. block_part s i z.0) (block_solution z)) (b, e) (zip bs es) (block_meets s b e h.0) (blocks_meet s bs es h.1)

zip_total : (s : GridState) (f : Block → Fraction) (blocks : List Block) (es : List ExactAngles) → AllZip (SolvesBlock s) blocks es → total (λ z. f z.0) (zip blocks es) ≡ total f blocks
zip_total s f [] es h = refl
zip_total s f (b ∷ bs) [] h = absurd h
zip_total s f (b ∷ bs) (e ∷ es) h = ap (plus (f b)) (zip_total s f bs es h.1)

same_of : (p q : Fraction) → p ≡ q → Same p q
same_of p q e = record { same = ap (λ v. v.num *ℤ q.den) e ∙ ap (λ v. q.num *ℤ v.den) (sym e) }

abbrev zone_solution : SolvedExchange → Solution
zone_solution z = joined block_solution (zip z.exchange.key.blocks z.blocks)

zone_meets : (s : GridState) (z : SolvedExchange) → AreAnglesOfKey s z.exchange.key z.blocks → Meets s (λ i. zone_part s i z.exchange.key) (zone_solution z)
zone_meets s z h =
    Meets-same s (λ i. total (λ y. block_part s i y.0) (zip z.exchange.key.blocks z.blocks)) (λ i. zone_part s i z.exchange.key) (zone_solution z)
    (λ i l. same_of _ _ (zip_total s (block_part s i) z.exchange.key.blocks z.blocks h))
    (Meets-joined s (λ y i. block_part s i y.0) block_solution (zip z.exchange.key.blocks z.blocks) (blocks_meet s z.exchange.key.blocks z.blocks h))

abbrev difference : SolvedExchange → ℤ
difference z = z.exchange.position -ℤ z.exchange.reference

zones_meet : (s : GridState) (zones : List SolvedExchange) → All (λ z. AreAnglesOfKey s z.exchange.key z.blocks) zones
    → All (λ z. Meets s (λ i. times (difference z) (zone_part s i z.exchange.key)) (stretch (difference z) (zone_solution z))) zones
zones_meet s zones h = λ k d l.
    Meets-stretch s (difference (get_or zones k d)) (λ i. zone_part s i (get_or zones k d).exchange.key) (zone_solution (get_or zones k d)) (zone_meets s (get_or zones k d) (h k d l))

moved_is : (s : GridState) (zones : List SolvedExchange) (i : ℕ) → total (λ z. times (difference z) (zone_part s i z.exchange.key)) zones ≡ moved s (map (λ z. z.exchange) zones) i
moved_is s [] i = refl
moved_is s (z ∷ zs) i = ap (plus (times (difference z) (zone_part s i z.exchange.key))) (moved_is s zs i)

-- ---- the whole

abbrev made : ExactAngles → List SolvedExchange → Solution
made reference zones = join (as_solution reference) (stretch (pos (10 ^ 9)) (joined (λ z. stretch (difference z) (zone_solution z)) zones))

made_meets : (s : GridState) (grid : Grid) (zones : List SolvedExchange) (reference : ExactAngles) → AreAnglesOf s (base_balance s grid) reference → All (λ z. AreAnglesOfKey s z.exchange.key z.blocks) zones
    → Meets s (balance_with s grid (map (λ z. z.exchange) zones)) (made reference zones)
made_meets s grid zones reference h k =
    Meets-same s (λ i. plus (whole (at (base_balance s grid) i)) (times (pos (10 ^ 9)) (total (λ z. times (difference z) (zone_part s i z.exchange.key)) zones))) (balance_with s grid (map (λ z. z.exchange) zones)) (made reference zones)
    (λ i l. Same_trans (Same-plus (Same_refl _) (Same-times (pos (10 ^ 9)) (same_of _ _ (moved_is s zones i)))) (Same_sym (balance_is s grid (map (λ z. z.exchange) zones) i l)))
    (Meets-join s (λ i. whole (at (base_balance s grid) i)) (λ i. times (pos (10 ^ 9)) (total (λ z. times (difference z) (zone_part s i z.exchange.key)) zones)) (as_solution reference) _
    (solution_meets s (base_balance s grid) reference h)
    (Meets-stretch s (pos (10 ^ 9)) (λ i. total (λ z. times (difference z) (zone_part s i z.exchange.key)) zones) (joined (λ z. stretch (difference z) (zone_solution z)) zones)
    (Meets-joined s (λ z i. times (difference z) (zone_part s i z.exchange.key)) (λ z. stretch (difference z) (zone_solution z)) zones (zones_meet s zones k))))

point_meets : (s : GridState) (r : ℕ → Fraction) (point : ExactAngles) → AreAnglesFor s r point → Meets s r (as_solution point)
point_meets s r point h = record { held = h.fixed; balanced = h.balanced }

-- ---- flows

-- the susceptance of a branch that carries, and 0 of one that does not
abbrev carried : GridState → NumberedBranch → ℤ
carried s c = cond (carries_at s c.number) c.branch.b (pos 0)

flow_is : (s : GridState) (c : NumberedBranch) (e : ExactAngles) → Same (flow_of s c e) (flow (carried s c) (class_at s c.branch.from) (class_at s c.branch.to) (as_solution e))
flow_is s c e = by_test (carries_at s c.number) c.branch.b (at e.angles (class_at s c.branch.from) -ℤ at e.angles (class_at s c.branch.to))
  where
    by_test : (t : Bool) (b x : ℤ) → Same (cond t (divided (whole (b *ℤ x)) (pos e.scale)) (whole (pos 0))) (divided (whole (cond t b (pos 0) *ℤ x)) (pos e.scale))
    by_test true b x = Same_refl _
    by_test false b x = record { same = simp ring }

abbrev zone_flow : ℤ → ℕ → ℕ → SolvedExchange → Fraction
zone_flow b i j z = total (λ y. divided (times y.0.share (flow b i j (as_solution y.1))) (block_divisor y.0)) (zip z.exchange.key.blocks z.blocks)

flow_block : (b : ℤ) (i j : ℕ) (y : Block × ExactAngles) → Same (flow b i j (block_solution y)) (divided (times y.0.share (flow b i j (as_solution y.1))) (block_divisor y.0))
flow_block b i j y =
    Same_trans (flow-narrow b i j (divisor_of (block_divisor y.0)) (divisor-positive (block_divisor y.0)) (stretch y.0.share (as_solution y.1)))
    (Same-over (divisor_of (block_divisor y.0)) (divisor-positive (block_divisor y.0)) (flow-stretch b i j y.0.share (as_solution y.1)))

flow_zone : (b : ℤ) (i j : ℕ) (z : SolvedExchange) → Same (flow b i j (zone_solution z)) (zone_flow b i j z)
flow_zone b i j z =
    let ys = zip z.exchange.key.blocks z.blocks in
    Same_trans (flow-joined b i j block_solution ys)
    (Same-total (λ y. flow b i j (block_solution y)) (λ (y : Block × ExactAngles). divided (times y.0.share (flow b i j (as_solution y.1))) (block_divisor y.0)) ys (λ k d l. flow_block b i j (get_or ys k d)))

flow_moved : (b : ℤ) (i j : ℕ) (zones : List SolvedExchange)
    → Same (flow b i j (joined (λ z. stretch (difference z) (zone_solution z)) zones)) (total (λ z. times (difference z) (zone_flow b i j z)) zones)
flow_moved b i j zones =
    Same_trans (flow-joined b i j (λ z. stretch (difference z) (zone_solution z)) zones)
    (Same-total (λ z. flow b i j (stretch (difference z) (zone_solution z))) (λ z. times (difference z) (zone_flow b i j z)) zones (λ k d l. one (get_or zones k d)))
  where
    one : (z : SolvedExchange) → Same (flow b i j (stretch (difference z) (zone_solution z))) (times (difference z) (zone_flow b i j z))
    one z = Same_trans (flow-stretch b i j (difference z) (zone_solution z)) (Same-times (difference z) (flow_zone b i j z))

flow_made : (b : ℤ) (i j : ℕ) (reference : ExactAngles) (zones : List SolvedExchange)
    → Same (flow b i j (made reference zones)) (plus (flow b i j (as_solution reference)) (times (pos (10 ^ 9)) (total (λ z. times (difference z) (zone_flow b i j z)) zones)))
flow_made b i j reference zones =
    Same_trans (flow-join b i j (as_solution reference) (stretch (pos (10 ^ 9)) (joined (λ z. stretch (difference z) (zone_solution z)) zones)))
    (Same-plus (Same_refl _)
    (Same_trans (flow-stretch b i j (pos (10 ^ 9)) (joined (λ z. stretch (difference z) (zone_solution z)) zones)) (Same-times (pos (10 ^ 9)) (flow_moved b i j zones))))

-- the exact factor is the flow of the zone's blocks
factor_is : (s : GridState) (c : NumberedBranch) (z : SolvedExchange)
    → Same (zone_flow (carried s c) (class_at s c.branch.from) (class_at s c.branch.to) z) (factor_of s c z.exchange.key z.blocks)
factor_is s c z =
    let ys = zip z.exchange.key.blocks z.blocks in
    Same-total _ (λ (y : Block × ExactAngles). divided (times y.0.share (flow_of s c y.1)) (block_divisor y.0)) ys (λ k d l. one (get_or ys k d))
  where
    one : (y : Block × ExactAngles) → Same (divided (times y.0.share (flow (carried s c) (class_at s c.branch.from) (class_at s c.branch.to) (as_solution y.1))) (block_divisor y.0)) (divided (times y.0.share (flow_of s c y.1)) (block_divisor y.0))
    one y = Same-over (divisor_of (block_divisor y.0)) (divisor-positive (block_divisor y.0)) (Same-times y.0.share (Same_sym (flow_is s c y.1)))

-- (a + t) + w is (a + w) + t
swapped : (a t w : Fraction) → Same (plus (plus a t) w) (plus (plus a w) t)
swapped a t w = record { same = step a.num a.den t.num t.den w.num w.den }
  where
    step : (x d y e z f : ℤ) → ((x *ℤ e +ℤ y *ℤ d) *ℤ f +ℤ z *ℤ (d *ℤ e)) *ℤ ((d *ℤ f) *ℤ e) ≡ ((x *ℤ f +ℤ z *ℤ d) *ℤ e +ℤ y *ℤ (d *ℤ f)) *ℤ ((d *ℤ e) *ℤ f)
    step x d y e z f = simp ring

giga_watts : (t : Fraction) → Same (in_watts (times (pos (10 ^ 9)) t)) t
giga_watts t = Same_trans (over-times (pos (10 ^ 9)) t (divisor_of (pos (10 ^ 9))) (divisor-positive (pos (10 ^ 9)))) (times-over t (pos (10 ^ 9)) (divisor-positive (pos (10 ^ 9))))

pub superposition : (s : GridState) → IsSound s → (grid : Grid) → Superposition s grid
superposition s sound grid c zones reference point ref_ok zones_ok point_ok =
    let b = carried s c in
    let i = class_at s c.branch.from in
    let j = class_at s c.branch.to in
    let r = balance_with s grid (map (λ z. z.exchange) zones) in
    let one = point_meets s r point point_ok in
    let other = made_meets s grid zones reference ref_ok zones_ok in
    let unique = Meets_unique s sound r (as_solution point) (made reference zones) one other in
    let at_point : Same (flow_of s c point) (plus (flow b i j (as_solution reference)) (times (pos (10 ^ 9)) (total (λ z. times (difference z) (zone_flow b i j z)) zones))) =
    Same_trans (flow_is s c point)
    (Same_trans (flow_unique b i j (as_solution point) (made reference zones) (unique i (class_below s sound c.branch.from)) (unique j (class_below s sound c.branch.to)))
    (flow_made b i j reference zones)) in
    let moved_flow = total (λ z. times (difference z) (zone_flow b i j z)) zones in
    let shifted = whole (shifted_by s c) in
    let giga = divisor_of (pos (10 ^ 9)) in
    let giga_positive = divisor-positive (pos (10 ^ 9)) in
    Same_trans (Same-over giga giga_positive (Same_trans (Same-plus at_point (Same_refl shifted)) (swapped (flow b i j (as_solution reference)) (times (pos (10 ^ 9)) moved_flow) shifted)))
    (Same_trans (over-plus (plus (flow b i j (as_solution reference)) shifted) (times (pos (10 ^ 9)) moved_flow) giga giga_positive)
    (Same-plus (Same-over giga giga_positive (Same-plus (Same_sym (flow_is s c reference)) (Same_refl shifted)))
    (Same_trans (giga_watts moved_flow)
    (Same-total (λ z. times (difference z) (zone_flow b i j z)) (λ z. times (difference z) (factor_of s c z.exchange.key z.blocks)) zones
    (λ m d l. Same-times (difference (get_or zones m d)) (factor_is s c (get_or zones m d)))))))
