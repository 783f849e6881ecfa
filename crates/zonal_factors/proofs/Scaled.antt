-- The exact angles of a block's weights, scaled to its right side, and how large their flows are.
use Rattle.std.proofs.Common.{◌≡◌, ◌≢◌, ℕ, zero, suc, ◌*◌, ◌≤◌, ◌⊎◌, inl, inr, Bool, true, false, cond, List, [], ◌∷◌, map, ℤ, pos, ◌+ℤ◌, ◌-ℤ◌, ◌*ℤ◌, neg_ℤ, refl, sym, ap, ap₂, subst, ◌∙◌, arith, nat_abs}
use Rattle.std.specs.Prelude.{unsigned_abs}
use Rattle.std.proofs.lemmas.Bool.{cases_eq, cond-true}
use Rattle.std.proofs.lemmas.Int.{ints}
use Rattle.std.proofs.lemmas.List.{length-map}
use Rattle.whole_laws.specs.Ring.{ring, linear}
use Rattle.whole_laws.specs.Sums.{at}
use Rattle.fractions.specs.Fractions.{Fraction, Same, whole, times}
use Rattle.fractions.specs.Spans.{Lies}
use Rattle.fb_types.specs.declared.grid.Grid.{Grid}
use Rattle.grid_state.specs.declared.types.Edge.{Edge}
use Rattle.grid_state.specs.GridState.{GridState, class_at, carries_at, row_of, IsSound}
use Rattle.grid_laplacian.specs.Laws.{drop_over}
use Rattle.grid_laplacian.specs.Sizes.{supply_of}
use Rattle.grid_laplacian.specs.Ranges.{IsOfGrid}
use Rattle.grid_laplacian.proofs.LawProofs.{cut_holds}
use Rattle.security.specs.Quotients.{divisor_of, divided}
use Rattle.security.specs.Flows.{ExactAngles, AreAnglesOf, NumberedBranch, flow_of}
use Rattle.exact_flows.proofs.Listed.{class_below}
use Rattle.branch_spans.specs.FlowSpans.{IsBranchOf}
use Rattle.branch_spans.proofs.Branches.{in_range, in_row}

-- ---- a multiple of angles

pub at_times : (k : ℤ) (xs : List ℤ) (i : ℕ) → at (map (λ z. k *ℤ z) xs) i ≡ k *ℤ at xs i
at_times k [] i = sym (zero_of k)
  where
    zero_of : (k : ℤ) → k *ℤ pos 0 ≡ pos 0
    zero_of k = simp ring
at_times k (x ∷ xs) zero = refl
at_times k (x ∷ xs) (suc i) = at_times k xs i

drop_times : (k : ℤ) (es : List Edge) (f g : ℕ → ℤ) (x y : ℤ) → ((i : ℕ) → f i ≡ k *ℤ g i) → x ≡ k *ℤ y → drop_over es f x ≡ k *ℤ drop_over es g y
drop_times k [] f g x y same e = simp ring
drop_times k (d ∷ ds) f g x y same e =
    ap₂ (λ u v. pos d.b *ℤ (u -ℤ v) +ℤ drop_over ds f x) e (same d.to) ∙ ap (λ v. pos d.b *ℤ (k *ℤ y -ℤ k *ℤ g d.to) +ℤ v) (drop_times k ds f g x y same e) ∙ step (pos d.b) y (g d.to) (drop_over ds g y)
  where
    step : (b y z r : ℤ) → b *ℤ (k *ℤ y -ℤ k *ℤ z) +ℤ k *ℤ r ≡ k *ℤ (b *ℤ (y -ℤ z) +ℤ r)
    step b y z r = simp ring (omega (arith, linear))

abbrev pub multiple : ℤ → ExactAngles → ExactAngles
multiple k e = record { angles = map (λ z. k *ℤ z) e.angles; scale = e.scale }

pub solves_times : (s : GridState) (k : ℤ) (p : List ℤ) (e : ExactAngles) → AreAnglesOf s p e → AreAnglesOf s (map (λ z. k *ℤ z) p) (multiple k e)
solves_times s k p e h = record {
  each_class = length-map e.angles (λ z. k *ℤ z) ∙ h.each_class;
  positive = h.positive;
  fixed = λ i l free. at_times k e.angles i ∙ ap (λ z. k *ℤ z) (h.fixed i l free) ∙ none k;
  balanced = λ i l free.
      drop_times k (row_of s i) (at (map (λ z. k *ℤ z) e.angles)) (at e.angles) _ (at e.angles i) (at_times k e.angles) (at_times k e.angles i)
      ∙ ap (λ z. k *ℤ z) (h.balanced i l free) ∙ swap k (pos e.scale) (at p i) ∙ ap (λ z. pos e.scale *ℤ z) (sym (at_times k p i));
}
  where
    none : (k : ℤ) → k *ℤ pos 0 ≡ pos 0
    none k = simp ring

    swap : (a b c : ℤ) → a *ℤ (b *ℤ c) ≡ b *ℤ (a *ℤ c)
    swap a b c = simp ring

pub flow_times : (s : GridState) (c : NumberedBranch) (k : ℤ) (e : ExactAngles) → Same (flow_of s c (multiple k e)) (times k (flow_of s c e))
flow_times s c k e =
    by_test (carries_at s c.number) c.branch.b (at (map (λ z. k *ℤ z) e.angles) (class_at s c.branch.from)) (at (map (λ z. k *ℤ z) e.angles) (class_at s c.branch.to)) (at e.angles (class_at s c.branch.from)) (at e.angles (class_at s c.branch.to))
    (at_times k e.angles (class_at s c.branch.from)) (at_times k e.angles (class_at s c.branch.to))
  where
    step : (b x y d : ℤ) → (b *ℤ (k *ℤ x -ℤ k *ℤ y)) *ℤ (pos 1 *ℤ d) ≡ (k *ℤ (b *ℤ (x -ℤ y))) *ℤ (pos 1 *ℤ d)
    step b x y d = simp ring (omega (arith, linear))

    by_test : (t : Bool) (b u v x y : ℤ) → u ≡ k *ℤ x → v ≡ k *ℤ y → Same (cond t (divided (whole (b *ℤ (u -ℤ v))) (pos e.scale)) (whole (pos 0))) (times k (cond t (divided (whole (b *ℤ (x -ℤ y))) (pos e.scale)) (whole (pos 0))))
    by_test true b u v x y p q = record { same = ap₂ (λ m n. (b *ℤ (m -ℤ n)) *ℤ (pos 1 *ℤ divisor_of (pos e.scale))) p q ∙ step b x y (divisor_of (pos e.scale)) }
    by_test false b u v x y p q = record { same = simp ring }

-- ---- how large a flow is

scale_is : (d : ℕ) → 1 ≤ d → divisor_of (pos d) ≡ pos d
scale_is zero h = absurd (omega arith)
scale_is (suc d) h = refl

ratio_lies : (z : ℤ) (d m : ℕ) → 1 ≤ d → nat_abs z ≤ d * m → Lies (divided (whole z) (pos d)) (neg_ℤ (pos m)) (pos m)
ratio_lies z d m some h =
    let e = scale_is d some in
    let p : pos m *ℤ (pos 1 *ℤ pos d) ≡ pos (d * m) = product d m in
    let n : neg_ℤ (pos m) *ℤ (pos 1 *ℤ pos d) ≡ neg_ℤ (pos (d * m)) = opposite d m in
    let u : z *ℤ pos 1 ≡ z = simp ring in
    record { above = record { at_most = rw e (omega (arith, ints, h, n, u)) }; below = record { at_most = rw e (omega (arith, ints, h, p, u)) } }
  where
    product : (d m : ℕ) → pos m *ℤ (pos 1 *ℤ pos d) ≡ pos (d * m)
    product d m = let c : pos m *ℤ (pos 1 *ℤ pos d) ≡ pos d *ℤ pos m = simp ring in c

    opposite : (d m : ℕ) → neg_ℤ (pos m) *ℤ (pos 1 *ℤ pos d) ≡ neg_ℤ (pos (d * m))
    opposite d m = let c : neg_ℤ (pos m) *ℤ (pos 1 *ℤ pos d) ≡ neg_ℤ (pos d *ℤ pos m) = simp ring in c

-- the exact flow is at most what is fed in at the live classes but the slack's
pub flow_cut : (grid : Grid) (s : GridState) (c : NumberedBranch) → IsSound s → IsOfGrid grid s → IsBranchOf grid c → carries_at s c.number ≡ true
    → (p : List ℤ) (e : ExactAngles) → AreAnglesOf s p e → Lies (flow_of s c e) (neg_ℤ (pos (supply_of s p))) (pos (supply_of s p))
flow_cut grid s c sound of stands carries p e h =
    subst (λ (f : Fraction). Lies f (neg_ℤ (pos (supply_of s p))) (pos (supply_of s p)))
    (sym (cond-true {A = Fraction} (carries_at s c.number) (divided (whole (c.branch.b *ℤ (at e.angles i -ℤ at e.angles j))) (pos e.scale)) (whole (pos 0)) carries))
    (ratio_lies (c.branch.b *ℤ (at e.angles i -ℤ at e.angles j)) e.scale (supply_of s p) h.positive (by_class (cases_eq i j)))
  where
    i : ℕ
    i = class_at s c.branch.from

    j : ℕ
    j = class_at s c.branch.to

    by_class : (class_at s c.branch.from ≡ class_at s c.branch.to) ⊎ (class_at s c.branch.from ≢ class_at s c.branch.to) → nat_abs (c.branch.b *ℤ (at e.angles (class_at s c.branch.from) -ℤ at e.angles (class_at s c.branch.to))) ≤ e.scale * supply_of s p
    by_class (inl same) =
        let z : c.branch.b *ℤ (at e.angles (class_at s c.branch.from) -ℤ at e.angles (class_at s c.branch.to)) ≡ pos 0 =
        ap (λ k. c.branch.b *ℤ (at e.angles (class_at s c.branch.from) -ℤ at e.angles k)) (sym same) ∙ none c.branch.b (at e.angles (class_at s c.branch.from)) in
        let zero_abs : nat_abs (c.branch.b *ℤ (at e.angles (class_at s c.branch.from) -ℤ at e.angles (class_at s c.branch.to))) ≡ 0 = ap nat_abs z in
        omega arith
      where
        none : (b x : ℤ) → b *ℤ (x -ℤ x) ≡ pos 0
        none b x = simp ring (omega (arith, linear))
    by_class (inr apart) =
        let range = in_range grid s c of stands carries in
        let some = range.some in
        let same : pos (unsigned_abs c.branch.b) ≡ c.branch.b = omega (arith, ints, some) in
        let cut = in_row grid s c sound of stands carries apart (λ d. unsigned_abs (pos d.b *ℤ (at e.angles (class_at s c.branch.from) -ℤ at e.angles d.to)) ≤ e.scale * supply_of s p)
        (cut_holds s sound p e.angles e.scale h (class_at s c.branch.from) (class_below s sound c.branch.from)) in
        subst (λ (b : ℤ). nat_abs (b *ℤ (at e.angles (class_at s c.branch.from) -ℤ at e.angles (class_at s c.branch.to))) ≤ e.scale * supply_of s p) same cut
