-- The span of a reference flow holds the exact one, which is within the range of ±3·10^24 picowatts.
use Rattle.std.proofs.Common.{◌≡◌, ◌+◌, ◌^◌, ◌≤◌, Bool, true, false, cond, List, ℤ, pos, ◌+ℤ◌, ◌*ℤ◌, neg_ℤ, ◌≤ℤ◌, ◌<ℤ◌, refl, sym, ap, ap₂, subst, ◌∙◌, arith, nat_abs, true≢false}
use Rattle.std.specs.Int.Signed.{≤ℤ_refl}
use Rattle.std.proofs.lemmas.Int.{ints}
use Rattle.std.proofs.lemmas.Bool.{cond-true}
use Rattle.whole_laws.specs.Ring.{ring, linear, scale-≤}
use Rattle.whole_laws.specs.Quotients.{floor_of, ceil_of}
use Rattle.fractions.specs.Fractions.{Fraction, Same, whole, plus, times, over}
use Rattle.fractions.specs.Spans.{Lies, LiesAt}
use Rattle.fractions.specs.SpanLaws.{Lies-Same, Lies_wider, Lies_ordered, Lies-whole, Lies-plus, Lies-over, Lies-meet}
use Rattle.fb_types.specs.declared.grid.Grid.{Grid}
use Rattle.fb_types.specs.declared.rows.Angles.{Angles}
use Rattle.grid_state.specs.GridState.{GridState, carries_at, IsSound}
use Rattle.grid_laplacian.specs.Sizes.{supply_of}
use Rattle.grid_laplacian.specs.Ranges.{IsOfGrid, IsInRange, exchanges_of, shifts_of}
use Rattle.grid_laplacian.specs.Enclosures.{IsBarrier, EnclosesColumn}
use Rattle.security.specs.Balances.{base_balance, reference_side}
use Rattle.security.specs.Flows.{ExactAngles, AreAnglesOf, NumberedBranch, flow_of, in_watts, reference_flow_of}
use Rattle.branch_spans.specs.FlowSpans.{flow_span_of, IsBranchOf}
use Rattle.branch_spans.proofs.Held.{flow_held}
use Rattle.zonal_factors.proofs.Scaled.{multiple, solves_times, flow_times, flow_cut}
use Rattle.zonal_factors.proofs.Held.{some_angles}
use Rattle.reference_flows.specs.WithoutExchanges.{trillion}
use Rattle.reference_flows.specs.ReferenceSpans.{greatest_flow, shift_part, carried_span_of}
use Rattle.reference_flows.proofs.Supplies.{product_size, base_size, shift_at_most}

-- a tenth of 10^4 times nanowatts is picowatts
in_picowatts : (f : Fraction) (x : ℤ) (h : pos 0 <ℤ pos 10) → Same (over (plus (times (pos (10 ^ 4)) f) (whole (x *ℤ pos 10000))) (pos 10) h) (times trillion (in_watts (plus f (whole x))))
in_picowatts f x h = record { same = step (pos 10000) trillion (pos 10) (pos 1000000000) f.num f.den refl }
  where
    step : (a b t g n d : ℤ) → a *ℤ g ≡ b *ℤ t → ((a *ℤ n) *ℤ pos 1 +ℤ (x *ℤ a) *ℤ d) *ℤ ((d *ℤ pos 1) *ℤ g) ≡ (b *ℤ (n *ℤ pos 1 +ℤ x *ℤ d)) *ℤ ((d *ℤ pos 1) *ℤ t)
    step a b t g n d e =
        let left : ((a *ℤ n) *ℤ pos 1 +ℤ (x *ℤ a) *ℤ d) *ℤ ((d *ℤ pos 1) *ℤ g) ≡ (a *ℤ g) *ℤ ((n +ℤ x *ℤ d) *ℤ d) = simp ring in
        let right : (b *ℤ (n *ℤ pos 1 +ℤ x *ℤ d)) *ℤ ((d *ℤ pos 1) *ℤ t) ≡ (b *ℤ t) *ℤ ((n +ℤ x *ℤ d) *ℤ d) = simp ring in
        left ∙ ap (λ z. z *ℤ ((n +ℤ x *ℤ d) *ℤ d)) e ∙ sym right

-- the reference flow of a branch that carries
abbrev carried_flow : GridState → NumberedBranch → ExactAngles → Fraction
carried_flow s c e = in_watts (plus (flow_of s c e) (whole (c.branch.b *ℤ c.branch.phi)))

carried_is : (s : GridState) (c : NumberedBranch) (e : ExactAngles) → carries_at s c.number ≡ true → reference_flow_of s c e ≡ carried_flow s c e
carried_is s c e carries = ap (λ x. in_watts (plus (flow_of s c e) (whole x))) (cond-true {A = ℤ} (carries_at s c.number) (c.branch.b *ℤ c.branch.phi) (pos 0) carries)

tens_held : (grid : Grid) (s : GridState) (c : NumberedBranch) → IsSound s → IsOfGrid grid s → IsBranchOf grid c → carries_at s c.number ≡ true
    → (v : List ℤ) (angles : Angles) → IsBarrier s v → EnclosesColumn s (reference_side s grid) angles → (e : ExactAngles) → AreAnglesOf s (base_balance s grid) e
    → LiesAt trillion (floor_of ((flow_span_of s c.branch v angles).0 +ℤ shift_part c.branch) (pos 10), ceil_of ((flow_span_of s c.branch v angles).1 +ℤ shift_part c.branch) (pos 10)) (carried_flow s c e)
tens_held grid s c sound of stands carries v angles barrier encloses e solves =
    let held = flow_held grid s c sound of stands carries v angles barrier (reference_side s grid) encloses (multiple (pos (10 ^ 4)) e) (solves_times s (pos (10 ^ 4)) (base_balance s grid) e solves) in
    let x = shift_part c.branch in
    let ten : pos 0 <ℤ pos 10 = record { lt = tt } in
    Lies-Same (in_picowatts (flow_of s c e) (c.branch.b *ℤ c.branch.phi) ten)
    (Lies-over _ _ (pos 10) ten (Lies-plus _ _ x x (Lies-Same (flow_times s c (pos (10 ^ 4)) e) held) (Lies-whole x x x (≤ℤ_refl x) (≤ℤ_refl x))))

-- ---- the range

abbrev greatest_nanowatts : ℤ
greatest_nanowatts = pos 3000000000000000000000

watts_lie : (f : Fraction) → Lies f (neg_ℤ greatest_nanowatts) greatest_nanowatts → LiesAt trillion (neg_ℤ greatest_flow, greatest_flow) (in_watts f)
watts_lie f h = record {
  above = record { at_most = low greatest_flow (pos 1000000000) trillion greatest_nanowatts f.num f.den refl (record { le = tt }) h.above.at_most };
  below = record { at_most = high greatest_flow (pos 1000000000) trillion greatest_nanowatts f.num f.den refl (record { le = tt }) h.below.at_most };
}
  where
    low : (g t k m n d : ℤ) → g *ℤ t ≡ k *ℤ m → pos 0 ≤ℤ k → (neg_ℤ m *ℤ d) ≤ℤ (n *ℤ pos 1) → (neg_ℤ g *ℤ (d *ℤ t)) ≤ℤ ((k *ℤ n) *ℤ pos 1)
    low g t k m n d e some le =
        let s = scale-≤ k (neg_ℤ m *ℤ d) (n *ℤ pos 1) some le in
        let left : neg_ℤ g *ℤ (d *ℤ t) ≡ neg_ℤ (g *ℤ t) *ℤ d = simp ring in
        let right : neg_ℤ (k *ℤ m) *ℤ d ≡ k *ℤ (neg_ℤ m *ℤ d) = simp ring in
        let same = left ∙ ap (λ z. neg_ℤ z *ℤ d) e ∙ right in
        let one : k *ℤ (n *ℤ pos 1) ≡ (k *ℤ n) *ℤ pos 1 = simp ring in
        omega (arith, linear, s, same, one)

    high : (g t k m n d : ℤ) → g *ℤ t ≡ k *ℤ m → pos 0 ≤ℤ k → (n *ℤ pos 1) ≤ℤ (m *ℤ d) → ((k *ℤ n) *ℤ pos 1) ≤ℤ (g *ℤ (d *ℤ t))
    high g t k m n d e some le =
        let s = scale-≤ k (n *ℤ pos 1) (m *ℤ d) some le in
        let left : g *ℤ (d *ℤ t) ≡ (g *ℤ t) *ℤ d = simp ring in
        let right : (k *ℤ m) *ℤ d ≡ k *ℤ (m *ℤ d) = simp ring in
        let same = left ∙ ap (λ z. z *ℤ d) e ∙ right in
        let one : k *ℤ (n *ℤ pos 1) ≡ (k *ℤ n) *ℤ pos 1 = simp ring in
        omega (arith, linear, s, same, one)

range_held : (grid : Grid) (s : GridState) (c : NumberedBranch) → IsSound s → IsOfGrid grid s → IsInRange grid s → IsBranchOf grid c → carries_at s c.number ≡ true
    → (e : ExactAngles) → AreAnglesOf s (base_balance s grid) e → LiesAt trillion (neg_ℤ greatest_flow, greatest_flow) (carried_flow s c e)
range_held grid s c sound of range stands carries e solves =
    let x = c.branch.b *ℤ c.branch.phi in
    let supply = supply_of s (base_balance s grid) in
    let base = base_size s grid of.of_grid.classes.each_place in
    let own = product_size c.branch.b c.branch.phi in
    let from_zero : 0 + c.number ≡ c.number = omega arith in
    let one = shift_at_most s grid.branches 0 c.number c.branch stands.stands (ap (carries_at s) from_zero ∙ carries) in
    let all = range.balance in
    let exchanges = exchanges_of grid in
    let shifts = shifts_of s grid in
    let small : (supply + nat_abs (c.branch.b *ℤ c.branch.phi)) ≤ 3000000000000000000000 = omega (arith, ints, base, own, one, all) in
    watts_lie (plus (flow_of s c e) (whole x))
    (Lies_wider _ _ _ _ (omega (arith, ints, small)) (omega (arith, ints, small))
    (Lies-plus (neg_ℤ (pos supply)) (pos supply) x x (flow_cut grid s c sound of stands carries (base_balance s grid) e solves) (Lies-whole x x x (≤ℤ_refl x) (≤ℤ_refl x))))

-- ---- both

carried_held : (grid : Grid) (s : GridState) (c : NumberedBranch) → IsSound s → IsOfGrid grid s → IsInRange grid s → IsBranchOf grid c → carries_at s c.number ≡ true
    → (v : List ℤ) (angles : Angles) → IsBarrier s v → EnclosesColumn s (reference_side s grid) angles → (e : ExactAngles) → AreAnglesOf s (base_balance s grid) e
    → LiesAt trillion (carried_span_of s c v angles) (carried_flow s c e)
carried_held grid s c sound of range stands carries v angles barrier encloses e solves =
    Lies-meet _ _ _ _ (tens_held grid s c sound of stands carries v angles barrier encloses e solves) (range_held grid s c sound of range stands carries e solves)

pub reference_held : (grid : Grid) (s : GridState) (c : NumberedBranch) → IsSound s → IsOfGrid grid s → IsInRange grid s → IsBranchOf grid c → carries_at s c.number ≡ true
    → (v : List ℤ) (angles : Angles) → IsBarrier s v → EnclosesColumn s (reference_side s grid) angles → (e : ExactAngles) → AreAnglesOf s (base_balance s grid) e
    → LiesAt trillion (carried_span_of s c v angles) (reference_flow_of s c e)
reference_held grid s c sound of range stands carries v angles barrier encloses e solves =
    subst (LiesAt trillion (carried_span_of s c v angles)) (sym (carried_is s c e carries)) (carried_held grid s c sound of range stands carries v angles barrier encloses e solves)

-- the two spans have a common part
pub carried_ordered : (grid : Grid) (s : GridState) (c : NumberedBranch) → IsSound s → IsOfGrid grid s → IsInRange grid s → IsBranchOf grid c → carries_at s c.number ≡ true
    → (v : List ℤ) (angles : Angles) → IsBarrier s v → EnclosesColumn s (reference_side s grid) angles → (carried_span_of s c v angles).0 ≤ℤ (carried_span_of s c v angles).1
carried_ordered grid s c sound of range stands carries v angles barrier encloses =
    let x = some_angles s sound (base_balance s grid) in
    Lies_ordered _ _ (carried_held grid s c sound of range stands carries v angles barrier encloses x.0 x.1)

-- a branch that does not carry
pub still_held : (s : GridState) (c : NumberedBranch) (e : ExactAngles) → carries_at s c.number ≡ false → LiesAt trillion (pos 0, pos 0) (reference_flow_of s c e)
still_held s c e still = by_test (carries_at s c.number) still _ (c.branch.b *ℤ c.branch.phi)
  where
    by_test : (t : Bool) → t ≡ false → (f : Fraction) (x : ℤ) → LiesAt trillion (pos 0, pos 0) (in_watts (plus (cond t f (whole (pos 0))) (whole (cond t x (pos 0)))))
    by_test true e f x = absurd (true≢false e)
    by_test false e f x = record { above = record { at_most = omega (arith, linear) }; below = record { at_most = omega (arith, linear) } }

-- what the code computes
pub tenths_are : (flow g shifted q : ℤ × ℤ) (x y : ℤ) → flow ≡ g → x ≡ y → shifted ≡ (flow.0 +ℤ x, flow.1 +ℤ x) → q.0 ≡ floor_of shifted.0 (pos 10) → q.1 ≡ ceil_of shifted.1 (pos 10) → q ≡ (floor_of (g.0 +ℤ y) (pos 10), ceil_of (g.1 +ℤ y) (pos 10))
tenths_are flow g shifted q x y e h k a b =
    let moved : shifted ≡ (g.0 +ℤ y, g.1 +ℤ y) = k ∙ ap₂ (λ (u : ℤ × ℤ) (z : ℤ). (u.0 +ℤ z, u.1 +ℤ z)) e h in
    ap₂ (λ u w. (u, w)) (a ∙ ap (λ (u : ℤ × ℤ). floor_of u.0 (pos 10)) moved) (b ∙ ap (λ (u : ℤ × ℤ). ceil_of u.1 (pos 10)) moved)
