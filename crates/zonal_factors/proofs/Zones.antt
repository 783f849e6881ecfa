-- The span of a zone, block by block, and that it holds the exact factor.
use Rattle.std.proofs.Common.{◌≡◌, ℕ, zero, suc, ◌+◌, ◌<◌, ◌≤◌, Bool, true, false, cond, List, [], ◌∷◌, length, take, drop, get_or, All, ℤ, pos, negsuc, ◌+ℤ◌, ◌-ℤ◌, ◌*ℤ◌, ◌≤ℤ◌, ◌<ℤ◌, refl, sym, ap, ◌∙◌, arith, true≢false, length-take, length-drop}
use Rattle.std.specs.Prelude.{◌==◌}
use Rattle.std.specs.List.{AllZip, zip}
use Rattle.std.proofs.lemmas.Bool.{ne_eqb}
use Rattle.std.proofs.lemmas.Int.{ints}
use Rattle.std.proofs.lemmas.List.Elements.{All-head, All-tail, All-cons, All-nil}
use Rattle.whole_laws.specs.Ring.{ring, linear}
use Rattle.whole_laws.specs.Quotients.{floor_of, ceil_of}
use Rattle.whole_laws.specs.QuotientLaws.{floor-low, floor-gap, ceil-high, ceil-gap}
use Rattle.whole_laws.specs.Sums.{IsWithin, sum_over, at}
use Rattle.fractions.specs.Fractions.{Fraction, Same, whole, times, total}
use Rattle.fractions.specs.FractionLaws.{Same_refl, Same_sym, Same_trans, Same-times}
use Rattle.fractions.specs.TotalLaws.{Same-total, total-times, total-over, total-zero}
use Rattle.fractions.specs.Spans.{Lies, LiesAt}
use Rattle.fractions.specs.SpanLaws.{Lies-Same, Lies-whole, Lies-plus, Lies-times, Lies-over}
use Rattle.fb_span.specs.Ends.{EndsWithin}
use Rattle.fb_types.specs.declared.grid.Grid.{Grid}
use Rattle.fb_types.specs.declared.keys.Block.{Block}
use Rattle.fb_types.specs.declared.keys.Column.{Column}
use Rattle.fb_types.specs.declared.rows.Angles.{Angles}
use Rattle.grid_state.specs.GridState.{GridState, class_at, carries_at, IsSound}
use Rattle.grid_laplacian.specs.Ranges.{IsOfGrid}
use Rattle.grid_laplacian.specs.Enclosures.{IsBarrier, EnclosesColumn}
use Rattle.security.specs.Quotients.{divisor_of, divisor-positive, divided}
use Rattle.security.specs.Balances.{block_weights, block_side}
use Rattle.security.specs.Flows.{ExactAngles, AreAnglesOf, NumberedBranch, flow_of, factor_of, AreAnglesOfKey}
use Rattle.branch_spans.specs.FlowSpans.{IsBranchOf}
use Rattle.zonal_factors.specs.FactorSpans.{trillion, share_span_of, zone_span_of, IsBlock, EnclosesKey}
use Rattle.zonal_factors.proofs.Held.{part_of, block_held}

-- ---- lists side by side

pub zip_get : {X Y : Type 0} (R : X → Y → Type 0) (xs : List X) (ys : List Y) (i : ℕ) (d : X) (e : Y) → AllZip R xs ys → i < length xs → R (get_or xs i d) (get_or ys i e)
zip_get R [] ys i d e h l = absurd (omega arith)
zip_get R (x ∷ xs) [] i d e h l = absurd h
zip_get R (x ∷ xs) (y ∷ ys) zero d e h l = h.0
zip_get R (x ∷ xs) (y ∷ ys) (suc i) d e h l = zip_get R xs ys i d e h.1 (omega arith)

pub zip_length : {X Y : Type 0} (R : X → Y → Type 0) (xs : List X) (ys : List Y) → AllZip R xs ys → length xs ≡ length ys
zip_length R [] [] h = refl
zip_length R [] (y ∷ ys) h = absurd h
zip_length R (x ∷ xs) [] h = absurd h
zip_length R (x ∷ xs) (y ∷ ys) h = ap suc (zip_length R xs ys h.1)

-- ---- a sum over 10^8

quotient_within : (q z : ℤ) → (q *ℤ pos 100_000_000) <ℤ (z +ℤ pos 100_000_000) → (z -ℤ pos 100_000_000) <ℤ (q *ℤ pos 100_000_000) → IsWithin 100_000_000_000_000_000_000 z → IsWithin 1_000_000_000_000 q
quotient_within (pos n) z l g h = record { low = omega (arith, linear); high = omega (arith, linear, l, g, h.low, h.high) }
quotient_within (negsuc n) z l g h = record { low = omega (arith, linear, l, g, h.low, h.high); high = omega (arith, linear) }

pub zone_within : (x y : ℤ) → IsWithin 100_000_000_000_000_000_000 x → IsWithin 100_000_000_000_000_000_000 y → EndsWithin 1_000_000_000_000 (floor_of x (pos 100_000_000), ceil_of y (pos 100_000_000))
zone_within x y h k =
    let a = floor-low x (pos 100_000_000) (record { lt = tt }) in
    let b = floor-gap x (pos 100_000_000) (record { lt = tt }) in
    let c = ceil-high y (pos 100_000_000) (record { lt = tt }) in
    let d = ceil-gap y (pos 100_000_000) (record { lt = tt }) in
    record {
      low = quotient_within (floor_of x (pos 100_000_000)) x (omega (arith, linear, a)) (omega (arith, linear, b)) h;
      high = quotient_within (ceil_of y (pos 100_000_000)) y (omega (arith, linear, d)) (omega (arith, linear, c)) k;
    }

-- ---- the exact factor

total_is : (w : ℤ) → pos 1 ≤ℤ w → divisor_of w ≡ w
total_is (pos zero) h = absurd (omega (arith, ints))
total_is (pos (suc n)) h = refl
total_is (negsuc n) h = absurd (omega (arith, ints))

-- 10^12 times share/10^8·F/W is share times 10^12·(F/W), over 10^8
one_block : (f : Fraction) (share w : ℤ) → pos 1 ≤ℤ w
    → Same (times trillion (divided (times share f) (pos 100_000_000 *ℤ w))) (divided (times share (times trillion (divided f w))) (pos 100_000_000))
one_block f share w some =
    record { same = rw (total_is w some, total_is (pos 100_000_000 *ℤ w) (omega (arith, ints, some))) (step trillion (pos 100_000_000) f.num f.den) }
  where
    step : (t e n d : ℤ) → (t *ℤ (share *ℤ n)) *ℤ ((d *ℤ w) *ℤ e) ≡ (share *ℤ (t *ℤ n)) *ℤ (d *ℤ (e *ℤ w))
    step t e n d = simp ring

abbrev IsSolved : GridState → Block → ExactAngles → Type 0
IsSolved s block e = AreAnglesOf s (block_weights s block) e

parts_lie : (grid : Grid) (s : GridState) (c : NumberedBranch) → IsSound s → IsOfGrid grid s → IsBranchOf grid c → carries_at s c.number ≡ true
    → (v : List ℤ) → IsBarrier s v → (bs : List Block) (as' : List Angles) (es : List ExactAngles) → All IsBlock bs → AllZip (λ b a. EnclosesColumn s (block_side s b) a) bs as' → AllZip (IsSolved s) bs es
    → Lies (total (λ z. times z.0.share (times trillion (part_of s c z.0 z.1))) (zip bs es)) (sum_over (λ z. (share_span_of s c v z.0 z.1).0) (zip bs as')) (sum_over (λ z. (share_span_of s c v z.0 z.1).1) (zip bs as'))
parts_lie grid s c sound of stands carries v barrier [] [] [] blocks enc sol = Lies-whole (pos 0) (pos 0) (pos 0) (omega (arith, linear)) (omega (arith, linear))
parts_lie grid s c sound of stands carries v barrier [] (a ∷ as') es blocks enc sol = absurd enc
parts_lie grid s c sound of stands carries v barrier [] [] (e ∷ es) blocks enc sol = absurd sol
parts_lie grid s c sound of stands carries v barrier (b ∷ bs) [] es blocks enc sol = absurd enc
parts_lie grid s c sound of stands carries v barrier (b ∷ bs) (a ∷ as') [] blocks enc sol = absurd sol
parts_lie grid s c sound of stands carries v barrier (b ∷ bs) (a ∷ as') (e ∷ es) blocks enc sol =
    let here = All-head IsBlock b bs blocks in
    Lies-plus _ _ _ _
    (Lies-times b.share _ _ here.share (block_held grid s c sound of stands carries v b a barrier here enc.0 e sol.0))
    (parts_lie grid s c sound of stands carries v barrier bs as' es (All-tail IsBlock b bs blocks) enc.1 sol.1)

zipped : (s : GridState) (bs : List Block) (es : List ExactAngles) → All IsBlock bs → All (λ (z : Block × ExactAngles). IsBlock z.0) (zip bs es)
zipped s [] es h = All-nil (λ (z : Block × ExactAngles). IsBlock z.0)
zipped s (b ∷ bs) [] h = All-nil (λ (z : Block × ExactAngles). IsBlock z.0)
zipped s (b ∷ bs) (e ∷ es) h = All-cons (λ (z : Block × ExactAngles). IsBlock z.0) (b, e) (zip bs es) (All-head IsBlock b bs h) (zipped s bs es (All-tail IsBlock b bs h))

pub zone_held : (grid : Grid) (s : GridState) (c : NumberedBranch) → IsSound s → IsOfGrid grid s → IsBranchOf grid c → carries_at s c.number ≡ true
    → (v : List ℤ) → IsBarrier s v → (column : Column) (as' : List Angles) → All IsBlock column.blocks → AllZip (λ b a. EnclosesColumn s (block_side s b) a) column.blocks as'
    → (es : List ExactAngles) → AreAnglesOfKey s column es → LiesAt trillion (zone_span_of s c v (zip column.blocks as')) (factor_of s c column es)
zone_held grid s c sound of stands carries v barrier column as' blocks enc es sol =
    let zs = zip column.blocks es in
    let lies = parts_lie grid s c sound of stands carries v barrier column.blocks as' es blocks enc sol in
    let h = divisor-positive (pos 100_000_000) in
    Lies-Same
    (Same_sym (Same_trans (Same_sym (total-times trillion (λ (z : Block × ExactAngles). divided (times z.0.share (flow_of s c z.1)) (pos 100_000_000 *ℤ z.0.total)) zs))
    (Same_trans (Same-total _ (λ (z : Block × ExactAngles). divided (times z.0.share (times trillion (part_of s c z.0 z.1))) (pos 100_000_000)) zs
    (λ k d l. let z = get_or zs k d in one_block (flow_of s c z.1) z.0.share z.0.total (zipped s column.blocks es blocks k d l).some))
    (total-over (divisor_of (pos 100_000_000)) h (λ (z : Block × ExactAngles). times z.0.share (times trillion (part_of s c z.0 z.1))) zs))))
    (Lies-over _ _ (pos 100_000_000) h lies)

-- ---- factors that are 0

total_of_zeros : {A : Type 0} (f : A → Fraction) (xs : List A) → ((x : A) → Same (f x) (whole (pos 0))) → Same (total f xs) (whole (pos 0))
total_of_zeros f xs h = Same_trans (Same-total f (λ x. whole (pos 0)) xs (λ k d l. h (get_or xs k d))) (total-zero xs)

pub zero_lies : (f : Fraction) → Same f (whole (pos 0)) → LiesAt trillion (pos 0, pos 0) f
zero_lies f h = Lies-Same (Same_sym (Same_trans (Same-times trillion h) (record { same = simp ring }))) (Lies-whole (pos 0) (pos 0) (pos 0) (omega (arith, linear)) (omega (arith, linear)))

pub no_blocks : (s : GridState) (c : NumberedBranch) (column : Column) (es : List ExactAngles) → length column.blocks ≡ 0 → Same (factor_of s c column es) (whole (pos 0))
no_blocks s c column es h = of_list column.blocks h
  where
    of_list : (bs : List Block) → length bs ≡ 0 → Same (total (λ (z : Block × ExactAngles). divided (times z.0.share (flow_of s c z.1)) (pos 100_000_000 *ℤ z.0.total)) (zip bs es)) (whole (pos 0))
    of_list [] h = Same_refl _
    of_list (b ∷ bs) h = absurd (omega arith)

pub no_flow : (s : GridState) (c : NumberedBranch) (column : Column) (es : List ExactAngles) → carries_at s c.number ≡ false → Same (factor_of s c column es) (whole (pos 0))
no_flow s c column es h =
    total_of_zeros (λ (z : Block × ExactAngles). divided (times z.0.share (flow_of s c z.1)) (pos 100_000_000 *ℤ z.0.total)) (zip column.blocks es) (λ z. one z.0 z.1)
  where
    one : (b : Block) (e : ExactAngles) → Same (divided (times b.share (flow_of s c e)) (pos 100_000_000 *ℤ b.total)) (whole (pos 0))
    one b e = by_test (carries_at s c.number) h
      where
        by_test : (t : Bool) → t ≡ false → Same (divided (times b.share (cond t (divided (whole (c.branch.b *ℤ (at e.angles (class_at s c.branch.from) -ℤ at e.angles (class_at s c.branch.to)))) (pos e.scale)) (whole (pos 0)))) (pos 100_000_000 *ℤ b.total)) (whole (pos 0))
        by_test true e' = absurd cc
        by_test false e' = record { same = simp ring }

-- ---- the angles of the blocks

pub own_angles : (s : GridState) (column : Column) (angles : List Angles) (first : ℕ) → EnclosesKey s column angles first → 0 < length column.blocks → first + length column.blocks ≤ length angles
own_angles s column angles first h some =
    let e = zip_length (λ (b : Block) (a : Angles). EnclosesColumn s (block_side s b) a) column.blocks (take (length column.blocks) (drop first angles)) h in
    let t = length-take (length column.blocks) (drop first angles) in
    let d = length-drop first angles in
    omega (arith, e, t, d)

pub some_blocks : (n m : ℕ) → n ≡ m → false ≡ (n == 0) → 0 < m
some_blocks zero m e h = absurd (true≢false (sym h))
some_blocks (suc n) m e h = omega arith

pub none_blocks : (n m : ℕ) → n ≡ m → true ≡ (n == 0) → m ≡ 0
none_blocks zero m e h = sym e
none_blocks (suc n) m e h = absurd (true≢false (h ∙ ne_eqb (suc n) 0 (λ same. absurd (omega arith))))
