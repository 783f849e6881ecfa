-- What nodes, branches and weights add at a class, one more at a time.
use Rattle.std.proofs.Common.{◌≡◌, ◌≢◌, ℕ, zero, suc, ◌+◌, ◌^◌, ◌<◌, ◌≤◌, Bool, true, false, cond, eqb, List, [], ◌∷◌, length, get_or, take, map, ℤ, pos, ◌+ℤ◌, ◌-ℤ◌, ◌*ℤ◌, neg_ℤ, Some, refl, sym, ap, ap₂, ◌∙◌, ⊎_elim, arith}
use Rattle.std.specs.Prelude.{◌==◌, if◌then◌else◌, slice_get}
use Rattle.std.specs.List.{enumerate_from}
use Rattle.std.proofs.lemmas.Bool.{cases_eq, eq-eqb, ne_eqb, cond-true, cond-false}
use Rattle.std.proofs.lemmas.Int.{ints}
use Rattle.std.proofs.lemmas.List.{ext_get_or, get_or-map, length-map, take_all}
use Rattle.std.proofs.lemmas.List.FromFn.{length-enumerate_from, get_or-enumerate_from}
use Rattle.whole_laws.specs.Ring.{ring, linear}
use Rattle.whole_laws.specs.Sums.{sum_below, sum_over, at}
use Rattle.whole_laws.specs.SumLaws.{sum_below-more, sum_below-add_each, sum_below-zero_each, sum_over-more}
use Rattle.fb_types.specs.declared.grid.Node.{Node}
use Rattle.fb_types.specs.declared.grid.Branch.{Branch}
use Rattle.fb_types.specs.declared.grid.Grid.{Grid}
use Rattle.fb_types.specs.declared.keys.Weight.{Weight}
use Rattle.grid_state.specs.GridState.{GridState, classes_of, class_at, carries_at}
use Rattle.grid_state.specs.Split.{injection_of}
use Rattle.security.specs.Balances.{for_classes, of_class, fed_in, injection_at, shift_of, shifts_at}
use Rattle.exact_flows.proofs.Listed.{at_classes, length_classes}
use Rattle.right_sides.specs.Raised.{IsRaised, only_at, weights_at}
use Rattle.right_sides.proofs.Adding.{raised_none, raised_same, raised_twice}

-- a number more, where it stands at the class, times a factor
more_of : (k a x : ℤ) (t : Bool) → k *ℤ (a +ℤ cond t x (pos 0)) ≡ k *ℤ a +ℤ cond t (k *ℤ x) (pos 0)
more_of k a x true = simp ring
more_of k a x false = simp ring

-- ---- nodes

-- what the first n nodes have at a class
abbrev pub of_first : GridState → (ℕ → ℤ) → ℕ → ℕ → ℤ
of_first s f n c = sum_below n (λ k. if class_at s k == c then f k else pos 0)

node_more : (s : GridState) (k : ℤ) (f : ℕ → ℤ) (n c : ℕ) → k *ℤ of_first s f (n + 1) c ≡ k *ℤ of_first s f n c +ℤ only_at (class_at s n) (k *ℤ f n) c
node_more s k f n c =
    ap (λ z. k *ℤ z) (sum_below-more n (λ j. if class_at s j == c then f j else pos 0)) ∙ more_of k (of_first s f n c) (f n) (eqb (class_at s n) c)

-- ---- branches

-- what the phase shifts of the first n branches add at a class
abbrev pub shifts_of_first : GridState → List Branch → ℕ → ℕ → ℤ
shifts_of_first s branches n c = sum_over (λ p. if carries_at s p.0 then shift_of s p.1 c else pos 0) (take n (enumerate_from 0 branches))

shift_more : (s : GridState) (bs : List Branch) (n c : ℕ) (b : Branch) → n < length bs → b ≡ get_or bs n b
    → shifts_of_first s bs (n + 1) c ≡ shifts_of_first s bs n c +ℤ (if carries_at s n then shift_of s b c else pos 0)
shift_more s bs n c b h read =
    let size = length-enumerate_from 0 bs in
    sum_over-more (λ (p : ℕ × Branch). if carries_at s p.0 then shift_of s p.1 c else pos 0) (enumerate_from 0 bs) n (n, b) (omega (arith, size))
    ∙ ap (λ (p : ℕ × Branch). shifts_of_first s bs n c +ℤ (if carries_at s p.0 then shift_of s p.1 c else pos 0))
    (get_or-enumerate_from 0 bs n (n, b) h ∙ ap (λ (m : ℕ). (m, get_or bs n b)) (omega arith) ∙ ap (λ (x : Branch). (n, x)) (sym read))

shift_carried : (s : GridState) (k : ℤ) (bs : List Branch) (n c : ℕ) (b : Branch) → n < length bs → b ≡ get_or bs n b → carries_at s n ≡ true
    → k *ℤ shifts_of_first s bs (n + 1) c ≡ k *ℤ shifts_of_first s bs n c +ℤ k *ℤ shift_of s b c
shift_carried s k bs n c b h read carries =
    ap (λ z. k *ℤ z) (shift_more s bs n c b h read ∙ ap (λ z. shifts_of_first s bs n c +ℤ z) (cond-true {A = ℤ} (carries_at s n) (shift_of s b c) (pos 0) carries))
    ∙ simp ring

shift_passed : (s : GridState) (k : ℤ) (bs : List Branch) (n c : ℕ) (b : Branch) → n < length bs → b ≡ get_or bs n b → carries_at s n ≡ false
    → k *ℤ shifts_of_first s bs n c ≡ k *ℤ shifts_of_first s bs (n + 1) c
shift_passed s k bs n c b h read carries =
    ap (λ z. k *ℤ z) (sym (shift_more s bs n c b h read ∙ ap (λ z. shifts_of_first s bs n c +ℤ z) (cond-false {A = ℤ} (carries_at s n) (shift_of s b c) (pos 0) carries) ∙ simp ring))

shifts_all : (s : GridState) (grid : Grid) (n c : ℕ) → length grid.branches ≤ n → shifts_of_first s grid.branches n c ≡ shifts_at s grid c
shifts_all s grid n c h =
    ap (λ (ps : List (ℕ × Branch)). sum_over (λ p. if carries_at s p.0 then shift_of s p.1 c else pos 0) ps)
    (take_all n (enumerate_from 0 grid.branches) (let size = length-enumerate_from 0 grid.branches in omega (arith, size)))

-- the phase shift of one branch, taken at the one end and added at the other
both_ends : (s : GridState) (k : ℤ) (b : Branch) (c : ℕ) (x : ℤ) → x ≡ k *ℤ (b.b *ℤ b.phi)
    → k *ℤ shift_of s b c ≡ only_at (class_at s b.from) (neg_ℤ x) c +ℤ only_at (class_at s b.to) x c
both_ends s k b c x e = by_test (eqb (class_at s b.to) c) (eqb (class_at s b.from) c) (b.b *ℤ b.phi) e
  where
    by_test : (t u : Bool) (y : ℤ) → x ≡ k *ℤ y → k *ℤ (cond t y (pos 0) -ℤ cond u y (pos 0)) ≡ cond u (neg_ℤ x) (pos 0) +ℤ cond t x (pos 0)
    by_test true true y e = rw e (simp ring)
    by_test true false y e = rw e (simp ring)
    by_test false true y e = rw e (simp ring)
    by_test false false y e = simp ring

-- ---- weights

-- a sum of which one number alone is not 0
sum_of_one : (n m : ℕ) (f : ℕ → ℤ) → m < n → ((k : ℕ) → k ≢ m → f k ≡ pos 0) → sum_below n f ≡ f m
sum_of_one zero m f h none = absurd (omega arith)
sum_of_one (suc n) m f h none =
    ⊎_elim (λ same.
    let rest = sum_below-zero_each n f (λ k l. none k (λ e. absurd (omega arith))) in
    let here = ap f same in
    omega (arith, linear, rest, here))
    (λ other.
    let rest = sum_of_one n m f (omega arith) none in
    let here = none n (λ e. other (sym e)) in
    omega (arith, linear, rest, here))
    (cases_eq m n)

-- what the weights have at a class, with one more
class_more : (s : GridState) (ws : List Weight) (i c : ℕ) (d : Weight) → i < length ws → (get_or ws i d).node < length s.class_of
    → of_class s (weights_at (take (i + 1) ws)) c ≡ of_class s (weights_at (take i ws)) c +ℤ only_at (class_at s (get_or ws i d).node) (get_or ws i d).weight c
class_more s ws i c d h below =
    sum_below-add_each (length s.class_of) (λ n. if class_at s n == c then weights_at (take i ws) n else pos 0)
    (λ n. if class_at s n == c then (if w.node == n then w.weight else pos 0) else pos 0)
    (λ n. if class_at s n == c then weights_at (take (i + 1) ws) n else pos 0)
    (λ n l. split (eqb (class_at s n) c) (weights_at (take (i + 1) ws) n) (weights_at (take i ws) n) (if w.node == n then w.weight else pos 0)
    (sum_over-more (λ (v : Weight). if v.node == n then v.weight else pos 0) ws i d h))
    ∙ ap (λ z. of_class s (weights_at (take i ws)) c +ℤ z)
    (sum_of_one (length s.class_of) w.node (λ n. if class_at s n == c then (if w.node == n then w.weight else pos 0) else pos 0) below
    (λ n other. elsewhere (eqb (class_at s n) c) (if w.node == n then w.weight else pos 0) (cond-false {A = ℤ} (eqb w.node n) w.weight (pos 0) (ne_eqb w.node n (λ e. other (sym e)))))
    ∙ ap (λ z. if class_at s w.node == c then z else pos 0) (cond-true {A = ℤ} (eqb w.node w.node) w.weight (pos 0) (eq-eqb w.node w.node refl)))
  where
    w : Weight
    w = get_or ws i d

    split : (t : Bool) (z x y : ℤ) → z ≡ x +ℤ y → cond t z (pos 0) ≡ cond t x (pos 0) +ℤ cond t y (pos 0)
    split true z x y e = e
    split false z x y e = omega (arith, ints)

    elsewhere : (t : Bool) (y : ℤ) → y ≡ pos 0 → cond t y (pos 0) ≡ pos 0
    elsewhere true y e = e
    elsewhere false y e = refl

pub weight_more : (s : GridState) (k : ℤ) (ws : List Weight) (i c : ℕ) (d : Weight) → i < length ws → (get_or ws i d).node < length s.class_of
    → k *ℤ of_class s (weights_at (take (i + 1) ws)) c ≡ k *ℤ of_class s (weights_at (take i ws)) c +ℤ only_at (class_at s (get_or ws i d).node) (k *ℤ (get_or ws i d).weight) c
weight_more s k ws i c d h below =
    ap (λ z. k *ℤ z) (class_more s ws i c d h below) ∙ more_of k (of_class s (weights_at (take i ws)) c) (get_or ws i d).weight (eqb (class_at s (get_or ws i d).node) c)

no_weights : (s : GridState) (c : ℕ) → of_class s (weights_at []) c ≡ pos 0
no_weights s c = sum_below-zero_each (length s.class_of) (λ n. if class_at s n == c then weights_at [] n else pos 0) (λ n l. by_test (eqb (class_at s n) c))
  where
    by_test : (t : Bool) → cond t (pos 0) (pos 0) ≡ pos 0
    by_test true = refl
    by_test false = refl

-- ---- the list of all

pub listed : (s : GridState) (k : ℤ) (f : ℕ → ℤ) (xs : List ℤ) → length xs ≡ classes_of s → ((c : ℕ) → c < classes_of s → at xs c ≡ k *ℤ f c) → xs ≡ map (λ z. k *ℤ z) (for_classes s f)
listed s k f xs size h =
    ext_get_or (pos 0) xs (map (λ z. k *ℤ z) (for_classes s f)) (size ∙ sym (length-map (for_classes s f) (λ z. k *ℤ z) ∙ length_classes s f))
    (λ c b.
    let all = length_classes s f in
    let below : c < classes_of s = omega (arith, size) in
    h c below ∙ sym (get_or-map (λ z. k *ℤ z) (for_classes s f) c (pos 0) (pos 0) (omega (arith, all)) ∙ ap (λ z. k *ℤ z) (at_classes s f c below)))

-- ---- what is added by each step

-- what stands at a place
stands_at : {X : Type 0} (xs : List X) (k : ℕ) (x : X) → k < length xs → x ≡ get_or xs k x → slice_get xs k ≡ Some x
stands_at [] k x h e = absurd (omega arith)
stands_at (y ∷ ys) zero x h e = ap Some (sym e)
stands_at (y ∷ ys) (suc k) x h e = stands_at ys k x (omega arith) e

pub power_next : (s : GridState) (grid : Grid) (n : ℕ) (node : Node) (class : ℕ) (x : ℤ) (xs ys zs : List ℤ) → n < length grid.nodes → node ≡ get_or grid.nodes n node → class ≡ class_at s n → x ≡ pos (10 ^ 13) *ℤ injection_of node
    → IsRaised xs ys (λ c. pos (10 ^ 13) *ℤ of_first s (injection_at grid) n c) → IsRaised ys zs (only_at class x) → IsRaised xs zs (λ c. pos (10 ^ 13) *ℤ of_first s (injection_at grid) (n + 1) c)
power_next s grid n node class x xs ys zs h read is value one two =
    raised_twice xs ys zs (λ c. pos (10 ^ 13) *ℤ of_first s (injection_at grid) n c) (only_at class x) (λ c. pos (10 ^ 13) *ℤ of_first s (injection_at grid) (n + 1) c) one two
    (λ c b. node_more s (pos (10 ^ 13)) (injection_at grid) n c ∙ ap (λ z. pos (10 ^ 13) *ℤ of_first s (injection_at grid) n c +ℤ z)
    (ap₂ (λ i z. only_at i z c) (sym is) (ap (λ o. pos (10 ^ 13) *ℤ fed_in o) (stands_at grid.nodes n node h read) ∙ sym value)))

pub shift_next : (s : GridState) (k : ℤ) (b : Branch) (from to : ℕ) (x y : ℤ) (xs ys zs : List ℤ) → from ≡ class_at s b.from → to ≡ class_at s b.to → x ≡ k *ℤ (b.b *ℤ b.phi) → y ≡ neg_ℤ x
    → IsRaised xs ys (only_at from y) → IsRaised ys zs (only_at to x) → IsRaised xs zs (λ c. k *ℤ shift_of s b c)
shift_next s k b from to x y xs ys zs ef et ex ey one two =
    raised_twice xs ys zs (only_at from y) (only_at to x) (λ c. k *ℤ shift_of s b c) one two
    (λ c l. both_ends s k b c x ex ∙ ap₂ (λ u v. u +ℤ v) (ap₂ (λ i z. only_at i z c) (sym ef) (sym ey)) (ap (λ i. only_at i x c) (sym et)))

pub weight_next : (s : GridState) (ws : List Weight) (i : ℕ) (d : Weight) (class : ℕ) (x : ℤ) (xs ys zs : List ℤ) → i < length ws → (get_or ws i d).node < length s.class_of
    → class ≡ class_at s (get_or ws i d).node → x ≡ pos (10 ^ 13) *ℤ (get_or ws i d).weight
    → IsRaised xs ys (λ c. pos (10 ^ 13) *ℤ of_class s (weights_at (take i ws)) c) → IsRaised ys zs (only_at class x) → IsRaised xs zs (λ c. pos (10 ^ 13) *ℤ of_class s (weights_at (take (i + 1) ws)) c)
weight_next s ws i d class x xs ys zs h below is value one two =
    raised_twice xs ys zs (λ c. pos (10 ^ 13) *ℤ of_class s (weights_at (take i ws)) c) (only_at class x) (λ c. pos (10 ^ 13) *ℤ of_class s (weights_at (take (i + 1) ws)) c) one two
    (λ c b. weight_more s (pos (10 ^ 13)) ws i c d h below ∙ ap (λ z. pos (10 ^ 13) *ℤ of_class s (weights_at (take i ws)) c +ℤ z) (ap₂ (λ j z. only_at j z c) (sym is) (sym value)))

pub weights_none : (s : GridState) (xs : List ℤ) → IsRaised xs xs (λ c. pos (10 ^ 13) *ℤ of_class s (weights_at []) c)
weights_none s xs = raised_none xs (λ c. pos (10 ^ 13) *ℤ of_class s (weights_at []) c) (λ c b. ap (λ z. pos (10 ^ 13) *ℤ z) (no_weights s c))

pub shifts_next : (s : GridState) (k : ℤ) (bs : List Branch) (n : ℕ) (b : Branch) (xs ys zs : List ℤ) → n < length bs → b ≡ get_or bs n b → carries_at s n ≡ true
    → IsRaised xs ys (λ c. k *ℤ shifts_of_first s bs n c) → IsRaised ys zs (λ c. k *ℤ shift_of s b c) → IsRaised xs zs (λ c. k *ℤ shifts_of_first s bs (n + 1) c)
shifts_next s k bs n b xs ys zs h read carries one two =
    raised_twice xs ys zs (λ c. k *ℤ shifts_of_first s bs n c) (λ c. k *ℤ shift_of s b c) (λ c. k *ℤ shifts_of_first s bs (n + 1) c) one two
    (λ c l. shift_carried s k bs n c b h read carries)

pub shifts_passed : (s : GridState) (k : ℤ) (bs : List Branch) (n : ℕ) (b : Branch) (xs ys : List ℤ) → n < length bs → b ≡ get_or bs n b → carries_at s n ≡ false
    → IsRaised xs ys (λ c. k *ℤ shifts_of_first s bs n c) → IsRaised xs ys (λ c. k *ℤ shifts_of_first s bs (n + 1) c)
shifts_passed s k bs n b xs ys h read carries one =
    raised_same xs ys (λ c. k *ℤ shifts_of_first s bs n c) (λ c. k *ℤ shifts_of_first s bs (n + 1) c) one (λ c l. shift_passed s k bs n c b h read carries)

pub shifts_done : (s : GridState) (grid : Grid) (k : ℤ) (n : ℕ) (xs ys : List ℤ) → length grid.branches ≤ n → IsRaised xs ys (λ c. k *ℤ shifts_of_first s grid.branches n c) → IsRaised xs ys (λ c. k *ℤ shifts_at s grid c)
shifts_done s grid k n xs ys h one =
    raised_same xs ys (λ c. k *ℤ shifts_of_first s grid.branches n c) (λ c. k *ℤ shifts_at s grid c) one (λ c l. ap (λ z. k *ℤ z) (shifts_all s grid n c h))
