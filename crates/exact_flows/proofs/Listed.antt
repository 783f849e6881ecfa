-- Lists with a number for each class, and the Laplacian as a function of functions.
use Rattle.std.proofs.Common.{◌≡◌, ℕ, zero, suc, ◌+◌, ◌<◌, ℤ, pos, ◌+ℤ◌, ◌-ℤ◌, ◌*ℤ◌, List, [], ◌∷◌, length, map, refl, ap, ap₂, ◌∙◌, arith}
use Rattle.std.specs.Prelude.{slice_index, All}
use Rattle.std.specs.List.{range_with_len}
use Rattle.std.proofs.lemmas.List.Elements.{All-head, All-tail}
use Rattle.whole_laws.specs.Ring.{ring, linear}
use Rattle.whole_laws.specs.Sums.{at}
use Rattle.grid_state.specs.declared.types.Edge.{Edge}
use Rattle.grid_state.specs.GridState.{GridState, classes_of, class_at, row_of, IsEdge, IsSound}
use Rattle.grid_laplacian.specs.Laws.{drop_over, laplacian_at}
use Rattle.security.specs.Balances.{for_classes}

-- ---- lists for classes

at_range : (f : ℕ → ℤ) (a n i : ℕ) → i < n → at (map f (range_with_len a n)) i ≡ f (a + i)
at_range f a zero i h = absurd (omega arith)
at_range f a (suc n) zero h = let e : a ≡ a + 0 = omega arith in ap f e
at_range f a (suc n) (suc i) h = let e : (a + 1) + i ≡ a + suc i = omega arith in at_range f (a + 1) n i (omega arith) ∙ ap f e

length_range : (f : ℕ → ℤ) (a n : ℕ) → length (map f (range_with_len a n)) ≡ n
length_range f a zero = refl
length_range f a (suc n) = ap suc (length_range f (a + 1) n)

pub at_classes : (s : GridState) (f : ℕ → ℤ) (i : ℕ) → i < classes_of s → at (for_classes s f) i ≡ f i
at_classes s f i h = let e : 0 + i ≡ i = omega arith in at_range f 0 (classes_of s) i h ∙ ap f e

pub length_classes : (s : GridState) (f : ℕ → ℤ) → length (for_classes s f) ≡ classes_of s
length_classes s f = length_range f 0 (classes_of s)

-- a node is of a class
pub class_below : (s : GridState) → IsSound s → (n : ℕ) → class_at s n < classes_of s
class_below s sound n = in_list s.class_of n (λ k d l. sound.class_below k d l)
  where
    in_list : (xs : List ℕ) (k : ℕ) → All (λ c. c < classes_of s) xs → slice_index xs k < classes_of s
    in_list [] k h = let e = sound.slack_below in omega (arith, e)
    in_list (x ∷ xs) zero h = All-head (λ c. c < classes_of s) x xs h
    in_list (x ∷ xs) (suc k) h = in_list xs k (All-tail (λ c. c < classes_of s) x xs h)

-- ---- the Laplacian

-- L·f at a class, f being any function
abbrev pub table : GridState → (ℕ → ℤ) → ℕ → ℤ
table s f i = drop_over (row_of s i) f (f i)

drop_linear : (a b : ℤ) (es : List Edge) (f g : ℕ → ℤ) (x y : ℤ)
    → drop_over es (λ k. a *ℤ f k +ℤ b *ℤ g k) (a *ℤ x +ℤ b *ℤ y) ≡ a *ℤ drop_over es f x +ℤ b *ℤ drop_over es g y
drop_linear a b [] f g x y = simp ring
drop_linear a b (e ∷ es) f g x y =
    ap (λ v. pos e.b *ℤ ((a *ℤ x +ℤ b *ℤ y) -ℤ (a *ℤ f e.to +ℤ b *ℤ g e.to)) +ℤ v) (drop_linear a b es f g x y)
    ∙ step (pos e.b) x (f e.to) y (g e.to) (drop_over es f x) (drop_over es g y)
  where
    step : (w x u y v p q : ℤ) → w *ℤ ((a *ℤ x +ℤ b *ℤ y) -ℤ (a *ℤ u +ℤ b *ℤ v)) +ℤ (a *ℤ p +ℤ b *ℤ q) ≡ a *ℤ (w *ℤ (x -ℤ u) +ℤ p) +ℤ b *ℤ (w *ℤ (y -ℤ v) +ℤ q)
    step w x u y v p q = simp ring (omega (arith, linear))

pub table_linear : (s : GridState) (a b : ℤ) (f g : ℕ → ℤ) (i : ℕ) → table s (λ k. a *ℤ f k +ℤ b *ℤ g k) i ≡ a *ℤ table s f i +ℤ b *ℤ table s g i
table_linear s a b f g i = drop_linear a b (row_of s i) f g (f i) (g i)

drop_same : (n : ℕ) (es : List Edge) (f g : ℕ → ℤ) (x y : ℤ) → All (λ e. IsEdge n e) es → ((k : ℕ) → k < n → f k ≡ g k) → x ≡ y → drop_over es f x ≡ drop_over es g y
drop_same n [] f g x y h same e = refl
drop_same n (d ∷ ds) f g x y h same e =
    let first = All-head (λ (c : Edge). IsEdge n c) d ds h in
    ap₂ (λ u v. u +ℤ v) (ap₂ (λ u v. pos d.b *ℤ (u -ℤ v)) e (same d.to first.leads)) (drop_same n ds f g x y (All-tail (λ (c : Edge). IsEdge n c) d ds h) same e)

-- functions that agree at the classes have one Laplacian
pub table_same : (s : GridState) → IsSound s → (f g : ℕ → ℤ) → ((k : ℕ) → k < classes_of s → f k ≡ g k) → (i : ℕ) → i < classes_of s → table s f i ≡ table s g i
table_same s sound f g same i h = drop_same (classes_of s) (row_of s i) f g (f i) (g i) (sound.edges i [] (let e = sound.same_length in omega (arith, e))) same (same i h)

-- the Laplacian of a list is that of its numbers
pub listed_table : (s : GridState) → IsSound s → (f : ℕ → ℤ) (i : ℕ) → i < classes_of s → laplacian_at s (for_classes s f) i ≡ table s f i
listed_table s sound f i h = table_same s sound (at (for_classes s f)) f (λ k l. at_classes s f k l) i h
