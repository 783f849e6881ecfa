-- What is added to a list, one number after another.
use Rattle.std.proofs.Common.{◌≡◌, ◌≢◌, ℕ, ◌+◌, ◌<◌, ◌≤◌, ◌⊎◌, inl, inr, Bool, true, false, cond, eqb, List, length, set, All, ℤ, pos, ◌+ℤ◌, sym, ap, ap₂, ◌∙◌, arith}
use Rattle.std.proofs.lemmas.Bool.{cases_eq, eq-eqb, ne_eqb, cond-true, cond-false}
use Rattle.std.proofs.lemmas.Int.{ints}
use Rattle.std.proofs.lemmas.List.{length-set, get_or-set_same, get_or-set_other}
use Rattle.std.proofs.lemmas.List.Elements.{All-get_or, All-from_get_or}
use Rattle.whole_laws.specs.Ring.{linear}
use Rattle.whole_laws.specs.Sums.{at, IsWithin}
use Rattle.right_sides.specs.Raised.{IsRaised, only_at}

pub only_here : (i c : ℕ) (x : ℤ) → c ≡ i → only_at i x c ≡ x
only_here i c x e = cond-true {A = ℤ} (eqb i c) x (pos 0) (eq-eqb i c (sym e))

pub only_there : (i c : ℕ) (x : ℤ) → c ≢ i → only_at i x c ≡ pos 0
only_there i c x n = cond-false {A = ℤ} (eqb i c) x (pos 0) (ne_eqb i c (λ e. n (sym e)))

pub added : (xs : List ℤ) (i : ℕ) (x y : ℤ) → i < length xs → y ≡ at xs i +ℤ x → IsRaised xs (set xs i y) (only_at i x)
added xs i x y h e = record { each_class = length-set xs i y; values = λ c b. one c b (cases_eq c i) }
  where
    one : (c : ℕ) → c < length xs → ((c ≡ i) ⊎ (c ≢ i)) → at (set xs i y) c ≡ at xs c +ℤ only_at i x c
    one c b (inl same) =
        ap (at (set xs i y)) same ∙ get_or-set_same xs i y (pos 0) h ∙ e ∙ sym (ap₂ (λ u v. u +ℤ v) (ap (at xs) same) (only_here i c x same))
    one c b (inr other) =
        let none = only_there i c x other in
        let kept = get_or-set_other xs i c y (pos 0) other in
        omega (arith, linear, none, kept)

pub raised_none : (xs : List ℤ) (f : ℕ → ℤ) → ((c : ℕ) → c < length xs → f c ≡ pos 0) → IsRaised xs xs f
raised_none xs f h = record { each_class = omega arith; values = λ c b. let z = h c b in omega (arith, linear, z) }

pub raised_same : (xs ys : List ℤ) (f g : ℕ → ℤ) → IsRaised xs ys f → ((c : ℕ) → c < length xs → f c ≡ g c) → IsRaised xs ys g
raised_same xs ys f g h same = record { each_class = h.each_class; values = λ c b. let v = h.values c b in let e = same c b in omega (arith, linear, v, e) }

pub raised_twice : (xs ys zs : List ℤ) (f g h : ℕ → ℤ) → IsRaised xs ys f → IsRaised ys zs g → ((c : ℕ) → c < length xs → h c ≡ f c +ℤ g c) → IsRaised xs zs h
raised_twice xs ys zs f g h one two both = record {
  each_class = two.each_class ∙ one.each_class;
  values = λ c b.
      let size = one.each_class in
      let u = one.values c b in
      let v = two.values c (omega (arith, size)) in
      let e = both c b in
      omega (arith, linear, u, v, e);
}

pub sum_within : (m n : ℕ) (a b z : ℤ) → z ≡ a +ℤ b → IsWithin m a → IsWithin n b → IsWithin (m + n) z
sum_within m n a b z e h k = record { low = omega (arith, ints, e, h.low, k.low); high = omega (arith, ints, e, h.high, k.high) }

pub raised_within : (m n : ℕ) (xs ys : List ℤ) (f : ℕ → ℤ) → IsRaised xs ys f → All (λ z. IsWithin m z) xs → ((c : ℕ) → c < length xs → IsWithin n (f c)) → All (λ z. IsWithin (m + n) z) ys
raised_within m n xs ys f h small part =
    All-from_get_or (λ z. IsWithin (m + n) z) ys (pos 0) (λ c b.
    let size = h.each_class in
    let below : c < length xs = omega (arith, size) in
    sum_within m n (at xs c) (f c) (at ys c) (h.values c below) (All-get_or (λ z. IsWithin m z) xs c (pos 0) below small) (part c below))

pub only_within : (m i c : ℕ) (x : ℤ) → IsWithin m x → IsWithin m (only_at i x c)
only_within m i c x h = by_test (eqb i c)
  where
    by_test : (t : Bool) → IsWithin m (cond t x (pos 0))
    by_test true = h
    by_test false = record { low = omega (arith, ints); high = omega (arith, ints) }

pub wider : (m n : ℕ) (xs : List ℤ) → m ≤ n → All (λ z. IsWithin m z) xs → All (λ z. IsWithin n z) xs
wider m n xs le h = λ k d b. let w = h k d b in record { low = omega (arith, ints, w.low); high = omega (arith, ints, w.high) }
