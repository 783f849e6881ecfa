-- Existence over naturals: a table of weights w with a weight g to the ground, each of whose sets of classes leaks.
use Rattle.std.proofs.Common.{◌≡◌, ℕ, zero, suc, ◌+◌, ◌*◌, ◌<◌, ◌≤◌, ◌⊎◌, inl, inr, Bool, true, false, cond, ltb, eqb, arith, mul-pos, refl, sym, ap, subst, subst₂, ◌∙◌}
use Rattle.std.proofs.lemmas.Bool.{ltb-true, ltb-false, cases_eq, cases_Bool, eqb-true, eqb-false, eq-eqb, lt-ltb, le-ltb, cond-true, cond-false}
use Rattle.whole_laws.specs.Sums.{total_below}
use Rattle.whole_laws.specs.TotalLaws.{total_below-combine, term-le-total_below}

-- a class of the set has a weight to the ground, or to a class outside
pub record Leaks (n : ℕ) (w : ℕ → ℕ → ℕ) (g : ℕ → ℕ) (set : ℕ → Bool) : Type 0 where
  pub from : ℕ
  pub below : from < n
  pub inside : set from ≡ true
  pub way : (0 < g from) ⊎ ((b : ℕ) × (b < n) × (set b ≡ false) × (0 < w from b))

abbrev pub IsDrained : ℕ → (ℕ → ℕ → ℕ) → (ℕ → ℕ) → Type 0
IsDrained n w g = (set : ℕ → Bool) (i : ℕ) → i < n → set i ≡ true → Leaks n w g set

-- the sum of the weights from class n to those below it and to the ground
abbrev pivot : ℕ → (ℕ → ℕ → ℕ) → (ℕ → ℕ) → ℕ
pivot n w g = g n + total_below n (w n)

-- what is left when class n is taken off
abbrev less_w : ℕ → (ℕ → ℕ → ℕ) → (ℕ → ℕ) → ℕ → ℕ → ℕ
less_w n w g i j = pivot n w g * w i j + w i n * w n j

-- what goes to the ground, or comes in, likewise
abbrev less_p : ℕ → (ℕ → ℕ → ℕ) → (ℕ → ℕ) → (ℕ → ℕ) → ℕ → ℕ
less_p n w g p i = pivot n w g * p i + w i n * p n

-- ---- taking off a class keeps the condition
-- the set that holds class n alone leaks, so the pivot is positive
pivot_positive : (n : ℕ) (w : ℕ → ℕ → ℕ) (g : ℕ → ℕ) → IsDrained (suc n) w g → 0 < pivot n w g
pivot_positive n w g drained =
    let leak = drained (λ j. eqb j n) n (omega arith) (eq-eqb n n refl) in
    let same = eqb-true leak.from n leak.inside in
    elim leak.way [
      | inl ground ↦ let here : 0 < g n = subst (λ (k : ℕ). 0 < g k) same ground in omega arith
      | inr r ↦
          let apart = eqb-false r.0 n r.2 in
          let close : r.0 < suc n = r.1 in
          let here : 0 < w n r.0 = subst (λ (k : ℕ). 0 < w k r.0) same r.3 in
          let part = term-le-total_below n (w n) r.0 (omega arith) in
          omega arith
    ]

-- a set of classes below n, without n and with it
abbrev without : ℕ → (ℕ → Bool) → ℕ → Bool
without n set j = cond (ltb j n) (set j) false

abbrev with_it : ℕ → (ℕ → Bool) → ℕ → Bool
with_it n set j = cond (ltb j n) (set j) true

by_ltb : {P : Type 0} (j n : ℕ) → (j < n → ltb j n ≡ true → P) → (n ≤ j → ltb j n ≡ false → P) → P
by_ltb j n below above = elim (cases_Bool (ltb j n)) [ inl t ↦ below (ltb-true j n t) t | inr u ↦ above (ltb-false j n u) u ]

without_in : (n : ℕ) (set : ℕ → Bool) (j : ℕ) → without n set j ≡ true → (j < n) × (set j ≡ true)
without_in n set j e = by_ltb j n (λ lt t. (lt, sym (cond-true (ltb j n) (set j) false t) ∙ e)) (λ ge u. let no = sym (cond-false (ltb j n) (set j) false u) ∙ e in cc)

without_out : (n : ℕ) (set : ℕ → Bool) (j : ℕ) → j < suc n → without n set j ≡ false → ((j < n) × (set j ≡ false)) ⊎ (j ≡ n)
without_out n set j b e = by_ltb j n (λ lt t. inl (lt, sym (cond-true (ltb j n) (set j) false t) ∙ e)) (λ ge u. inr (omega arith))

without_of : (n : ℕ) (set : ℕ → Bool) (j : ℕ) → j < n → set j ≡ true → without n set j ≡ true
without_of n set j lt e = cond-true (ltb j n) (set j) false (lt-ltb j n lt) ∙ e

with_in : (n : ℕ) (set : ℕ → Bool) (j : ℕ) → j < suc n → with_it n set j ≡ true → ((j < n) × (set j ≡ true)) ⊎ (j ≡ n)
with_in n set j b e = by_ltb j n (λ lt t. inl (lt, sym (cond-true (ltb j n) (set j) true t) ∙ e)) (λ ge u. inr (omega arith))

with_out : (n : ℕ) (set : ℕ → Bool) (j : ℕ) → with_it n set j ≡ false → (j < n) × (set j ≡ false)
with_out n set j e = by_ltb j n (λ lt t. (lt, sym (cond-true (ltb j n) (set j) true t) ∙ e)) (λ ge u. let no = sym (cond-false (ltb j n) (set j) true u) ∙ e in cc)

with_of : (n : ℕ) (set : ℕ → Bool) (j : ℕ) → j < n → set j ≡ true → with_it n set j ≡ true
with_of n set j lt e = cond-true (ltb j n) (set j) true (lt-ltb j n lt) ∙ e

-- a leak that stays where class n is taken off
leak_of_ground : (n : ℕ) (w : ℕ → ℕ → ℕ) (g : ℕ → ℕ) (set : ℕ → Bool) (a : ℕ) → 0 < pivot n w g → a < n → set a ≡ true → 0 < g a
    → Leaks n (less_w n w g) (less_p n w g g) set
leak_of_ground n w g set a p lt s ground = record { from = a; below = lt; inside = s; way = inl (let more = mul-pos p ground in omega arith) }

leak_of_way : (n : ℕ) (w : ℕ → ℕ → ℕ) (g : ℕ → ℕ) (set : ℕ → Bool) (a b : ℕ) → 0 < pivot n w g → a < n → set a ≡ true → b < n → set b ≡ false → 0 < w a b
    → Leaks n (less_w n w g) (less_p n w g g) set
leak_of_way n w g set a b p lt s lt' s' ways = record { from = a; below = lt; inside = s; way = inr (b, lt', s', (let more = mul-pos p ways in omega arith)) }

-- a class a of the set has a weight to n: the set with n leaks too
leak_through : (n : ℕ) (w : ℕ → ℕ → ℕ) (g : ℕ → ℕ) (set : ℕ → Bool) (a : ℕ) → 0 < pivot n w g → a < n → set a ≡ true → 0 < w a n
    → Leaks (suc n) w g (with_it n set) → Leaks n (less_w n w g) (less_p n w g g) set
leak_through n w g set a p lt s to leak =
    elim (with_in n set leak.from leak.below leak.inside) [
      | inl here ↦ elim leak.way [
        | inl ground ↦ leak_of_ground n w g set leak.from p here.0 here.1 ground
        | inr r ↦ let out = with_out n set r.0 r.2 in leak_of_way n w g set leak.from r.0 p here.0 here.1 out.0 out.1 r.3
      ]
      | inr at ↦ elim leak.way [
        | inl ground ↦
            let here : 0 < g n = subst (λ (k : ℕ). 0 < g k) at ground in
            record { from = a; below = lt; inside = s; way = inl (let more = mul-pos to here in omega arith) }
        | inr r ↦
            let out = with_out n set r.0 r.2 in
            let here : 0 < w n r.0 = subst (λ (k : ℕ). 0 < w k r.0) at r.3 in
            record { from = a; below = lt; inside = s; way = inr (r.0, out.0, out.1, (let more = mul-pos to here in omega arith)) }
      ]
    ]

still_drained : (n : ℕ) (w : ℕ → ℕ → ℕ) (g : ℕ → ℕ) → IsDrained (suc n) w g → IsDrained n (less_w n w g) (less_p n w g g)
still_drained n w g drained set i h s =
    let p = pivot_positive n w g drained in
    let leak = drained (without n set) i (omega arith) (without_of n set i h s) in
    let here = without_in n set leak.from leak.inside in
    elim leak.way [
      | inl ground ↦ leak_of_ground n w g set leak.from p here.0 here.1 ground
      | inr r ↦ elim (without_out n set r.0 r.1 r.2) [
        | inl out ↦ leak_of_way n w g set leak.from r.0 p here.0 here.1 out.0 out.1 r.3
        | inr at ↦
            let to : 0 < w leak.from n = subst (λ (k : ℕ). 0 < w leak.from k) at r.3 in
            leak_through n w g set leak.from p here.0 here.1 to (drained (with_it n set) i (omega arith) (with_of n set i h s))
      ]
    ]

-- ---- the solution
pub record IsSolution (n : ℕ) (w : ℕ → ℕ → ℕ) (g p t : ℕ → ℕ) (d : ℕ) : Type 0 where
  pub balance : (i : ℕ) → i < n → (g i + total_below n (w i)) * t i ≡ total_below n (λ j. w i j * t j) + d * p i

-- the solution of the whole from that of the rest
abbrev whole : ℕ → (ℕ → ℕ → ℕ) → (ℕ → ℕ) → (ℕ → ℕ) → ℕ → (ℕ → ℕ) → ℕ → ℕ
whole n w g p d t j = cond (ltb j n) (pivot n w g * t j) (d * p n + total_below n (λ k. w n k * t k))

whole-below : (n : ℕ) (w : ℕ → ℕ → ℕ) (g p : ℕ → ℕ) (d : ℕ) (t : ℕ → ℕ) (j : ℕ) → j < n → whole n w g p d t j ≡ pivot n w g * t j
whole-below n w g p d t j lt = cond-true (ltb j n) (pivot n w g * t j) (d * p n + total_below n (λ k. w n k * t k)) (lt-ltb j n lt)

whole-at : (n : ℕ) (w : ℕ → ℕ → ℕ) (g p : ℕ → ℕ) (d : ℕ) (t : ℕ → ℕ) → whole n w g p d t n ≡ d * p n + total_below n (λ k. w n k * t k)
whole-at n w g p d t = cond-false (ltb n n) (pivot n w g * t n) (d * p n + total_below n (λ k. w n k * t k)) (le-ltb n n (omega arith))

-- a sum of a weight times the whole, at the classes below n
whole-sum : (n : ℕ) (w : ℕ → ℕ → ℕ) (g p : ℕ → ℕ) (d : ℕ) (t : ℕ → ℕ) (i : ℕ)
    → total_below n (λ j. w i j * whole n w g p d t j) ≡ pivot n w g * total_below n (λ j. w i j * t j)
whole-sum n w g p d t i =
    let s = pivot n w g in
    let step : (j : ℕ) → j < n → w i j * whole n w g p d t j ≡ s * (w i j * t j) + 0 * 0 = λ j b. ap (λ k. w i j * k) (whole-below n w g p d t j b) ∙ omega arith in
    total_below-combine n s 0 (λ j. w i j * t j) (λ j. 0) (λ j. w i j * whole n w g p d t j) step ∙ omega arith

balance_below : (gi gn wi wn win ti d pi pn x v weights flows : ℕ) → weights ≡ (gn + wn) * wi + win * wn → flows ≡ (gn + wn) * x + win * v
    → ((gn + wn) * gi + win * gn + weights) * ti ≡ flows + d * ((gn + wn) * pi + win * pn)
    → (gi + (wi + win)) * ((gn + wn) * ti) ≡ (gn + wn) * x + win * (d * pn + v) + (gn + wn) * d * pi
balance_below gi gn wi wn win ti d pi pn x v weights flows e f h =
    let h' : ((gn + wn) * gi + win * gn + ((gn + wn) * wi + win * wn)) * ti ≡ ((gn + wn) * x + win * v) + d * ((gn + wn) * pi + win * pn) =
    subst₂ (λ (a b : ℕ). ((gn + wn) * gi + win * gn + a) * ti ≡ b + d * ((gn + wn) * pi + win * pn)) e f h in
    omega (arith, h')

solves_below : (n : ℕ) (w : ℕ → ℕ → ℕ) (g p t : ℕ → ℕ) (d : ℕ) → IsSolution n (less_w n w g) (less_p n w g g) (less_p n w g p) t d
    → (i : ℕ) → i < n → (g i + total_below (suc n) (w i)) * whole n w g p d t i ≡ total_below (suc n) (λ j. w i j * whole n w g p d t j) + (pivot n w g * d) * p i
solves_below n w g p t d solved i lt =
    let s = pivot n w g in
    let weights = total_below-combine n s (w i n) (w i) (w n) (less_w n w g i) (λ j b. omega arith) in
    let flows = total_below-combine n s (w i n) (λ j. w i j * t j) (λ j. w n j * t j) (λ j. less_w n w g i j * t j) (λ j b. omega arith) in
    let balance = solved.balance i lt in
    rw (whole-below n w g p d t i lt, whole-at n w g p d t, whole-sum n w g p d t i)
    (balance_below (g i) (g n) (total_below n (w i)) (total_below n (w n)) (w i n) (t i) d (p i) (p n) (total_below n (λ j. w i j * t j)) (total_below n (λ j. w n j * t j))
    (total_below n (less_w n w g i)) (total_below n (λ j. less_w n w g i j * t j)) weights flows balance)

solves_at : (n : ℕ) (w : ℕ → ℕ → ℕ) (g p t : ℕ → ℕ) (d : ℕ)
    → (g n + total_below (suc n) (w n)) * whole n w g p d t n ≡ total_below (suc n) (λ j. w n j * whole n w g p d t j) + (pivot n w g * d) * p n
solves_at n w g p t d = rw (whole-at n w g p d t, whole-sum n w g p d t n) (omega arith)

solves : (n : ℕ) (w : ℕ → ℕ → ℕ) (g p t : ℕ → ℕ) (d : ℕ) → IsSolution n (less_w n w g) (less_p n w g g) (less_p n w g p) t d
    → IsSolution (suc n) w g p (whole n w g p d t) (pivot n w g * d)
solves n w g p t d solved = record {
  balance = λ i b. elim (cases_eq i n) [
    | inl e ↦ subst (λ (k : ℕ). (g k + total_below (suc n) (w k)) * whole n w g p d t k ≡ total_below (suc n) (λ j. w k j * whole n w g p d t j) + (pivot n w g * d) * p k) (sym e) (solves_at n w g p t d)
    | inr ne ↦ solves_below n w g p t d solved i (omega arith)
  ];
}

pub existence : (n : ℕ) (w : ℕ → ℕ → ℕ) (g : ℕ → ℕ) → IsDrained n w g → (d : ℕ) × (0 < d) × ((p : ℕ → ℕ) → (t : ℕ → ℕ) × IsSolution n w g p t d)
existence zero w g drained = (1, omega arith, λ p. ((λ j. 0), record { balance = λ i b. absurd (omega arith) }))
existence (suc n) w g drained =
    let rest = existence n (less_w n w g) (less_p n w g g) (still_drained n w g drained) in (
      pivot n w g * rest.0,
      mul-pos (pivot_positive n w g drained) rest.1,
      λ p. let one = rest.2 (less_p n w g p) in (whole n w g p rest.0 one.0, solves n w g p one.0 rest.0 one.1),
    )
