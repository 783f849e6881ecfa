-- The sums over the zones of a row, zone by zone, and how large they are.
use Rattle.std.proofs.Common.{◌≡◌, ℕ, zero, suc, ◌+◌, ◌*◌, ◌<◌, ◌≤◌, ℤ, pos, ◌+ℤ◌, List, [], ◌∷◌, length, take, get_or, nat_abs, Bool, true, false, refl, sym, ap, ap₂, subst, ◌∙◌, arith, add-one, take_all}
use Rattle.std.specs.List.{zip}
use Rattle.whole_laws.specs.Ring.{linear, +ℤ_assoc}
use Rattle.whole_laws.specs.Sums.{sum_over}
use Rattle.fb_span.specs.Ends.{EndsWithin}
use Rattle.reference_flows.specs.WithoutExchanges.{counted_of, counted_positions, sizes_of}

sum_suc : (f : (ℤ × ℤ) × ℤ → ℤ) (ss : List (ℤ × ℤ)) (ps : List ℤ) (i : ℕ) (s : ℤ × ℤ) (p : ℤ) → i < length ss → i < length ps
    → sum_over f (zip (take (suc i) ss) (take (suc i) ps)) ≡ sum_over f (zip (take i ss) (take i ps)) +ℤ f (get_or ss i s, get_or ps i p)
sum_suc f [] ps i s p h k = absurd (omega arith)
sum_suc f (x ∷ ss) [] i s p h k = absurd (omega arith)
sum_suc f (x ∷ ss) (y ∷ ps) zero s p h k = omega (arith, linear)
sum_suc f (x ∷ ss) (y ∷ ps) (suc i) s p h k =
    ap (λ v. f (x, y) +ℤ v) (sum_suc f ss ps i s p (omega arith) (omega arith)) ∙ sym (+ℤ_assoc (f (x, y)) (sum_over f (zip (take i ss) (take i ps))) (f (get_or ss i s, get_or ps i p)))

pub sum_more : (f : (ℤ × ℤ) × ℤ → ℤ) (ss : List (ℤ × ℤ)) (ps : List ℤ) (i : ℕ) (s : ℤ × ℤ) (p x y z : ℤ) → i < length ss → i < length ps
    → x ≡ sum_over f (zip (take i ss) (take i ps)) → y ≡ f (get_or ss i s, get_or ps i p) → z ≡ x +ℤ y → z ≡ sum_over f (zip (take (i + 1) ss) (take (i + 1) ps))
sum_more f ss ps i s p x y z h k ex ey ez = ez ∙ ap₂ (λ u v. u +ℤ v) ex ey ∙ sym (rw add-one (sum_suc f ss ps i s p h k))

pub sum_all : (f : (ℤ × ℤ) × ℤ → ℤ) (ss : List (ℤ × ℤ)) (ps : List ℤ) (i : ℕ) (x : ℤ) → length ss ≤ i → length ps ≤ i
    → x ≡ sum_over f (zip (take i ss) (take i ps)) → x ≡ sum_over f (zip ss ps)
sum_all f ss ps i x h k e = e ∙ ap₂ (λ u v. sum_over f (zip u v)) (take_all i ss h) (take_all i ps k)

-- ---- sizes

sizes_suc : (ps : List ℤ) (i : ℕ) (p : ℤ) → i < length ps → sizes_of (take (suc i) ps) ≡ sizes_of (take i ps) + nat_abs (get_or ps i p)
sizes_suc [] i p h = absurd (omega arith)
sizes_suc (y ∷ ps) zero p h = omega arith
sizes_suc (y ∷ ps) (suc i) p h = let e = sizes_suc ps i p (omega arith) in omega (arith, e)

pub sizes_taken : (ps : List ℤ) (i : ℕ) → sizes_of (take i ps) ≤ sizes_of ps
sizes_taken [] zero = omega arith
sizes_taken [] (suc i) = omega arith
sizes_taken (y ∷ ps) zero = omega arith
sizes_taken (y ∷ ps) (suc i) = let e = sizes_taken ps i in omega (arith, e)

size_at : (ps : List ℤ) (i : ℕ) (p : ℤ) → i < length ps → nat_abs (get_or ps i p) ≤ sizes_of ps
size_at [] i p h = absurd (omega arith)
size_at (y ∷ ps) zero p h = omega arith
size_at (y ∷ ps) (suc i) p h = let e = size_at ps i p (omega arith) in omega (arith, e)

pub position_small : (ps : List ℤ) (i : ℕ) (p v : ℤ) → i < length ps → v ≡ get_or ps i p → sizes_of ps ≤ 1_000_000_000_000 → nat_abs v ≤ 1_000_000_000_000
position_small ps i p v h e all = let le = size_at ps i p h in subst (λ w. nat_abs w ≤ 1_000_000_000_000) (sym e) (omega (arith, le, all))

-- so many picowatts fit
pub room : (n : ℕ) (s : ℤ × ℤ) → n ≤ 1_000_000_000_000 → EndsWithin (n * 1_000_000_000_000) s → EndsWithin 1_000_000_000_000_000_000_000_000 s
room n s h k = record {
  low = record { low = omega (arith, linear, h, k.low.low); high = omega (arith, linear, h, k.low.high) };
  high = record { low = omega (arith, linear, h, k.high.low); high = omega (arith, linear, h, k.high.high) };
}

pub more_within : (ps : List ℤ) (i : ℕ) (p : ℤ) (s t u : ℤ × ℤ) → i < length ps → u ≡ (s.0 +ℤ t.0, s.1 +ℤ t.1) → EndsWithin (sizes_of (take i ps) * 1_000_000_000_000) s → EndsWithin (nat_abs (get_or ps i p) * 1_000_000_000_000) t
    → EndsWithin (sizes_of (take (i + 1) ps) * 1_000_000_000_000) u
more_within ps i p s t u h eu k l =
    let e : sizes_of (take (i + 1) ps) ≡ sizes_of (take i ps) + nat_abs (get_or ps i p) = rw add-one (sizes_suc ps i p h) in
    subst (EndsWithin (sizes_of (take (i + 1) ps) * 1_000_000_000_000)) (sym eu)
    (record {
      low = record { low = omega (arith, linear, e, k.low.low, l.low.low); high = omega (arith, linear, e, k.low.high, l.low.high) };
      high = record { low = omega (arith, linear, e, k.high.low, l.high.low); high = omega (arith, linear, e, k.high.high, l.high.high) };
    })

-- ---- net positions that count

pub counted_length : (b : Bool) (ps : List ℤ) (cs : List Bool) → length cs ≡ length ps → length (counted_positions b ps cs) ≡ length ps
counted_length b [] cs e = refl
counted_length b (p ∷ ps) [] e = absurd (omega (arith, e))
counted_length b (p ∷ ps) (c ∷ cs) e = ap suc (counted_length b ps cs (omega (arith, e)))

counted_at : (b : Bool) (ps : List ℤ) (cs : List Bool) (i : ℕ) (p : ℤ) (c : Bool) (d : ℤ) → i < length ps → length cs ≡ length ps
    → get_or (counted_positions b ps cs) i d ≡ counted_of b (get_or ps i p) (get_or cs i c)
counted_at b [] cs i p c d h e = absurd (omega arith)
counted_at b (x ∷ ps) [] i p c d h e = absurd (omega (arith, e))
counted_at b (x ∷ ps) (y ∷ cs) zero p c d h e = refl
counted_at b (x ∷ ps) (y ∷ cs) (suc i) p c d h e = counted_at b ps cs i p c d (omega arith) (omega (arith, e))

-- the position that counts, at its place of the list of them
pub counted_is : (b : Bool) (ps : List ℤ) (cs : List Bool) (i : ℕ) (v w r : ℤ) → i < length ps → length cs ≡ length ps → v ≡ get_or ps i (pos 0) → r ≡ counted_of b v (get_or cs i false) → w ≡ r
    → w ≡ get_or (counted_positions b ps cs) i (pos 0)
counted_is b ps cs i v w r h e ev er ew = ew ∙ er ∙ ap (λ u. counted_of b u (get_or cs i false)) ev ∙ sym (counted_at b ps cs i (pos 0) false (pos 0) h e)

counted_size : (b : Bool) (p : ℤ) (c : Bool) → nat_abs (counted_of b p c) ≤ nat_abs p
counted_size true p true = omega arith
counted_size true p false = omega arith
counted_size false p true = omega arith
counted_size false p false = omega arith

pub counted_sizes : (b : Bool) (ps : List ℤ) (cs : List Bool) → sizes_of (counted_positions b ps cs) ≤ sizes_of ps
counted_sizes b [] cs = omega arith
counted_sizes b (p ∷ ps) [] = omega arith
counted_sizes b (p ∷ ps) (c ∷ cs) = let e = counted_size b p c in let f = counted_sizes b ps cs in omega (arith, e, f)
