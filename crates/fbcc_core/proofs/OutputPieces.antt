-- The first bytes of a text, put piece by piece.
use Rattle.std.proofs.Common.{◌≡◌, ℕ, zero, suc, ◌+◌, ◌-◌, ◌≤◌, Bool, List, [], ◌∷◌, ◌++◌, length, take, drop, refl, sym, ap, ◌∙◌, arith, append_assoc}
use Rattle.std.specs.Prelude.{min, IsTrue}
use Rattle.std.proofs.Math.Seq.{take-add}
use Rattle.fb_base.specs.Pieces.{AppendsPrefix}

-- so many first bytes of the text were put
pub record IsPutSoFar (told tells : Bool) (old new : List ℕ) (faults faults_now : ℕ) (text : List ℕ) (at : ℕ) : Type 0 where
  pub still_tells : tells ≡ told
  pub never_falls : faults ≤ faults_now
  pub within : at ≤ length text
  pub taken : IsTrue told → new ≡ old ++ take at text

none_taken : (k : ℕ) → [] ≡ take {A = ℕ} k []
none_taken zero = refl
none_taken (suc k) = refl

take_fewer : (m n : ℕ) (xs : List ℕ) → take m (take n xs) ≡ take (min m n) xs
take_fewer zero n xs = let e : 0 ≡ min 0 n = omega arith in ap (λ k. take k xs) e
take_fewer (suc m) zero xs = let e : 0 ≡ min (suc m) 0 = omega arith in ap (λ k. take k xs) e
take_fewer (suc m) (suc n) [] = none_taken (min (suc m) (suc n))
take_fewer (suc m) (suc n) (x ∷ xs) =
    let e : suc (min m n) ≡ min (suc m) (suc n) = omega arith in
    ap (λ ys. x ∷ ys) (take_fewer m n xs) ∙ ap (λ k. take k (x ∷ xs)) e

-- a whole piece more
pub one_piece : (old mid new text : List ℕ) (at end : ℕ) → at ≤ end → mid ≡ old ++ take at text → new ≡ mid ++ take (end - at) (drop at text) → new ≡ old ++ take end text
one_piece old mid new text at end m was is =
    let e : at + (end - at) ≡ end = omega arith in
    is ∙ ap (λ bytes. bytes ++ take (end - at) (drop at text)) was
    ∙ append_assoc old (take at text) (take (end - at) (drop at text))
    ∙ ap (λ bytes. old ++ bytes) (sym (take-add at (end - at) text) ∙ ap (λ k. take k text) e)

-- a prefix of a piece more
pub last_prefix : (old mid new text : List ℕ) (at n : ℕ) → mid ≡ old ++ take at text → AppendsPrefix mid new (take n (drop at text)) → AppendsPrefix old new text
last_prefix old mid new text at n was p = record {
  count = at + min p.count n;
  is = p.is ∙ ap (λ bytes. bytes ++ take p.count (take n (drop at text))) was
      ∙ append_assoc old (take at text) (take p.count (take n (drop at text)))
      ∙ ap (λ bytes. old ++ bytes) (ap (λ bytes. take at text ++ bytes) (take_fewer p.count n (drop at text)) ∙ sym (take-add at (min p.count n) text));
}
