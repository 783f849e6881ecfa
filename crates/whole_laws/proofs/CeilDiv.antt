-- What the quotient and the remainder of 128 bits make of a quotient rounded up.
use Rattle.std.proofs.Common.{◌≡◌, ℤ, pos, ◌+ℤ◌, ◌<ℤ◌, sym, ap, ◌∙◌, arith, lit<}
use mir.Syntax.{w128}
use mir.Val.{SFits, to_z, of_z}
use Rattle.std.specs.Int.{int_rem_euclid, int_div_euclid}
use Rattle.std.proofs.lemmas.Int.{ints, to_z-of_z}
use Rattle.whole_laws.specs.Quotients.{ceil_of}
use Rattle.whole_laws.specs.QuotientLaws.{ceil_exact, ceil_raised, ceil_fits}

pub ceil_is_exact : (x d q r : ℤ) → SFits w128 x → SFits w128 d → SFits w128 q → pos 0 <ℤ d → q ≡ int_div_euclid (to_z w128 (of_z w128 x)) (to_z w128 (of_z w128 d))
    → r ≡ int_rem_euclid (to_z w128 (of_z w128 x)) (to_z w128 (of_z w128 d)) → of_z w128 r ≡ 0 → SFits w128 r → to_z w128 (of_z w128 q) ≡ ceil_of x d
ceil_is_exact x d q r fx fd fq h eq er e fr =
    let k = simp to_z-of_z at eq in
    let l = simp to_z-of_z at er in
    let z : r ≡ pos 0 = omega (arith, ints) in
    to_z-of_z w128 q fq ∙ k ∙ ceil_exact x d h (sym l ∙ z)

pub ceil_is_raised : (x d q r : ℤ) → SFits w128 x → SFits w128 d → SFits w128 q → pos 0 <ℤ d → q ≡ int_div_euclid (to_z w128 (of_z w128 x)) (to_z w128 (of_z w128 d))
    → r ≡ int_rem_euclid (to_z w128 (of_z w128 x)) (to_z w128 (of_z w128 d)) → (of_z w128 r ≡ 0 → ⊥) → to_z w128 (of_z w128 (to_z w128 (of_z w128 q) +ℤ pos 1)) ≡ ceil_of x d
ceil_is_raised x d q r fx fd fq h eq er n =
    let k = simp to_z-of_z at eq in
    let l = simp to_z-of_z at er in
    let c : q +ℤ pos 1 ≡ ceil_of x d = ap (λ v. v +ℤ pos 1) k ∙ ceil_raised x d h (λ z. n (ap (of_z w128) (l ∙ z))) in
    ap (λ v. to_z w128 (of_z w128 (v +ℤ pos 1))) (to_z-of_z w128 q fq) ∙ ap (λ v. to_z w128 (of_z w128 v)) c ∙ to_z-of_z w128 (ceil_of x d) (ceil_fits w128 x d (lit< tt) fx h)
