-- What the quotient and the remainder of a width make of a quotient rounded up.
use Rattle.std.proofs.Common.{◌≡◌, ◌<◌, ◌^◌, ℤ, pos, ◌+ℤ◌, ◌<ℤ◌, sym, ap, ◌∙◌, arith}
use mir.Syntax.{Width}
use mir.Val.{SFits, to_z, of_z, hbits}
use Rattle.std.specs.Int.{int_rem_euclid, int_div_euclid}
use Rattle.std.proofs.lemmas.Int.{to_z-of_z, to_z_pos}
use Rattle.whole_laws.specs.Quotients.{ceil_of}
use Rattle.whole_laws.specs.QuotientLaws.{ceil_exact, ceil_raised, ceil_fits}

pub ceil_is_exact : (w : Width) (x d q r : ℤ) → 1 < 2 ^ hbits w → SFits w x → SFits w d → SFits w q → pos 0 <ℤ d → q ≡ int_div_euclid (to_z w (of_z w x)) (to_z w (of_z w d))
    → r ≡ int_rem_euclid (to_z w (of_z w x)) (to_z w (of_z w d)) → of_z w r ≡ 0 → SFits w r → to_z w (of_z w q) ≡ ceil_of x d
ceil_is_exact w x d q r two fx fd fq h eq er e fr =
    let k = simp to_z-of_z at eq in
    let l = simp to_z-of_z at er in
    let z : r ≡ pos 0 = sym (to_z-of_z w r fr) ∙ ap (to_z w) e ∙ to_z_pos w 0 (omega arith) in
    to_z-of_z w q fq ∙ k ∙ ceil_exact x d h (sym l ∙ z)

pub ceil_is_raised : (w : Width) (x d q r : ℤ) → 1 < 2 ^ hbits w → SFits w x → SFits w d → SFits w q → pos 0 <ℤ d → q ≡ int_div_euclid (to_z w (of_z w x)) (to_z w (of_z w d))
    → r ≡ int_rem_euclid (to_z w (of_z w x)) (to_z w (of_z w d)) → (of_z w r ≡ 0 → ⊥) → to_z w (of_z w (to_z w (of_z w q) +ℤ pos 1)) ≡ ceil_of x d
ceil_is_raised w x d q r two fx fd fq h eq er n =
    let k = simp to_z-of_z at eq in
    let l = simp to_z-of_z at er in
    let c : q +ℤ pos 1 ≡ ceil_of x d = ap (λ v. v +ℤ pos 1) k ∙ ceil_raised x d h (λ z. n (ap (of_z w) (l ∙ z))) in
    ap (λ v. to_z w (of_z w (v +ℤ pos 1))) (to_z-of_z w q fq) ∙ ap (λ v. to_z w (of_z w v)) c ∙ to_z-of_z w (ceil_of x d) (ceil_fits w x d two fx h)
