-- The coefficients of a row, zone by zone.
use Rattle.std.proofs.Common.{◌≡◌, ℕ, ◌+◌, ◌<◌, ◌≤◌, ℤ, List, [], ◌∷◌, ◌++◌, length, take, get_or, set, map, sym, subst, ap, ◌∙◌, take_all}
use Rattle.std.specs.List.{All}
use Rattle.std.proofs.lemmas.List.{take_more_set, map_more}
use Rattle.std.proofs.lemmas.List.Elements.{All-push}
use Rattle.domain_rows.specs.Brackets.{coefficient_of}

pub coefficients_more : (a : List ℤ) (ss : List (ℤ × ℤ)) (i : ℕ) (m : ℤ) (s : ℤ × ℤ) → i < length a → i < length ss → take i a ≡ map coefficient_of (take i ss) → m ≡ coefficient_of (get_or ss i s)
    → take (i + 1) (set a i m) ≡ map coefficient_of (take (i + 1) ss)
coefficients_more a ss i m s p q h e = take_more_set a i m p ∙ ap (λ v. take i a ++ v ∷ []) e ∙ ap (λ v. v ++ coefficient_of (get_or ss i s) ∷ []) h ∙ sym (map_more coefficient_of ss i s q)

pub coefficients_all : (a : List ℤ) (ss : List (ℤ × ℤ)) (i : ℕ) → length a ≤ i → length ss ≤ i → take i a ≡ map coefficient_of (take i ss) → a ≡ map coefficient_of ss
coefficients_all a ss i p q h = sym (take_all i a p) ∙ h ∙ ap (map coefficient_of) (take_all i ss q)

pub each_more : (P : ℤ → Type 0) (a : List ℤ) (i : ℕ) (m : ℤ) → i < length a → All P (take i a) → P m → All P (take (i + 1) (set a i m))
each_more P a i m l h p = subst (All P) (sym (take_more_set a i m l)) (All-push P (take i a) m h p)

pub each_all : (P : ℤ → Type 0) (a : List ℤ) (i : ℕ) → length a ≤ i → All P (take i a) → All P a
each_all P a i l h = subst (All P) (take_all i a l) h
