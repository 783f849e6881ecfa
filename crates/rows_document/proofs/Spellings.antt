-- Fields and the numbers that they spell, one by one.
use Rattle.std.proofs.Common.{◌≡◌, ℕ, ◌+◌, ◌<◌, ℤ, pos, List, [], ◌∷◌, ◌++◌, map, take, length, get_or, sym, ap, ◌∙◌, arith}
use Rattle.std.specs.Fmt.{signed_decimal}
use Rattle.std.proofs.lemmas.List.{map_push, get_or-map, take_more, length-map}
use denote.Ref.{Bor}

pub same_length : (fs : List (Bor (List ℕ))) (xs : List ℤ) → map (λ f. f.now) fs ≡ map signed_decimal xs → length fs ≡ length xs
same_length fs xs e = sym (length-map fs (λ (f : Bor (List ℕ)). f.now)) ∙ ap length e ∙ length-map xs signed_decimal

pub same_at : (fs : List (Bor (List ℕ))) (xs : List ℤ) (k : ℕ) (d : Bor (List ℕ)) → map (λ f. f.now) fs ≡ map signed_decimal xs → k < length fs → (get_or fs k d).now ≡ signed_decimal (get_or xs k (pos 0))
same_at fs xs k d e l =
    sym (get_or-map (λ (f : Bor (List ℕ)). f.now) fs k d [] l)
    ∙ ap (λ (ts : List (List ℕ)). get_or ts k []) e
    ∙ get_or-map signed_decimal xs k (pos 0) [] (omega (arith, same_length fs xs e))

pub spelled_more : (a b : List ℤ) (fs : List (Bor (List ℕ))) (k : ℕ) (d : Bor (List ℕ)) (v u : ℤ) → u ≡ v → map signed_decimal a ≡ map (λ f. f.now) (take k fs) → k < length fs → (get_or fs k d).now ≡ signed_decimal v → b ≡ a ++ u ∷ [] → map signed_decimal b ≡ map (λ f. f.now) (take (k + 1) fs)
spelled_more a b fs k d v u same so_far l here pushed =
    let now = λ (f : Bor (List ℕ)). f.now in
    ap (map signed_decimal) pushed ∙ map_push signed_decimal a u
    ∙ ap (λ (t : ℤ). map signed_decimal a ++ signed_decimal t ∷ []) same
    ∙ ap (λ (ts : List (List ℕ)). ts ++ signed_decimal v ∷ []) so_far
    ∙ ap (λ (t : List ℕ). map now (take k fs) ++ t ∷ []) (sym here)
    ∙ sym (ap (map now) (take_more fs k d l) ∙ map_push now (take k fs) (get_or fs k d))
