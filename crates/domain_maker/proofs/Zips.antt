-- Relations between the items of two lists, place by place.
use Rattle.std.proofs.Common.{◌≡◌, ℕ, ◌+◌, List, [], ◌∷◌, ◌++◌, map, sym, ap, ◌∙◌, map-id, arith}
use Rattle.std.specs.List.{AllZip, range_with_len}
use Rattle.std.proofs.lemmas.List.FromFn.{map-range_with_len_more}

pub zip_weaker : {X Y : Type 0} (R Q : X → Y → Type 0) → ((x : X) (y : Y) → R x y → Q x y) → (xs : List X) (ys : List Y) → AllZip R xs ys → AllZip Q xs ys
zip_weaker R Q f [] [] h = tt
zip_weaker R Q f [] (y ∷ ys) h = absurd h
zip_weaker R Q f (x ∷ xs) [] h = absurd h
zip_weaker R Q f (x ∷ xs) (y ∷ ys) h = (f x y h.0, zip_weaker R Q f xs ys h.1)

-- of the values of a function on the first list
pub zip_from_map : {W X Y : Type 0} (R : X → Y → Type 0) (f : W → X) (ws : List W) (ys : List Y) → AllZip R (map f ws) ys → AllZip (λ w y. R (f w) y) ws ys
zip_from_map R f [] [] h = tt
zip_from_map R f [] (y ∷ ys) h = absurd h
zip_from_map R f (w ∷ ws) [] h = absurd h
zip_from_map R f (w ∷ ws) (y ∷ ys) h = (h.0, zip_from_map R f ws ys h.1)

-- of the values of a function on the second list
pub zip_to_map : {X Y Z : Type 0} (R : X → Z → Type 0) (f : Y → Z) (xs : List X) (ys : List Y) → AllZip (λ x y. R x (f y)) xs ys → AllZip R xs (map f ys)
zip_to_map R f [] [] h = tt
zip_to_map R f [] (y ∷ ys) h = absurd h
zip_to_map R f (x ∷ xs) [] h = absurd h
zip_to_map R f (x ∷ xs) (y ∷ ys) h = (h.0, zip_to_map R f xs ys h.1)

-- the numbers below one more
pub range_next : (n : ℕ) → range_with_len 0 (n + 1) ≡ range_with_len 0 n ++ n ∷ []
range_next n =
    sym (map-id (range_with_len 0 (n + 1)))
    ∙ (map-range_with_len_more (λ k. k) 0 n n (omega arith)
    ∙ ap (λ (ks : List ℕ). ks ++ n ∷ []) (map-id (range_with_len 0 n)))
