-- Records with which a text begins.
use Rattle.std.proofs.Common.{◌≡◌, ℕ, zero, suc, ◌+◌, ◌≤◌, List, [], ◌∷◌, ◌++◌, map, length, take, refl, sym, ap, ◌∙◌, arith}
use Rattle.std.specs.List.{All}
use Rattle.std.proofs.lemmas.List.Elements.{All-head, All-tail}
use Rattle.certificate_text.specs.Lines.{Line, fields_of, IsGood}
use Rattle.certificate_reader.proofs.LineLaws.{head_same, tail_same, line_same}

-- the lines of a text that begins as these lines do
pub record IsBefore (all before : List Line) (rest : List (List (List ℕ))) : Type 0 where
  pub more : List Line
  pub parts : all ≡ before ++ more
  pub good : All IsGood more
  pub spelled : rest ≡ map fields_of more

pub is_before : (all before : List Line) (rest : List (List (List ℕ))) → All IsGood all → All IsGood before → map fields_of all ≡ map fields_of before ++ rest → IsBefore all before rest
is_before all [] rest h k e = record { more = all; parts = refl; good = h; spelled = sym e }
is_before [] (b ∷ before) rest h k e = cc
is_before (a ∷ all) (b ∷ before) rest h k e =
    let first = line_same a b (All-head IsGood a all h) (All-head IsGood b before k) (head_same (fields_of a) (fields_of b) (map fields_of all) (map fields_of before ++ rest) e) in
    let is = is_before all before rest (All-tail IsGood a all h) (All-tail IsGood b before k) (tail_same (fields_of a) (fields_of b) (map fields_of all) (map fields_of before ++ rest) e) in
    record { more = is.more; parts = λ i. first i ∷ is.parts i; good = is.good; spelled = is.spelled }

-- ---- places in a list

pub take_front : {X : Type 0} (xs ys : List X) → take (length xs) (xs ++ ys) ≡ xs
take_front [] ys = refl
take_front (x ∷ xs) ys = ap (λ l. x ∷ l) (take_front xs ys)

same_place : (n : ℕ) → suc n + 1 ≡ suc (n + 1)
same_place n = omega arith

pub take_one_more : {X : Type 0} (xs : List X) (y : X) (ys : List X) → take (length xs + 1) (xs ++ y ∷ ys) ≡ xs ++ y ∷ []
take_one_more [] y ys = refl
take_one_more (x ∷ xs) y ys = ap (λ (n : ℕ). take n (x ∷ (xs ++ y ∷ ys))) (same_place (length xs)) ∙ ap (λ l. x ∷ l) (take_one_more xs y ys)

pub take_take : {X : Type 0} (k n : ℕ) (xs : List X) → k ≤ n → take k (take n xs) ≡ take k xs
take_take zero n xs l = refl
take_take (suc k) zero xs l = absurd (omega arith)
take_take (suc k) (suc n) [] l = refl
take_take (suc k) (suc n) (x ∷ xs) l = ap (λ ys. x ∷ ys) (take_take k n xs (omega arith))
