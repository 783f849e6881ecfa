-- Answers that are all there.
use Rattle.std.proofs.Common.{◌≡◌, List, [], ◌∷◌, ◌++◌, map, refl}
use Rattle.std.proofs.lemmas.List.{map-append}
use Rattle.std.specs.Prelude.{Ok, IfOk}
use Rattle.std.specs.List.{AllZip}
use Rattle.std.specs.declared.result.Result.{Result}
use Rattle.fan_out.specs.Answers.{AreAnswers}

values_of_answers : {Item Value : Type 0} (Error : Type 0) (R : Item → Value → Type 0) (items : List Item)
    (made : List Value)
    → AreAnswers (λ item (answer : Result Value Error). IfOk answer (R item)) items (map Ok made)
    → AllZip R items made
values_of_answers Error R [] [] given = tt
values_of_answers Error R [] (v ∷ vs) given = absurd given
values_of_answers Error R (x ∷ xs) [] given = absurd given
values_of_answers Error R (x ∷ xs) (v ∷ vs) given = (given.0, values_of_answers Error R xs vs given.1)

-- where each answer keeps a relation if it is there, and all are there, the values keep it
pub values_made : {Item Value Error : Type 0} (R : Item → Value → Type 0) (items : List Item)
    (answers : List (Result Value Error)) (made : List Value)
    → answers ≡ map Ok made → AreAnswers (λ item answer. IfOk answer (R item)) items answers → AllZip R items made
values_made R items answers made same given = values_of_answers _ R items made (rw same at given)

-- one more value is made
pub one_made : {Value Error : Type 0} (answers : List (Result Value Error)) (made after : List Value)
    (answer : Result Value Error) (value : Value)
    → answers ≡ map Ok made → answer ≡ Ok value → after ≡ made ++ value ∷ [] → answers ++ answer ∷ [] ≡ map Ok after
one_made answers made after answer value so_far is added = rw (so_far, is, added, map-append) refl
