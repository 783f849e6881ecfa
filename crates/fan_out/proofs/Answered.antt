-- Answers of items, one after another.
use Rattle.std.proofs.Common.{◌≡◌, ℕ, ◌+◌, ◌<◌, List, [], ◌∷◌, ◌++◌, length, take, get_or, sym, ap, ◌∙◌, subst}
use Rattle.std.proofs.lemmas.List.{take_more}
use Rattle.std.proofs.lemmas.Slice.Zip.{all_zipped_more}
use Rattle.fan_out.specs.Answers.{AreAnswers}

module _ {Item Out : Type 0} (gives : Item → Out → Type 0) where
  -- the answers of some items, and then those of others
  pub answers_behind : (xs ys : List Item) (os ps : List Out) → AreAnswers gives xs os → AreAnswers gives ys ps
      → AreAnswers gives (xs ++ ys) (os ++ ps)
  answers_behind [] ys [] ps a b = b
  answers_behind [] ys (o ∷ os) ps a b = absurd a
  answers_behind (x ∷ xs) ys [] ps a b = absurd a
  answers_behind (x ∷ xs) ys (o ∷ os) ps a b = (a.0, answers_behind xs ys os ps a.1 b)

  -- the answers of the items before a place, and the one of the item there
  pub answer_more : (items : List Item) (i : ℕ) (item : Item) (outs : List Out) (out : Out) → i < length items
      → item ≡ get_or items i item → AreAnswers gives (take i items) outs → gives item out
      → AreAnswers gives (take (i + 1) items) (outs ++ out ∷ [])
  answer_more items i item outs out lt is before now =
      subst (λ l. AreAnswers gives l (outs ++ out ∷ []))
      (ap (λ z. take i items ++ z ∷ []) is ∙ sym (take_more items i item lt))
      (all_zipped_more gives (take i items) outs item out before now)

  -- the answers of the front and of the back of a list
  pub answers_both : (items front back : List Item) (outs ps all : List Out) → items ≡ front ++ back
      → all ≡ outs ++ ps → AreAnswers gives front outs → AreAnswers gives back ps → AreAnswers gives items all
  answers_both items front back outs ps all parts joined a b =
      rw (parts, joined) (answers_behind front back outs ps a b)
