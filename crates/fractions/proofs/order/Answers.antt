use Rattle.fractions.specs.FractionLaws.{Same_refl, Same_sym, Same_trans, AtMost-Same, AtMost_trans, AtMost_antisym, AtMost_total}
use Rattle.fractions.proofs.order.Goals as goal

pub returns : goal.returns
returns c = record {
  same_itself = Same_refl;
  same_both_ways = λ p q h. Same_sym h;
  same_along = λ p q r h k. Same_trans h k;
  at_most_same = λ p q h. AtMost-Same h;
  at_most_along = λ p q r h k. AtMost_trans h k;
  at_most_both_ways = λ p q h k. AtMost_antisym h k;
  at_most_either_way = AtMost_total;
}
