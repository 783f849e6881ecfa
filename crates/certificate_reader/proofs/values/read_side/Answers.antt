use Rattle.std.specs.Fmt.{signed_decimal}
use Rattle.certificate_reader.proofs.Leaves.{side_is_word}
use Rattle.certificate_reader.proofs.values.read_side.Goals as goal

pub returns-in_default : goal.returns-in_default
returns-in_default c = record { spelled = λ x g e. c.in_default.ensures.none.none (signed_decimal x.value) x.rest.now (side_is_word x.value g) e }

pub returns-in_default-number_within : goal.returns-in_default-number_within
returns-in_default-number_within c = record {
  spelled = λ x g e. c.in_default-number_within.ensures.spelled x.value g (c.in-Some.ensures.some.only_first (signed_decimal x.value) x.rest.now (side_is_word x.value g) e);
}
