use Rattle.std.specs.Fmt.{decimal, signed_decimal}
use Rattle.certificate_reader.proofs.CitationLaws.{row_is_word}
use Rattle.certificate_reader.proofs.citations.read_multiplier.Goals as goal

pub returns-in_default : goal.returns-in_default
returns-in_default c = record { spelled = λ x g e. c.in_default.ensures.none.none (decimal x.row) (signed_decimal x.value) (row_is_word x.row g.row) e }

pub returns-in_default-natural_number : goal.returns-in_default-natural_number
returns-in_default-natural_number c = record {
  spelled = λ x g e. c.in_default-natural_number.ensures.spelled x.row g.row (c.in-Some.ensures.some.only_first (decimal x.row) (signed_decimal x.value) (row_is_word x.row g.row) e);
}

pub returns-in_default-whole_number : goal.returns-in_default-whole_number
returns-in_default-whole_number c = record {
  spelled = λ x g e. c.in_default-whole_number.ensures.spelled x.value g.value (c.in-Some.ensures.some.only_rest (decimal x.row) (signed_decimal x.value) (row_is_word x.row g.row) e);
}
