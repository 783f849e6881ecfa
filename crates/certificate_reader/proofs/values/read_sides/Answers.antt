use Rattle.std.proofs.Common.{◌++◌, ◌∷◌, sym, ◌∙◌}
use Rattle.std.specs.Fmt.{signed_decimal}
use Rattle.number_lists.specs.WordLaws.{word_same}
use Rattle.certificate_reader.proofs.Leaves.{side_is_word}
use Rattle.certificate_reader.proofs.values.read_sides.Goals as goal

pub returns-in_default : goal.returns-in_default
returns-in_default c = record {
  spelled = λ x g e. c.in_default.ensures.spelled (record { value = x.r_in; rest = record { ref_ptr = x.rest.ref_ptr; now = signed_decimal x.r_out ++ 32 ∷ x.rest.now } }) g.inner e;
}

pub returns-in_default-read_side : goal.returns-in_default-read_side
returns-in_default-read_side c = record {
  spelled = λ x g e.
      let read = c.in-Some.ensures.spelled in
      let both = word_same 32 (signed_decimal c.in-Some.inner.value) (signed_decimal x.r_in) c.in-Some.inner.rest.now (signed_decimal x.r_out ++ 32 ∷ x.rest.now) (side_is_word c.in-Some.inner.value read.0) (side_is_word x.r_in g.inner) (sym read.1 ∙ e) in
      c.in_default-read_side.ensures.spelled (record { value = x.r_out; rest = x.rest }) g.outer both.1;
}
