use Rattle.std.proofs.Common.{◌*◌, ◌^◌, ◌++◌, ◌∷◌, sym, ap, ◌∙◌, lit<, to_z-of_z}
use Rattle.std.specs.Fmt.{signed_decimal}
use Rattle.number_lists.specs.Lists.{numbers_text}
use Rattle.number_lists.specs.WordLaws.{word_same}
use Rattle.whole_numbers.specs.SpelledLaws.{fits_64}
use Rattle.domain_report.specs.DomainTexts.{class_word}
use Rattle.certificate_reader.proofs.Leaves.{class_is_word, side_is_word, row_parts, row_made}
use Rattle.certificate_reader.proofs.values.read_proof.Goals as goal

pub returns-in_default-read_sides : goal.returns-in_default-read_sides
returns-in_default-read_sides c = record {
  spelled = λ x g e.
      let rest = c.in-Some.ensures.some.only_rest (class_word x.class) (signed_decimal x.r_in ++ 32 ∷ (signed_decimal x.r_out ++ 32 ∷ numbers_text x.a)) (class_is_word x.class) (e ∙ row_parts x g.some) in
      c.in_default-read_sides.ensures.spelled (record { r_in = x.r_in; r_out = x.r_out; rest = record { ref_ptr = c.in-Some.rest.ref_ptr; now = numbers_text x.a } }) (record { inner = g.inner; outer = g.outer }) rest;
}

pub returns-in_default-2 : goal.returns-in_default-2
returns-in_default-2 c = record {
  spelled = λ x g e.
      let rest = c.in-Some.ensures.some.only_rest (class_word x.class) (signed_decimal x.r_in ++ 32 ∷ (signed_decimal x.r_out ++ 32 ∷ numbers_text x.a)) (class_is_word x.class) (e ∙ row_parts x g.some) in
      let sides = c.in-Some-read_sides.sides in
      let read = c.in-Some-read_sides.ensures.spelled in
      let inner = word_same 32 (signed_decimal sides.r_in) (signed_decimal x.r_in) _ _ (side_is_word sides.r_in read.0.inner) (side_is_word x.r_in g.inner) (sym read.1 ∙ rest) in
      let outer = word_same 32 (signed_decimal sides.r_out) (signed_decimal x.r_out) _ _ (side_is_word sides.r_out read.0.outer) (side_is_word x.r_out g.outer) inner.1 in
      (rw c.in_default-2.is at c.in_ok-a.ensures.spelled) x.a (record { some = g.some; small = g.coefficients }) outer.1;
}

pub returns : goal.returns
returns c =
    let class = c.in-Some-read_class.class in
    let sides = c.in-Some-read_sides.sides in
    let first = c.in-Some-read_class.ensures.spelled in
    let read = c.in-Some-read_sides.ensures.spelled in
    let a = rw c.in-Some-2.is at c.in_ok-a.ensures.spelled in
    let inner_fits = fits_64 (2 * 10 ^ 13) sides.r_in read.0.inner (lit< tt) in
    let outer_fits = fits_64 (2 * 10 ^ 13) sides.r_out read.0.outer (lit< tt) in
    record {
      spelled = row_made c.args.value.now class sides.r_in sides.r_out _ _ c.in-Some-2.a (to_z-of_z inner_fits) (to_z-of_z outer_fits) read.0.inner read.0.outer a.0
          (c.in-Some.ensures.some.whole
          ∙ (λ i. first.1 i ++ 32 ∷ read.1 i)
          ∙ ap (λ t. class_word class ++ 32 ∷ (signed_decimal sides.r_in ++ 32 ∷ (signed_decimal sides.r_out ++ 32 ∷ t))) a.1);
    }
