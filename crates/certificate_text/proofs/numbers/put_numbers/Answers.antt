use Rattle.std.proofs.Common.{rules, ◌++◌, string_bytes, sym, ap, ◌∙◌, append_assoc}
use Rattle.std.specs.Fmt.{signed_decimal}
use Rattle.std.specs.Int.{w128}
use Rattle.std.proofs.lemmas.Int.{to_z-of_z}
use Rattle.std.proofs.lemmas.List.{take_all}
use Rattle.certificate_text.specs.Lines.{numbers_text}
use Rattle.certificate_text.specs.Pieces.{spaced_text}
use Rattle.certificate_text.proofs.Appending.{numbers_spaced}
use Rattle.certificate_text.proofs.numbers.put_numbers.Goals as goal

pub returns : goal.returns
returns c =
    let first = c.in-Some.first.now in
    let rest = c.in-Some.rest.now in
    c.loop-number.invariant
    ∙ ap (λ xs. string_bytes c.put_whole.new.text ++ spaced_text xs) (take_all c.loop-number.number-index rest c.loop-number-test.false)
    ∙ ap (λ t. t ++ spaced_text rest) c.in_ok-put_whole.ensures.ok
    ∙ ap (λ z. (string_bytes c.args.text.now ++ signed_decimal z) ++ spaced_text rest) (to_z-of_z w128 first (search rules))
    ∙ append_assoc (string_bytes c.args.text.now) (signed_decimal first) (spaced_text rest)
    ∙ ap (λ t. string_bytes c.args.text.now ++ t) (sym (numbers_spaced first rest))
    ∙ ap (λ xs. string_bytes c.args.text.now ++ numbers_text xs) (sym c.in-Some.ensures.cases.0)
