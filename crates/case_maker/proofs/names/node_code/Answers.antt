use Rattle.std.proofs.Common.{◌<◌, ◌∷◌, [], ◌++◌, ap, ◌∙◌, arith}
use Rattle.std.specs.Fmt.{decimal}
use Rattle.std.proofs.lemmas.Str.{encode_ascii}
use Rattle.case_maker.specs.Layout.{letter_of}
use Rattle.case_maker.specs.Naming.{node_code, filled}
use Rattle.case_maker.proofs.Printed.{spelled, zeros_in_front}
use Rattle.case_maker.proofs.names.node_code.Goals as goal

pub returns : goal.returns
unfolding node_code
returns c =
    let ascii : c.letter-letter.result < 128 = omega (arith, c.letter-letter.ensures, c.zone.ensures.small) in
    spelled c.format.result _ (node_code c.args.nodes c.args.node) (simp (c.laid_out.ensures, zeros_in_front) at c.format.ensures.ok)
    (ap (λ bs. bs ++ 78 ∷ (filled 48 4 (decimal c.args.node) ++ 49 ∷ 32 ∷ [])) (encode_ascii c.letter-letter.result ascii)
    ∙ ap (λ l. l ∷ 78 ∷ (filled 48 4 (decimal c.args.node) ++ 49 ∷ 32 ∷ [])) (c.letter-letter.ensures ∙ ap letter_of c.zone.ensures.value))
