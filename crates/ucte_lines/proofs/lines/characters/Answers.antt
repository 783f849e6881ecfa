use Rattle.std.proofs.Common.{◌∙◌}
use Rattle.std.proofs.lemmas.Result.{IfOk-weaker}
use Rattle.ucte_lines.proofs.Cuts.{utf8_is, latin1_is}
use Rattle.ucte_lines.proofs.lines.characters.Goals as goal

pub returns-in-Ok : goal.returns-in-Ok
returns-in-Ok c = IfOk-weaker c.text_characters.result _ _ (λ v h. h ∙ utf8_is c.args.bytes.now c.in-Ok.text.now c.in-Ok.ensures.cases.0 c.in-Ok.ensures.cases.1) c.text_characters.ensures

pub returns-in-Err : goal.returns-in-Err
returns-in-Err c = IfOk-weaker c.byte_characters.result _ _ (λ v h. h ∙ latin1_is c.args.bytes.now c.in-Err.ensures.cases.0) c.byte_characters.ensures
