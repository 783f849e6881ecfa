use Rattle.std.proofs.lemmas.Bool.{false≢true}
use Rattle.serde_json.specs.View.{view}
use Rattle.fb_json.proofs.NumberTexts.{is_number_of, is_no_number_of}
use Rattle.fb_json.proofs.builder.check_number.Goals as goal

pub returns-in-Ok-clause-number : goal.returns-in-Ok-clause-number
returns-in-Ok-clause-number c = is_number_of c.args.text.now (view c.in-Ok.field-0) c.requires c.in-Ok.ensures.ok

pub returns-clause-refuses : goal.returns-clause-refuses
returns-clause-refuses c = λ e. is_no_number_of c.args.text.now c.requires (c.in-Err.ensures.err (λ m. false≢true (rw c.if-is_memory.false at (c.is_memory.ensures.1 m))))
