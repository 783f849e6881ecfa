use Rattle.std.proofs.Common.{◌≡◌, map, Ok}
use Rattle.std.proofs.lemmas.Result.{IfOk-weaker}
use Rattle.state_proofs.specs.StateProofs.{IsStateProof}
use Rattle.fb_certificate.specs.Valid.{AreProofs}
use Rattle.fb_certificate.proofs.WholeLaws.{state_of_grid, state_in_range}
use Rattle.fan_out.proofs.Made.{values_made}
use Rattle.domain_maker.proofs.StateLaws.{few_states}
use Rattle.domain_maker.proofs.states.prove_states.Goals as goal

pub fan-requires-clause-places : goal.fan-requires-clause-places
fan-requires-clause-places g c κs within = few_states c.args.inputs.now c.requires.whole

pub fan-requires-clause-ready : goal.fan-requires-clause-ready
fan-requires-clause-ready g c κs within k d l =
    let inputs = c.args.inputs.now in
    let whole = c.requires.whole in
    (whole, state_of_grid inputs whole k d l, state_in_range inputs whole k d l)

pub returns : goal.returns
returns g c =
    let inputs = c.args.inputs.now in
    IfOk-weaker c.all_made.result (λ made. c.in_ok-answers.answers ≡ map Ok made) (λ proofs. AreProofs inputs proofs)
    (λ made same.
    values_made (λ s proof. IsStateProof s inputs.grid inputs.keys.columns proof) inputs.states
    c.in_ok-answers.answers made same c.in_ok-answers.ensures)
    c.all_made.ensures
