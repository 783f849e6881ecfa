use Rattle.std.proofs.Common.{◌≡◌, ◌≤◌, map, Ok, arith}
use Rattle.std.proofs.lemmas.Result.{IfOk-weaker}
use Rattle.grid_laplacian.specs.Ranges.{IsOfGrid, IsInRange}
use Rattle.fb_certificate.proofs.WholeLaws.{states_long, few_outages, state_of_grid, state_in_range}
use Rattle.fan_out.proofs.Made.{values_made}
use Rattle.certificate_check.specs.Judged.{number_of, IsStateJudged, AreEachJudged}
use Rattle.certificate_check.proofs.Claims.{few_claims, claim_state, claims_judged}
use Rattle.certificate_check.proofs.states.judge_each.Goals as goal

pub fan-requires-clause-places : goal.fan-requires-clause-places
fan-requires-clause-places g c κs within =
    let few = few_claims c.args.inputs.now.states c.args.proofs.now c.in_ok-claims.claims
    (rw c.as_slice.ensures.items at c.in_ok-claims.ensures) in
    let states = states_long c.args.inputs.now c.requires.whole in
    let outages = few_outages c.args.inputs.now c.requires.whole in
    omega (arith, few, states, outages)

pub fan-requires-clause-ready : goal.fan-requires-clause-ready
fan-requires-clause-ready g c κs within k d l =
    let inputs = c.args.inputs.now in
    let whole = c.requires.whole in
    let claims = c.in_ok-claims.claims in
    let same = rw c.as_slice.ensures.items at c.in_ok-claims.ensures in (
      whole,
      claim_state inputs.states c.args.proofs.now claims same (IsOfGrid inputs.grid) k d
          (λ e m. state_of_grid inputs whole k e m) l,
      claim_state inputs.states c.args.proofs.now claims same (IsInRange inputs.grid) k d
          (λ e m. state_in_range inputs whole k e m) l,
    )

pub returns : goal.returns
returns g c =
    let inputs = c.args.inputs.now in
    let proofs = c.args.proofs.now in
    let claims = c.in_ok-claims.claims in
    let answers = c.in_ok-answers.answers in
    IfOk-weaker c.all_made.result (λ made. answers ≡ map Ok made) (AreEachJudged inputs proofs)
    (λ made same.
    claims_judged inputs proofs made claims (rw c.as_slice.ensures.items at c.in_ok-claims.ensures)
    (values_made (λ claim j. IsStateJudged inputs claim.state.now claim.proof.now j × (number_of j ≤ 303)) claims answers
    made same c.in_ok-answers.ensures))
    c.all_made.ensures
