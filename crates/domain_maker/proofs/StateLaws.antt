-- The states of whole inputs are few.
use Rattle.std.proofs.Common.{◌^◌, ◌<◌, length, arith}
use Rattle.fb_certificate.specs.declared.types.Inputs.{Inputs}
use Rattle.fb_certificate.specs.Whole.{IsWhole}
use Rattle.fb_certificate.proofs.WholeLaws.{states_long, few_outages}

pub few_states : (inputs : Inputs) → IsWhole inputs → length inputs.states < 2 ^ 32
few_states inputs whole =
    let long = states_long inputs whole in
    let few = few_outages inputs whole in
    omega (arith, long, few)
