use Rattle.std.proofs.Common.{◌≡◌, ◌<◌, ℕ, List, [], length, map, get_or, Ok, ap, subst, ◌∙◌, arith}
use Rattle.std.specs.List.{AllZip, range_with_len}
use Rattle.std.proofs.lemmas.List.FromFn.{length-range_with_len, get_or-range_with_len}
use Rattle.std.proofs.lemmas.Result.{IfOk-weaker}
use Rattle.fan_out.proofs.Made.{values_made}
use Rattle.domain_maker.specs.Made.{AreMadeAt}
use Rattle.domain_maker.proofs.StateLaws.{few_states}
use Rattle.domain_maker.proofs.state_rows.rows_by_state.Goals as goal

pub overflow_cast-groups : goal.overflow_cast-groups
overflow_cast-groups g c = omega (arith, few_states c.args.inputs.now c.requires.whole, c.requires.groups.as_many)

pub fan-requires-clause-places : goal.fan-requires-clause-places
fan-requires-clause-places g c κs inside =
    omega (arith, ap length c.in_ok-numbers.ensures, length-range_with_len 0 (length c.args.groups.now), few_states c.args.inputs.now c.requires.whole, c.requires.groups.as_many)

pub fan-requires-clause-ready : goal.fan-requires-clause-ready
fan-requires-clause-ready g c κs inside k d l =
    let count = length c.args.groups.now in
    let within : k < count = omega (arith, ap length c.in_ok-numbers.ensures, length-range_with_len 0 count, l) in
    let is = ap (λ (ns : List ℕ). get_or ns k d) c.in_ok-numbers.ensures ∙ get_or-range_with_len 0 count k d within in (
      record { whole = c.requires.whole; zones_are = c.in_ok-zones.ensures; by_state = c.requires.groups },
      omega (arith, is, within, c.requires.groups.as_many),
    )

pub returns : goal.returns
returns g c =
    let inputs = c.args.inputs.now in
    let groups = c.args.groups.now in
    let numbers_are = c.in_ok-numbers.ensures ∙ ap (range_with_len 0) c.requires.groups.as_many in
    IfOk-weaker c.all_made.result (λ made. c.in_ok-answers.answers ≡ map Ok made) _
    (λ made same.
    subst (λ (ns : List ℕ). AllZip (λ number. AreMadeAt inputs number (get_or groups number [])) ns made) numbers_are
    (values_made (λ number. AreMadeAt inputs number (get_or groups number [])) c.in_ok-numbers.numbers
    c.in_ok-answers.answers made same c.in_ok-answers.ensures))
    c.all_made.ensures
