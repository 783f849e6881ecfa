use Rattle.std.proofs.Common.{◌≡◌, ◌^◌, ◌∙◌, ap, arith, pos}
use Rattle.std.specs.Prelude.{unwrap_or}
use Rattle.std.proofs.lemmas.Int.{ints}
use Rattle.net_table.specs.Totals.{totals_in}
use Rattle.net_table.proofs.Adding.{before_of, before_within, added}
use Rattle.net_table.proofs.totals.add.Goals as goal

pub overflow_add-after : goal.overflow_add-after
overflow_add-after c =
    let is : c.unwrap_or-before.result ≡ before_of c.args.code.now c.args.totals.now.entries = c.unwrap_or-before.ensures ∙ ap (λ o. unwrap_or o (pos 0)) (c.copied.ensures ∙ c.get.ensures.value) in
    let small = before_within (10 ^ 12) c.args.totals.now.entries c.args.code.now c.requires.totals in
    omega (arith, ints, is, small.low, small.high)

pub returns : goal.returns
returns c =
    let is : c.unwrap_or-before.result ≡ before_of c.args.code.now c.args.totals.now.entries = c.unwrap_or-before.ensures ∙ ap (λ o. unwrap_or o (pos 0)) (c.copied.ensures ∙ c.get.ensures.value) in
    let small = before_within (10 ^ 12) c.args.totals.now.entries c.args.code.now c.requires.totals in
    ap totals_in c.in_ok-insert.ensures.entries
    ∙ added c.args.totals.now.entries c.in_ok-from_str.field-0 c.args.code.now c.args.amount _ c.in_ok-from_str.ensures.ok (omega (arith, ints, is, small.low, small.high))
