use Rattle.std.proofs.Common.{◌≡◌, ◌++◌, map, ap, ◌∙◌, arith, string_bytes}
use Rattle.std.specs.List.{range_with_len}
use Rattle.case_maker.specs.CracTexts.{contingency_text}
use Rattle.case_maker.specs.Layout.{outages_of}
use Rattle.case_maker.specs.Pieces.{parted}
use Rattle.case_maker.proofs.Listed.{item_more}
use Rattle.case_maker.proofs.crac.put_contingencies.Goals as goal

pub loop-outage-preserved : goal.loop-outage-preserved
loop-outage-preserved c =
    item_more (contingency_text c.args.nodes) c.loop-outage.outage (string_bytes c.args.text.now) (string_bytes c.loop-outage.text) (string_bytes c.put_separator.new.text) _
    c.loop-outage.invariant c.in_ok-put_separator.ensures c.in_ok-put_contingency.ensures

pub returns : goal.returns
returns c =
    let all : c.loop-outage.outage ≡ outages_of c.args.nodes = omega (arith, c.outages-outage-end.ensures) in
    c.loop-outage.invariant ∙ ap (λ n. string_bytes c.args.text.now ++ parted (map (contingency_text c.args.nodes) (range_with_len 0 n))) all
