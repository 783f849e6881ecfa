use Rattle.std.proofs.Common.{ℕ, ◌+◌, ◌-◌, length, map, ap, ◌∙◌}
use Rattle.certificate_labels.specs.Kinds.{label_of}
use Rattle.certificate_labels.specs.declared.record.Due.TheVariants as due
use Rattle.certificate_labels.proofs.Listing.{pushed, no_limit, a_limit}
use Rattle.certificate_labels.proofs.dues.put_row.Goals as goal

pub returns-then-is_none : goal.returns-then-is_none
returns-then-is_none c =
    let dues = c.args.dues.now.items in
    no_limit c.args.limit c.is_none.result (length dues - c.args.before + 1) (map label_of dues) c.is_none.ensures c.if-is_none.true

pub returns : goal.returns
returns c =
    let dues = c.args.dues.now.items in
    let before = c.args.before in
    let number = c.len.result - before + 1 in
    a_limit c.args.limit c.is_none.result number (length dues - before + 1) (map label_of dues) (map label_of c.push.new.self.items) c.is_none.ensures c.if-is_none.false
    (pushed label_of dues c.push.new.self.items (due.Row number) c.in_ok-push.ensures.items)
    (ap (λ (n : ℕ). n - before + 1) (c.len.ensures ∙ c.args.dues.now.ok.0))
