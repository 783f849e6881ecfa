use Rattle.std.proofs.Common.{◌≡◌, ◌+◌, length, sym, ap, ◌∙◌, subst, arith}
use Rattle.std.proofs.lemmas.Bool.Decides.{nat_tests}
use Rattle.rows_document.specs.Drafts.{takes, IsReadSoFar}
use Rattle.rows_document.specs.RecordLaws.{line_same}
use Rattle.rows_document.proofs.ReadSoFar.{bad_line, read_on, at_start, at_end}
use Rattle.rows_document.proofs.reader.read_lines.Goals as goal

pub lines-init : goal.lines-init
lines-init c = subst (IsReadSoFar c.args.bytes.now c.args.bytes.now 0) (sym c.new-draft.ensures) (at_start c.args.bytes.now)

pub returns-in-Ok-None-clause-fault : goal.returns-in-Ok-None-clause-fault
returns-in-Ok-None-clause-fault c =
    let read = rw c.in-Ok-None.field-0-is at c.in-Ok-None.ensures in
    let line = c.first_line-line.result in
    bad_line c.args.bytes.now c.lines.rest.now line.text.now line.rest.now c.lines.number c.lines.draft c.lines.invariant c.first_line-line.ensures.parted (λ r good e. absurd (read.spelled r good e))

pub returns-then-not-takes-clause-fault : goal.returns-then-not-takes-clause-fault
returns-then-not-takes-clause-fault c =
    let read = rw c.in-Ok-Some.field-0-is at c.in-Ok-Some.ensures in
    let line = c.first_line-line.result in
    let not_taken = sym c.takes.ensures ∙ c.if-not-takes.true in
    bad_line c.args.bytes.now c.lines.rest.now line.text.now line.rest.now c.lines.number c.lines.draft c.lines.invariant c.first_line-line.ensures.parted
    (λ r good e. ap (takes c.lines.draft) (line_same r c.in-Ok-Some.next good read.spelled.0 (sym e ∙ read.spelled.1)) ∙ not_taken)

pub lines-preserved : goal.lines-preserved
lines-preserved c =
    let read = rw c.in-Ok-Some.field-0-is at c.in-Ok-Some.ensures in
    let line = c.first_line-line.result in
    let taken = sym c.takes.ensures ∙ c.if-not-takes.false in
    subst (IsReadSoFar c.args.bytes.now line.rest.now (c.lines.number + 1)) (sym c.in_default.ensures)
    (read_on c.args.bytes.now c.lines.rest.now line.text.now line.rest.now c.lines.number c.lines.draft c.in-Ok-Some.next c.lines.invariant c.first_line-line.ensures.parted c.first_line-line.ensures.shorter read.spelled.0 read.spelled.1 taken)

pub returns-clause-drafted : goal.returns-clause-drafted
returns-clause-drafted c =
    let tested = c.is_empty.ensures in
    let stopped = c.lines-test.false in
    let empty : length c.lines.rest.now ≡ 0 = grind (arith, nat_tests) in
    (at_end c.args.bytes.now c.lines.rest.now c.lines.number c.lines.draft c.lines.invariant empty).drafted

pub returns-clause-counted : goal.returns-clause-counted
returns-clause-counted c =
    let tested = c.is_empty.ensures in
    let stopped = c.lines-test.false in
    let empty : length c.lines.rest.now ≡ 0 = grind (arith, nat_tests) in
    (at_end c.args.bytes.now c.lines.rest.now c.lines.number c.lines.draft c.lines.invariant empty).counted
