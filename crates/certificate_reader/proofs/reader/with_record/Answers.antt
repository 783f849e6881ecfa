use Rattle.std.proofs.Common.{sym, ap, ◌∙◌, subst}
use Rattle.certificate_text.specs.Lines.{fields_of, IsGood}
use Rattle.certificate_reader.specs.Drafts.{admits}
use Rattle.certificate_reader.specs.Records.{line_of}
use Rattle.certificate_reader.proofs.LineLaws.{line_same}
use Rattle.certificate_reader.proofs.RecordOf.{record_of, line_back}
use Rattle.certificate_reader.proofs.reader.with_record.Goals as goal

pub returns-in_default : goal.returns-in_default
returns-in_default c = λ l g t e.
    (rw c.in_default.is at c.in_ok-record.ensures.spelled) (record_of l) (subst IsGood (sym (line_back l)) g) (e ∙ ap fields_of (sym (line_back l)))

pub returns-then-not-takes : goal.returns-then-not-takes
returns-then-not-takes c = λ l g t e.
    let read = rw c.in-Some.is at c.in_ok-record.ensures.spelled in
    let same = line_same l (line_of c.in-Some.record) g read.0 (sym e ∙ read.1) in
    let taken = ap (admits c.args.draft) (sym same) ∙ t in
    let tested = c.takes.ensures in
    let not_taken = c.if-not-takes.true in
    cc

pub returns : goal.returns
returns c =
    let read = rw c.in-Some.is at c.in_ok-record.ensures.spelled in
    (line_of c.in-Some.record, read.0, sym c.takes.ensures ∙ c.if-not-takes.false, read.1, c.in_ok-next.ensures)
