use Rattle.std.proofs.Common.{◌≡◌, ◌+◌, sym, ap, ◌∙◌}
use Rattle.std.specs.Prelude.{Some}
use Rattle.rows_document.specs.Table.{lines_of}
use Rattle.rows_document.specs.Drafts.{finished}
use Rattle.rows_document.proofs.Drafted.{all_lines, finish_found, whole_finishes}
use Rattle.rows_document.proofs.Parts.{target_over, rows_over, are_bounds}
use Rattle.rows_document.proofs.ReadSoFar.{unfinished, first_bad_line_same, err_bad}
use Rattle.rows_document.proofs.reader.read_rows.Goals as goal

pub returns-in-Err-clause-bad : goal.returns-in-Err-clause-bad
returns-in-Err-clause-bad c = err_bad c.args.bytes.now c.in-Err.e c.in-Err.ensures.fault

pub returns-in-Some-clause-reads : goal.returns-in-Some-clause-reads
returns-in-Some-clause-reads c = λ d r.
    let draft = c.in-Ok.drafted.draft in
    let here : finished draft ≡ Some d = ap finished (all_lines _ draft d c.in-Ok.ensures.drafted r.document r.spelled) ∙ whole_finishes d in
    let there : finished draft ≡ Some c.in-Some.document = sym c.finish.ensures ∙ c.in-Some.is in
    cc

pub returns-in-None-clause-says : goal.returns-in-None-clause-says
returns-in-None-clause-says c = unfinished c.args.bytes.now c.in-Ok.drafted.lines c.in-Ok.drafted.draft c.in-Ok.ensures.drafted c.in-Ok.ensures.counted (sym c.finish.ensures ∙ c.in-None.is)

pub returns-in-None-clause-reads : goal.returns-in-None-clause-reads
returns-in-None-clause-reads c = (unfinished c.args.bytes.now c.in-Ok.drafted.lines c.in-Ok.drafted.draft c.in-Ok.ensures.drafted c.in-Ok.ensures.counted (sym c.finish.ensures ∙ c.in-None.is)).unread

pub returns-in-None-clause-bad : goal.returns-in-None-clause-bad
returns-in-None-clause-bad c = λ line b. first_bad_line_same (lines_of c.args.bytes.now) (c.in-Ok.drafted.lines + 1) line (unfinished c.args.bytes.now c.in-Ok.drafted.lines c.in-Ok.drafted.draft c.in-Ok.ensures.drafted c.in-Ok.ensures.counted (sym c.finish.ensures ∙ c.in-None.is)) b

pub returns-in-Some-clause-target_over : goal.returns-in-Some-clause-target_over
returns-in-Some-clause-target_over c = target_over c.in-Some.document (finish_found _ c.in-Ok.drafted.draft c.in-Some.document c.in-Ok.ensures.drafted (sym c.finish.ensures ∙ c.in-Some.is)).document

pub returns-in-Some-clause-rows_over : goal.returns-in-Some-clause-rows_over
returns-in-Some-clause-rows_over c = rows_over c.in-Some.document (finish_found _ c.in-Ok.drafted.draft c.in-Some.document c.in-Ok.ensures.drafted (sym c.finish.ensures ∙ c.in-Some.is)).document

pub returns-in-Some-clause-bounds_in_range : goal.returns-in-Some-clause-bounds_in_range
returns-in-Some-clause-bounds_in_range c = are_bounds c.in-Some.document (finish_found _ c.in-Ok.drafted.draft c.in-Some.document c.in-Ok.ensures.drafted (sym c.finish.ensures ∙ c.in-Some.is)).document
