use Rattle.std.proofs.Common.{◌≡◌, ◌++◌, [], ◌∷◌, true, false, take, get_or, sym, ap, ◌∙◌}
use Rattle.std.specs.Prelude.{codes}
use Rattle.csv_rows.specs.Tables.{table_text, record_text}
use Rattle.csv_rows.specs.TableLaws.{record_more}
use Rattle.net_table.specs.NetTexts.{note_rows}
use Rattle.net_table.proofs.TableRows.{note_more, note_none}
use Rattle.net_table.proofs.put_notes.Goals as goal

pub loop-branch-preserved-then-not-branch : goal.loop-branch-preserved-then-not-branch
loop-branch-preserved-then-not-branch c =
    let branches = c.args.branches.now in
    let k = c.loop-branch.branch-index in
    let branch = c.branch-item.result in
    let unraised : (get_or branches k branch).floored ≡ false = ap (λ b. b.floored) (sym c.branch-item.is) ∙ c.if-not-branch.true in
    c.loop-branch.invariant
    ∙ ap (λ rs. c.args.table.now.text ++ table_text rs) (sym (note_none branches k branch c.loop-branch-test.true unraised))

pub loop-branch-preserved : goal.loop-branch-preserved
loop-branch-preserved c =
    let branches = c.args.branches.now in
    let k = c.loop-branch.branch-index in
    let branch = c.branch-item.result in
    let raised : (get_or branches k branch).floored ≡ true = ap (λ b. b.floored) (sym c.branch-item.is) ∙ c.if-not-branch.false in
    let note = c.as_slice.ensures in
    let id = c.as_bytes.ensures.value ∙ c.as_text.ensures.bytes ∙ ap (λ b. b.id) c.branch-item.is in
    record_more c.args.table.now.text c.loop-branch.table.text _ (note_rows (take k branches)) (codes "note" ∷ (get_or branches k branch).id ∷ [])
    c.loop-branch.invariant (c.in_ok-put_slices.ensures.ok ∙ (λ i. c.loop-branch.table.text ++ record_text (note i ∷ id i ∷ [])))
    ∙ ap (λ rs. c.args.table.now.text ++ table_text rs) (sym (note_more branches k branch c.loop-branch-test.true raised))
