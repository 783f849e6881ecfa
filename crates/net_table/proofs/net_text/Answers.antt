use Rattle.std.proofs.Common.{◌≡◌, ℕ, List, ◌++◌, [], ◌∷◌, subst, sym, ap, ◌∙◌, append_assoc}
use Rattle.std.specs.Prelude.{IfOk}
use Rattle.csv_rows.specs.Tables.{table_text, record_text}
use Rattle.csv_rows.specs.TableLaws.{table_text-append}
use Rattle.net_table.specs.NetTexts.{rows_of, nets_of, note_rows, header, net_text}
use Rattle.net_table.proofs.net_text.Goals as goal

pub returns : goal.returns
returns c =
    let nodes = c.args.grid.now.nodes in
    let branches = c.args.grid.now.branches in
    let code = c.as_slice.ensures in
    let net = c.as_slice-2.ensures in
    let first : c.put_slices.new.self.text ≡ record_text header = c.in_ok-put_slices.ensures.ok ∙ (λ i. c.new-table.ensures.text i ++ record_text (code i ∷ net i ∷ [])) in
    let whole : c.put_notes.new.table.text ≡ net_text nodes branches =
    c.in_ok-put_notes.ensures
    ∙ (λ i. c.in_ok-put_totals.ensures i ++ table_text (note_rows (c.as_slice-3.ensures.items i)))
    ∙ (λ i. (first i ++ table_text (rows_of (c.in_ok-totals.ensures i))) ++ table_text (note_rows branches))
    ∙ append_assoc (record_text header) (table_text (rows_of (nets_of nodes))) (table_text (note_rows branches))
    ∙ ap (λ t. record_text header ++ t) (sym (table_text-append (rows_of (nets_of nodes)) (note_rows branches))) in
    subst (λ (t : List ℕ). IfOk c.into_text.result (λ text. text.items ≡ t)) whole c.into_text.ensures.ok
