use Rattle.std.proofs.Common.{◌≡◌, ◌∙◌, string_bytes, rules}
use Rattle.run_report.specs.Lines.{summary_lines}
use Rattle.run_report.proofs.Texts.{counts_of, summary_is}
use Rattle.run_report.proofs.case_summary.write_summary.Goals as goal

pub returns : goal.returns
returns c =
    let case = c.args.case in
    let nodes = c.args.nodes in
    let certificate = c.args.certificate.now in
    let bytes : c.into_bytes.result.items ≡ string_bytes c.in_ok-text.text = search rules in
    let h = c.summary_of-summary.ensures in
    let counts : c.summary_of-summary.result ≡ counts_of certificate = λ i. record {
      below = h.below i;
      doubtful = h.doubtful i;
      greatest_gap = h.greatest_gap i;
      inner_kept = h.inner_kept i;
      inner_removed = h.inner_removed i;
      outer_kept = h.outer_kept i;
      outer_removed = h.outer_removed i;
    } in
    bytes ∙ c.in_ok-text.ensures ∙ (λ i. summary_lines case nodes (c.len-rows.ensures.count i) (counts i))
    ∙ summary_is case nodes certificate
