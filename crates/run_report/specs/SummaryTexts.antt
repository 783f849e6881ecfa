-- The summary of a generated case: eight lines, each with a line feed at its end. The last of them is that the check
-- takes the certificate: a summary is written of a valid one alone.
use Rattle.std.specs.Prelude.{ℕ, List, [], ◌∷◌, ◌++◌, length, codes, decimal}
use Rattle.std.specs.Fmt.{signed_decimal}
use Rattle.fb_certificate.specs.Lists.{inner_list, outer_list}
use Rattle.fb_certificate.specs.declared.types.Certificate.{Certificate}
use Rattle.run_report.specs.ReportTexts.{count_where, greatest_gap, is_below, is_doubtful, kept_count, removed_count}

abbrev pub line : List ℕ → List ℕ
line text = text ++ 10 ∷ []

-- how many rows are kept in a list, and how many removed from it
abbrev pub kept_text : ℕ → ℕ → List ℕ
kept_text kept removed = codes " kept " ++ (decimal kept ++ (codes " removed " ++ decimal removed))

-- of the case with this number and so many nodes
abbrev pub summary_text : ℕ → ℕ → Certificate → List ℕ
summary_text case nodes c =
    line (codes "case " ++ (decimal case ++ (codes " nodes " ++ decimal nodes)))
    ++ (line (codes "rows " ++ decimal (length c.rows))
    ++ (line (codes "below " ++ decimal (count_where is_below c.rows))
    ++ (line (codes "doubtful " ++ decimal (count_where is_doubtful c.rows))
    ++ (line (codes "inner" ++ kept_text (kept_count inner_list c.rows c.inner) (removed_count c.inner))
    ++ (line (codes "outer" ++ kept_text (kept_count outer_list c.rows c.outer) (removed_count c.outer))
    ++ (line (codes "greatest gap " ++ signed_decimal (greatest_gap c.rows))
    ++ line (codes "check yes")))))))
