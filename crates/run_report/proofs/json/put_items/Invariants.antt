use Rattle.std.proofs.Common.{◌≡◌, ◌++◌, false, take, string_bytes}
use Rattle.run_report.specs.Lines.{joined}
use Rattle.run_report.proofs.json.put_items.Given as goal

abbrev pub invariant-loop-place : goal.invariant-loop-place
invariant-loop-place l = string_bytes l.text ≡ string_bytes l.initial.text ++ joined false (take l.place l.items)
