use Rattle.std.proofs.Common.{◌≡◌, map, take}
use Rattle.std.specs.List.{enumerate_from, flat_map}
use Rattle.fb_certificate.specs.CracRows.{rows_of_element}
use Rattle.fb_certificate.specs.RunRows.{run_row}
use Rattle.fb_certificate.proofs.run.run_rows.Given as goal

abbrev pub invariant-loop-place : goal.invariant-loop-place
invariant-loop-place l = l.rows.items ≡ map (run_row l.inputs) (flat_map rows_of_element (take l.place (enumerate_from 0 l.inputs.crac.elements)))
