use Rattle.std.proofs.Common.{◌≡◌, drop}
use Rattle.fb_decimal.specs.Scan.{bad_from}
use Rattle.fb_decimal.specs.declared.scan.Part.TheVariants.{Start}
use Rattle.fb_decimal.proofs.scan.first_bad.Given as goal

abbrev pub invariant-loop-at : goal.invariant-loop-at
invariant-loop-at l = bad_from l.part l.at (drop l.at l.bytes) ≡ bad_from Start 0 l.bytes
