use Rattle.std.proofs.Common.{◌≡◌, drop}
use Rattle.fb_json.specs.Scan.{goes_on, is_number}
use Rattle.fb_json.proofs.number.is_gone_through.Given as goal

abbrev pub invariant-loop-byte : goal.invariant-loop-byte
invariant-loop-byte l = goes_on l.part (drop l.byte-index l.run) ≡ is_number l.run
