use Rattle.std.proofs.Common.{◌≡◌, ◌-◌, ◌^◌, ◌≤◌, take, length}
use Rattle.std.specs.Str.Parse.{digits_value}
use Rattle.fb_decimal.specs.Pieces.{digits}
use Rattle.fb_decimal.proofs.value.leading.Given as goal

abbrev pub invariant-loop-byte : goal.invariant-loop-byte
invariant-loop-byte l = record {
  total : l.total ≡ digits_value 10 (take l.fn.kept (digits (take l.byte-index l.bytes)));
  small : l.total ≤ 10 ^ 30;
  left : l.left ≡ l.fn.kept - length (digits (take l.byte-index l.bytes));
}
