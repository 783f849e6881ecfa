use Rattle.std.proofs.Common.{◌≡◌, ◌^◌, map, take}
use Rattle.std.specs.Fmt.{signed_decimal}
use Rattle.std.specs.List.{All}
use Rattle.whole_laws.specs.Sums.{IsWithin}
use Rattle.rows_document.proofs.record.coefficients.Given as goal

abbrev pub invariant-loop-field : goal.invariant-loop-field
invariant-loop-field l =
    (map signed_decimal l.a ≡ map (λ f. f.now) (take l.field-index l.fields)) × All (λ a. IsWithin (10 ^ 12) a) l.a
