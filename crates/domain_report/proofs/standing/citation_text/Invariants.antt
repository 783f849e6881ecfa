use Rattle.std.proofs.Common.{◌≡◌, ◌++◌, take, string_bytes}
use Rattle.std.specs.Fmt.{signed_decimal}
use Rattle.std.specs.List.{flat_map}
use Rattle.domain_report.specs.DomainTexts.{multiplier_text}
use Rattle.domain_report.proofs.standing.citation_text.Given as goal

abbrev pub invariant-loop-m : goal.invariant-loop-m
invariant-loop-m l = string_bytes l.text ≡ signed_decimal l.by.mu ++ flat_map multiplier_text (take l.m-index l.m-items)
