use Rattle.std.proofs.Common.{◌≡◌, ℕ, ◌++◌, map, take}
use Rattle.std.specs.List.{enumerate_from}
use Rattle.fb_types.specs.declared.keys.Block.{Block}
use Rattle.certificate_text.proofs.columns.put_zone_places.Given as goal

abbrev pub invariant-loop-k : goal.invariant-loop-k
invariant-loop-k l = l.places.items ≡ l.initial.places.items ++ map (λ (b : ℕ × Block). (l.zone, b.0)) (take l.k (enumerate_from 1 l.column.blocks))
