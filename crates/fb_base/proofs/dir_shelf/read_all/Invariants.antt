use Rattle.std.proofs.Common.{◌≤◌, ◌-◌, vec_len}
use Rattle.std.specs.Io.KnownBytes.{Consumes}
use Rattle.fb_base.proofs.dir_shelf.read_all.Given as goal

-- what was read are the bytes so far, and they are within the limit
abbrev pub invariant-reads : goal.invariant-reads
invariant-reads g l = record {
  read_so_far : Consumes (g.F.Read.remaining l.initial.reader) (g.F.Read.remaining l.reader) l.bytes.items;
  within : vec_len l.bytes ≤ l.limit;
}

abbrev pub decreases-reads : goal.decreases-reads
decreases-reads g l = l.limit - vec_len l.bytes
