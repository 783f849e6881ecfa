use Rattle.std.proofs.Common.{ℕ, ◌+◌, ◌-◌, arith, drop, length, List, Option, subst, sym, take}
use Rattle.std.proofs.KnownBytes.{Appends-trans}
use Rattle.std.proofs.Math.Seq.{take-add}
use Rattle.std.proofs.lemmas.List.{take_rest}
use Rattle.std.specs.Io.KnownBytes.{Appends}
use Rattle.fb_base.proofs.std_sink.write_whole.Goals as goal

-- first bytes of what follows the first bytes make longer first bytes
written_on : (old mid new : Option (List ℕ)) (piece : List ℕ) (done count : ℕ) → Appends old mid (take done piece) → Appends mid new (take count (take (length piece - done) (drop done piece))) → Appends old new (take (done + count) piece)
written_on old mid new piece done count first second =
    let next = subst (λ (rest : List ℕ). Appends mid new (take count rest)) (take_rest piece done) second in
    subst (Appends old new) (sym (take-add done count piece)) (Appends-trans old mid new (take done piece) (take count (drop done piece)) first next)

pub writes-preserved : goal.writes-preserved
writes-preserved g c = record {
  within = omega (arith, c.in-Ok.ensures.bound);
  written = written_on _ _ _ _ _ _ c.writes.invariant.written c.in-Ok.ensures.bytes;
}
