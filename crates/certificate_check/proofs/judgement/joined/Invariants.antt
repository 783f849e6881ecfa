use Rattle.std.proofs.Common.{◌≡◌, ◌*◌, ◌≤◌, drop}
use Rattle.certificate_check.specs.Judged.{number_of, followed, joined}
use Rattle.certificate_check.proofs.judgement.joined.Given as goal

abbrev pub invariant-loop-next : goal.invariant-loop-next
invariant-loop-next l = record {
  so_far : joined l.judgements ≡ followed l.judgement (joined (drop l.next-index l.judgements));
  small : number_of l.judgement ≤ 303 * l.next-index;
}
