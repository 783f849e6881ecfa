use Rattle.std.proofs.Common.{sym, ◌∙◌, rules}
use Rattle.std.proofs.lemmas.Bool.{false≢true}
use Rattle.fb_types.specs.Domain.{IsPoint, Meets}
use Rattle.redundancy.proofs.Witnessing.{refuted}
use Rattle.redundancy.proofs.witness.is_witness.Goals as goal

pub returns : goal.returns
returns c t =
    let point : IsPoint c.args.bounds.now c.args.x.now = search rules in
    let breaks : Meets c.args.target.now c.args.x.now → ⊥ = λ m. absurd (false≢true (sym c.if-meets.false ∙ c.meets.ensures.1 m)) in
    refuted c.args.target.now c.args.rows.now c.args.kept.now c.args.bounds.now c.args.x.now point (c.meets_kept.ensures t) breaks
