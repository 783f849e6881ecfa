use Rattle.std.proofs.Common.{length}
use Rattle.std.proofs.lemmas.List.Elements.{All-map}
use Rattle.fb_types.specs.Domain.{IsHalfOver}
use Rattle.row_removal.specs.Kinds.{kind_of}
use Rattle.certificate_check.proofs.cites.judge_list.Goals as goal

pub judge_cites-requires-clause-ready : goal.judge_cites-requires-clause-ready
judge_cites-requires-clause-ready c =
    record {
      halves = c.in_ok-halves_of.ensures;
      over = rw c.in_ok-halves_of.ensures
          (All-map (IsHalfOver (length c.args.bounds.now)) (kind_of c.args.kind).half c.args.rows.now c.requires.over);
      bounds = c.requires.bounds;
      marks = c.in_ok-removed_by.ensures.each_row;
    }
