use Rattle.std.proofs.Common.{◌-◌, ◌≤◌, sym, subst, arith, ◌∙◌}
use Rattle.std.specs.Prelude.{IsTrue}
use Rattle.fbcc_core.proofs.OutputPieces.{one_piece, last_prefix}
use Rattle.fbcc_core.proofs.output.put_all.Goals as goal

pub returns-in-Err-clause-prefix : goal.returns-in-Err-clause-prefix
returns-in-Err-clause-prefix g c = λ told.
    last_prefix _ _ _ c.args.text.now c.pieces.at (c.min-end.result - c.pieces.at) (c.pieces.invariant.taken told) (c.in-Err.ensures.prefix (subst IsTrue (sym c.pieces.invariant.still_tells) told))

pub pieces-preserved : goal.pieces-preserved
pieces-preserved g c =
    let end = c.min-end.ensures in
    let further : c.pieces.at ≤ c.min-end.result = omega arith in
    record {
      still_tells = c.in_default.ensures.still_tells ∙ c.pieces.invariant.still_tells;
      never_falls = omega (arith, c.in_default.ensures.never_falls, c.pieces.invariant.never_falls);
      within = omega arith;
      taken = λ told. one_piece _ _ _ c.args.text.now c.pieces.at c.min-end.result further (c.pieces.invariant.taken told) (c.in_default.ensures.whole (subst IsTrue (sym c.pieces.invariant.still_tells) told));
    }
