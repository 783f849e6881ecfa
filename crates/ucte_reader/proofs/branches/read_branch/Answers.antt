use Rattle.std.proofs.Common.{refl, ap, ◌∙◌, rules}
use Rattle.std.specs.Prelude.{FitsSigned}
use Rattle.std.specs.Int.{w64}
use Rattle.std.proofs.lemmas.Int.{to_z-of_z}
use Rattle.ucte_reader.specs.Steps.{shift_in}
use Rattle.ucte_reader.specs.Branches.{phase_by}
use Rattle.ucte_reader.proofs.BranchLaws.{branch_of-is}
use Rattle.ucte_reader.proofs.branches.read_branch.Goals as goal

pub returns : goal.returns
returns c =
    let line = c.args.line.now in
    let id = c.from_string.ensures.same ∙ c.requires.id in
    let phi = c.phase-phi.ensures ∙ ap (phase_by (shift_in c.args.known.now) c.args.form) (c.as_str.ensures.value ∙ c.requires.id) in
    let b_fits : FitsSigned w64 c.in_ok-electrical.electrical.b = search rules in
    let phi_fits : FitsSigned w64 c.phase-phi.result = search rules in
    simp to_z-of_z (
      c.in_ok-electrical.ensures.0,
      branch_of-is c.args.known.now (shift_in c.args.known.now) c.args.form c.args.status line c.args.ends c.in_ok-electrical.electrical _
          c.requires.status c.requires.ends c.in_ok-electrical.ensures.1 id c.kind_of.ensures refl refl c.is_in_operation.ensures refl phi refl refl,
    )
