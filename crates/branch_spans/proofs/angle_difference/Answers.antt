use Rattle.std.proofs.Common.{ℤ, ◌-ℤ◌, ap₂, ◌∙◌}
use Rattle.whole_laws.specs.Sums.{at}
use Rattle.grid_laplacian.proofs.SizeCondition.{ends_fit}
use Rattle.branch_spans.proofs.Pairs.{difference_is, subtract_fits}
use Rattle.branch_spans.proofs.Sizes.{small_at, ends_within}
use Rattle.branch_spans.proofs.angle_difference.Goals as goal

pub angle_span-first-requires-clause-low_fits : goal.angle_span-first-requires-clause-low_fits
angle_span-first-requires-clause-low_fits c =
    (ends_fit _ c.sound.ensures _ c.requires.room c.args.barrier.now c.requires.column.side c.args.angles.now c.requires.barrier c.requires.column.encloses c.args.from c.requires.from).0

pub angle_span-first-requires-clause-high_fits : goal.angle_span-first-requires-clause-high_fits
angle_span-first-requires-clause-high_fits c =
    (ends_fit _ c.sound.ensures _ c.requires.room c.args.barrier.now c.requires.column.side c.args.angles.now c.requires.barrier c.requires.column.encloses c.args.from c.requires.from).1

pub angle_span-second-requires-clause-low_fits : goal.angle_span-second-requires-clause-low_fits
angle_span-second-requires-clause-low_fits c =
    (ends_fit _ c.sound.ensures _ c.requires.room c.args.barrier.now c.requires.column.side c.args.angles.now c.requires.barrier c.requires.column.encloses c.args.to c.requires.to).0

pub angle_span-second-requires-clause-high_fits : goal.angle_span-second-requires-clause-high_fits
angle_span-second-requires-clause-high_fits c =
    (ends_fit _ c.sound.ensures _ c.requires.room c.args.barrier.now c.requires.column.side c.args.angles.now c.requires.barrier c.requires.column.encloses c.args.to c.requires.to).1

pub unreachable-requires : goal.unreachable-requires
unreachable-requires c =
    let a = ends_within c.args.angles.now.kappa (at c.args.angles.now.w c.args.from) (at c.args.barrier.now c.args.from) (small_at _ c.sound.ensures c.requires.room c.args.barrier.now c.args.angles.now c.requires.barrier c.requires.column c.args.from c.requires.from) in
    let b = ends_within c.args.angles.now.kappa (at c.args.angles.now.w c.args.to) (at c.args.barrier.now c.args.to) (small_at _ c.sound.ensures c.requires.room c.args.barrier.now c.args.angles.now c.requires.barrier c.requires.column c.args.to c.requires.to) in
    c.in-None.ensures.exact (subtract_fits c.angle_span-first.result c.angle_span-second.result _ _ c.angle_span-first.ensures c.angle_span-second.ensures a b)

pub returns : goal.returns
returns c =
    difference_is c.args.angles.now.kappa (at c.args.angles.now.w c.args.from) (at c.args.barrier.now c.args.from) (at c.args.angles.now.w c.args.to) (at c.args.barrier.now c.args.to) c.in-Some.span
    (c.in-Some.ensures.exact.0 ∙ ap₂ (λ (x y : ℤ × ℤ). x.0 -ℤ y.1) c.angle_span-first.ensures c.angle_span-second.ensures)
    (c.in-Some.ensures.exact.1 ∙ ap₂ (λ (x y : ℤ × ℤ). x.1 -ℤ y.0) c.angle_span-first.ensures c.angle_span-second.ensures)
