use Rattle.std.proofs.Common.{arith}
use Rattle.grid_laplacian.specs.Sizes.{size_of}
use Rattle.grid_laplacian.proofs.SizeCondition.{ends_fit}
use Rattle.angle_bounds.proofs.tests.all_fit.Goals as goal

pub angle_span-span-requires-clause-low_fits : goal.angle_span-span-requires-clause-low_fits
angle_span-span-requires-clause-low_fits c =
    (ends_fit c.args.state.now c.sound.ensures (size_of c.args.p.now) c.requires.room c.args.barrier.now c.args.p.now c.args.angles.now c.requires.barrier c.requires.angles c.loop-class.class (let h = c.loop-class-test.true in let e = c.classes-class-end.ensures in omega arith)).0

pub angle_span-span-requires-clause-high_fits : goal.angle_span-span-requires-clause-high_fits
angle_span-span-requires-clause-high_fits c =
    (ends_fit c.args.state.now c.sound.ensures (size_of c.args.p.now) c.requires.room c.args.barrier.now c.args.p.now c.args.angles.now c.requires.barrier c.requires.angles c.loop-class.class (let h = c.loop-class-test.true in let e = c.classes-class-end.ensures in omega arith)).1
