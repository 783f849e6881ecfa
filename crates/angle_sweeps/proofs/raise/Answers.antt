use Rattle.std.proofs.Common.{◌≡◌, ◌<◌, ◌/◌, ◌+◌, ℕ, ℤ, pos, ◌+ℤ◌, ◌-ℤ◌, ◌<ℤ◌, List, set, unsigned_abs, FitsSigned, to_z, of_z, arith, ap, ◌∙◌}
use Rattle.std.specs.Bool.{OnTrue, OnFalse}
use Rattle.std.proofs.lemmas.Int.{ints, to_z-of_z}
use Rattle.std.proofs.lemmas.Bool.{OnTrue_from, OnFalse_from}
use Rattle.std.proofs.lemmas.List.{set-get_or}
use lib.Signed.{lt_z}
use mir.Syntax.{w128}
use Rattle.whole_laws.specs.Sums.{at}
use Rattle.grid_state.specs.GridState.{susceptance_of}
use Rattle.grid_laplacian.specs.Laws.{laplacian_at}
use Rattle.grid_laplacian.specs.Sizes.{size_of}
use Rattle.angle_sweeps.proofs.Step.{steps_of, steps}
use Rattle.angle_sweeps.proofs.raise.Goals as goal

-- the number that was computed
raised_to : (h l s r x : ℤ) (k : ℕ) → FitsSigned w128 h → FitsSigned w128 l → FitsSigned w128 s
    → r ≡ to_z w128 (of_z w128 h) +ℤ pos (unsigned_abs (to_z w128 (of_z w128 l)) / unsigned_abs (to_z w128 (of_z w128 s))) → l ≡ x → s ≡ pos k
    → to_z w128 (of_z w128 r) ≡ r → to_z w128 (of_z w128 r) ≡ h +ℤ pos (unsigned_abs x / k)
raised_to h l s r x k fh fl fs e el es er =
    er ∙ (simp to_z-of_z at e) ∙ ap (λ (z : ℤ). h +ℤ pos (unsigned_abs z / unsigned_abs s)) el ∙ ap (λ (z : ℤ). h +ℤ pos (unsigned_abs x / unsigned_abs z)) es

rose_by : (w : List ℤ) (i k : ℕ) (h r : ℤ) → h ≡ at w i → r ≡ at w i +ℤ pos k → size_of (set w i (at w i +ℤ pos k)) ≡ size_of w + k → OnTrue (lt_z h r) (size_of w < size_of (set w i r))
rose_by w i k h r eh er more =
    OnTrue_from (lt_z h r) (size_of w < size_of (set w i r)) (λ t.
    let lt : h <ℤ r = omega (arith, ints) in
    let some : 0 < k = omega (arith, ints) in
    rw er (omega arith))

same_by : (w : List ℤ) (i k : ℕ) (h r : ℤ) → h ≡ at w i → r ≡ at w i +ℤ pos k → OnFalse (lt_z h r) (set w i r ≡ w)
same_by w i k h r eh er =
    OnFalse_from (lt_z h r) (set w i r ≡ w) (λ t.
    let same : r ≡ at w i = omega (arith, ints) in
    rw same (set-get_or w i (pos 0)))

pub residual_of-left-requires-clause-p_small : goal.residual_of-left-requires-clause-p_small
residual_of-left-requires-clause-p_small c = (steps_of c.args.state.now c.sound.ensures c.args.p.now c.args.w.now c.requires.right_side c.requires.under c.args.class c.requires.class c.requires.free).p_small

pub residual_of-left-requires-clause-w_small : goal.residual_of-left-requires-clause-w_small
residual_of-left-requires-clause-w_small c = (steps_of c.args.state.now c.sound.ensures c.args.p.now c.args.w.now c.requires.right_side c.requires.under c.args.class c.requires.class c.requires.free).w_small

pub plus_quotient-raised-requires-clause-some : goal.plus_quotient-raised-requires-clause-some
plus_quotient-raised-requires-clause-some c =
    let s = steps_of c.args.state.now c.sound.ensures c.args.p.now c.args.w.now c.requires.right_side c.requires.under c.args.class c.requires.class c.requires.free in
    let fits : FitsSigned w128 c.susceptance_at.result = record { sfits = c.susceptance_at.type_inv } in
    let some = s.some in
    let same = c.susceptance_at.ensures in
    simp to_z-of_z (omega (arith, ints))

pub plus_quotient-raised-requires-clause-nonnegative : goal.plus_quotient-raised-requires-clause-nonnegative
plus_quotient-raised-requires-clause-nonnegative c =
    let s = steps_of c.args.state.now c.sound.ensures c.args.p.now c.args.w.now c.requires.right_side c.requires.under c.args.class c.requires.class c.requires.free in
    let fits : FitsSigned w128 c.residual_of-left.result = record { sfits = c.residual_of-left.type_inv } in
    let high = s.nonnegative in
    let same = c.residual_of-left.ensures in
    simp to_z-of_z (omega (arith, ints))

pub plus_quotient-raised-requires-clause-room : goal.plus_quotient-raised-requires-clause-room
plus_quotient-raised-requires-clause-room c =
    let s = steps_of c.args.state.now c.sound.ensures c.args.p.now c.args.w.now c.requires.right_side c.requires.under c.args.class c.requires.class c.requires.free in
    let fits : FitsSigned w128 c.susceptance_at.result = record { sfits = c.susceptance_at.type_inv } in
    let fits' : FitsSigned w128 c.residual_of-left.result = record { sfits = c.residual_of-left.type_inv } in
    let here = s.here_fits in
    simp to_z-of_z (rw (c.susceptance_at.ensures, c.residual_of-left.ensures) s.fits)

pub returns-clause-under : goal.returns-clause-under
returns-clause-under c =
    let s = steps_of c.args.state.now c.sound.ensures c.args.p.now c.args.w.now c.requires.right_side c.requires.under c.args.class c.requires.class c.requires.free in
    let there = raised_to (at c.args.w.now c.args.class) c.residual_of-left.result c.susceptance_at.result c.plus_quotient-raised.result
    (at c.args.p.now c.args.class -ℤ laplacian_at c.args.state.now c.args.w.now c.args.class) (susceptance_of c.args.state.now c.args.class)
    s.here_fits (record { sfits = c.residual_of-left.type_inv }) (record { sfits = c.susceptance_at.type_inv })
    c.plus_quotient-raised.ensures c.residual_of-left.ensures c.susceptance_at.ensures (to_z-of_z w128 c.plus_quotient-raised.result (record { sfits = c.plus_quotient-raised.type_inv })) in
    rw there s.under

pub returns-clause-close : goal.returns-clause-close
returns-clause-close c =
    let s = steps_of c.args.state.now c.sound.ensures c.args.p.now c.args.w.now c.requires.right_side c.requires.under c.args.class c.requires.class c.requires.free in
    let there = raised_to (at c.args.w.now c.args.class) c.residual_of-left.result c.susceptance_at.result c.plus_quotient-raised.result
    (at c.args.p.now c.args.class -ℤ laplacian_at c.args.state.now c.args.w.now c.args.class) (susceptance_of c.args.state.now c.args.class)
    s.here_fits (record { sfits = c.residual_of-left.type_inv }) (record { sfits = c.susceptance_at.type_inv })
    c.plus_quotient-raised.ensures c.residual_of-left.ensures c.susceptance_at.ensures (to_z-of_z w128 c.plus_quotient-raised.result (record { sfits = c.plus_quotient-raised.type_inv })) in
    rw there s.close

pub returns-clause-rose : goal.returns-clause-rose
returns-clause-rose c =
    let s = steps_of c.args.state.now c.sound.ensures c.args.p.now c.args.w.now c.requires.right_side c.requires.under c.args.class c.requires.class c.requires.free in
    let there = raised_to (at c.args.w.now c.args.class) c.residual_of-left.result c.susceptance_at.result c.plus_quotient-raised.result
    (at c.args.p.now c.args.class -ℤ laplacian_at c.args.state.now c.args.w.now c.args.class) (susceptance_of c.args.state.now c.args.class)
    s.here_fits (record { sfits = c.residual_of-left.type_inv }) (record { sfits = c.susceptance_at.type_inv })
    c.plus_quotient-raised.ensures c.residual_of-left.ensures c.susceptance_at.ensures (to_z-of_z w128 c.plus_quotient-raised.result (record { sfits = c.plus_quotient-raised.type_inv })) in
    rose_by c.args.w.now c.args.class (steps c.args.state.now c.args.p.now c.args.w.now c.args.class) _ _ (to_z-of_z w128 (at c.args.w.now c.args.class) s.here_fits) there s.larger

pub returns-clause-same : goal.returns-clause-same
returns-clause-same c =
    let s = steps_of c.args.state.now c.sound.ensures c.args.p.now c.args.w.now c.requires.right_side c.requires.under c.args.class c.requires.class c.requires.free in
    let there = raised_to (at c.args.w.now c.args.class) c.residual_of-left.result c.susceptance_at.result c.plus_quotient-raised.result
    (at c.args.p.now c.args.class -ℤ laplacian_at c.args.state.now c.args.w.now c.args.class) (susceptance_of c.args.state.now c.args.class)
    s.here_fits (record { sfits = c.residual_of-left.type_inv }) (record { sfits = c.susceptance_at.type_inv })
    c.plus_quotient-raised.ensures c.residual_of-left.ensures c.susceptance_at.ensures (to_z-of_z w128 c.plus_quotient-raised.result (record { sfits = c.plus_quotient-raised.type_inv })) in
    same_by c.args.w.now c.args.class (steps c.args.state.now c.args.p.now c.args.w.now c.args.class) _ _ (to_z-of_z w128 (at c.args.w.now c.args.class) s.here_fits) there
