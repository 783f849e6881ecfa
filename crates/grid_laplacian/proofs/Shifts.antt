-- Carrying branches have susceptances in range.
use Rattle.std.proofs.Common.{◌≡◌, ℕ, ◌+◌, ◌*◌, ◌^◌, ◌<◌, ◌≤◌, Bool, true, false, not, ◌&&◌, List, length, get_or, take, sum_by, ℤ, pos, ◌≤ℤ◌, nat_abs, arith, mul-le-mul, refl, sym, ap, subst, ◌∙◌}
use Rattle.std.specs.List.{enumerate_from}
use Rattle.std.proofs.lemmas.Bool.{and_parts, both_ways, cond_both}
use Rattle.std.proofs.lemmas.Int.{ints}
use Rattle.std.proofs.lemmas.List.{get_or-map}
use Rattle.std.proofs.lemmas.List.FromFn.{length-enumerate_from, get_or-enumerate_from}
use Rattle.std.proofs.lemmas.List.Sums.{sum_by_more}
use Rattle.fb_types.specs.declared.grid.Branch.{Branch}
use Rattle.fb_types.specs.declared.grid.BranchKind.{BranchKind}
use Rattle.fb_types.specs.declared.grid.BranchKind.TheVariants.{Coupler}
use Rattle.fb_types.specs.declared.grid.Grid.{Grid}
use Rattle.fb_types.specs.GridRanges.{IsRunning, AreBranches}
use Rattle.grid_state.specs.GridState.{GridState, carries_at}
use Rattle.grid_state.specs.Links.{is_coupler_kind, is_line, is_chosen, is_out}
use Rattle.grid_state.specs.Rows.{carries_in}
use Rattle.grid_state.specs.StateLaws.{length-carries}
use Rattle.grid_laplacian.specs.Ranges.{IsOfGrid, shift_of}

pub same_length : (grid : Grid) (s : GridState) → IsOfGrid grid s → length s.carries ≡ length grid.branches
same_length grid s is = length-carries grid is.slack_node is.outage s is.of_grid

line_kind : (k : BranchKind) → not (is_coupler_kind k) ≡ true → k ≡ Coupler → ⊥
line_kind k e same = both_ways (is_coupler_kind k) (no_not (is_coupler_kind k) e) (ap is_coupler_kind same)
  where
    no_not : (b : Bool) → not b ≡ true → b ≡ false
    no_not true e = sym e
    no_not false e = refl

pub carrying_small : (grid : Grid) (s : GridState) → IsOfGrid grid s → AreBranches (length grid.nodes) grid.branches → (k : ℕ) (b : Branch) → k < length grid.branches → b ≡ get_or grid.branches k b
    → carries_at s k ≡ true → nat_abs b.b ≤ 10 ^ 11
carrying_small grid s is in_range k b h read carries =
    let test = carries_in (is_out is.outage) s.class_of s.live in
    let items = enumerate_from 0 grid.branches in
    let size = length-enumerate_from 0 grid.branches in
    let item : get_or items k (k, b) ≡ (k, b) = get_or-enumerate_from 0 grid.branches k (k, b) h ∙ ap (λ (n : ℕ). (n, get_or grid.branches k b)) (omega arith) ∙ ap (λ (x : Branch). (k, x)) (sym read) in
    let passes : test (k, b) ≡ true = sym (ap (λ (l : List Bool). get_or l k false) is.of_grid.carries ∙ get_or-map test items k (k, b) false (omega arith) ∙ ap test item) ∙ carries in
    let chosen = (and_parts (is_chosen is_line (is_out is.outage) (k, b)) _ passes).0 in
    let line = and_parts (is_line b) (b.in_operation && not (is_out is.outage k)) chosen in
    let on = (and_parts b.in_operation (not (is_out is.outage k)) line.1).0 in
    let branch = subst (λ (x : Branch). IsRunning x → (pos 1 ≤ℤ x.b) × (x.b ≤ℤ pos (10 ^ 11))) (sym read) (λ r. let each = in_range.each k b h in (each.some r, each.small r)) in
    let both = branch (record { in_operation = on; no_coupler = line_kind b.kind line.0 }) in
    size_of (pos_le b.b both.0) both.1
  where
    pos_le : (z : ℤ) → pos 1 ≤ℤ z → pos 0 ≤ℤ z
    pos_le z h = omega (arith, ints)

    size_of : {z : ℤ} → pos 0 ≤ℤ z → z ≤ℤ pos (10 ^ 11) → nat_abs z ≤ 10 ^ 11
    size_of h k = omega (arith, ints)

pub shifts_more : (s : GridState) (branches : List Branch) (k : ℕ) (b : Branch) → k < length branches → b ≡ get_or branches k b
    → sum_by (shift_of s) (take (k + 1) (enumerate_from 0 branches)) ≡ sum_by (shift_of s) (take k (enumerate_from 0 branches)) + shift_of s (k, b)
shifts_more s branches k b h read =
    let size = length-enumerate_from 0 branches in
    sum_by_more (shift_of s) (enumerate_from 0 branches) k (k, b) (omega arith)
    ∙ ap (λ (p : ℕ × Branch). sum_by (shift_of s) (take k (enumerate_from 0 branches)) + shift_of s p)
    (get_or-enumerate_from 0 branches k (k, b) h ∙ ap (λ (n : ℕ). (n, get_or branches k b)) (omega arith) ∙ ap (λ (x : Branch). (k, x)) (sym read))

pub shift_small : (s : GridState) (k : ℕ) (b : Branch) → (carries_at s k ≡ true → nat_abs b.b ≤ 10 ^ 11) → nat_abs b.phi ≤ 2 ^ 63 → shift_of s (k, b) ≤ 10 ^ 11 * 2 ^ 63
shift_small s k b in_range phi =
    cond_both (carries_at s k) (nat_abs b.b * nat_abs b.phi) 0 (λ n. n ≤ 10 ^ 11 * 2 ^ 63) (λ e. mul-le-mul (in_range e) phi) (λ e. omega arith)
