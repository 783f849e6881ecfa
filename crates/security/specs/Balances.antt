-- What is fed into the classes of a grid state: at the reference, by a block of a shift key, and where zones have other net
-- positions. A list has one number for each class, in the order of the classes. Powers are in watts unless a unit is named.
-- (Loads, generation and phase shifts as in the UCTE data exchange format; shift keys as in the ENTSO-E GLSK implementation guide.)
use Rattle.std.specs.Prelude.{ℕ, ◌^◌, ℤ, pos, ◌+ℤ◌, ◌-ℤ◌, ◌*ℤ◌, List, length, map, Option, Some, None, slice_get, if◌then◌else◌, ◌==◌}
use Rattle.std.specs.List.{enumerate_from, range_with_len}
use Rattle.whole_laws.specs.Sums.{sum_below, sum_over}
use Rattle.fractions.specs.Fractions.{Fraction, whole, plus, times, total}
use Rattle.fb_types.specs.declared.grid.Node.{Node}
use Rattle.fb_types.specs.declared.grid.Branch.{Branch}
use Rattle.fb_types.specs.declared.grid.Grid.{Grid}
use Rattle.fb_types.specs.declared.keys.Block.{Block}
use Rattle.fb_types.specs.declared.keys.Column.{Column}
use Rattle.grid_state.specs.GridState.{GridState, classes_of, class_at, carries_at}
use Rattle.grid_state.specs.Split.{injection_of}
use Rattle.security.specs.Quotients.{divided}

-- ---- Sums over the nodes of a class

-- a list with a number for each class
abbrev pub for_classes : GridState → (ℕ → ℤ) → List ℤ
for_classes s f = map f (range_with_len 0 (classes_of s))

-- what the nodes of the class have together, f giving what a node has
abbrev pub of_class : GridState → (ℕ → ℤ) → ℕ → ℤ
of_class s f c = sum_below (length s.class_of) (λ n. if class_at s n == c then f n else pos 0)

-- ---- The reference

-- what a node feeds in, by its number: −load − generation
abbrev pub fed_in : Option Node → ℤ
fed_in None = pos 0
fed_in (Some node) = injection_of node

abbrev pub injection_at : Grid → ℕ → ℤ
injection_at grid n = fed_in (slice_get grid.nodes n)

-- what the phase shift of a carrying branch adds at a class, in nanowatts: −b·φ where its first node is, b·φ where its second is
abbrev pub shift_of : GridState → Branch → ℕ → ℤ
shift_of s branch c =
    (if class_at s branch.to == c then branch.b *ℤ branch.phi else pos 0)
    -ℤ (if class_at s branch.from == c then branch.b *ℤ branch.phi else pos 0)

-- what all phase shifts add at a class, in nanowatts. A branch stands beside its number
abbrev pub shifts_at : GridState → Grid → ℕ → ℤ
shifts_at s grid c = sum_over (λ p. if carries_at s p.0 then shift_of s p.1 c else pos 0) (enumerate_from 0 grid.branches)

-- the balance of each class at the reference, in nanowatts
abbrev pub base_balance : GridState → Grid → List ℤ
base_balance s grid = for_classes s (λ c. pos (10 ^ 9) *ℤ of_class s (injection_at grid) c +ℤ shifts_at s grid c)

-- the same in 10^-13 W
abbrev pub reference_side : GridState → Grid → List ℤ
reference_side s grid = map (λ z. pos (10 ^ 4) *ℤ z) (base_balance s grid)

-- ---- Shift keys

-- the weight of a block at a node
abbrev pub weight_at : Block → ℕ → ℤ
weight_at block n = sum_over (λ w. if w.node == n then w.weight else pos 0) block.weights

-- the weights of a block, added up for each class
abbrev pub block_weights : GridState → Block → List ℤ
block_weights s block = for_classes s (of_class s (weight_at block))

-- the same as powers in 10^-13 W
abbrev pub block_side : GridState → Block → List ℤ
block_side s block = map (λ z. pos (10 ^ 13) *ℤ z) (block_weights s block)

-- the key of a zone at a node: the sum over its blocks of share·weight / (10^8·total)
abbrev pub key_at : Column → ℕ → Fraction
key_at column n = total (λ block. divided (whole (block.share *ℤ weight_at block n)) (pos (10 ^ 8) *ℤ block.total)) column.blocks

-- ---- Other net positions

-- a zone that exchanges: its key, its net position at the reference, and the one that it is to have
pub record Exchange : Type 0 where
  pub key : Column
  pub reference : ℤ
  pub position : ℤ

-- what a node feeds in where the zones have these positions: −load − generation and, for each zone, the difference of its
-- positions times its key
abbrev pub injection_with : Grid → List Exchange → ℕ → Fraction
injection_with grid zones n = plus (whole (injection_at grid n)) (total (λ z. times (z.position -ℤ z.reference) (key_at z.key n)) zones)

-- the balance of a class there, in nanowatts. It is a fraction, since keys are
abbrev pub balance_with : GridState → Grid → List Exchange → ℕ → Fraction
balance_with s grid zones c =
    plus
    (times (pos (10 ^ 9)) (total (λ n. if class_at s n == c then injection_with grid zones n else whole (pos 0)) (range_with_len 0 (length s.class_of))))
    (whole (shifts_at s grid c))
