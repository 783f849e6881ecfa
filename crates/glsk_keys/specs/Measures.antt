-- What is measured at nodes, in watts or as a plain number, and sums of it.
use Rattle.std.specs.Prelude.{ℕ, ◌+◌, ◌==◌, ℤ, pos, neg_ℤ, ◌+ℤ◌, ◌-ℤ◌, Bool, List, [], ◌∷◌, map, if◌then◌else◌, unsigned_abs}
use Rattle.std.specs.Int.{int_max}
use Rattle.std.specs.List.{range_with_len}
use Rattle.whole_laws.specs.Sums.{sum_over}
use Rattle.fb_types.specs.declared.grid.Node.{Node}
use Rattle.fb_types.specs.declared.keys.Weight.{Weight}
use Rattle.glsk_keys.specs.declared.measures.Measure.{Measure}
use Rattle.glsk_keys.specs.declared.measures.Measure.TheVariants.{Generation, Load, One, Size}

-- a generation that produces is negative; what runs the other way counts 0
abbrev pub value_of : Measure → Node → ℤ
value_of Generation node = int_max (neg_ℤ node.generation) (pos 0)
value_of Load node = int_max node.load (pos 0)
value_of One node = pos 1
value_of Size node = pos (unsigned_abs node.load + unsigned_abs node.generation)

abbrev pub chosen_value : Measure → Bool → Node → ℤ
chosen_value measure is_chosen node = if is_chosen then value_of measure node else pos 0

-- a number for each node: its value where it is chosen, and 0 elsewhere
abbrev pub values_of : Measure → List Bool → List Node → List ℤ
values_of measure [] nodes = []
values_of measure (c ∷ cs) [] = []
values_of measure (c ∷ cs) (node ∷ nodes) = chosen_value measure c node ∷ values_of measure cs nodes

-- the factors of a node in a list, added up
abbrev pub part_at : ℕ → Weight → ℤ
part_at node w = if w.node == node then w.weight else pos 0

abbrev pub factor_at : List Weight → ℕ → ℤ
factor_at listed node = sum_over (part_at node) listed

-- a number for each of so many nodes: the sum of its factors
abbrev pub factors_of : ℕ → List Weight → List ℤ
factors_of count listed = map (factor_at listed) (range_with_len 0 count)

abbrev pub itself : ℤ → ℤ
itself z = z

abbrev pub total_of : List ℤ → ℤ
total_of values = sum_over itself values

-- what a node feeds in, where it is chosen
abbrev pub injection_of : Bool → Node → ℤ
injection_of is_chosen node = if is_chosen then neg_ℤ node.load -ℤ node.generation else pos 0

-- what the chosen nodes feed in together
abbrev pub net_of : List Bool → List Node → ℤ
net_of [] nodes = pos 0
net_of (c ∷ cs) [] = pos 0
net_of (c ∷ cs) (node ∷ nodes) = injection_of c node +ℤ net_of cs nodes
