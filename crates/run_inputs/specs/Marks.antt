-- Words of private contracts: contingencies that are marked where an element names them. Nobody need believe them: the contract of
-- the call ties them to the contingencies that an element names.
use Rattle.std.specs.Prelude.{ℕ, Bool, false, List, map, slice_index_or}
use Rattle.std.specs.List.{list_any, range_with_len}
use Rattle.fb_types.specs.declared.crac.Element.{Element}
use Rattle.fb_certificate.specs.CracRows.{names}

abbrev pub is_marked : List Bool → ℕ → Bool
is_marked marks k = slice_index_or marks k false

-- whether an element names the contingency
abbrev pub is_named : List Element → ℕ → Bool
is_named elements k = list_any (names k) elements

-- the same for each of so many contingencies
abbrev pub named_of : ℕ → List Element → List Bool
named_of count elements = map (is_named elements) (range_with_len 0 count)
