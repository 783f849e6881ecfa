-- A word of a private contract, which nobody need believe: what `parse` takes beyond the one text of a number is a sign `+`, `-0` and leading zeros.
use Rattle.std.specs.Prelude.{ℕ, ◌==◌, Bool, true, false, not, if◌then◌else◌, List, [], ◌∷◌, length}

abbrev pub begins_with_zero : List ℕ → Bool
begins_with_zero [] = true
begins_with_zero (c ∷ cs) = c == 48

-- no sign but one minus before a byte that is not `0`, and no `0` before further bytes
abbrev pub is_plain : List ℕ → Bool
is_plain [] = false
is_plain (c ∷ cs) = if c == 45 then not (begins_with_zero cs) else (if c == 43 then false else (if c == 48 then length cs == 0 else true))
