-- Names with blanks behind, up to a width in characters. A name is its bytes in UTF-8.
use Rattle.std.specs.Prelude.{ℕ, ◌-◌, List, ◌++◌, length, replicate}
use Rattle.std.specs.Str.{chars}

abbrev pub padded_name : ℕ → List ℕ → List ℕ
padded_name width name = name ++ replicate (width - length (chars name)) 32
