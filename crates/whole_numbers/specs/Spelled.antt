-- What a reader answers where each value has one text.
use Rattle.std.specs.Prelude.{◌≡◌, ◌≢◌, Option, Some, None}

-- the good value whose text it is; none where it is the text of no good value
abbrev pub Reads : {X T : Type 0} → (X → Type 0) → (X → T) → T → Option X → Type 0
Reads IsGood text t None = (x : _) → IsGood x → t ≢ text x
Reads IsGood text t (Some x) = IsGood x × (t ≡ text x)
