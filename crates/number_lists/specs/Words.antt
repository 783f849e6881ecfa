-- The parts of a text between marks, and its first word.
use Rattle.std.specs.Prelude.{◌≡◌, ℕ, ◌==◌, false, List, [], ◌∷◌, ◌++◌, Option}
use Rattle.std.specs.List.{All, slice_split}
use Rattle.std.specs.Option.{option_map_or}
use denote.Ref.{Bor}

-- the parts between marks
abbrev pub parts_of : ℕ → List ℕ → List (List ℕ)
parts_of mark text = slice_split (λ b. b == mark) text

-- (a word of a contract) the parts of what is left, if anything is
abbrev pub parts_left : ℕ → Option (Bor (List ℕ)) → List (List ℕ)
parts_left mark left = option_map_or (λ (rest : Bor (List ℕ)). parts_of mark rest.now) left []

-- no mark stands in the word
abbrev pub IsWord : ℕ → List ℕ → Type 0
IsWord mark word = All (λ b. (b == mark) ≡ false) word

-- the first word and what stands after its mark, and no other word and rest
pub record IsHead (mark : ℕ) (text first rest : List ℕ) : Type 0 where
  pub whole : text ≡ first ++ mark ∷ rest
  pub only_first : (word tail : List ℕ) → IsWord mark word → text ≡ word ++ mark ∷ tail → first ≡ word
  pub only_rest : (word tail : List ℕ) → IsWord mark word → text ≡ word ++ mark ∷ tail → rest ≡ tail

-- the text has no mark
pub record HasNoHead (mark : ℕ) (text : List ℕ) : Type 0 where
  pub none : (word tail : List ℕ) → IsWord mark word → text ≡ word ++ mark ∷ tail → ⊥
