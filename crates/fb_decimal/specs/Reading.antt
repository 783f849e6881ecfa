-- What a text is read as.
use Rattle.std.specs.Prelude.{◌≡◌, ◌≢◌, ℕ, ◌≤◌, ◌<◌, nat_lt, List, [], ◌∷◌, Result, Ok, Err, if◌then◌else◌}
use Rattle.std.specs.Option.{option_map_or}
use Rattle.fb_decimal.specs.Spelling.{IsSpelling, IsFirstBad}
use Rattle.fb_decimal.specs.Meaning.{magnitude_of, value_of, greatest}
use Rattle.fb_decimal.specs.Scan.{bad_from}
use Rattle.fb_decimal.specs.Pieces.{magnitude_in, value_in}
use Rattle.fb_decimal.specs.declared.scan.Part.TheVariants.{Start}
use Rattle.fb_decimal.specs.declared.Decimal.{Decimal}
use Rattle.fb_decimal.specs.declared.DecimalFault.{DecimalFault}
use Rattle.fb_decimal.specs.declared.DecimalFault.TheVariants.{Empty, BadCharacter, TooLarge}

-- what a reading says of its text
abbrev pub ReadsAs : List ℕ → Result Decimal DecimalFault → Type 0
ReadsAs text (Ok d) = (s : IsSpelling text) × (magnitude_of s ≤ greatest) × (d.millionths ≡ value_of s)
ReadsAs text (Err Empty) = text ≡ []
ReadsAs text (Err (BadCharacter at)) = (text ≢ []) × IsFirstBad text at
ReadsAs text (Err TooLarge) = (s : IsSpelling text) × (greatest < magnitude_of s)

-- what a text that is spelled so is read as
abbrev pub spelled_as : {text : List ℕ} → IsSpelling text → Result Decimal DecimalFault
spelled_as s = if nat_lt greatest (magnitude_of s) then Err TooLarge else Ok (record { millionths = value_of s })

-- The reading as a function of the text, for the definitions of other crates. How it is computed nobody need believe: what is to
-- be believed of it is IsByGrammar, a law of every text that `read_decimal` states.
unfoldable pub decimal_of : List ℕ → Result Decimal DecimalFault
decimal_of [] = Err Empty
decimal_of (c ∷ cs) = option_map_or (λ at. Err (BadCharacter at)) (bad_from Start 0 (c ∷ cs))
    (if nat_lt greatest (magnitude_in (c ∷ cs)) then Err TooLarge else Ok (record { millionths = value_in (c ∷ cs) }))

-- a function that gives for each text what the grammar says, and so the only one
pub record IsByGrammar (reading : List ℕ → Result Decimal DecimalFault) : Type 0 where
  pub reads : (text : List ℕ) → ReadsAs text (reading text)
  pub spelled : (text : List ℕ) (s : IsSpelling text) → reading text ≡ spelled_as s
  pub empty : reading [] ≡ Err Empty
  pub bad : (text : List ℕ) (at : ℕ) → text ≢ [] → IsFirstBad text at → reading text ≡ Err (BadCharacter at)
