-- The thresholds of an element: limits of its flow in the two directions, in watts.
use Rattle.std.specs.Prelude.{ℕ, ℤ, pos, neg_ℤ, ◌*ℤ◌, int_div, ◌^◌, Bool, true, not, ◌&&◌, List, [], ◌∷◌, Option, Some, None, Ok, unwrap_or, is_none, codes, int_lt, if◌then◌else◌}
use Rattle.std.specs.Int.{int_min}
use Rattle.std.specs.Option.{option_map}
use Rattle.std.specs.Str.{bytes_eq}
use Rattle.serde_json.specs.Data.{Data}
use Rattle.fb_json.specs.Tree.{text_of, decimal_of}
use Rattle.fb_json.specs.declared.document.Got.{Got}
use Rattle.fb_json.specs.declared.document.Got.TheVariants.{Absent, Wrong, Value}
use Rattle.fb_decimal.specs.declared.Decimal.{Decimal}
use Rattle.json_reading.specs.Reading.{At, Reading, ◌>>=◌, fault_here, fault_in, refuse_if, found_or, required, optional, required_array}
use Rattle.crac_model.specs.Words.{unit_of, is_within}
use Rattle.crac_model.specs.Carried.{carried_watts}
use Rattle.crac_model.specs.Power.{most_watts}
use Rattle.crac_model.specs.Ratings.{current_at, volts_at}
use Rattle.crac_model.specs.declared.fault.CracKind.{CracKind}
use Rattle.crac_model.specs.declared.fault.CracKind.TheVariants.{WrongType, OutOfRange, LimitNotPositive, NoLimit, NoCurrent}
use Rattle.crac_model.specs.declared.limits.LimitUnit.{LimitUnit}
use Rattle.crac_model.specs.declared.limits.LimitUnit.TheVariants.{Megawatt, Ampere, PercentImax}
use Rattle.crac_model.specs.declared.limits.Limits.{Limits}
use Rattle.crac_model.specs.declared.ratings.Ratings.{Ratings}
use Rattle.crac_model.specs.declared.ratings.Side.{Side}
use Rattle.crac_model.specs.declared.ratings.Side.TheVariants.{First, Last}

-- ---- the side: the number 1 or 2, or the text `left` or `right`

abbrev pub side_by_number : Decimal → Got Side
side_by_number number =
    if is_within (pos 1000000) (pos 1000000) number.millionths then Value First
    else (if is_within (pos 2000000) (pos 2000000) number.millionths then Value Last else Wrong)

abbrev pub side_by_word : List ℕ → Got Side
side_by_word word =
    if bytes_eq word (codes "left") then Value First
    else (if bytes_eq word (codes "right") then Value Last else Wrong)

abbrev pub side_by_text : Got (List ℕ) → Got Side
side_by_text Absent = Wrong
side_by_text Wrong = Wrong
side_by_text (Value word) = side_by_word word

abbrev pub side_by : Got Decimal → Got (List ℕ) → Got Side
side_by Absent text = side_by_text text
side_by Wrong text = side_by_text text
side_by (Value number) text = side_by_number number

unfoldable pub side_of : Data → Got Side
side_of d = side_by (decimal_of d) (text_of d)

-- a threshold without a side speaks of the first
unfoldable pub side_in : At CracKind → Reading CracKind Side
side_in at = do
  side ← optional side_of (codes "side") at
  Ok (unwrap_or side First)

-- ---- the ends, within 10^9

abbrev pub most : ℤ
most = pos (10 ^ 15)

abbrev pub bound_fits : Option Decimal → Bool
bound_fits None = true
bound_fits (Some value) = is_within (neg_ℤ most) most value.millionths

unfoldable pub bound_in : List ℕ → At CracKind → Reading CracKind (Option ℤ)
bound_in name at = do
  value ← optional decimal_of name at
  fits ← refuse_if (not (bound_fits value)) (fault_in name OutOfRange at)
  Ok (option_map (λ d. d.millionths) value)

-- ---- a limit in watts, of a value in millionths of the unit

-- A share of the current limit is a number: 0.8 is 80 per cent.
unfoldable pub watts_of : Ratings → LimitUnit → Side → ℤ → At CracKind → Reading CracKind ℤ
watts_of ratings Megawatt side value at = Ok value
watts_of ratings Ampere side value at = Ok (pos (carried_watts (int_div value (pos 1000)) (volts_at ratings side)))
watts_of ratings PercentImax side value at = do
  current ← found_or (current_at ratings side) (fault_here NoCurrent at)
  Ok (pos (carried_watts (int_div (current *ℤ value) (pos (10 ^ 9))) (volts_at ratings side)))

-- every limit above 10^11 W counts as 10^11 W
abbrev pub watts_up_to_cap : ℤ → ℤ
watts_up_to_cap watts = int_min watts (pos most_watts)

-- a limit is at least 1 W
unfoldable pub threshold_limit : Ratings → LimitUnit → Side → Option ℤ → At CracKind → Reading CracKind (Option ℤ)
threshold_limit ratings unit side None at = Ok None
threshold_limit ratings unit side (Some value) at = do
  watts ← watts_of ratings unit side value at
  positive ← refuse_if (int_lt watts (pos 1)) (fault_here LimitNotPositive at)
  Ok (Some (watts_up_to_cap watts))

-- ---- thresholds

-- the max gives a limit of the direction DIRECT, and the negated min gives one of OPPOSITE
unfoldable pub threshold_of : Ratings → List Limits → At CracKind → Reading CracKind (Option Limits)
threshold_of ratings before at = do
  word ← required text_of (codes "unit") at
  unit ← found_or (unit_of word) (fault_in (codes "unit") WrongType at)
  side ← side_in at
  low ← bound_in (codes "min") at
  high ← bound_in (codes "max") at
  direct ← threshold_limit ratings unit side high at
  opposite ← threshold_limit ratings unit side (option_map neg_ℤ low) at
  Ok (Some (record { direct = direct; opposite = opposite }))

-- of the limits of one direction the smallest counts
abbrev pub smaller : Option ℤ → Option ℤ → Option ℤ
smaller None b = b
smaller (Some a) None = Some a
smaller (Some a) (Some b) = Some (int_min a b)

abbrev pub smallest : List (Option ℤ) → Option ℤ
smallest [] = None
smallest (l ∷ ls) = smaller l (smallest ls)

abbrev pub directs : List Limits → List (Option ℤ)
directs [] = []
directs (l ∷ ls) = l.direct ∷ directs ls

abbrev pub opposites : List Limits → List (Option ℤ)
opposites [] = []
opposites (l ∷ ls) = l.opposite ∷ opposites ls

unfoldable pub tightest : List Limits → Limits
tightest thresholds = record { direct = smallest (directs thresholds); opposite = smallest (opposites thresholds) }

unfoldable pub limits_of : Ratings → At CracKind → Reading CracKind Limits
limits_of ratings at = do
  thresholds ← required_array (threshold_of ratings) (codes "thresholds") at
  some ← refuse_if (is_none (tightest thresholds).direct && is_none (tightest thresholds).opposite) (fault_here NoLimit at)
  Ok (tightest thresholds)
