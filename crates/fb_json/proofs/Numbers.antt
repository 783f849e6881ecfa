-- The parts that a run goes through are those of the grammar.
use Rattle.std.proofs.Common.{◌≡◌, ◌↔◌, IsTrue, ℕ, ◌<◌, Bool, true, false, cond, eqb, inl, inr, List, [], ◌∷◌, ◌++◌, length, Option, Some, None, refl, sym, ap, subst, ◌∙◌, arith}
use Rattle.std.specs.Option.{option_map_or}
use Rattle.std.specs.Char.{is_ascii_digit}
use Rattle.std.proofs.lemmas.Bool.{or_cases, eqb-true, eqb-false, false≢true}
use Rattle.fb_decimal.specs.Spelling.{is_sign, is_point, is_mark, AreDigits, IsSign, IsExponent, IsSpelling}
use Rattle.fb_decimal.specs.Spelling as spelling
use Rattle.fb_decimal.specs.Reading.{spelled_as}
use Rattle.fb_decimal.specs.declared.Decimal.{Decimal}
use Rattle.fb_decimal.proofs.Follows.{FollowsFraction, FollowsMark, power_of, fraction_digit, fraction_mark, mark_digit, mark_sign, chosen}
use Rattle.fb_decimal.proofs.Law.{reads_spelling}
use Rattle.serde_json.specs.Data.{Data}
use Rattle.serde_json.specs.Find.{as_str}
use Rattle.fb_json.specs.Marking.{number_mark}
use Rattle.fb_json.specs.Tree.{number_in, decimal_of}
use Rattle.fb_json.specs.declared.document.Got.{Got}
use Rattle.fb_json.specs.Number.{IsMinus, IsWhole, IsFraction, IsNumber}
use Rattle.fb_json.specs.Scan.{part_after, is_end, goes_on, is_number}
use Rattle.fb_json.specs.declared.number.Part.{Part}
use Rattle.fb_json.specs.declared.number.Part.TheVariants.{Start, Minus, Zero, Whole, Point, Fraction, Mark, MarkSigned, Exponent}

-- ---- what may follow each part

record IsUnsigned (text : List ℕ) : Type 0 where
  whole : List ℕ
  fraction : List ℕ
  exponent : List ℕ
  is_whole : IsWhole whole
  is_fraction : IsFraction fraction
  is_exponent : IsExponent exponent
  parts : text ≡ whole ++ (fraction ++ exponent)

record FollowsZero (text : List ℕ) : Type 0 where
  fraction : List ℕ
  exponent : List ℕ
  is_fraction : IsFraction fraction
  is_exponent : IsExponent exponent
  parts : text ≡ fraction ++ exponent

record FollowsWhole (text : List ℕ) : Type 0 where
  digits : List ℕ
  fraction : List ℕ
  exponent : List ℕ
  are_digits : AreDigits digits
  is_fraction : IsFraction fraction
  is_exponent : IsExponent exponent
  parts : text ≡ digits ++ (fraction ++ exponent)

abbrev Follows : Part → List ℕ → Type 0
Follows Start text = IsNumber text
Follows Minus text = IsUnsigned text
Follows Zero text = FollowsZero text
Follows Whole text = FollowsWhole text
Follows Point text = FollowsFraction 1 text
Follows Fraction text = FollowsFraction 0 text
Follows Mark text = FollowsMark text
Follows MarkSigned text = AreDigits text × (0 < length text)
Follows Exponent text = AreDigits text

-- ---- from the run to the grammar

no_minus : (text : List ℕ) → IsUnsigned text → IsNumber text
no_minus text u = record { minus = []; whole = u.whole; fraction = u.fraction; exponent = u.exponent; is_minus = inl refl; is_whole = u.is_whole; is_fraction = u.is_fraction; is_exponent = u.is_exponent; parts = u.parts }

a_minus : (c : ℕ) (cs : List ℕ) → eqb c 45 ≡ true → IsUnsigned cs → IsNumber (c ∷ cs)
a_minus c cs e u = record { minus = c ∷ []; whole = u.whole; fraction = u.fraction; exponent = u.exponent; is_minus = inr (ap (λ (x : ℕ). x ∷ []) (eqb-true c 45 e)); is_whole = u.is_whole; is_fraction = u.is_fraction; is_exponent = u.is_exponent; parts = ap (λ (x : List ℕ). c ∷ x) u.parts }

zero_digit : (c : ℕ) → eqb c 48 ≡ true → is_ascii_digit c ≡ true
zero_digit c e = subst (λ (x : ℕ). is_ascii_digit x ≡ true) (sym (eqb-true c 48 e)) refl

a_zero : (c : ℕ) (cs : List ℕ) → eqb c 48 ≡ true → FollowsZero cs → IsUnsigned (c ∷ cs)
a_zero c cs e f = record { whole = c ∷ []; fraction = f.fraction; exponent = f.exponent; is_whole = ((zero_digit c e, tt), λ z. refl); is_fraction = f.is_fraction; is_exponent = f.is_exponent; parts = ap (λ (x : List ℕ). c ∷ x) f.parts }

a_digit : (c : ℕ) (cs : List ℕ) → eqb c 48 ≡ false → is_ascii_digit c ≡ true → FollowsWhole cs → IsUnsigned (c ∷ cs)
a_digit c cs n e f = record { whole = c ∷ f.digits; fraction = f.fraction; exponent = f.exponent; is_whole = ((e, f.are_digits), λ z. absurd (eqb-false c 48 n z)); is_fraction = f.is_fraction; is_exponent = f.is_exponent; parts = ap (λ (x : List ℕ). c ∷ x) f.parts }

zero_point : (c : ℕ) (cs : List ℕ) → is_point c ≡ true → FollowsFraction 1 cs → FollowsZero (c ∷ cs)
zero_point c cs e f = record { fraction = c ∷ f.digits; exponent = f.exponent; is_fraction = (e, f.are_digits, f.enough); is_exponent = f.is_exponent; parts = ap (λ (x : List ℕ). c ∷ x) f.parts }

zero_mark : (c : ℕ) (cs : List ℕ) → is_mark c ≡ true → FollowsMark cs → FollowsZero (c ∷ cs)
zero_mark c cs e f = record { fraction = []; exponent = c ∷ cs; is_fraction = tt; is_exponent = power_of c cs e f; parts = refl }

whole_digit : (c : ℕ) (cs : List ℕ) → is_ascii_digit c ≡ true → FollowsWhole cs → FollowsWhole (c ∷ cs)
whole_digit c cs e f = record { digits = c ∷ f.digits; fraction = f.fraction; exponent = f.exponent; are_digits = (e, f.are_digits); is_fraction = f.is_fraction; is_exponent = f.is_exponent; parts = ap (λ (x : List ℕ). c ∷ x) f.parts }

whole_zero : (text : List ℕ) → FollowsZero text → FollowsWhole text
whole_zero text f = record { digits = []; fraction = f.fraction; exponent = f.exponent; are_digits = tt; is_fraction = f.is_fraction; is_exponent = f.is_exponent; parts = f.parts }

-- the part that was come to
come_to : (part next : Part) (cs : List ℕ) → Some part ≡ Some next → Follows next cs → Follows part cs
come_to part next cs e f = let same : part ≡ next = cc in subst (λ (p : Part). Follows p cs) (sym same) f

nowhere : {P : Type 0} (next : Part) → (let none : Option Part = None in none ≡ Some next) → P
nowhere next e = absurd cc

back_unsigned : (next : Part) (c : ℕ) (cs : List ℕ) → cond (eqb c 48) (Some Zero) (cond (is_ascii_digit c) (Some Whole) None) ≡ Some next → Follows next cs → IsUnsigned (c ∷ cs)
back_unsigned next c cs e f =
    elim (chosen (eqb c 48) (Some Zero) (cond (is_ascii_digit c) (Some Whole) None) (Some next) e) [
      | inl h ↦ a_zero c cs h.0 (come_to Zero next cs h.1 f)
      | inr h ↦ elim (chosen (is_ascii_digit c) (Some Whole) None (Some next) h.1) [
        | inl g ↦ a_digit c cs h.0 g.0 (come_to Whole next cs g.1 f)
        | inr g ↦ nowhere next g.1
      ]
    ]

back_zero : (next : Part) (c : ℕ) (cs : List ℕ) → cond (is_point c) (Some Point) (cond (is_mark c) (Some Mark) None) ≡ Some next → Follows next cs → FollowsZero (c ∷ cs)
back_zero next c cs e f =
    elim (chosen (is_point c) (Some Point) (cond (is_mark c) (Some Mark) None) (Some next) e) [
      | inl h ↦ zero_point c cs h.0 (come_to Point next cs h.1 f)
      | inr h ↦ elim (chosen (is_mark c) (Some Mark) None (Some next) h.1) [
        | inl g ↦ zero_mark c cs g.0 (come_to Mark next cs g.1 f)
        | inr g ↦ nowhere next g.1
      ]
    ]

back : (part next : Part) (c : ℕ) (cs : List ℕ) → part_after part c ≡ Some next → Follows next cs → Follows part (c ∷ cs)
back Start next c cs e f =
    elim (chosen (eqb c 45) (Some Minus) (cond (eqb c 48) (Some Zero) (cond (is_ascii_digit c) (Some Whole) None)) (Some next) e) [
      | inl h ↦ a_minus c cs h.0 (come_to Minus next cs h.1 f)
      | inr h ↦ no_minus (c ∷ cs) (back_unsigned next c cs h.1 f)
    ]
back Minus next c cs e f = back_unsigned next c cs e f
back Zero next c cs e f = back_zero next c cs e f
back Whole next c cs e f =
    elim (chosen (is_ascii_digit c) (Some Whole) (cond (is_point c) (Some Point) (cond (is_mark c) (Some Mark) None)) (Some next) e) [
      | inl h ↦ whole_digit c cs h.0 (come_to Whole next cs h.1 f)
      | inr h ↦ whole_zero (c ∷ cs) (back_zero next c cs h.1 f)
    ]
back Point next c cs e f =
    elim (chosen (is_ascii_digit c) (Some Fraction) None (Some next) e) [
      | inl h ↦ fraction_digit 1 c cs h.0 (omega arith) (come_to Fraction next cs h.1 f)
      | inr h ↦ nowhere next h.1
    ]
back Fraction next c cs e f =
    elim (chosen (is_ascii_digit c) (Some Fraction) (cond (is_mark c) (Some Mark) None) (Some next) e) [
      | inl h ↦ fraction_digit 0 c cs h.0 (omega arith) (come_to Fraction next cs h.1 f)
      | inr h ↦ elim (chosen (is_mark c) (Some Mark) None (Some next) h.1) [
        | inl g ↦ fraction_mark c cs g.0 (come_to Mark next cs g.1 f)
        | inr g ↦ nowhere next g.1
      ]
    ]
back Mark next c cs e f =
    elim (chosen (is_ascii_digit c) (Some Exponent) (cond (is_sign c) (Some MarkSigned) None) (Some next) e) [
      | inl h ↦ mark_digit c cs h.0 (come_to Exponent next cs h.1 f)
      | inr h ↦ elim (chosen (is_sign c) (Some MarkSigned) None (Some next) h.1) [
        | inl g ↦ mark_sign c cs g.0 (come_to MarkSigned next cs g.1 f)
        | inr g ↦ nowhere next g.1
      ]
    ]
back MarkSigned next c cs e f =
    elim (chosen (is_ascii_digit c) (Some Exponent) None (Some next) e) [
      | inl h ↦ ((h.0, come_to Exponent next cs h.1 f), omega arith)
      | inr h ↦ nowhere next h.1
    ]
back Exponent next c cs e f =
    elim (chosen (is_ascii_digit c) (Some Exponent) None (Some next) e) [
      | inl h ↦ (h.0, come_to Exponent next cs h.1 f)
      | inr h ↦ nowhere next h.1
    ]

end_zero : FollowsZero []
end_zero = record { fraction = []; exponent = []; is_fraction = tt; is_exponent = tt; parts = refl }

nothing : (part : Part) → is_end part ≡ true → Follows part []
nothing Start e = absurd (false≢true e)
nothing Minus e = absurd (false≢true e)
nothing Zero e = end_zero
nothing Whole e = whole_zero [] end_zero
nothing Point e = absurd (false≢true e)
nothing Fraction e = record { digits = []; exponent = []; are_digits = tt; enough = omega arith; is_exponent = tt; parts = refl }
nothing Mark e = absurd (false≢true e)
nothing MarkSigned e = absurd (false≢true e)
nothing Exponent e = tt

next_of : (o : Option Part) (cs : List ℕ) → option_map_or (λ next. goes_on next cs) o false ≡ true → (next : Part) × (o ≡ Some next) × (goes_on next cs ≡ true)
next_of (Some next) cs e = (next, refl, e)
next_of None cs e = absurd (false≢true e)

sound : (part : Part) (text : List ℕ) → goes_on part text ≡ true → Follows part text
sound part [] e = nothing part e
sound part (c ∷ cs) e =
    let n = next_of (part_after part c) cs e in
    back part n.0 c cs n.1 (sound n.0 cs n.2)

pub is_number_sound : (run : List ℕ) → is_number run ≡ true → IsNumber run
is_number_sound run e = sound Start run e

-- ---- from the grammar to the run

step : (part next : Part) (c : ℕ) (cs : List ℕ) → part_after part c ≡ Some next → goes_on part (c ∷ cs) ≡ goes_on next cs
step part next c cs e = rw e refl

after_sign : (c : ℕ) → is_sign c ≡ true → part_after Mark c ≡ Some MarkSigned
after_sign c e = elim (or_cases _ _ e) [
  | inl h ↦ subst (λ (x : ℕ). part_after Mark x ≡ Some MarkSigned) (sym (eqb-true c 43 h)) refl
  | inr h ↦ subst (λ (x : ℕ). part_after Mark x ≡ Some MarkSigned) (sym (eqb-true c 45 h)) refl
]

after_point : (c : ℕ) → is_point c ≡ true → (part_after Zero c ≡ Some Point) × (part_after Whole c ≡ Some Point)
after_point c e = subst (λ (x : ℕ). (part_after Zero x ≡ Some Point) × (part_after Whole x ≡ Some Point)) (sym (eqb-true c 46 e)) (refl, refl)

pub record AfterMark (c : ℕ) : Type 0 where
  zero : part_after Zero c ≡ Some Mark
  whole : part_after Whole c ≡ Some Mark
  fraction : part_after Fraction c ≡ Some Mark

after_mark : (c : ℕ) → is_mark c ≡ true → AfterMark c
after_mark c e = elim (or_cases _ _ e) [
  | inl h ↦ subst AfterMark (sym (eqb-true c 101 h)) (record { zero = refl; whole = refl; fraction = refl })
  | inr h ↦ subst AfterMark (sym (eqb-true c 69 h)) (record { zero = refl; whole = refl; fraction = refl })
]

digits_run : (part : Part) → ((c : ℕ) → is_ascii_digit c ≡ true → part_after part c ≡ Some part) → (ds x : List ℕ) → AreDigits ds → goes_on part (ds ++ x) ≡ goes_on part x
digits_run part each [] x h = refl
digits_run part each (d ∷ ds) x h = step part part d (ds ++ x) (each d h.0) ∙ digits_run part each ds x h.1

whole_run : (ds x : List ℕ) → AreDigits ds → goes_on Whole (ds ++ x) ≡ goes_on Whole x
whole_run = digits_run Whole (λ c e. rw e refl)

fraction_run : (ds x : List ℕ) → AreDigits ds → goes_on Fraction (ds ++ x) ≡ goes_on Fraction x
fraction_run = digits_run Fraction (λ c e. rw e refl)

power_run : (ds : List ℕ) → AreDigits ds → goes_on Exponent ds ≡ true
power_run [] h = refl
power_run (d ∷ ds) h = step Exponent Exponent d ds (rw h.0 refl) ∙ power_run ds h.1

signed_power : (ds : List ℕ) → AreDigits ds → 0 < length ds → (goes_on Mark ds ≡ true) × (goes_on MarkSigned ds ≡ true)
signed_power [] h some = absurd (omega arith)
signed_power (d ∷ ds) h some = (step Mark Exponent d ds (rw h.0 refl) ∙ power_run ds h.1, step MarkSigned Exponent d ds (rw h.0 refl) ∙ power_run ds h.1)

mark_run : (sign ds : List ℕ) → IsSign sign → AreDigits ds → 0 < length ds → goes_on Mark (sign ++ ds) ≡ true
mark_run [] ds s h some = (signed_power ds h some).0
mark_run (c ∷ []) ds s h some = step Mark MarkSigned c ds (after_sign c s) ∙ (signed_power ds h some).1
mark_run (c ∷ d ∷ cs) ds s h some = absurd s

pub record Ends (x : List ℕ) : Type 0 where
  zero : goes_on Zero x ≡ true
  whole : goes_on Whole x ≡ true
  fraction : goes_on Fraction x ≡ true

exponent_run : (x : List ℕ) → IsExponent x → Ends x
exponent_run [] h = record { zero = refl; whole = refl; fraction = refl }
exponent_run (c ∷ cs) h =
    let m : goes_on Mark cs ≡ true = ap (goes_on Mark) h.parts ∙ mark_run h.sign h.digits h.is_sign h.are_digits h.some_digit in
    let k = after_mark c h.is_mark in
    record { zero = step Zero Mark c cs k.zero ∙ m; whole = step Whole Mark c cs k.whole ∙ m; fraction = step Fraction Mark c cs k.fraction ∙ m }

point_run : (cs exponent : List ℕ) → AreDigits cs → 0 < length cs → IsExponent exponent → goes_on Point (cs ++ exponent) ≡ true
point_run [] exponent h some x = absurd (omega arith)
point_run (c ∷ cs) exponent h some x = step Point Fraction c (cs ++ exponent) (rw h.0 refl) ∙ fraction_run cs exponent h.1 ∙ (exponent_run exponent x).fraction

-- behind the whole part
behind_whole : (fraction exponent : List ℕ) → IsFraction fraction → IsExponent exponent → (goes_on Zero (fraction ++ exponent) ≡ true) × (goes_on Whole (fraction ++ exponent) ≡ true)
behind_whole [] exponent f x = let e = exponent_run exponent x in (e.zero, e.whole)
behind_whole (c ∷ cs) exponent f x =
    let k = after_point c f.0 in
    let p = point_run cs exponent f.1 f.2 x in
    (step Zero Point c (cs ++ exponent) k.0 ∙ p, step Whole Point c (cs ++ exponent) k.1 ∙ p)

digit_no_minus : (c : ℕ) (b : Bool) → eqb c 45 ≡ b → is_ascii_digit c ≡ true → b ≡ false
digit_no_minus c false e h = refl
digit_no_minus c true e h = absurd (false≢true (subst (λ (x : ℕ). is_ascii_digit x ≡ true) (eqb-true c 45 e) h))

whole_first : (c : ℕ) (cs x : List ℕ) (b : Bool) → eqb c 48 ≡ b → IsWhole (c ∷ cs) → (goes_on Zero x ≡ true) × (goes_on Whole x ≡ true) → (goes_on Start (c ∷ cs ++ x) ≡ true) × (goes_on Minus (c ∷ cs ++ x) ≡ true)
whole_first c cs x true e w h =
    let no : eqb c 45 ≡ false = digit_no_minus c (eqb c 45) refl w.0.0 in
    let only : cs ++ x ≡ x = ap (λ (y : List ℕ). y ++ x) (w.1 (eqb-true c 48 e)) in
    let rest : goes_on Zero (cs ++ x) ≡ true = ap (goes_on Zero) only ∙ h.0 in
    (step Start Zero c (cs ++ x) (rw (no, e) refl) ∙ rest, step Minus Zero c (cs ++ x) (rw e refl) ∙ rest)
whole_first c cs x false e w h =
    let no : eqb c 45 ≡ false = digit_no_minus c (eqb c 45) refl w.0.0 in
    let digit : is_ascii_digit c ≡ true = w.0.0 in
    let rest : goes_on Whole (cs ++ x) ≡ true = whole_run cs x w.0.1 ∙ h.1 in
    (step Start Whole c (cs ++ x) (rw (no, e, digit) refl) ∙ rest, step Minus Whole c (cs ++ x) (rw (e, digit) refl) ∙ rest)

whole_first_part : (whole x : List ℕ) → IsWhole whole → (goes_on Zero x ≡ true) × (goes_on Whole x ≡ true) → (goes_on Start (whole ++ x) ≡ true) × (goes_on Minus (whole ++ x) ≡ true)
whole_first_part [] x w h = absurd w
whole_first_part (c ∷ cs) x w h = whole_first c cs x (eqb c 48) refl w h

with_minus : (minus x : List ℕ) → IsMinus minus → (goes_on Start x ≡ true) × (goes_on Minus x ≡ true) → goes_on Start (minus ++ x) ≡ true
with_minus minus x (inl e) h = ap (λ (y : List ℕ). goes_on Start (y ++ x)) e ∙ h.0
with_minus minus x (inr e) h = ap (λ (y : List ℕ). goes_on Start (y ++ x)) e ∙ h.1

pub is_number_complete : (run : List ℕ) → IsNumber run → is_number run ≡ true
is_number_complete run n =
    ap is_number n.parts ∙ with_minus n.minus (n.whole ++ (n.fraction ++ n.exponent)) n.is_minus
    (whole_first_part n.whole (n.fraction ++ n.exponent) n.is_whole (behind_whole n.fraction n.exponent n.is_fraction n.is_exponent))

pub is_number_exact : (run : List ℕ) (b : Bool) → b ≡ is_number run → IsTrue b ↔ IsNumber run
is_number_exact run true e = (λ t. is_number_sound run (sym e), λ n. refl)
is_number_exact run false e = (λ t. absurd (false≢true t), λ n. absurd (false≢true (e ∙ is_number_complete run n)))

-- ---- a number is a spelling of a decimal

minus_sign : (minus : List ℕ) → IsMinus minus → IsSign minus
minus_sign minus (inl e) = subst IsSign (sym e) tt
minus_sign minus (inr e) = subst IsSign (sym e) refl

whole_digits : (whole : List ℕ) → IsWhole whole → AreDigits whole × (0 < length whole)
whole_digits [] w = absurd w
whole_digits (c ∷ cs) w = (w.0, omega arith)

point_digits : (fraction : List ℕ) → IsFraction fraction → spelling.IsFraction fraction
point_digits [] f = tt
point_digits (c ∷ cs) f = (f.0, f.1)

pub is_spelling : (run : List ℕ) → IsNumber run → IsSpelling run
is_spelling run n =
    let w = whole_digits n.whole n.is_whole in
    record { sign = n.minus; whole = n.whole; fraction = n.fraction; exponent = n.exponent; is_sign = minus_sign n.minus n.is_minus; are_digits = w.0; is_fraction = point_digits n.fraction n.is_fraction; some_digit = inl w.1; is_exponent = n.is_exponent; parts = n.parts }

-- what is read of a number
pub number_is_read : (d : Data) (got : Got Decimal) (run : List ℕ) → got ≡ decimal_of d → IsNumber run → as_str d ≡ Some (number_mark ∷ run) → (s : IsSpelling run) × (got ≡ number_in (spelled_as s))
unfolding decimal_of
number_is_read d got run e n is = (is_spelling run n, e ∙ rw is (ap number_in (reads_spelling run (is_spelling run n))))
