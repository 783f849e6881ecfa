-- The parts that a text goes through are those of the grammar.
use Rattle.std.proofs.Common.{◌≡◌, ℕ, suc, ◌+◌, ◌<◌, ◌≤◌, Bool, true, false, cond, ◌⊎◌, inl, inr, List, [], ◌∷◌, ◌++◌, length, take, Option, Some, None, refl, sym, ap, subst, ◌∙◌, arith}
use Rattle.std.specs.Option.{option_map_or, option_and_then}
use Rattle.std.specs.Char.{is_ascii_digit}
use Rattle.std.proofs.lemmas.Bool.{or_cases, eqb-true, false≢true}
use Rattle.fb_decimal.specs.Spelling.{is_sign, is_point, is_mark, AreDigits, IsSign, IsFraction, IsExponent, IsSpelling, IsFirstBad}
use Rattle.fb_decimal.specs.Scan.{part_after, is_end, bad_from}
use Rattle.fb_decimal.specs.declared.scan.Part.{Part}
use Rattle.fb_decimal.specs.declared.scan.Part.TheVariants.{Start, Signed, Whole, Point, Fraction, Mark, MarkSigned, Exponent}
use Rattle.fb_decimal.proofs.Follows.{FollowsFraction, FollowsMark, power_of, fraction_digit, fraction_mark, mark_digit, mark_sign, chosen}

-- ---- what may follow each part

pub record IsUnsigned (text : List ℕ) : Type 0 where
  whole : List ℕ
  fraction : List ℕ
  exponent : List ℕ
  are_digits : AreDigits whole
  is_fraction : IsFraction fraction
  some_digit : (0 < length whole) ⊎ (1 < length fraction)
  is_exponent : IsExponent exponent
  parts : text ≡ whole ++ (fraction ++ exponent)

pub record FollowsWhole (text : List ℕ) : Type 0 where
  whole : List ℕ
  fraction : List ℕ
  exponent : List ℕ
  are_digits : AreDigits whole
  is_fraction : IsFraction fraction
  is_exponent : IsExponent exponent
  parts : text ≡ whole ++ (fraction ++ exponent)

abbrev pub Follows : Part → List ℕ → Type 0
Follows Start text = IsSpelling text
Follows Signed text = IsUnsigned text
Follows Whole text = FollowsWhole text
Follows Point text = FollowsFraction 1 text
Follows Fraction text = FollowsFraction 0 text
Follows Mark text = FollowsMark text
Follows MarkSigned text = AreDigits text × (0 < length text)
Follows Exponent text = AreDigits text

-- ---- from the text to the grammar

abbrev ends : Part → List ℕ → Bool
ends part [] = is_end part
ends part (c ∷ cs) = option_map_or (λ next. ends next cs) (part_after part c) false

signed_digit : (c : ℕ) (cs : List ℕ) → is_ascii_digit c ≡ true → FollowsWhole cs → IsUnsigned (c ∷ cs)
signed_digit c cs e f = record { whole = c ∷ f.whole; fraction = f.fraction; exponent = f.exponent; are_digits = (e, f.are_digits); is_fraction = f.is_fraction; some_digit = inl (omega arith); is_exponent = f.is_exponent; parts = ap (λ (x : List ℕ). c ∷ x) f.parts }

signed_point : (c : ℕ) (cs : List ℕ) → is_point c ≡ true → FollowsFraction 1 cs → IsUnsigned (c ∷ cs)
signed_point c cs e f = record { whole = []; fraction = c ∷ f.digits; exponent = f.exponent; are_digits = tt; is_fraction = (e, f.are_digits); some_digit = inr (omega (arith, f.enough)); is_exponent = f.is_exponent; parts = ap (λ (x : List ℕ). c ∷ x) f.parts }

start_unsigned : (text : List ℕ) → IsUnsigned text → IsSpelling text
start_unsigned text u = record { sign = []; whole = u.whole; fraction = u.fraction; exponent = u.exponent; is_sign = tt; are_digits = u.are_digits; is_fraction = u.is_fraction; some_digit = u.some_digit; is_exponent = u.is_exponent; parts = u.parts }

start_sign : (c : ℕ) (cs : List ℕ) → is_sign c ≡ true → IsUnsigned cs → IsSpelling (c ∷ cs)
start_sign c cs e u = record { sign = c ∷ []; whole = u.whole; fraction = u.fraction; exponent = u.exponent; is_sign = e; are_digits = u.are_digits; is_fraction = u.is_fraction; some_digit = u.some_digit; is_exponent = u.is_exponent; parts = ap (λ (x : List ℕ). c ∷ x) u.parts }

whole_digit : (c : ℕ) (cs : List ℕ) → is_ascii_digit c ≡ true → FollowsWhole cs → FollowsWhole (c ∷ cs)
whole_digit c cs e f = record { whole = c ∷ f.whole; fraction = f.fraction; exponent = f.exponent; are_digits = (e, f.are_digits); is_fraction = f.is_fraction; is_exponent = f.is_exponent; parts = ap (λ (x : List ℕ). c ∷ x) f.parts }

whole_point : (c : ℕ) (cs : List ℕ) → is_point c ≡ true → FollowsFraction 0 cs → FollowsWhole (c ∷ cs)
whole_point c cs e f = record { whole = []; fraction = c ∷ f.digits; exponent = f.exponent; are_digits = tt; is_fraction = (e, f.are_digits); is_exponent = f.is_exponent; parts = ap (λ (x : List ℕ). c ∷ x) f.parts }

whole_mark : (c : ℕ) (cs : List ℕ) → is_mark c ≡ true → FollowsMark cs → FollowsWhole (c ∷ cs)
whole_mark c cs e f = record { whole = []; fraction = []; exponent = c ∷ cs; are_digits = tt; is_fraction = tt; is_exponent = power_of c cs e f; parts = refl }

-- the part that was come to
come_to : (part next : Part) (cs : List ℕ) → Some part ≡ Some next → Follows next cs → Follows part cs
come_to part next cs e f = let same : part ≡ next = cc in subst (λ (p : Part). Follows p cs) (sym same) f

nowhere : {P : Type 0} (next : Part) → (let none : Option Part = None in none ≡ Some next) → P
nowhere next e = absurd cc

back : (part next : Part) (c : ℕ) (cs : List ℕ) → part_after part c ≡ Some next → Follows next cs → Follows part (c ∷ cs)
back Start next c cs e f =
    elim (chosen (is_ascii_digit c) (Some Whole) (cond (is_point c) (Some Point) (cond (is_sign c) (Some Signed) None)) (Some next) e) [
      | inl h ↦ start_unsigned (c ∷ cs) (signed_digit c cs h.0 (come_to Whole next cs h.1 f))
      | inr h ↦ elim (chosen (is_point c) (Some Point) (cond (is_sign c) (Some Signed) None) (Some next) h.1) [
        | inl g ↦ start_unsigned (c ∷ cs) (signed_point c cs g.0 (come_to Point next cs g.1 f))
        | inr g ↦ elim (chosen (is_sign c) (Some Signed) None (Some next) g.1) [
          | inl k ↦ start_sign c cs k.0 (come_to Signed next cs k.1 f)
          | inr k ↦ nowhere next k.1
        ]
      ]
    ]
back Signed next c cs e f =
    elim (chosen (is_ascii_digit c) (Some Whole) (cond (is_point c) (Some Point) None) (Some next) e) [
      | inl h ↦ signed_digit c cs h.0 (come_to Whole next cs h.1 f)
      | inr h ↦ elim (chosen (is_point c) (Some Point) None (Some next) h.1) [
        | inl g ↦ signed_point c cs g.0 (come_to Point next cs g.1 f)
        | inr g ↦ nowhere next g.1
      ]
    ]
back Whole next c cs e f =
    elim (chosen (is_ascii_digit c) (Some Whole) (cond (is_point c) (Some Fraction) (cond (is_mark c) (Some Mark) None)) (Some next) e) [
      | inl h ↦ whole_digit c cs h.0 (come_to Whole next cs h.1 f)
      | inr h ↦ elim (chosen (is_point c) (Some Fraction) (cond (is_mark c) (Some Mark) None) (Some next) h.1) [
        | inl g ↦ whole_point c cs g.0 (come_to Fraction next cs g.1 f)
        | inr g ↦ elim (chosen (is_mark c) (Some Mark) None (Some next) g.1) [
          | inl k ↦ whole_mark c cs k.0 (come_to Mark next cs k.1 f)
          | inr k ↦ nowhere next k.1
        ]
      ]
    ]
back Point next c cs e f =
    elim (chosen (is_ascii_digit c) (Some Fraction) None (Some next) e) [
      | inl h ↦ fraction_digit 1 c cs h.0 (omega arith) (come_to Fraction next cs h.1 f)
      | inr h ↦ nowhere next h.1
    ]
back Fraction next c cs e f =
    elim (chosen (is_ascii_digit c) (Some Fraction) (cond (is_mark c) (Some Mark) None) (Some next) e) [
      | inl h ↦ fraction_digit 0 c cs h.0 (omega arith) (come_to Fraction next cs h.1 f)
      | inr h ↦ elim (chosen (is_mark c) (Some Mark) None (Some next) h.1) [
        | inl g ↦ fraction_mark c cs g.0 (come_to Mark next cs g.1 f)
        | inr g ↦ nowhere next g.1
      ]
    ]
back Mark next c cs e f =
    elim (chosen (is_ascii_digit c) (Some Exponent) (cond (is_sign c) (Some MarkSigned) None) (Some next) e) [
      | inl h ↦ mark_digit c cs h.0 (come_to Exponent next cs h.1 f)
      | inr h ↦ elim (chosen (is_sign c) (Some MarkSigned) None (Some next) h.1) [
        | inl g ↦ mark_sign c cs g.0 (come_to MarkSigned next cs g.1 f)
        | inr g ↦ nowhere next g.1
      ]
    ]
back MarkSigned next c cs e f =
    elim (chosen (is_ascii_digit c) (Some Exponent) None (Some next) e) [
      | inl h ↦ ((h.0, come_to Exponent next cs h.1 f), omega arith)
      | inr h ↦ nowhere next h.1
    ]
back Exponent next c cs e f =
    elim (chosen (is_ascii_digit c) (Some Exponent) None (Some next) e) [
      | inl h ↦ (h.0, come_to Exponent next cs h.1 f)
      | inr h ↦ nowhere next h.1
    ]

nothing : (part : Part) → is_end part ≡ true → Follows part []
nothing Start e = absurd (false≢true e)
nothing Signed e = absurd (false≢true e)
nothing Whole e = record { whole = []; fraction = []; exponent = []; are_digits = tt; is_fraction = tt; is_exponent = tt; parts = refl }
nothing Point e = absurd (false≢true e)
nothing Fraction e = record { digits = []; exponent = []; are_digits = tt; enough = omega arith; is_exponent = tt; parts = refl }
nothing Mark e = absurd (false≢true e)
nothing MarkSigned e = absurd (false≢true e)
nothing Exponent e = tt

goes_on : (o : Option Part) (cs : List ℕ) → option_map_or (λ next. ends next cs) o false ≡ true → (next : Part) × (o ≡ Some next) × (ends next cs ≡ true)
goes_on (Some next) cs e = (next, refl, e)
goes_on None cs e = absurd (false≢true e)

pub sound : (part : Part) (text : List ℕ) → ends part text ≡ true → Follows part text
sound part [] e = nothing part e
sound part (c ∷ cs) e =
    let n = goes_on (part_after part c) cs e in
    back part n.0 c cs n.1 (sound n.0 cs n.2)

-- ---- from the grammar to the text

step : (part next : Part) (c : ℕ) (cs : List ℕ) → part_after part c ≡ Some next → ends part (c ∷ cs) ≡ ends next cs
step part next c cs e = rw e refl

after_sign : (c : ℕ) → is_sign c ≡ true → (part_after Start c ≡ Some Signed) × (part_after Mark c ≡ Some MarkSigned)
after_sign c e = elim (or_cases _ _ e) [
  | inl h ↦ subst (λ (x : ℕ). (part_after Start x ≡ Some Signed) × (part_after Mark x ≡ Some MarkSigned)) (sym (eqb-true c 43 h)) (refl, refl)
  | inr h ↦ subst (λ (x : ℕ). (part_after Start x ≡ Some Signed) × (part_after Mark x ≡ Some MarkSigned)) (sym (eqb-true c 45 h)) (refl, refl)
]

after_point : (c : ℕ) → is_point c ≡ true → (part_after Start c ≡ Some Point) × (part_after Signed c ≡ Some Point) × (part_after Whole c ≡ Some Fraction)
after_point c e = subst (λ (x : ℕ). (part_after Start x ≡ Some Point) × (part_after Signed x ≡ Some Point) × (part_after Whole x ≡ Some Fraction)) (sym (eqb-true c 46 e)) (refl, refl, refl)

after_mark : (c : ℕ) → is_mark c ≡ true → (part_after Whole c ≡ Some Mark) × (part_after Fraction c ≡ Some Mark)
after_mark c e = elim (or_cases _ _ e) [
  | inl h ↦ subst (λ (x : ℕ). (part_after Whole x ≡ Some Mark) × (part_after Fraction x ≡ Some Mark)) (sym (eqb-true c 101 h)) (refl, refl)
  | inr h ↦ subst (λ (x : ℕ). (part_after Whole x ≡ Some Mark) × (part_after Fraction x ≡ Some Mark)) (sym (eqb-true c 69 h)) (refl, refl)
]

digits_run : (part : Part) → ((c : ℕ) → is_ascii_digit c ≡ true → part_after part c ≡ Some part) → (ds x : List ℕ) → AreDigits ds → ends part (ds ++ x) ≡ ends part x
digits_run part each [] x h = refl
digits_run part each (d ∷ ds) x h = step part part d (ds ++ x) (each d h.0) ∙ digits_run part each ds x h.1

whole_run : (ds x : List ℕ) → AreDigits ds → ends Whole (ds ++ x) ≡ ends Whole x
whole_run = digits_run Whole (λ c e. rw e refl)

fraction_run : (ds x : List ℕ) → AreDigits ds → ends Fraction (ds ++ x) ≡ ends Fraction x
fraction_run = digits_run Fraction (λ c e. rw e refl)

power_run : (ds : List ℕ) → AreDigits ds → ends Exponent ds ≡ true
power_run [] h = refl
power_run (d ∷ ds) h = step Exponent Exponent d ds (rw h.0 refl) ∙ power_run ds h.1

signed_power : (ds : List ℕ) → AreDigits ds → 0 < length ds → (ends Mark ds ≡ true) × (ends MarkSigned ds ≡ true)
signed_power [] h some = absurd (omega arith)
signed_power (d ∷ ds) h some = (step Mark Exponent d ds (rw h.0 refl) ∙ power_run ds h.1, step MarkSigned Exponent d ds (rw h.0 refl) ∙ power_run ds h.1)

mark_run : (sign ds : List ℕ) → IsSign sign → AreDigits ds → 0 < length ds → ends Mark (sign ++ ds) ≡ true
mark_run [] ds s h some = (signed_power ds h some).0
mark_run (c ∷ []) ds s h some = step Mark MarkSigned c ds (after_sign c s).1 ∙ (signed_power ds h some).1
mark_run (c ∷ d ∷ cs) ds s h some = absurd s

exponent_run : (x : List ℕ) → IsExponent x → (ends Whole x ≡ true) × (ends Fraction x ≡ true)
exponent_run [] h = (refl, refl)
exponent_run (c ∷ cs) h =
    let m : ends Mark cs ≡ true = ap (ends Mark) h.parts ∙ mark_run h.sign h.digits h.is_sign h.are_digits h.some_digit in
    (step Whole Mark c cs (after_mark c h.is_mark).0 ∙ m, step Fraction Mark c cs (after_mark c h.is_mark).1 ∙ m)

-- behind the digits before the point
behind_whole : (fraction exponent : List ℕ) → IsFraction fraction → IsExponent exponent → ends Whole (fraction ++ exponent) ≡ true
behind_whole [] exponent f x = (exponent_run exponent x).0
behind_whole (c ∷ cs) exponent f x = step Whole Fraction c (cs ++ exponent) (after_point c f.0).2 ∙ fraction_run cs exponent f.1 ∙ (exponent_run exponent x).1

bare_point : (cs exponent : List ℕ) → AreDigits cs → 0 < length cs → IsExponent exponent → ends Point (cs ++ exponent) ≡ true
bare_point [] exponent h some x = absurd (omega arith)
bare_point (c ∷ cs) exponent h some x = step Point Fraction c (cs ++ exponent) (rw h.0 refl) ∙ fraction_run cs exponent h.1 ∙ (exponent_run exponent x).1

unsigned_run : (whole fraction exponent : List ℕ) → AreDigits whole → IsFraction fraction → (0 < length whole) ⊎ (1 < length fraction) → IsExponent exponent
    → (ends Start (whole ++ (fraction ++ exponent)) ≡ true) × (ends Signed (whole ++ (fraction ++ exponent)) ≡ true)
unsigned_run (d ∷ ds) fraction exponent h f some x =
    let rest : ends Whole (ds ++ (fraction ++ exponent)) ≡ true = whole_run ds (fraction ++ exponent) h.1 ∙ behind_whole fraction exponent f x in
    (step Start Whole d (ds ++ (fraction ++ exponent)) (rw h.0 refl) ∙ rest, step Signed Whole d (ds ++ (fraction ++ exponent)) (rw h.0 refl) ∙ rest)
unsigned_run [] [] exponent h f some x = elim some [ inl a ↦ absurd (omega arith) | inr a ↦ absurd (omega arith) ]
unsigned_run [] (c ∷ cs) exponent h f some x =
    let digit : 0 < length cs = elim some [ inl a ↦ absurd (omega arith) | inr a ↦ omega arith ] in
    let rest = bare_point cs exponent f.1 digit x in
    (step Start Point c (cs ++ exponent) (after_point c f.0).0 ∙ rest, step Signed Point c (cs ++ exponent) (after_point c f.0).1 ∙ rest)

signed_run : (sign body : List ℕ) → IsSign sign → (ends Start body ≡ true) × (ends Signed body ≡ true) → ends Start (sign ++ body) ≡ true
signed_run [] body s h = h.0
signed_run (c ∷ []) body s h = step Start Signed c body (after_sign c s).0 ∙ h.1
signed_run (c ∷ d ∷ cs) body s h = absurd s

pub complete : (text : List ℕ) → IsSpelling text → ends Start text ≡ true
complete text s = ap (ends Start) s.parts ∙ signed_run s.sign (s.whole ++ (s.fraction ++ s.exponent)) s.is_sign (unsigned_run s.whole s.fraction s.exponent s.are_digits s.is_fraction s.some_digit s.is_exponent)

-- ---- the first bad place

abbrev reaches : Part → List ℕ → Option Part
reaches part [] = Some part
reaches part (c ∷ cs) = option_and_then (λ next. reaches next cs) (part_after part c)

reached : (o : Option Part) (next : Part) (xs ys : List ℕ) → option_and_then (λ p. reaches p xs) o ≡ Some next → (p : Part) × (o ≡ Some p) × (reaches p xs ≡ Some next)
reached (Some p) next xs ys e = (p, refl, e)
reached None next xs ys e = absurd cc

ends-append : (part last : Part) (xs ys : List ℕ) → reaches part xs ≡ Some last → ends part (xs ++ ys) ≡ ends last ys
ends-append part last [] ys e = let same : part ≡ last = cc in ap (λ (p : Part). ends p ys) same
ends-append part last (x ∷ xs) ys e =
    let r = reached (part_after part x) last xs ys e in
    step part r.0 x (xs ++ ys) r.1 ∙ ends-append r.0 last xs ys r.2

stuck_after : (o : Option Part) (xs ys : List ℕ) → option_and_then (λ p. reaches p xs) o ≡ None → ((next : Part) → reaches next xs ≡ None → ends next (xs ++ ys) ≡ false) → option_map_or (λ p. ends p (xs ++ ys)) o false ≡ false
stuck_after (Some p) xs ys e h = h p e
stuck_after None xs ys e h = refl

stuck-append : (part : Part) (xs ys : List ℕ) → reaches part xs ≡ None → ends part (xs ++ ys) ≡ false
stuck-append part [] ys e = absurd cc
stuck-append part (x ∷ xs) ys e = stuck_after (part_after part x) xs ys e (λ next h. stuck-append next xs ys h)

record IsStuck (part : Part) (text : List ℕ) (place : ℕ) : Type 0 where
  last : Part
  fine : reaches part (take place text) ≡ Some last
  stuck : place < length text → reaches part (take (suc place) text) ≡ None
  within : place ≤ length text
  fails : ends part text ≡ false

-- at the end of the text
stuck_end : (b : Bool) (part : Part) (at bad : ℕ) → is_end part ≡ b → cond b None (Some at) ≡ Some bad → (place : ℕ) × (bad ≡ at + place) × IsStuck part [] place
stuck_end true part at bad end e = absurd cc
stuck_end false part at bad end e = (0, (let same : at ≡ bad = cc in omega arith), record { last = part; fine = refl; stuck = λ h. absurd (omega arith); within = omega arith; fails = end })

stuck_here : (o : Option Part) (part : Part) (c : ℕ) (cs : List ℕ) (at bad : ℕ) → part_after part c ≡ o → option_map_or (λ next. bad_from next (at + 1) cs) o (Some at) ≡ Some bad
    → ((next : Part) → bad_from next (at + 1) cs ≡ Some bad → (place : ℕ) × (bad ≡ at + 1 + place) × IsStuck next cs place)
    → (place : ℕ) × (bad ≡ at + place) × IsStuck part (c ∷ cs) place
stuck_here None part c cs at bad after e h =
    (0, (let same : at ≡ bad = cc in omega arith), record { last = part; fine = refl; stuck = λ _. rw after refl; within = omega arith; fails = rw after refl })
stuck_here (Some next) part c cs at bad after e h =
    let n = h next e in
    (suc n.0, omega (arith, n.1), record { last = n.2.last; fine = rw after n.2.fine; stuck = λ lt. rw after (n.2.stuck (omega arith)); within = omega (arith, n.2.within); fails = rw after n.2.fails })

stuck_at : (part : Part) (at : ℕ) (text : List ℕ) (bad : ℕ) → bad_from part at text ≡ Some bad → (place : ℕ) × (bad ≡ at + place) × IsStuck part text place
stuck_at part at [] bad e = stuck_end (is_end part) part at bad refl e
stuck_at part at (c ∷ cs) bad e = stuck_here (part_after part c) part c cs at bad refl e (λ next h. stuck_at next (at + 1) cs bad h)

well_after : (o : Option Part) (at : ℕ) (cs : List ℕ) → option_map_or (λ next. bad_from next (at + 1) cs) o (Some at) ≡ None → ((next : Part) → bad_from next (at + 1) cs ≡ None → ends next cs ≡ true) → option_map_or (λ next. ends next cs) o false ≡ true
well_after (Some next) at cs e h = h next e
well_after None at cs e h = absurd cc

ends_well : (part : Part) (at : ℕ) (text : List ℕ) → bad_from part at text ≡ None → ends part text ≡ true
ends_well part at [] e = ended (is_end part) at e
  where
    ended : (b : Bool) (at : ℕ) → cond b None (Some at) ≡ None → b ≡ true
    ended true at e = refl
    ended false at e = absurd cc
ends_well part at (c ∷ cs) e = well_after (part_after part c) at cs e (λ next h. ends_well next (at + 1) cs h)

-- what completes a spelling
rest_of : Part → List ℕ
rest_of Start = 48 ∷ []
rest_of Signed = 48 ∷ []
rest_of Whole = []
rest_of Point = 48 ∷ []
rest_of Fraction = []
rest_of Mark = 48 ∷ []
rest_of MarkSigned = 48 ∷ []
rest_of Exponent = []

rest_ends : (part : Part) → ends part (rest_of part) ≡ true
unfolding rest_of
rest_ends Start = refl
rest_ends Signed = refl
rest_ends Whole = refl
rest_ends Point = refl
rest_ends Fraction = refl
rest_ends Mark = refl
rest_ends MarkSigned = refl
rest_ends Exponent = refl

pub first_bad_is : (text : List ℕ) (bad : ℕ) → bad_from Start 0 text ≡ Some bad → IsFirstBad text bad
first_bad_is text bad e =
    let s = stuck_at Start 0 text bad e in
    let k = s.2 in
    let here : s.0 ≡ bad = omega (arith, s.1) in
    subst (λ (n : ℕ). IsFirstBad text n) here (record {
      fine = (rest_of k.last, sound Start (take s.0 text ++ rest_of k.last) (ends-append Start k.last (take s.0 text) (rest_of k.last) k.fine ∙ rest_ends k.last));
      bad = λ lt begins.
          let one : s.0 + 1 ≡ suc s.0 = omega arith in
          let spelled : IsSpelling (take (suc s.0) text ++ begins.0) = subst (λ (n : ℕ). IsSpelling (take n text ++ begins.0)) one begins.1 in
          absurd (false≢true (sym (stuck-append Start (take (suc s.0) text) begins.0 (k.stuck lt)) ∙ complete (take (suc s.0) text ++ begins.0) spelled));
      none = λ spelled. false≢true (sym k.fails ∙ complete text spelled);
      within = k.within;
    })

pub spelling_is : (text : List ℕ) → bad_from Start 0 text ≡ None → IsSpelling text
spelling_is text e = sound Start text (ends_well Start 0 text e)
