-- The reading of a text is its reading by the grammar.
use Rattle.std.proofs.Common.{◌≡◌, ◌≢◌, ℕ, zero, suc, ℤ, ◌+◌, ◌<◌, ◌≤◌, Bool, true, false, cond, ltb, List, [], ◌∷◌, ◌++◌, take, drop, Option, Some, None, Result, Ok, Err, refl, sym, ap, subst, inl, inr, ◌∙◌, arith}
use Rattle.std.specs.Option.{option_map_or}
use Rattle.std.proofs.lemmas.Bool.{ltb-true, ltb-false, cases_lt, false≢true}
use Rattle.std.proofs.lemmas.List.{take-append-drop, append_assoc}
use Rattle.fb_decimal.specs.Spelling.{IsSpelling, IsFirstBad, BeginsSpelling}
use Rattle.fb_decimal.specs.Meaning.{magnitude_of, value_of, greatest}
use Rattle.fb_decimal.specs.Pieces.{magnitude_in, value_in}
use Rattle.fb_decimal.specs.Scan.{bad_from}
use Rattle.fb_decimal.specs.Reading.{ReadsAs, spelled_as, decimal_of}
use Rattle.fb_decimal.specs.declared.Decimal.{Decimal}
use Rattle.fb_decimal.specs.declared.DecimalFault.{DecimalFault}
use Rattle.fb_decimal.specs.declared.scan.Part.TheVariants.{Start}
use Rattle.fb_decimal.specs.declared.DecimalFault.TheVariants.{Empty, BadCharacter, TooLarge}
use Rattle.fb_decimal.proofs.Grammar.{first_bad_is, spelling_is, complete}
use Rattle.fb_decimal.proofs.Worth.{magnitude_spelled, value_spelled}

abbrev sized : ℕ → ℤ → Result Decimal DecimalFault
sized size value = cond (ltb greatest size) (Err TooLarge) (Ok (record { millionths = value }))

reads_sized : (text : List ℕ) (s : IsSpelling text) (big : Bool) → ltb greatest (magnitude_of s) ≡ big → ReadsAs text (cond big (Err TooLarge) (Ok (record { millionths = value_of s })))
reads_sized text s true e = (s, ltb-true _ _ e)
reads_sized text s false e = (s, ltb-false _ _ e, refl)

-- what is read of the pieces is what is read of the spelling
pub sized_is : (text : List ℕ) (s : IsSpelling text) → sized (magnitude_in text) (value_in text) ≡ spelled_as s
sized_is text s = ap (λ (n : ℕ). sized n (value_in text)) (magnitude_spelled text s) ∙ ap (λ (v : ℤ). sized (magnitude_of s) v) (value_spelled text s)

reads_by : (text : List ℕ) (bad : Option ℕ) → text ≢ [] → bad_from Start 0 text ≡ bad → ReadsAs text (option_map_or (λ at. Err (BadCharacter at)) bad (sized (magnitude_in text) (value_in text)))
reads_by text (Some at) ne e = (ne, first_bad_is text at e)
reads_by text None ne e =
    let s = spelling_is text e in
    subst (λ (r : Result Decimal DecimalFault). ReadsAs text r) (sym (sized_is text s)) (reads_sized text s (ltb greatest (magnitude_of s)) refl)

pub reads_as : (text : List ℕ) → ReadsAs text (decimal_of text)
unfolding decimal_of
reads_as [] = refl
reads_as (c ∷ cs) = reads_by (c ∷ cs) (bad_from Start 0 (c ∷ cs)) (λ h. cc) refl

no_empty_spelling : IsSpelling [] → ⊥
no_empty_spelling s = false≢true (complete [] s)

spelled_by : (text : List ℕ) (s : IsSpelling text) (bad : Option ℕ) → bad_from Start 0 text ≡ bad → option_map_or (λ at. Err (BadCharacter at)) bad (sized (magnitude_in text) (value_in text)) ≡ spelled_as s
spelled_by text s (Some at) e = absurd ((first_bad_is text at e).none s)
spelled_by text s None e = sized_is text s

-- each spelling is read
pub reads_spelling : (text : List ℕ) (s : IsSpelling text) → decimal_of text ≡ spelled_as s
unfolding decimal_of
reads_spelling [] s = absurd (no_empty_spelling s)
reads_spelling (c ∷ cs) s = spelled_by (c ∷ cs) s (bad_from Start 0 (c ∷ cs)) refl

-- ---- there is one first bad place

take-take : (a b : ℕ) (xs : List ℕ) → a ≤ b → take a (take b xs) ≡ take a xs
take-take zero b xs le = refl
take-take (suc a) zero xs le = absurd (omega arith)
take-take (suc a) (suc b) [] le = refl
take-take (suc a) (suc b) (x ∷ xs) le = ap (λ (ys : List ℕ). x ∷ ys) (take-take a b xs (omega arith))

begins_shorter : (text : List ℕ) (a b : ℕ) → a ≤ b → BeginsSpelling (take b text) → BeginsSpelling (take a text)
begins_shorter text a b le begins =
    let front : take b text ≡ take a text ++ drop a (take b text) = sym (take-append-drop a (take b text)) ∙ ap (λ (xs : List ℕ). xs ++ drop a (take b text)) (take-take a b text le) in
    let whole : take b text ++ begins.0 ≡ take a text ++ (drop a (take b text) ++ begins.0) =
    ap (λ (xs : List ℕ). xs ++ begins.0) front ∙ append_assoc (take a text) (drop a (take b text)) begins.0 in
    (drop a (take b text) ++ begins.0, subst (λ (xs : List ℕ). IsSpelling xs) whole begins.1)

not_before : (text : List ℕ) (a b : ℕ) → IsFirstBad text a → IsFirstBad text b → a < b → ⊥
not_before text a b f g lt = f.bad (omega (arith, g.within)) (begins_shorter text (a + 1) b (omega arith) g.fine)

first_bad_unique : (text : List ℕ) (a b : ℕ) → IsFirstBad text a → IsFirstBad text b → a ≡ b
first_bad_unique text a b f g =
    elim (cases_lt a b) [
      | inl lt ↦ absurd (not_before text a b f g lt)
      | inr le ↦ elim (cases_lt b a) [ inl lt ↦ absurd (not_before text b a g f lt) | inr ge ↦ omega arith ]
    ]

bad_by : (text : List ℕ) (at : ℕ) → IsFirstBad text at → (bad : Option ℕ) → bad_from Start 0 text ≡ bad → option_map_or (λ place. Err (BadCharacter place)) bad (sized (magnitude_in text) (value_in text)) ≡ Err (BadCharacter at)
bad_by text at f (Some place) e = ap (λ (n : ℕ). Err (BadCharacter n)) (first_bad_unique text place at (first_bad_is text place e) f)
bad_by text at f None e = absurd (f.none (spelling_is text e))

pub reads_bad : (text : List ℕ) (at : ℕ) → text ≢ [] → IsFirstBad text at → decimal_of text ≡ Err (BadCharacter at)
unfolding decimal_of
reads_bad [] at ne f = absurd (ne refl)
reads_bad (c ∷ cs) at ne f = bad_by (c ∷ cs) at f (bad_from Start 0 (c ∷ cs)) refl

pub reads_empty : (text : List ℕ) → text ≡ [] → decimal_of text ≡ Err Empty
unfolding decimal_of
reads_empty [] e = refl
reads_empty (c ∷ cs) e = absurd cc
