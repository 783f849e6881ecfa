-- Keys and values: words before lists of numbers, and three fields.
use Rattle.std.proofs.Common.{◌≡◌, ◌≢◌, ℕ, zero, suc, ◌*◌, ◌<◌, ◌^◌, ℤ, Bool, true, false, List, [], ◌∷◌, ◌++◌, length, get_or, refl, sym, ap, ◌∙◌, subst, arith, FitsSigned, lit<}
use Rattle.std.specs.Prelude.{Some, None, codes, ◌==◌, if◌then◌else◌}
use Rattle.std.specs.Int.{w128}
use Rattle.std.specs.Fmt.{decimal, signed_decimal}
use Rattle.std.proofs.lemmas.Bool.Decides.{nat_tests}
use Rattle.std.proofs.lemmas.List.Elements.{All-head, All-tail, All-cons, All-nil}
use Rattle.csv.specs.Records.{field_at}
use Rattle.whole_laws.specs.Sums.{IsWithin}
use Rattle.whole_numbers.specs.SpelledLaws.{fits_within}
use Rattle.number_lists.specs.Lists.{AreNumbers, AreWithin, numbers_text}
use Rattle.number_lists.specs.ListLaws.{decimal_is_word, number_is_word, blank_is_no_digit}
use Rattle.number_lists.specs.Words.{IsWord}
use Rattle.cnec_rows.specs.declared.types.RowProof.{RowProof}
use Rattle.cnec_selection.specs.declared.Class.{Class}
use Rattle.cnec_selection.specs.declared.Class.TheVariants.{Below, Doubtful, Certain}
use Rattle.certificate_text.specs.Lines.{IsGoodRow, row_text}
use Rattle.domain_report.specs.DomainTexts.{class_word}
use Rattle.certificate_reader.specs.declared.values.Spot.{Spot}
use Rattle.certificate_reader.specs.Spellings.{IsGoodSpot, IsGoodKappa}

-- ---- words

abbrev has_no_blank : List ℕ → Bool
has_no_blank [] = true
has_no_blank (c ∷ cs) = if c == 32 then false else has_no_blank cs

cond_both : (b r : Bool) → (if b then false else r) ≡ true → (b ≡ false) × (r ≡ true)
cond_both true r e = cc
cond_both false r e = (refl, e)

word_from : (ds : List ℕ) → has_no_blank ds ≡ true → IsWord 32 ds
word_from [] e = All-nil (λ b. (b == 32) ≡ false)
word_from (c ∷ cs) e = let k = cond_both (c == 32) (has_no_blank cs) e in All-cons (λ b. (b == 32) ≡ false) c cs k.0 (word_from cs k.1)

pub class_is_word : (c : Class) → IsWord 32 (class_word c)
class_is_word Below = word_from (codes "BELOW") refl
class_is_word Doubtful = word_from (codes "DOUBTFUL") refl
class_is_word Certain = word_from (codes "CERTAIN") refl

pub kappa_is_word : (k : ℕ) → IsGoodKappa k → IsWord 32 (decimal k)
kappa_is_word k l = decimal_is_word 32 blank_is_no_digit k (omega (arith, l))

pub side_is_word : (z : ℤ) → IsWithin (2 * 10 ^ 13) z → IsWord 32 (signed_decimal z)
side_is_word z h = number_is_word z (fits_within (2 * 10 ^ 13) z h (lit< tt))

-- ---- the fields of a record of three

pub no_field : (fs : List (List ℕ)) (i : ℕ) (a b c : List ℕ) → field_at fs i ≡ None → i < 3 → fs ≢ a ∷ b ∷ c ∷ []
unfolding field_at
no_field fs zero a b c n l e = let k = rw e at n in cc
no_field fs (suc zero) a b c n l e = let k = rw e at n in cc
no_field fs (suc (suc zero)) a b c n l e = let k = rw e at n in cc
no_field fs (suc (suc (suc i))) a b c n l e = omega arith

pub three : (fs : List (List ℕ)) (a b c : List ℕ) → length fs ≡ 3 → field_at fs 0 ≡ Some a → field_at fs 1 ≡ Some b → field_at fs 2 ≡ Some c → fs ≡ a ∷ b ∷ c ∷ []
unfolding field_at
three [] a b c l p q r = absurd (omega arith)
three (x ∷ []) a b c l p q r = absurd (omega arith)
three (x ∷ y ∷ []) a b c l p q r = absurd (omega arith)
three (x ∷ y ∷ z ∷ []) a b c l p q r = cc
three (x ∷ y ∷ z ∷ w ∷ ws) a b c l p q r = absurd (omega arith)

-- ---- lists of numbers

pub spot_numbers : (s : Spot) → IsGoodSpot s → AreNumbers (s.state ∷ s.zone ∷ s.block ∷ [])
spot_numbers s g = record {
  some = lit< tt;
  fit = All-cons (FitsSigned w128) s.state (s.zone ∷ s.block ∷ []) g.state (All-cons (FitsSigned w128) s.zone (s.block ∷ []) g.zone (All-cons (FitsSigned w128) s.block [] g.block (All-nil (FitsSigned w128))));
}

pub three_numbers : (xs : List ℤ) → length xs ≡ 3 → AreNumbers xs → (s : Spot) → s.state ≡ get_or xs 0 s.state → s.zone ≡ get_or xs 1 s.zone → s.block ≡ get_or xs 2 s.block → IsGoodSpot s × (xs ≡ s.state ∷ s.zone ∷ s.block ∷ [])
three_numbers [] l h s p q r = absurd (omega arith)
three_numbers (x ∷ []) l h s p q r = absurd (omega arith)
three_numbers (x ∷ y ∷ []) l h s p q r = absurd (omega arith)
three_numbers (x ∷ y ∷ t ∷ []) l h s p q r =
    let f = All-head (FitsSigned w128) x (y ∷ t ∷ []) h.fit in
    let g = All-tail (FitsSigned w128) x (y ∷ t ∷ []) h.fit in
    let k = All-tail (FitsSigned w128) y (t ∷ []) g in (
      record {
        state = subst (FitsSigned w128) (sym p) f;
        zone = subst (FitsSigned w128) (sym q) (All-head (FitsSigned w128) y (t ∷ []) g);
        block = subst (FitsSigned w128) (sym r) (All-head (FitsSigned w128) t [] k);
      },
      λ i. sym p i ∷ sym q i ∷ sym r i ∷ [],
    )
three_numbers (x ∷ y ∷ t ∷ w ∷ ws) l h s p q r = absurd (omega arith)

-- a number before a list
pub before_list : (x : ℤ) (xs : List ℤ) → 0 < length xs → numbers_text (x ∷ xs) ≡ signed_decimal x ++ 32 ∷ numbers_text xs
before_list x [] l = absurd (omega arith)
before_list x (y ∷ ys) l = refl

pub row_parts : (r : RowProof) → 0 < length r.a → row_text r ≡ class_word r.class ++ 32 ∷ (signed_decimal r.r_in ++ 32 ∷ (signed_decimal r.r_out ++ 32 ∷ numbers_text r.a))
row_parts r l = ap (λ t. class_word r.class ++ 32 ∷ (signed_decimal r.r_in ++ 32 ∷ t)) (before_list r.r_out r.a l)

abbrev row_with : Class → ℤ → ℤ → List ℤ → RowProof
row_with class r_in r_out a = record { class = class; a = a; r_in = r_in; r_out = r_out }

pub row_made : (text : List ℕ) (class : Class) (r_in r_out u v : ℤ) (a : List ℤ) → u ≡ r_in → v ≡ r_out → IsWithin (2 * 10 ^ 13) r_in → IsWithin (2 * 10 ^ 13) r_out → AreWithin (10 ^ 12) a → text ≡ class_word class ++ 32 ∷ (signed_decimal r_in ++ 32 ∷ (signed_decimal r_out ++ 32 ∷ numbers_text a)) → IsGoodRow (row_with class u v a) × (text ≡ row_text (row_with class u v a))
row_made text class r_in r_out u v a e f inner outer g is =
    subst (λ (x : ℤ). IsGoodRow (row_with class x v a) × (text ≡ row_text (row_with class x v a))) (sym e)
    (subst (λ (y : ℤ). IsGoodRow (row_with class r_in y a) × (text ≡ row_text (row_with class r_in y a))) (sym f) (
      record { some = g.some; coefficients = g.small; inner = inner; outer = outer },
      is ∙ sym (row_parts (row_with class r_in r_out a) g.some),
    ))

-- an empty text
pub no_bytes : (xs : List ℕ) (b : Bool) → b ≡ (length xs == 0) → (b ≡ true → xs ≡ []) × (xs ≡ [] → b ≡ true)
no_bytes [] b e = (λ t. refl, λ z. e)
no_bytes (x ∷ xs) b e = (λ t. absurd (grind (arith, nat_tests)), λ z. let long : suc (length xs) ≡ 0 = ap length z in absurd (omega arith))
