-- What a number prints in so many columns, and an ASCII letter.
use Rattle.std.proofs.Common.{◌≡◌, ℕ, zero, suc, ℤ, pos, negsuc, ◌-◌, false, true, [], ◌∷◌, ◌++◌, List, length, refl, ap, ◌∙◌, arith, replicate, append-nil, append_assoc}
use Rattle.std.specs.Fmt.{decimal, signed_decimal, padded_integral, format_spec, char_count}
use Rattle.std.specs.Int.{is_negative}
use Rattle.std.specs.List.{repeat}
use Rattle.std.specs.Prelude.{unsigned_abs, Result, IfOk, OnOk, Ok, Err, string_bytes}
use Rattle.std.specs.declared.alloc.Global.{Global}
use Rattle.std.specs.declared.string.String.{String}
use Rattle.std.proofs.lemmas.Bool.Decides.{nat_tests}
use lib.Utf8.{encode}
use Rattle.case_maker.specs.Naming.{filled}

-- a text that is known, spelled otherwise
pub spelled : {E : Type 0} (r : Result (String Global) E) (x y : List ℕ) → IfOk r (λ s. string_bytes s ≡ x) → x ≡ y → IfOk r (λ s. string_bytes s ≡ y)
spelled (Ok s) x y h e = h ∙ e
spelled (Err e) x y h _ = tt

pub appended : {E : Type 0} (r : Result (Unit {0}) E) (old new x y : List ℕ) → OnOk r (new ≡ old ++ x) → x ≡ y → OnOk r (new ≡ old ++ y)
appended (Ok u) old new x y h e = h ∙ ap (λ t. old ++ t) e
appended (Err e) old new x y h _ = tt

pub continued : {E : Type 0} (r : Result (Unit {0}) E) (old middle new x y z : List ℕ) → OnOk r (new ≡ middle ++ y) → middle ≡ old ++ x → x ++ y ≡ z → OnOk r (new ≡ old ++ z)
continued (Ok u) old middle new x y z h was e = h ∙ ap (λ t. t ++ y) was ∙ append_assoc old x y ∙ ap (λ t. old ++ t) e
continued (Err e) old middle new x y z h _ _ = tt

repeated : (n byte : ℕ) → repeat n (byte ∷ []) ≡ replicate n byte
repeated zero byte = refl
repeated (suc n) byte = ap (λ bs. byte ∷ bs) (repeated n byte)

-- with zeros in front, and with blanks in front
pub zeros_in_front : (width : ℕ) (numeral : List ℕ) → padded_integral (format_spec 32 0 4 width 18446744073709551615) false [] numeral ≡ filled 48 width numeral
unfolding padded_integral char_count
zeros_in_front width numeral =
    let zeros : width - length numeral - 0 - 0 ≡ width - length numeral = omega arith in
    ap (λ (k : ℕ). replicate k 48 ++ (numeral ++ [])) zeros ∙ ap (λ (ds : List ℕ). replicate (width - length numeral) 48 ++ ds) (append-nil numeral)

pub blanks_in_front : (width : ℕ) (numeral : List ℕ) → padded_integral (format_spec 32 3 0 width 18446744073709551615) false [] numeral ≡ filled 32 width numeral
unfolding padded_integral char_count encode
blanks_in_front width numeral =
    let blanks : width - length numeral - 0 - 0 ≡ width - length numeral = omega arith in
    let none : width - length numeral - (width - length numeral) ≡ 0 = omega arith in
    ap (λ (k : ℕ). ((repeat k (32 ∷ []) ++ []) ++ []) ++ [] ++ (numeral ++ repeat (k - k) (32 ∷ []))) blanks
    ∙ ap (λ (k : ℕ). ((repeat (width - length numeral) (32 ∷ []) ++ []) ++ []) ++ [] ++ (numeral ++ repeat k (32 ∷ []))) none
    ∙ simp (append-nil, repeated)

pub blanks_before_sign : (width : ℕ) (numeral : List ℕ) → padded_integral (format_spec 32 3 0 width 18446744073709551615) true [] numeral ≡ filled 32 width (45 ∷ numeral)
unfolding padded_integral char_count encode
blanks_before_sign width numeral =
    let blanks : width - length numeral - 1 - 0 ≡ width - suc (length numeral) = omega arith in
    let none : width - suc (length numeral) - (width - suc (length numeral)) ≡ 0 = omega arith in
    ap (λ (k : ℕ). ((repeat k (32 ∷ []) ++ 45 ∷ []) ++ []) ++ [] ++ (numeral ++ repeat (k - k) (32 ∷ []))) blanks
    ∙ ap (λ (k : ℕ). ((repeat (width - suc (length numeral)) (32 ∷ []) ++ 45 ∷ []) ++ []) ++ [] ++ (numeral ++ repeat k (32 ∷ []))) none
    ∙ simp (append-nil, append_assoc, repeated)

not_negative : (n : ℕ) → is_negative (pos n) ≡ false
not_negative n = grind (arith, nat_tests)

pub signed_in_columns : (width : ℕ) (z : ℤ) → padded_integral (format_spec 32 3 0 width 18446744073709551615) (is_negative z) [] (decimal (unsigned_abs z)) ≡ filled 32 width (signed_decimal z)
signed_in_columns width (pos n) =
    ap (λ b. padded_integral (format_spec 32 3 0 width 18446744073709551615) b [] (decimal n)) (not_negative n) ∙ blanks_in_front width (decimal n)
signed_in_columns width (negsuc n) = blanks_before_sign width (decimal (suc n))
