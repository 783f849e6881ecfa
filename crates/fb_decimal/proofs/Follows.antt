-- What may follow the digits behind a point, and what e or E: in decimals and in the numbers of JSON alike.
use Rattle.std.proofs.Common.{◌≡◌, ℕ, ◌<◌, ◌≤◌, Bool, true, false, cond, ◌⊎◌, inl, inr, List, [], ◌∷◌, ◌++◌, length, refl, ap, arith}
use Rattle.std.specs.Char.{is_ascii_digit}
use Rattle.fb_decimal.specs.Spelling.{is_sign, is_mark, AreDigits, IsSign, IsPower, IsExponent}

pub record FollowsFraction (least : ℕ) (text : List ℕ) : Type 0 where
  pub digits : List ℕ
  pub exponent : List ℕ
  pub are_digits : AreDigits digits
  pub enough : least ≤ length digits
  pub is_exponent : IsExponent exponent
  pub parts : text ≡ digits ++ exponent

pub record FollowsMark (text : List ℕ) : Type 0 where
  pub sign : List ℕ
  pub digits : List ℕ
  pub is_sign : IsSign sign
  pub are_digits : AreDigits digits
  pub some_digit : 0 < length digits
  pub parts : text ≡ sign ++ digits

pub power_of : (c : ℕ) (cs : List ℕ) → is_mark c ≡ true → FollowsMark cs → IsPower c cs
power_of c cs e f = record { is_mark = e; sign = f.sign; digits = f.digits; is_sign = f.is_sign; are_digits = f.are_digits; some_digit = f.some_digit; parts = f.parts }

pub fraction_digit : (least : ℕ) (c : ℕ) (cs : List ℕ) → is_ascii_digit c ≡ true → least ≤ 1 → FollowsFraction 0 cs → FollowsFraction least (c ∷ cs)
fraction_digit least c cs e le f = record { digits = c ∷ f.digits; exponent = f.exponent; are_digits = (e, f.are_digits); enough = omega arith; is_exponent = f.is_exponent; parts = ap (λ (x : List ℕ). c ∷ x) f.parts }

pub fraction_mark : (c : ℕ) (cs : List ℕ) → is_mark c ≡ true → FollowsMark cs → FollowsFraction 0 (c ∷ cs)
fraction_mark c cs e f = record { digits = []; exponent = c ∷ cs; are_digits = tt; enough = omega arith; is_exponent = power_of c cs e f; parts = refl }

pub mark_digit : (c : ℕ) (cs : List ℕ) → is_ascii_digit c ≡ true → AreDigits cs → FollowsMark (c ∷ cs)
mark_digit c cs e f = record { sign = []; digits = c ∷ cs; is_sign = tt; are_digits = (e, f); some_digit = omega arith; parts = refl }

pub mark_sign : (c : ℕ) (cs : List ℕ) → is_sign c ≡ true → AreDigits cs × (0 < length cs) → FollowsMark (c ∷ cs)
mark_sign c cs e f = record { sign = c ∷ []; digits = cs; is_sign = e; are_digits = f.0; some_digit = f.1; parts = refl }

pub chosen : {X : Type 0} (b : Bool) (x y z : X) → cond b x y ≡ z → ((b ≡ true) × (x ≡ z)) ⊎ ((b ≡ false) × (y ≡ z))
chosen true x y z e = inl (refl, e)
chosen false x y z e = inr (refl, e)
