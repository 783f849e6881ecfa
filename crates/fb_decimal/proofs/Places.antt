-- The first character that passes a test, found by a loop.
use Rattle.std.proofs.Common.{◌≡◌, ℕ, ◌+◌, ◌-◌, ◌<◌, ◌≤◌, Bool, true, false, List, length, take, drop, get_or, sym, ap, ◌∙◌, arith}
use Rattle.std.specs.List.{position_or_len, after_first, before_first}
use Rattle.std.proofs.lemmas.List.{take_rest, drop_all, take_all}
use Rattle.std.proofs.lemmas.List.Sums.{position_or_len_is}

pub first_at : (p : ℕ → Bool) (xs : List ℕ) (i : ℕ) → i < length xs → ((k : ℕ) → k < i → p (get_or xs k 0) ≡ false) → p (get_or xs i 0) ≡ true → position_or_len p xs ≡ i
first_at p xs i lt before here = position_or_len_is p xs i 0 (omega arith) before (λ _. here)

pub first_none : (p : ℕ → Bool) (xs : List ℕ) (i : ℕ) → i ≤ length xs → length xs ≤ i → ((k : ℕ) → k < i → p (get_or xs k 0) ≡ false) → position_or_len p xs ≡ length xs
first_none p xs i le ge before = position_or_len_is p xs i 0 le before (λ h. absurd (omega arith)) ∙ omega arith

pub front_at : (p : ℕ → Bool) (xs : List ℕ) (i : ℕ) → position_or_len p xs ≡ i → take i xs ≡ before_first p xs
front_at p xs i e = ap (λ (n : ℕ). take n xs) (sym e)

pub back_at : (p : ℕ → Bool) (xs : List ℕ) (i : ℕ) → position_or_len p xs ≡ i → take (length xs - (i + 1)) (drop (i + 1) xs) ≡ after_first p xs
back_at p xs i e = take_rest xs (i + 1) ∙ ap (λ (n : ℕ). drop (n + 1) xs) (sym e)

pub front_none : (p : ℕ → Bool) (xs : List ℕ) → position_or_len p xs ≡ length xs → xs ≡ before_first p xs
front_none p xs e = sym (take_all (position_or_len p xs) xs (omega arith))

pub back_none : (p : ℕ → Bool) (xs : List ℕ) → position_or_len p xs ≡ length xs → take (length xs - length xs) (drop (length xs) xs) ≡ after_first p xs
back_none p xs e = take_rest xs (length xs) ∙ drop_all (length xs) xs (omega arith) ∙ sym (drop_all (position_or_len p xs + 1) xs (omega arith))
