-- Tables of places: how one grows with its list, and what it says of a search.
use Rattle.std.proofs.Common.{◌≡◌, ℕ, suc, ◌+◌, ◌<◌, ◌≤◌, Bool, true, false, cond, List, [], ◌∷◌, ◌++◌, length, map, replicate, set, get_or, Option, Some, None, refl, sym, ap, subst, ◌∙◌, inl, inr, arith}
use Rattle.std.specs.Prelude.{◌==◌, ◌≢◌, ◌⊎◌, is_some, slice_get}
use Rattle.std.specs.List.{find, position_from}
use Rattle.std.specs.Option.{option_and_then}
use Rattle.std.proofs.lemmas.Bool.{eq-eqb, cases_eq}
use Rattle.std.proofs.lemmas.List.{same_lists, get_or-set_same, get_or-set_other, length-replicate, get_or-replicate, length-set}
use Rattle.std.proofs.lemmas.Bool.Decides.{nat_tests}
use Rattle.std.proofs.lemmas.List.FromFn.{get_or-map-range_with_len, length-map-range_with_len}
use Rattle.place_tables.specs.Places.{first_place, first_places}

-- ---- one number more

pushed_known : (t : ℕ → Bool) (at : ℕ) (xs : List ℕ) (x : ℕ) → is_some (position_from t at xs) ≡ true → position_from t at (xs ++ x ∷ []) ≡ position_from t at xs
pushed_known t at [] x h = absurd (cc)
pushed_known t at (y ∷ ys) x h = by_test (t y) h (pushed_known t (at + 1) ys x)
  where
    by_test : (b : Bool) → is_some (cond b (Some at) (position_from t (at + 1) ys)) ≡ true
        → (is_some (position_from t (at + 1) ys) ≡ true → position_from t (at + 1) (ys ++ x ∷ []) ≡ position_from t (at + 1) ys)
        → cond b (Some at) (position_from t (at + 1) (ys ++ x ∷ [])) ≡ cond b (Some at) (position_from t (at + 1) ys)
    by_test true h rest = refl
    by_test false h rest = rest h

pushed_other : (t : ℕ → Bool) (at : ℕ) (xs : List ℕ) (x : ℕ) → t x ≡ false → position_from t at (xs ++ x ∷ []) ≡ position_from t at xs
pushed_other t at [] x e = ap (λ b. cond b (Some at) None) e
pushed_other t at (y ∷ ys) x e = ap (cond (t y) (Some at)) (pushed_other t (at + 1) ys x e)

pushed_new : (t : ℕ → Bool) (at : ℕ) (xs : List ℕ) (x : ℕ) → is_some (position_from t at xs) ≡ false → t x ≡ true → position_from t at (xs ++ x ∷ []) ≡ Some (at + length xs)
pushed_new t at [] x h e = ap (λ b. cond b (Some at) None) e ∙ ap Some (omega arith)
pushed_new t at (y ∷ ys) x h e = by_test (t y) h (λ none. pushed_new t (at + 1) ys x none e)
  where
    by_test : (b : Bool) → is_some (cond b (Some at) (position_from t (at + 1) ys)) ≡ false
        → (is_some (position_from t (at + 1) ys) ≡ false → position_from t (at + 1) (ys ++ x ∷ []) ≡ Some (at + 1 + length ys))
        → cond b (Some at) (position_from t (at + 1) (ys ++ x ∷ [])) ≡ Some (at + suc (length ys))
    by_test true h rest = absurd (cc)
    by_test false h rest = rest h ∙ ap Some (omega arith)

new_at_start : (t : ℕ → Bool) (xs : List ℕ) (x : ℕ) → is_some (position_from t 0 xs) ≡ false → t x ≡ true → position_from t 0 (xs ++ x ∷ []) ≡ Some (length xs)
new_at_start t xs x h e = pushed_new t 0 xs x h e ∙ ap Some (omega arith)

-- ---- the table

pub length-first_places : (count : ℕ) (numbers : List ℕ) → length (first_places count numbers) ≡ count
length-first_places count numbers = length-map-range_with_len (first_place numbers) 0 count

pub get_or-first_places : (count : ℕ) (numbers : List ℕ) (n : ℕ) (d : Option ℕ) → n < count → get_or (first_places count numbers) n d ≡ first_place numbers n
get_or-first_places count numbers n d l = get_or-map-range_with_len (first_place numbers) 0 count n n d l (omega arith)

pub none_yet : (count : ℕ) (places : List (Option ℕ)) → places ≡ replicate count None → places ≡ first_places count []
none_yet count places e =
    same_lists places (first_places count []) (ap length e ∙ length-replicate count None ∙ sym (length-first_places count []))
    (λ k d l.
    let below : k < count = subst (λ n. k < n) (ap length e ∙ length-replicate count None) l in
    ap (λ ps. get_or ps k d) e ∙ get_or-replicate count k None d below ∙ sym (get_or-first_places count [] k d below))

-- two tables are the same where their entries are
same_entries : (count : ℕ) (before after : List ℕ) → ((n : ℕ) → n < count → first_place before n ≡ first_place after n) → first_places count before ≡ first_places count after
same_entries count before after h =
    same_lists (first_places count before) (first_places count after) (length-first_places count before ∙ sym (length-first_places count after))
    (λ k d l.
    let below : k < count = subst (λ n. k < n) (length-first_places count before) l in
    get_or-first_places count before k d below ∙ (h k below ∙ sym (get_or-first_places count after k d below)))

-- a number past the count, or one that stands already, changes nothing
pub past_count : (count : ℕ) (front : List ℕ) (x : ℕ) → count ≤ x → first_places count front ≡ first_places count (front ++ x ∷ [])
past_count count front x l = same_entries count front (front ++ x ∷ []) (λ n below. sym (pushed_other (λ m. m == n) 0 front x (grind (arith, nat_tests))))

pub known_already : (count : ℕ) (front : List ℕ) (x : ℕ) (d : Option ℕ) → x < count → is_some (get_or (first_places count front) x d) ≡ true → first_places count front ≡ first_places count (front ++ x ∷ [])
known_already count front x d l known = same_entries count front (front ++ x ∷ []) (λ n below. by_cases n (cases_eq x n))
  where
    by_cases : (n : ℕ) → (x ≡ n) ⊎ (x ≢ n) → first_place front n ≡ first_place (front ++ x ∷ []) n
    by_cases n (inl e) =
        sym (pushed_known (λ m. m == n) 0 front x
        (ap (λ (k : ℕ). is_some (first_place front k)) (sym e) ∙ (sym (ap is_some (get_or-first_places count front x d l)) ∙ known)))
    by_cases n (inr d) = sym (pushed_other (λ m. m == n) 0 front x (grind (arith, nat_tests)))

-- a new number has its place from now on
pub new_place : (count : ℕ) (front : List ℕ) (x : ℕ) (d : Option ℕ) → x < count → is_some (get_or (first_places count front) x d) ≡ false
    → set (first_places count front) x (Some (length front)) ≡ first_places count (front ++ x ∷ [])
new_place count front x d l unknown =
    same_lists (set (first_places count front) x (Some (length front))) (first_places count (front ++ x ∷ []))
    (length-set (first_places count front) x (Some (length front)) ∙ (length-first_places count front ∙ sym (length-first_places count (front ++ x ∷ []))))
    (λ k e long.
    let below : k < count = subst (λ n. k < n) (length-set (first_places count front) x (Some (length front)) ∙ length-first_places count front) long in
    by_cases k e below (cases_eq x k) ∙ sym (get_or-first_places count (front ++ x ∷ []) k e below))
  where
    by_cases : (k : ℕ) (o : Option ℕ) → k < count → (x ≡ k) ⊎ (x ≢ k) → get_or (set (first_places count front) x (Some (length front))) k o ≡ first_place (front ++ x ∷ []) k
    by_cases k o below (inl e) =
        ap (λ (n : ℕ). get_or (set (first_places count front) x (Some (length front))) n o) (sym e)
        ∙ (get_or-set_same (first_places count front) x (Some (length front)) o (subst (λ n. x < n) (sym (length-first_places count front)) l)
        ∙ sym (new_at_start (λ m. m == k) front x
        (ap (λ (n : ℕ). is_some (first_place front n)) (sym e) ∙ (sym (ap is_some (get_or-first_places count front x d l)) ∙ unknown)) (eq-eqb x k e)))
    by_cases k o below (inr a) =
        get_or-set_other (first_places count front) x k (Some (length front)) o (λ e. a (sym e))
        ∙ (get_or-first_places count front k o below ∙ sym (pushed_other (λ m. m == k) 0 front x (grind (arith, nat_tests))))

-- ---- a search by number

-- a search that begins one place later finds the place one later
later : {R : Type 0} (r : R) (records : List R) (t : ℕ → Bool) (numbers : List ℕ) (at : ℕ)
    → option_and_then (slice_get (r ∷ records)) (position_from t (suc at) numbers) ≡ option_and_then (slice_get records) (position_from t at numbers)
later r records t [] at = refl
later r records t (m ∷ ms) at = ap (λ n. option_and_then (slice_get (r ∷ records)) (cond (t m) (Some (suc at)) (position_from t n ms))) (omega arith) ∙ by_test (t m) (later r records t ms (at + 1))
  where
    by_test : (b : Bool) → option_and_then (slice_get (r ∷ records)) (position_from t (suc (at + 1)) ms) ≡ option_and_then (slice_get records) (position_from t (at + 1) ms)
        → option_and_then (slice_get (r ∷ records)) (cond b (Some (suc at)) (position_from t (suc (at + 1)) ms)) ≡ option_and_then (slice_get records) (cond b (Some at) (position_from t (at + 1) ms))
    by_test true rest = refl
    by_test false rest = rest

-- the first record with a number stands at the first place of the number
pub find_by_place : {R : Type 0} (key : R → ℕ) (records : List R) (n : ℕ) → find (λ r. key r == n) records ≡ option_and_then (slice_get records) (first_place (map key records) n)
find_by_place key [] n = refl
find_by_place {R} key (r ∷ rs) n = by_test (key r == n) (find_by_place key rs n ∙ sym (later r rs (λ m. m == n) (map key rs) 0))
  where
    by_test : (b : Bool) → find (λ q. key q == n) rs ≡ option_and_then (slice_get (r ∷ rs)) (position_from (λ m. m == n) 1 (map key rs))
        → cond b (Some r) (find (λ q. key q == n) rs) ≡ option_and_then (slice_get (r ∷ rs)) (cond b (Some 0) (position_from (λ m. m == n) 1 (map key rs)))
    by_test true rest = refl
    by_test false rest = rest
