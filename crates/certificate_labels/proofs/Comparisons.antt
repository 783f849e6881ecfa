-- The first wrong label, record by record.
use Rattle.std.proofs.Common.{◌≡◌, ℕ, zero, suc, ◌+◌, ◌<◌, ◌≤◌, Bool, true, false, List, [], ◌∷◌, length, drop, refl, sym, ap, ◌∙◌, subst, ⊎_elim, arith, length-drop}
use Rattle.std.specs.Prelude.{Option, Some, None, slice_get, IsTrue, ◌↔◌}
use Rattle.std.proofs.lemmas.Bool.{cases_lt}
use Rattle.std.proofs.lemmas.Option.{slice_get_within}
use borrow.Author.Count.{below_more}
use Rattle.certificate_labels.specs.Comparing.{IsComparedSoFar}
use Rattle.certificate_labels.specs.Labels.{AreLabelled, IsFirstWrong, IsMislabelled, IsWrongAt, IsWrongLabel}

abbrev Records : Type 0
Records = List (List (List ℕ))

-- ---- One record

next_of : (xs rest : Records) (n : ℕ) (x : List (List ℕ)) → x ∷ rest ≡ drop n xs → (slice_get xs n ≡ Some x) × (rest ≡ drop (n + 1) xs)
next_of [] rest zero x e = cc
next_of [] rest (suc n) x e = cc
next_of (y ∷ ys) rest zero x e = (let f : y ≡ x = cc in ap Some f, let f : rest ≡ ys = cc in f)
next_of (y ∷ ys) rest (suc n) x e =
    let h = next_of ys rest n x e in
    let later : suc n + 1 ≡ suc (n + 1) = omega arith in
    (h.0, rw later h.1)

wrong_here : (due records : Records) (place : ℕ) (label fields : List (List ℕ)) → slice_get due place ≡ Some label → slice_get records place ≡ Some fields → IsWrongAt due records place → IsMislabelled label fields
wrong_here due records place label fields d r w =
    let same : w.label ≡ label = cc (w.is_due, d) in
    let equal : w.fields ≡ fields = cc (w.is_there, r) in
    subst (λ l. IsMislabelled l fields) same (subst (λ f. IsMislabelled w.label f) equal w.mislabelled)

pub not_mislabelled : (r : Bool) (label fields : List (List ℕ)) → IsTrue r ↔ IsMislabelled label fields → r ≡ false → ¬ IsMislabelled label fields
not_mislabelled r label fields t e = λ m. let h : r ≡ true = t.1 m in cc

-- ---- The records so far

pub at_start : (due records : Records) → IsComparedSoFar due records records 0
at_start due records = record { rest = refl; before = λ i l. absurd (omega (arith, l)) }

pub goes_on : (due records left rest : Records) (place : ℕ) (label fields : List (List ℕ)) → IsComparedSoFar due records left place → left ≡ fields ∷ rest → slice_get due place ≡ Some label → ¬ IsMislabelled label fields → IsComparedSoFar due records rest (place + 1)
goes_on due records left rest place label fields so_far e d right =
    let here = next_of records rest place fields (sym e ∙ so_far.rest) in
    record {
      rest = here.1;
      before = below_more (λ i. ¬ IsWrongAt due records i) place so_far.before (λ w. right (wrong_here due records place label fields d here.0 w));
    }

pub first_found : (due records left rest : Records) (place number : ℕ) (label fields : List (List ℕ)) → IsComparedSoFar due records left place → left ≡ fields ∷ rest → slice_get due place ≡ Some label → IsMislabelled label fields → number ≡ place + 1 → IsFirstWrong due records number
first_found due records left rest place number label fields so_far e d wrong n =
    let here = next_of records rest place fields (sym e ∙ so_far.rest) in
    record {
      place = place;
      number_is = n;
      wrong = record { label = label; is_due = d; fields = fields; is_there = here.0; mislabelled = wrong };
      before = so_far.before;
    }

-- no record is left
pub none_left : (due records left : Records) (place : ℕ) → IsComparedSoFar due records left place → left ≡ [] → AreLabelled due records
none_left due records left place so_far e = λ i w.
    let within = slice_get_within records i w.fields w.is_there in
    let long = length-drop place records in
    let none : length (drop place records) ≡ 0 = ap length (sym so_far.rest ∙ e) in
    so_far.before i (omega (arith, within, long, none)) w

-- nothing more is due
pub none_due : (due records left : Records) (place : ℕ) → IsComparedSoFar due records left place → length due ≤ place → AreLabelled due records
none_due due records left place so_far past = λ i w.
    let within = slice_get_within due i w.label w.is_due in
    so_far.before i (omega (arith, within, past)) w

-- ---- One answer

same_place : (due records : Records) (m n : ℕ) → IsFirstWrong due records m → IsFirstWrong due records n → m ≤ n
same_place due records m n first second =
    let at_first : m ≡ first.place + 1 = first.number_is in
    let at_second : n ≡ second.place + 1 = second.number_is in
    ⊎_elim (λ lt. absurd (first.before second.place lt second.wrong)) (λ ge. omega (arith, at_first, at_second, ge)) (cases_lt second.place first.place)

pub one_answer : (due records : Records) (x y : Option ℕ) → IsWrongLabel due records x → IsWrongLabel due records y → x ≡ y
one_answer due records None None a b = refl
one_answer due records None (Some n) a b = absurd (a b.place b.wrong)
one_answer due records (Some m) None a b = absurd (b a.place a.wrong)
one_answer due records (Some m) (Some n) a b = ap Some (let one = same_place due records m n a b in let two = same_place due records n m b a in omega (arith, one, two))
