-- The lines that are read, one by one.
use Rattle.std.proofs.Common.{◌≡◌, ℕ, zero, suc, ◌+◌, ◌<◌, ◌≤◌, true, false, List, [], ◌∷◌, ◌++◌, map, length, length-drop, take, drop, refl, sym, ap, ◌∙◌, subst, arith, append_assoc, inl, inr}
use Rattle.std.specs.Prelude.{None, Err}
use Rattle.std.proofs.lemmas.Bool.{cases_order}
use Rattle.std.proofs.lemmas.List.{take_all, take-append-drop}
use Rattle.std.proofs.lemmas.List.Elements.{All-nil}
use Rattle.fb_types.specs.declared.rows.Half.{Half}
use Rattle.rows_document.specs.Table.{lines_of, fields_of}
use Rattle.rows_document.specs.Records.{IsGood, line_of}
use Rattle.rows_document.specs.Reading.{IsBeginning, IsFirstBadLine, AreLinesOf, IsBadLineOrMemory, records_of}
use Rattle.rows_document.specs.Drafts.{start, takes, after, finished, IsDraftOf, IsReadSoFar, IsBadLineOf}
use Rattle.rows_document.specs.declared.record.Record.{Record}
use Rattle.rows_document.specs.declared.reader.RowsDocument.{RowsDocument}
use Rattle.rows_document.specs.declared.reader.RowsError.{RowsError}
use Rattle.rows_document.specs.declared.reader.RowsError.TheVariants.{Fault, Memory}
use Rattle.rows_document.specs.declared.draft.Draft.{Draft}
use Rattle.rows_document.proofs.Drafted.{one_more, finish_none}
use Rattle.rows_document.proofs.Beginnings.{begins, breaks}

nothing_read : IsDraftOf [] start
nothing_read = record {
  spelled = refl;
  good = All-nil IsGood;
  run = refl;
  staged = record { few_zones = omega arith; few_rows = omega arith; rows_over = All-nil (λ (h : Half). length h.a ≡ 0); rows_after = λ _. refl; target_over = tt; no_more = (refl, refl) };
}

pub at_start : (bytes : List ℕ) → IsReadSoFar bytes bytes 0 start
at_start bytes = record { within = omega arith; drafted = nothing_read; left = refl; room = omega arith }

-- the item at a place
pub record IsAt {X : Type 0} (xs : List X) (n : ℕ) (x : X) (more : List X) : Type 0 where
  pub below : n < length xs
  pub front : take (n + 1) xs ≡ take n xs ++ x ∷ []
  pub rest : drop (n + 1) xs ≡ more

cons_same : {X : Type 0} (x y : X) (xs ys : List X) → (x ∷ xs) ≡ (y ∷ ys) → (x ≡ y) × (xs ≡ ys)
cons_same x y xs ys e = (cc, cc)

at_place : {X : Type 0} (xs : List X) (n : ℕ) (x : X) (more : List X) → drop n xs ≡ x ∷ more → IsAt xs n x more
at_place [] zero x more e = cc
at_place [] (suc n) x more e = cc
at_place (y ∷ ys) zero x more e =
    let c = cons_same y x ys more e in
    record { below = omega arith; front = λ i. c.0 i ∷ []; rest = c.1 }
at_place (y ∷ ys) (suc n) x more e =
    let k = at_place ys n x more e in
    let s : suc n + 1 ≡ suc (n + 1) = omega arith in
    record {
      below = omega (arith, k.below);
      front = ap (λ m. take m (y ∷ ys)) s ∙ ap (λ l. y ∷ l) k.front;
      rest = ap (λ m. drop m (y ∷ ys)) s ∙ k.rest;
    }

-- the line that stands next
pub next_line : (bytes rest text more : List ℕ) (n : ℕ) (d : Draft) → IsReadSoFar bytes rest n d → lines_of rest ≡ text ∷ lines_of more → IsAt (lines_of bytes) n text (lines_of more)
next_line bytes rest text more n d so_far e = at_place (lines_of bytes) n text (lines_of more) (so_far.left ∙ e)

pub read_on : (bytes rest text more : List ℕ) (n : ℕ) (d : Draft) (r : Record) → IsReadSoFar bytes rest n d → lines_of rest ≡ text ∷ lines_of more → length more < length rest → IsGood r → fields_of text ≡ line_of r → takes d r ≡ true → IsReadSoFar bytes more (n + 1) (after d r)
read_on bytes rest text more n d r so_far e shorter good here taken =
    let k = next_line bytes rest text more n d so_far e in
    record {
      within = omega (arith, k.below);
      drafted = subst (λ ls. IsDraftOf ls (after d r)) (sym k.front) (one_more (take n (lines_of bytes)) text d r so_far.drafted good here taken);
      left = k.rest;
      room = omega (arith, so_far.room);
    }

map_take : {X Y : Type 0} (f : X → Y) (k : ℕ) (xs : List X) → map f (take k xs) ≡ take k (map f xs)
map_take f zero xs = refl
map_take f (suc k) [] = refl
map_take f (suc k) (x ∷ xs) = ap (λ l. f x ∷ l) (map_take f k xs)

-- a document begins with its first lines
whole_begins : (lines : List (List ℕ)) (d : RowsDocument) → AreLinesOf lines d → (n : ℕ) → IsBeginning (take n lines)
whole_begins lines d is n = record {
  whole = d;
  document = is.document;
  front = take n (records_of d);
  rest = drop n (records_of d);
  parts = sym (take-append-drop n (records_of d));
  spelled = map_take fields_of n lines ∙ ap (take n) is.spelled ∙ sym (map_take line_of n (records_of d));
}

-- a line that no record of a document can be here is the first bad one
pub bad_line : (bytes rest text more : List ℕ) (n : ℕ) (d : Draft) → IsReadSoFar bytes rest n d → lines_of rest ≡ text ∷ lines_of more → ((r : Record) → IsGood r → fields_of text ≡ line_of r → takes d r ≡ false) → IsFirstBadLine (lines_of bytes) (n + 1)
bad_line bytes rest text more n d so_far e bad =
    let k = next_line bytes rest text more n d so_far e in
    let breaks_here : IsBeginning (take (n + 1) (lines_of bytes)) → ⊥ = λ b. breaks (take n (lines_of bytes)) text d so_far.drafted bad (subst IsBeginning k.front b) in
    record {
      before = n;
      place = refl;
      within = so_far.within;
      begun = begins (take n (lines_of bytes)) d so_far.drafted;
      broken = λ l b. breaks_here b;
      unread = λ doc lines. breaks_here (whole_begins (lines_of bytes) doc lines (n + 1));
    }

-- the lines are good, and no document ends with them
pub unfinished : (bytes : List ℕ) (n : ℕ) (d : Draft) → IsDraftOf (lines_of bytes) d → n ≡ length (lines_of bytes) → finished d ≡ None → IsFirstBadLine (lines_of bytes) (n + 1)
unfinished bytes n d is e none = record {
  before = n;
  place = refl;
  within = omega arith;
  begun = subst IsBeginning (sym (take_all n (lines_of bytes) (omega arith))) (begins (lines_of bytes) d is);
  broken = λ l b. absurd (omega arith);
  unread = finish_none (lines_of bytes) d is none;
}

-- at the end of the bytes all lines are read
pub record AreAllRead (bytes : List ℕ) (n : ℕ) (d : Draft) : Type 0 where
  pub drafted : IsDraftOf (lines_of bytes) d
  pub counted : n ≡ length (lines_of bytes)
  pub small : n ≤ length bytes

none_left : (rest : List ℕ) → length rest ≡ 0 → lines_of rest ≡ []
none_left [] e = refl
none_left (x ∷ xs) e = absurd (omega arith)

pub at_end : (bytes rest : List ℕ) (n : ℕ) (d : Draft) → IsReadSoFar bytes rest n d → length rest ≡ 0 → AreAllRead bytes n d
at_end bytes rest n d so_far e =
    let left : length (drop n (lines_of bytes)) ≡ 0 = ap length (so_far.left ∙ none_left rest e) in
    let all : length (lines_of bytes) ≤ n = omega (arith, left, length-drop n (lines_of bytes)) in
    record {
      drafted = subst (λ ls. IsDraftOf ls d) (take_all n (lines_of bytes) all) so_far.drafted;
      counted = omega (arith, all, so_far.within);
      small = omega (arith, so_far.room);
    }

take_take : {X : Type 0} (k n : ℕ) (xs : List X) → k ≤ n → take k (take n xs) ≡ take k xs
take_take zero n xs l = refl
take_take (suc k) zero xs l = absurd (omega arith)
take_take (suc k) (suc n) [] l = refl
take_take (suc k) (suc n) (x ∷ xs) l = ap (λ ys. x ∷ ys) (take_take k n xs (omega arith))

-- the lines before the last of a beginning are a beginning
shorter : (lines : List (List ℕ)) (k n : ℕ) → k ≤ n → IsBeginning (take n lines) → IsBeginning (take k lines)
shorter lines k n l b = record {
  whole = b.whole;
  document = b.document;
  front = take k b.front;
  rest = drop k b.front ++ b.rest;
  parts = b.parts ∙ ap (λ rs. rs ++ b.rest) (sym (take-append-drop k b.front)) ∙ append_assoc (take k b.front) (drop k b.front) b.rest;
  spelled = ap (map fields_of) (sym (take_take k n lines l)) ∙ map_take fields_of k (take n lines) ∙ ap (take k) b.spelled ∙ sym (map_take line_of k b.front);
}

not_before : (lines : List (List ℕ)) (m n : ℕ) → IsFirstBadLine lines m → IsFirstBadLine lines n → m < n → ⊥
not_before lines m n a b l = a.broken (omega (arith, a.place, b.place, b.within)) (shorter lines (a.before + 1) b.before (omega (arith, a.place, b.place)) b.begun)

-- there is one first bad line at most
pub first_bad_line_same : (lines : List (List ℕ)) (m n : ℕ) → IsFirstBadLine lines m → IsFirstBadLine lines n → m ≡ n
first_bad_line_same lines m n a b = elim (cases_order m n) [
  | inl e ↦ e
  | inr h ↦ elim h [ inl l ↦ absurd (not_before lines m n a b l) | inr l ↦ absurd (not_before lines n m b a l) ]
]

-- a bad line that reading the lines gave is the one first bad line
pub err_bad : (bytes : List ℕ) (e : RowsError) → IsBadLineOf (lines_of bytes) e → (line : ℕ) → IsFirstBadLine (lines_of bytes) line → IsBadLineOrMemory (Err e) line
err_bad bytes (Fault bad) h line b = first_bad_line_same (lines_of bytes) bad line h b
err_bad bytes (Memory m) h line b = tt
