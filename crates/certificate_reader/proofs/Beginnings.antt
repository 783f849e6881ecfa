-- The draft of the first records of a text, and the certificates that begin with them.
use Rattle.std.proofs.Common.{◌≡◌, ◌≢◌, ℕ, ◌+◌, ◌<◌, ◌≤◌, ℤ, pos, true, List, [], ◌∷◌, ◌++◌, map, length, take, drop, refl, sym, ap, ◌∙◌, subst, arith, append_assoc, append-nil, length-append, inl, inr, FitsSigned}
use Rattle.std.specs.Prelude.{Some, None}
use Rattle.std.specs.Int.{w128}
use Rattle.std.specs.List.{All}
use Rattle.std.proofs.lemmas.Bool.{cases_Bool, cases_order}
use Rattle.std.proofs.lemmas.Int.{ints}
use Rattle.std.proofs.lemmas.List.{map-append, map_push, take_all, take-append-drop}
use Rattle.std.proofs.lemmas.List.Elements.{All-append, All-cons, All-head, All-nil, All-push}
use Rattle.fb_types.specs.declared.rows.Angles.{Angles}
use Rattle.state_proofs.specs.declared.StateProof.{StateProof}
use Rattle.cnec_rows.specs.declared.types.RowProof.{RowProof}
use Rattle.fb_certificate.specs.declared.types.Certificate.{Certificate}
use Rattle.fb_certificate.specs.declared.types.Cite.{Cite}
use Rattle.certificate_text.specs.Lines.{Line, AreNumbers, version_line, state_line, barrier_line, column_line, row_line, inner_line, outer_line, end_line, fields_of, IsGood}
use Rattle.certificate_reader.specs.declared.draft.Draft.{Draft}
use Rattle.certificate_reader.specs.declared.draft.Last.{Last}
use Rattle.certificate_reader.specs.declared.draft.Last.TheVariants as last
use Rattle.certificate_reader.specs.Reading.{no_place, unlabelled, lines_of, AreRecordsOf, IsBeginning, IsFirstBadRow}
use Rattle.certificate_reader.specs.Drafts.{start, kind_of, may_follow, admits, with_line, finished, runs, lines_so_far, IsStaged, IsDraftOf, IsReadSoFar, IsNextDraft}
use Rattle.certificate_reader.proofs.LineLaws.{head_same, lines_same}
use Rattle.certificate_reader.proofs.Parts.{is_before, take_front, take_one_more, take_take}
use Rattle.certificate_reader.proofs.Runs.{some_same, run_stops, runs-append, runs_push, runs-certificate, whole}
use Rattle.certificate_reader.proofs.Steps.{made, step}

-- ---- lines without labels are of the same kind

same_kind : (l : Line) → kind_of (unlabelled l) ≡ kind_of l
same_kind version_line = refl
same_kind (state_line k id) = refl
same_kind (barrier_line k v) = refl
same_kind (column_line place x) = refl
same_kind (row_line n r) = refl
same_kind (inner_line c) = refl
same_kind (outer_line c) = refl
same_kind end_line = refl

same_admitted : (d : Draft) (l : Line) → admits d (unlabelled l) ≡ admits d l
same_admitted d l = ap (may_follow d.last) (same_kind l)

same_next : (d : Draft) (l : Line) → with_line d (unlabelled l) ≡ with_line d l
same_next d version_line = refl
same_next d (state_line k id) = refl
same_next d (barrier_line k v) = refl
same_next d (column_line place x) = refl
same_next d (row_line n r) = refl
same_next d (inner_line c) = refl
same_next d (outer_line c) = refl
same_next d end_line = refl

-- ---- a draft can be completed

record Completes (d : Draft) : Type 0 where
  pub certificate : Certificate
  pub version : certificate.version ≡ 1
  pub rest : List Line
  pub good : All IsGood rest
  pub parts : lines_so_far d ++ map unlabelled rest ≡ lines_of certificate

completes_by : (d : Draft) (l : Line) → IsStaged d → admits d l ≡ true → IsGood l → Completes (with_line d l) → Completes d
completes_by d l g t good more = record {
  certificate = more.certificate;
  version = more.version;
  rest = l ∷ more.rest;
  good = All-cons IsGood l more.rest good more.good;
  parts =
      sym (append_assoc (lines_so_far d) (unlabelled l ∷ []) (map unlabelled more.rest))
      ∙ ap (λ ls. ls ++ map unlabelled more.rest) (sym (step d l g t).put)
      ∙ more.parts;
}

completes_end : (states : List StateProof) (rows : List RowProof) (inner outer : List Cite) → Completes (made last.End states rows inner outer)
completes_end states rows inner outer = record {
  certificate = record { version = 1; states = states; rows = rows; inner = inner; outer = outer };
  version = refl;
  rest = [];
  good = All-nil IsGood;
  parts = append-nil (lines_so_far (made last.End states rows inner outer));
}

zero_fits : FitsSigned w128 (pos 0)
zero_fits = omega (arith, ints)

zero_numbers : AreNumbers (pos 0 ∷ [])
zero_numbers = record { some = omega arith; fit = All-cons (FitsSigned w128) (pos 0) [] zero_fits (All-nil (FitsSigned w128)) }

abbrev zero_angles : Angles
zero_angles = record { kappa = 0; w = pos 0 ∷ [] }

good_column : IsGood (column_line no_place zero_angles)
good_column = record { state = zero_fits; zone = zero_fits; block = zero_fits; kappa = omega arith; w = zero_numbers }

abbrev CanComplete : Last → Type 0
CanComplete now = (states : List StateProof) (rows : List RowProof) (inner outer : List Cite) → IsStaged (made now states rows inner outer) → Completes (made now states rows inner outer)

complete_version : CanComplete last.Version
complete_version states rows inner outer g = completes_by (made last.Version states rows inner outer) end_line g refl tt (completes_end states rows inner outer)

complete_column : (s : StateProof) → CanComplete (last.Column s)
complete_column s states rows inner outer g = completes_by (made (last.Column s) states rows inner outer) end_line g refl tt (completes_end (states ++ s ∷ []) rows inner outer)

complete_barrier : (v : List ℤ) → CanComplete (last.Barrier v)
complete_barrier v states rows inner outer g =
    completes_by (made (last.Barrier v) states rows inner outer) (column_line no_place zero_angles) g refl good_column
    (complete_column (record { barrier = v; reference = zero_angles; blocks = [] }) states rows inner outer g)

complete : (now : Last) → CanComplete now
complete last.Nothing states rows inner outer g =
    completes_by (made last.Nothing states rows inner outer) version_line g refl tt (complete_version states rows inner outer g)
complete last.Version states rows inner outer g = complete_version states rows inner outer g
complete last.State states rows inner outer g =
    completes_by (made last.State states rows inner outer) (barrier_line (pos 0) (pos 0 ∷ [])) g refl (zero_fits, zero_numbers)
    (complete_barrier (pos 0 ∷ []) states rows inner outer g)
complete (last.Barrier v) states rows inner outer g = complete_barrier v states rows inner outer g
complete (last.Column s) states rows inner outer g = complete_column s states rows inner outer g
complete last.Row states rows inner outer g = completes_by (made last.Row states rows inner outer) end_line g refl tt (completes_end states rows inner outer)
complete last.Inner states rows inner outer g = completes_by (made last.Inner states rows inner outer) end_line g refl tt (completes_end states rows inner outer)
complete last.Outer states rows inner outer g = completes_by (made last.Outer states rows inner outer) end_line g refl tt (completes_end states rows inner outer)
complete last.End states rows inner outer g = completes_end states rows inner outer

begins_by : (rows : List (List (List ℕ))) (d : Draft) → IsDraftOf rows d → Completes d → IsBeginning rows
begins_by rows d is c = record {
  more = map fields_of c.rest;
  whole = c.certificate;
  are = record {
    lines = is.lines ++ c.rest;
    good = All-append IsGood is.lines c.rest is.good c.good;
    spelled = ap (λ rs. rs ++ map fields_of c.rest) is.spelled ∙ sym (map-append fields_of is.lines c.rest);
    version = c.version;
    parts = map-append unlabelled is.lines c.rest ∙ ap (λ ls. ls ++ map unlabelled c.rest) is.parts ∙ c.parts;
  };
}

-- the records of a draft begin a certificate
pub begins : (rows : List (List (List ℕ))) (d : Draft) → IsDraftOf rows d → IsBeginning rows
begins rows d is = begins_by rows d is (complete d.last d.states d.rows d.inner d.outer is.staged)

-- ---- one more record

pub nothing_read : IsDraftOf [] start
nothing_read = record { lines = []; good = All-nil IsGood; spelled = refl; parts = refl; run = refl; staged = (refl, refl, refl, refl) }

one_more : (rows : List (List (List ℕ))) (row : List (List ℕ)) (d : Draft) (l : Line) → IsDraftOf rows d → IsGood l → admits d l ≡ true → row ≡ fields_of l → IsDraftOf (rows ++ row ∷ []) (with_line d l)
one_more rows row d l is good taken here =
    let s = step d l is.staged taken in
    record {
      lines = is.lines ++ l ∷ [];
      good = All-push IsGood is.lines l is.good good;
      spelled = (λ i. is.spelled i ++ (here i ∷ [])) ∙ sym (map_push fields_of is.lines l);
      parts = map_push unlabelled is.lines l ∙ ap (λ ls. ls ++ unlabelled l ∷ []) is.parts ∙ sym s.put;
      run =
          ap (runs start) (map_push unlabelled is.lines l)
          ∙ runs_push (map unlabelled is.lines) (unlabelled l) start d is.run (same_admitted d l ∙ taken)
          ∙ ap Some (same_next d l);
      staged = s.staged;
    }

-- a record that stands behind those of a draft in a certificate is one that the draft admits
stands : (d : Draft) (lines more : List Line) (row : List (List ℕ)) (rows : List (List (List ℕ))) (c : Certificate) → runs start (map unlabelled lines) ≡ Some d → map unlabelled (lines ++ more) ≡ lines_of c → All IsGood more → row ∷ rows ≡ map fields_of more → ((l : Line) → IsGood l → admits d l ≡ true → row ≢ fields_of l) → ⊥
stands d lines [] row rows c run parts good e bad = cc
stands d lines (l ∷ more) row rows c run parts good e bad = elim (cases_Bool (admits d l)) [
  | inl admitted ↦ bad l (All-head IsGood l more good) admitted (head_same row (fields_of l) rows (map fields_of more) e)
  | inr other ↦
      let rest = map unlabelled more in
      let stops : runs start (lines_of c) ≡ None =
      ap (runs start) (sym parts ∙ map-append unlabelled lines (l ∷ more))
      ∙ runs-append (map unlabelled lines) (unlabelled l ∷ rest) start d run
      ∙ run_stops d (unlabelled l) rest (same_admitted d l ∙ other) in
      let goes = runs-certificate c in
      cc
]

breaks : (rows : List (List (List ℕ))) (row : List (List ℕ)) (d : Draft) → IsDraftOf rows d → ((l : Line) → IsGood l → admits d l ≡ true → row ≢ fields_of l) → IsBeginning (rows ++ row ∷ []) → ⊥
breaks rows row d is bad b =
    let all : map fields_of b.are.lines ≡ map fields_of is.lines ++ (row ∷ b.more) =
    sym b.are.spelled ∙ append_assoc rows (row ∷ []) b.more ∙ ap (λ rs. rs ++ (row ∷ b.more)) is.spelled in
    let k = is_before b.are.lines is.lines (row ∷ b.more) b.are.good is.good all in
    stands d is.lines k.more row b.more b.whole is.run (ap (map unlabelled) (sym k.parts) ∙ b.are.parts) k.good k.spelled bad

-- ---- whole certificates

-- the draft of all records is that of the certificate that they are
all_read : (rows : List (List (List ℕ))) (d : Draft) (c : Certificate) → IsDraftOf rows d → AreRecordsOf rows c → d ≡ whole c
all_read rows d c is are =
    let same = lines_same is.lines are.lines is.good are.good (sym is.spelled ∙ are.spelled) in
    let here : runs start (lines_of c) ≡ Some d = ap (runs start) (sym are.parts ∙ ap (map unlabelled) (sym same)) ∙ is.run in
    some_same d (whole c) (sym here ∙ runs-certificate c)

version_is : (c : Certificate) → c.version ≡ 1 → finished (whole c) ≡ Some c
version_is c e = λ i. Some (record { version = sym e i; states = c.states; rows = c.rows; inner = c.inner; outer = c.outer })

pub reading_finishes : (rows : List (List (List ℕ))) (d : Draft) (c : Certificate) → IsDraftOf rows d → AreRecordsOf rows c → finished d ≡ Some c
reading_finishes rows d c is are = ap finished (all_read rows d c is are) ∙ version_is c are.version

finish_parts : (rows : List (List (List ℕ))) (now : Last) (states : List StateProof) (rs : List RowProof) (inner outer : List Cite) (c : Certificate) → IsDraftOf rows (made now states rs inner outer) → finished (made now states rs inner outer) ≡ Some c → AreRecordsOf rows c
finish_parts rows last.Nothing states rs inner outer c is e = cc
finish_parts rows last.Version states rs inner outer c is e = cc
finish_parts rows last.State states rs inner outer c is e = cc
finish_parts rows (last.Barrier v) states rs inner outer c is e = cc
finish_parts rows (last.Column s) states rs inner outer c is e = cc
finish_parts rows last.Row states rs inner outer c is e = cc
finish_parts rows last.Inner states rs inner outer c is e = cc
finish_parts rows last.Outer states rs inner outer c is e = cc
finish_parts rows last.End states rs inner outer c is e =
    let found : Certificate = record { version = 1; states = states; rows = rs; inner = inner; outer = outer } in
    let are : AreRecordsOf rows found = record { lines = is.lines; good = is.good; spelled = is.spelled; version = refl; parts = is.parts } in
    subst (AreRecordsOf rows) (some_same found c e) are

pub finish_found : (rows : List (List (List ℕ))) (d : Draft) (c : Certificate) → IsDraftOf rows d → finished d ≡ Some c → AreRecordsOf rows c
finish_found rows d c is e = finish_parts rows d.last d.states d.rows d.inner d.outer c is e

finish_none : (rows : List (List (List ℕ))) (d : Draft) → IsDraftOf rows d → finished d ≡ None → (c : Certificate) → AreRecordsOf rows c → ⊥
finish_none rows d is none c are = let some = reading_finishes rows d c is are in cc

-- ---- the first record that is none

-- a certificate begins with its first records
whole_begins : (rows : List (List (List ℕ))) (c : Certificate) → AreRecordsOf rows c → (n : ℕ) → IsBeginning (take n rows)
whole_begins rows c are n = record { more = drop n rows; whole = c; are = subst (λ rs. AreRecordsOf rs c) (sym (take-append-drop n rows)) are }

pub at_start : (rows : List (List (List ℕ))) → IsReadSoFar rows rows 1 start
at_start rows = record { before = []; whole = refl; counted = refl; drafted = nothing_read }

-- a record that no line can be here is the first that is none
pub bad_row : (rows left : List (List (List ℕ))) (row : List (List ℕ)) (number : ℕ) (d : Draft) → IsReadSoFar rows (row ∷ left) number d → IsNextDraft d row None → IsFirstBadRow rows number
bad_row rows left row number d so_far bad =
    let front : take (length so_far.before) rows ≡ so_far.before = ap (take (length so_far.before)) so_far.whole ∙ take_front so_far.before (row ∷ left) in
    let one : take (length so_far.before + 1) rows ≡ so_far.before ++ row ∷ [] = ap (take (length so_far.before + 1)) so_far.whole ∙ take_one_more so_far.before row left in
    let breaks_here : IsBeginning (take (length so_far.before + 1) rows) → ⊥ = λ b. breaks so_far.before row d so_far.drafted bad (subst IsBeginning one b) in
    let long : length rows ≡ length so_far.before + length (row ∷ left) = ap length so_far.whole ∙ length-append so_far.before (row ∷ left) in
    record {
      before = length so_far.before;
      place = so_far.counted;
      within = omega (arith, long);
      begun = subst IsBeginning (sym front) (begins so_far.before d so_far.drafted);
      broken = λ l b. breaks_here b;
      unread = λ c are. breaks_here (whole_begins rows c are (length so_far.before + 1));
    }

pub read_on : (rows left : List (List (List ℕ))) (row : List (List ℕ)) (number : ℕ) (d e : Draft) → IsReadSoFar rows (row ∷ left) number d → IsNextDraft d row (Some e) → IsReadSoFar rows left (number + 1) e
read_on rows left row number d e so_far next = record {
  before = so_far.before ++ row ∷ [];
  whole = so_far.whole ∙ sym (append_assoc so_far.before (row ∷ []) left);
  counted = omega (arith, so_far.counted, length-append so_far.before (row ∷ []));
  drafted = subst (IsDraftOf (so_far.before ++ row ∷ [])) (sym next.4) (one_more so_far.before row d next.0 so_far.drafted next.1 next.2 next.3);
}

pub all_rows : (rows : List (List (List ℕ))) (number : ℕ) (d : Draft) → IsReadSoFar rows [] number d → IsDraftOf rows d
all_rows rows number d so_far = subst (λ rs. IsDraftOf rs d) (sym (so_far.whole ∙ append-nil so_far.before)) so_far.drafted

-- the records are good, and no certificate ends with them
pub unfinished : (rows : List (List (List ℕ))) (number : ℕ) (d : Draft) → IsReadSoFar rows [] number d → finished d ≡ None → IsFirstBadRow rows number
unfinished rows number d so_far none =
    let is = all_rows rows number d so_far in
    let long : length rows ≡ length so_far.before = ap length (so_far.whole ∙ append-nil so_far.before) in
    record {
      before = length rows;
      place = omega (arith, so_far.counted, long);
      within = omega arith;
      begun = subst IsBeginning (sym (take_all (length rows) rows (omega arith))) (begins rows d is);
      broken = λ l b. absurd (omega arith);
      unread = finish_none rows d is none;
    }

-- the records before the last of a beginning are a beginning
shorter : (rows : List (List (List ℕ))) (k n : ℕ) → k ≤ n → IsBeginning (take n rows) → IsBeginning (take k rows)
shorter rows k n l b =
    let front : take k rows ++ (drop k (take n rows) ++ b.more) ≡ take n rows ++ b.more =
    ap (λ rs. rs ++ (drop k (take n rows) ++ b.more)) (sym (take_take k n rows l))
    ∙ sym (append_assoc (take k (take n rows)) (drop k (take n rows)) b.more)
    ∙ ap (λ rs. rs ++ b.more) (take-append-drop k (take n rows)) in
    record { more = drop k (take n rows) ++ b.more; whole = b.whole; are = subst (λ rs. AreRecordsOf rs b.whole) (sym front) b.are }

not_before : (rows : List (List (List ℕ))) (m n : ℕ) → IsFirstBadRow rows m → IsFirstBadRow rows n → m < n → ⊥
not_before rows m n a b l = a.broken (omega (arith, a.place, b.place, b.within)) (shorter rows (a.before + 1) b.before (omega (arith, a.place, b.place)) b.begun)

-- there is one first record that is none at most
pub first_bad_row_same : (rows : List (List (List ℕ))) (m n : ℕ) → IsFirstBadRow rows m → IsFirstBadRow rows n → m ≡ n
first_bad_row_same rows m n a b = elim (cases_order m n) [
  | inl e ↦ e
  | inr h ↦ elim h [ inl l ↦ absurd (not_before rows m n a b l) | inr l ↦ absurd (not_before rows n m b a l) ]
]
