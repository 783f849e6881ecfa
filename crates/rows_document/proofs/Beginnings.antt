-- Lines with which some document begins.
use Rattle.std.proofs.Common.{◌≡◌, ℕ, ◌≤◌, ◌^◌, ℤ, pos, false, List, [], ◌∷◌, ◌++◌, map, length, replicate, refl, sym, ap, ◌∙◌, arith, append_assoc, append-nil, FitsSigned}
use Rattle.std.specs.Prelude.{Option, Some, None}
use Rattle.std.specs.Int.{w128}
use Rattle.std.specs.List.{All}
use Rattle.std.proofs.lemmas.Int.{ints}
use Rattle.std.proofs.lemmas.List.{length-replicate}
use Rattle.std.proofs.lemmas.List.Elements.{All-append, All-cons, All-nil, All-head, All-tail, All-replicate, All-same}
use Rattle.whole_laws.specs.Sums.{IsWithin}
use Rattle.fb_types.specs.declared.rows.Bounds.{Bounds}
use Rattle.fb_types.specs.declared.rows.Half.{Half}
use Rattle.fb_types.specs.declared.rows.Mult.{Mult}
use Rattle.rows_document.specs.Table.{fields_of}
use Rattle.rows_document.specs.Records.{IsGood, IsGoodHalf, line_of}
use Rattle.rows_document.specs.RecordLaws.{line_same}
use Rattle.rows_document.specs.Reading.{IsBeginning, records_of}
use Rattle.rows_document.specs.Drafts.{start, takes, runs, records_so_far, IsStaged, IsDraftOf}
use Rattle.rows_document.specs.declared.record.Record.{Record}
use Rattle.rows_document.specs.declared.record.Record.TheVariants.{Zone, Row, Target, Balance}
use Rattle.rows_document.specs.declared.reader.RowsDocument.{RowsDocument}
use Rattle.rows_document.specs.declared.draft.Draft.{Draft}
use Rattle.rows_document.proofs.Parts.{all_left}
use Rattle.rows_document.proofs.Runs.{runs-append, runs-document, run_stops}

-- ---- a draft can be completed

abbrev zero_row : ℕ → Half
zero_row n = record { a = replicate n (pos 0); r = pos 0 }

zero_within : (m : ℕ) → IsWithin m (pos 0)
zero_within m = record { low = omega (arith, ints); high = omega (arith, ints) }

good_zero : (n : ℕ) → n ≤ 64 → IsGoodHalf (zero_row n)
good_zero n h = record {
  side = zero_within _;
  coefficients = record { few = omega (arith, length-replicate n (pos 0)); small = All-replicate (λ k. IsWithin (10 ^ 12) k) n (pos 0) (zero_within _) };
}

abbrev good_balance : FitsSigned w128 (pos 0)
good_balance = omega (arith, ints)

one : (r : Record) → IsGood r → All IsGood (r ∷ [])
one r g = All-cons IsGood r [] g (All-nil IsGood)

two : (r s : Record) → IsGood r → IsGood s → All IsGood (r ∷ s ∷ [])
two r s g h = All-cons IsGood r (s ∷ []) g (one s h)

abbrev zero_zone : Bounds
zero_zone = record { low = pos 0; high = pos 0 }

-- how a draft goes on to a whole document
record Completes (d : Draft) : Type 0 where
  pub whole : RowsDocument
  pub rest : List Record
  pub parts : records_of whole ≡ records_so_far d ++ rest
  pub good : All IsGood rest
  pub some_zone : 1 ≤ length whole.bounds
  pub few_zones : length whole.bounds ≤ 64
  pub few_rows : length whole.rows ≤ 40000
  pub rows_over : All (λ h. length h.a ≡ length whole.bounds) whole.rows
  pub target_over : length whole.target.a ≡ length whole.bounds

abbrev made : List Bounds → List Half → Option Half → List Mult → Option ℤ → Draft
made bs hs t ms mu = record { bounds = bs; rows = hs; target = t; mults = ms; mu = mu }

regroup : (xs ys rest : List Record) → xs ++ (ys ++ rest) ≡ (xs ++ (ys ++ [])) ++ rest
regroup xs ys rest = sym (append_assoc xs (ys ++ []) rest ∙ ap (λ l. xs ++ l) (append_assoc ys [] rest))

complete : (bs : List Bounds) (hs : List Half) (t : Option Half) (ms : List Mult) (mu : Option ℤ) → IsStaged (made bs hs t ms mu) → Completes (made bs hs t ms mu)
complete bs hs None (m ∷ ms) mu s = let e = s.no_more.0 in cc
complete bs hs None [] (Some v) s = let e = s.no_more.1 in cc
complete [] (h ∷ hs) None [] None s = let e = s.rows_after refl in cc
complete [] [] None [] None s = record {
  whole = record { bounds = zero_zone ∷ []; rows = []; target = zero_row 1; by = record { mu = pos 0; mults = [] } };
  rest = Zone zero_zone ∷ Target (zero_row 1) ∷ Balance (pos 0) ∷ [];
  parts = refl;
  good = All-cons IsGood (Zone zero_zone) (Target (zero_row 1) ∷ Balance (pos 0) ∷ []) (record { small = record { low = zero_within _; high = zero_within _ }; ordered = omega (arith, ints) }) (two (Target (zero_row 1)) (Balance (pos 0)) (good_zero 1 (omega arith)) good_balance);
  some_zone = omega arith;
  few_zones = omega arith;
  few_rows = omega arith;
  rows_over = All-nil _;
  target_over = refl;
}
complete (b ∷ bs) hs None [] None s = record {
  whole = record { bounds = b ∷ bs; rows = hs; target = zero_row (length (b ∷ bs)); by = record { mu = pos 0; mults = [] } };
  rest = Target (zero_row (length (b ∷ bs))) ∷ Balance (pos 0) ∷ [];
  parts = regroup (map Zone (b ∷ bs)) (map Row hs) (Target (zero_row (length (b ∷ bs))) ∷ Balance (pos 0) ∷ []);
  good = two (Target (zero_row (length (b ∷ bs)))) (Balance (pos 0)) (good_zero (length (b ∷ bs)) s.few_zones) good_balance;
  some_zone = omega arith;
  few_zones = s.few_zones;
  few_rows = s.few_rows;
  rows_over = s.rows_over;
  target_over = length-replicate (length (b ∷ bs)) (pos 0);
}
complete bs hs (Some h) ms None s = record {
  whole = record { bounds = bs; rows = hs; target = h; by = record { mu = pos 0; mults = ms } };
  rest = Balance (pos 0) ∷ [];
  parts = simp (append_assoc, append-nil);
  good = one (Balance (pos 0)) good_balance;
  some_zone = s.target_over.0;
  few_zones = s.few_zones;
  few_rows = s.few_rows;
  rows_over = s.rows_over;
  target_over = s.target_over.1;
}
complete bs hs (Some h) ms (Some v) s = record {
  whole = record { bounds = bs; rows = hs; target = h; by = record { mu = v; mults = ms } };
  rest = [];
  parts = simp (append_assoc, append-nil);
  good = All-nil IsGood;
  some_zone = s.target_over.0;
  few_zones = s.few_zones;
  few_rows = s.few_rows;
  rows_over = s.rows_over;
  target_over = s.target_over.1;
}

begins_by : (texts : List (List ℕ)) (d : Draft) → IsDraftOf texts d → Completes d → IsBeginning texts
begins_by texts d is c = record {
  whole = c.whole;
  document = record {
    some_zone = c.some_zone;
    few_zones = c.few_zones;
    few_rows = c.few_rows;
    rows_over = c.rows_over;
    target_over = c.target_over;
    in_range = All-same IsGood (records_of c.whole) (records_so_far d ++ c.rest) c.parts (All-append IsGood (records_so_far d) c.rest is.good c.good);
  };
  front = records_so_far d;
  rest = c.rest;
  parts = c.parts;
  spelled = sym is.spelled;
}

-- the lines of a draft begin a document
pub begins : (texts : List (List ℕ)) (d : Draft) → IsDraftOf texts d → IsBeginning texts
begins texts d is = begins_by texts d is (complete d.bounds d.rows d.target d.mults d.mu is.staged)

-- ---- a line after which no document goes on

map_two : {X Y : Type 0} (f : X → Y) (xs : List X) (x : X) → map f (xs ++ x ∷ []) ≡ map f xs ++ f x ∷ []
map_two f [] x = refl
map_two f (y ∷ ys) x = ap (λ l. f y ∷ l) (map_two f ys x)

cons_same : {X : Type 0} (x y : X) (xs ys : List X) → (x ∷ xs) ≡ (y ∷ ys) → (x ≡ y) × (xs ≡ ys)
cons_same x y xs ys e = (cc, cc)

-- a list whose lines are those of xs and one more
last_of : (xs : List Record) (line : List (List ℕ)) (front : List Record) → All IsGood xs → All IsGood front → map line_of front ≡ map line_of xs ++ line ∷ [] → (last : Record) × (front ≡ xs ++ last ∷ []) × IsGood last × (line ≡ line_of last)
last_of [] line [] g h e = cc
last_of [] line (r ∷ []) g h e = (r, refl, All-head IsGood r [] h, sym (cons_same (line_of r) line [] [] e).0)
last_of [] line (r ∷ s ∷ rs) g h e = cc
last_of (x ∷ xs) line [] g h e = cc
last_of (x ∷ xs) line (r ∷ rs) g h e =
    let c = cons_same (line_of r) (line_of x) (map line_of rs) (map line_of xs ++ line ∷ []) e in
    let k = last_of xs line rs (All-tail IsGood x xs g) (All-tail IsGood r rs h) c.1 in
    let same = line_same r x (All-head IsGood r rs h) (All-head IsGood x xs g) c.0 in
    (k.0, (λ i. same i ∷ k.1 i), k.2, k.3)

-- no document begins with the lines of a draft and a line whose record the draft does not take
pub breaks : (texts : List (List ℕ)) (line : List ℕ) (e : Draft) → IsDraftOf texts e → ((r : Record) → IsGood r → fields_of line ≡ line_of r → takes e r ≡ false) → IsBeginning (texts ++ line ∷ []) → ⊥
breaks texts line e is bad b =
    let lines : map line_of b.front ≡ map line_of (records_so_far e) ++ fields_of line ∷ [] = sym b.spelled ∙ map_two fields_of texts line ∙ ap (λ ls. ls ++ fields_of line ∷ []) (sym is.spelled) in
    let good = all_left IsGood b.front b.rest (All-same IsGood (b.front ++ b.rest) (records_of b.whole) (sym b.parts) b.document.in_range) in
    let k = last_of (records_so_far e) (fields_of line) b.front is.good good lines in
    let parts : records_of b.whole ≡ records_so_far e ++ (k.0 ∷ b.rest) = b.parts ∙ ap (λ rs. rs ++ b.rest) k.1 ∙ append_assoc (records_so_far e) (k.0 ∷ []) b.rest in
    let stops : runs start (records_of b.whole) ≡ None = ap (runs start) parts ∙ runs-append (records_so_far e) (k.0 ∷ b.rest) start e is.run ∙ run_stops e k.0 b.rest (bad k.0 k.2 k.3) in
    let goes = runs-document b.whole b.document in
    cc
