-- Runs of records into a draft.
use Rattle.std.proofs.Common.{◌≡◌, ◌+◌, ◌<◌, ◌≤◌, ℤ, Bool, true, false, cond, List, [], ◌∷◌, ◌++◌, map, length, refl, sym, ap, ◌∙◌, arith, append_assoc, append-nil, length-append}
use Rattle.std.specs.Prelude.{Option, Some, None}
use Rattle.std.specs.List.{All}
use Rattle.std.proofs.lemmas.Bool.Decides.{nat_tests}
use Rattle.std.proofs.lemmas.List.Elements.{All-head, All-tail}
use Rattle.fb_types.specs.declared.rows.Bounds.{Bounds}
use Rattle.fb_types.specs.declared.rows.Half.{Half}
use Rattle.fb_types.specs.declared.rows.Mult.{Mult}
use Rattle.rows_document.specs.declared.record.Record.{Record}
use Rattle.rows_document.specs.declared.record.Record.TheVariants.{Zone, Row, Target, Cite, Balance}
use Rattle.rows_document.specs.declared.reader.RowsDocument.{RowsDocument}
use Rattle.rows_document.specs.declared.draft.Draft.{Draft}
use Rattle.rows_document.specs.Reading.{IsDocument, records_of}
use Rattle.rows_document.specs.Drafts.{start, takes, after, runs, records_so_far, IsStaged}
use Rattle.std.proofs.lemmas.List.{map_push}
use Rattle.std.proofs.lemmas.List.Elements.{All-push, All-nil}

pub some_same : {X : Type 0} (x y : X) → Some x ≡ Some y → x ≡ y
some_same x y e = cc

-- one step
run_one : (d : Draft) (r : Record) (rs : List Record) → takes d r ≡ true → runs d (r ∷ rs) ≡ runs (after d r) rs
run_one d r rs t = ap (λ (b : Bool). cond b (runs (after d r) rs) None) t

pub run_stops : (d : Draft) (r : Record) (rs : List Record) → takes d r ≡ false → runs d (r ∷ rs) ≡ None
run_stops d r rs t = ap (λ (b : Bool). cond b (runs (after d r) rs) None) t

run_taken : (b : Bool) (o : Option Draft) (e : Draft) → cond b o None ≡ Some e → (b ≡ true) × (o ≡ Some e)
run_taken true o e h = (refl, h)
run_taken false o e h = cc

pub runs-append : (xs ys : List Record) (d e : Draft) → runs d xs ≡ Some e → runs d (xs ++ ys) ≡ runs e ys
runs-append [] ys d e h = ap (λ (t : Draft). runs t ys) (some_same d e h)
runs-append (x ∷ xs) ys d e h =
    let t = run_taken (takes d x) (runs (after d x) xs) e h in
    run_one d x (xs ++ ys) t.0 ∙ runs-append xs ys (after d x) e t.1

pub runs_push : (xs : List Record) (r : Record) (d e : Draft) → runs d xs ≡ Some e → takes e r ≡ true → runs d (xs ++ r ∷ []) ≡ Some (after e r)
runs_push xs r d e h t = runs-append xs (r ∷ []) d e h ∙ run_one e r [] t

-- all bounds, rows and citations in a row
zones : (front bs : List Bounds) (rest : List Record) → length front + length bs ≤ 64 → runs (record { bounds = front; rows = []; target = None; mults = []; mu = None }) (map Zone bs ++ rest) ≡ runs (record { bounds = front ++ bs; rows = []; target = None; mults = []; mu = None }) rest
zones front [] rest h = ap (λ (t : List Bounds). runs (record { bounds = t; rows = []; target = None; mults = []; mu = None }) rest) (sym (append-nil front))
zones front (b ∷ bs) rest h =
    let l = length-append front (b ∷ []) in
    run_one (record { bounds = front; rows = []; target = None; mults = []; mu = None }) (Zone b) (map Zone bs ++ rest) (grind (arith, nat_tests))
    ∙ zones (front ++ b ∷ []) bs rest (omega arith)
    ∙ ap (λ (t : List Bounds). runs (record { bounds = t; rows = []; target = None; mults = []; mu = None }) rest) (append_assoc front (b ∷ []) bs)

rows : (bounds : List Bounds) (front hs : List Half) (rest : List Record) → 1 ≤ length bounds → All (λ h. length h.a ≡ length bounds) hs → length front + length hs ≤ 40000 → runs (record { bounds = bounds; rows = front; target = None; mults = []; mu = None }) (map Row hs ++ rest) ≡ runs (record { bounds = bounds; rows = front ++ hs; target = None; mults = []; mu = None }) rest
rows bounds front [] rest n over h = ap (λ (t : List Half). runs (record { bounds = bounds; rows = t; target = None; mults = []; mu = None }) rest) (sym (append-nil front))
rows bounds front (x ∷ hs) rest n over h =
    let l = length-append front (x ∷ []) in
    let long = All-head (λ (h : Half). length h.a ≡ length bounds) x hs over in
    run_one (record { bounds = bounds; rows = front; target = None; mults = []; mu = None }) (Row x) (map Row hs ++ rest) (grind (arith, nat_tests))
    ∙ rows bounds (front ++ x ∷ []) hs rest n (All-tail (λ (h : Half). length h.a ≡ length bounds) x hs over) (omega arith)
    ∙ ap (λ (t : List Half). runs (record { bounds = bounds; rows = t; target = None; mults = []; mu = None }) rest) (append_assoc front (x ∷ []) hs)

cites : (bounds : List Bounds) (hs : List Half) (target : Half) (front ms : List Mult) (rest : List Record) → runs (record { bounds = bounds; rows = hs; target = Some target; mults = front; mu = None }) (map Cite ms ++ rest) ≡ runs (record { bounds = bounds; rows = hs; target = Some target; mults = front ++ ms; mu = None }) rest
cites bounds hs target front [] rest = ap (λ (t : List Mult). runs (record { bounds = bounds; rows = hs; target = Some target; mults = t; mu = None }) rest) (sym (append-nil front))
cites bounds hs target front (m ∷ ms) rest =
    run_one (record { bounds = bounds; rows = hs; target = Some target; mults = front; mu = None }) (Cite m) (map Cite ms ++ rest) refl
    ∙ cites bounds hs target (front ++ m ∷ []) ms rest
    ∙ ap (λ (t : List Mult). runs (record { bounds = bounds; rows = hs; target = Some target; mults = t; mu = None }) rest) (append_assoc front (m ∷ []) ms)

abbrev pub whole : RowsDocument → Draft
whole d = record { bounds = d.bounds; rows = d.rows; target = Some d.target; mults = d.by.mults; mu = Some d.by.mu }

-- the records of a document run through
pub runs-document : (d : RowsDocument) → IsDocument d → runs start (records_of d) ≡ Some (whole d)
runs-document d h =
    let tail = Target d.target ∷ (map Cite d.by.mults ++ Balance d.by.mu ∷ []) in
    let long = h.target_over in
    zones [] d.bounds (map Row d.rows ++ tail) (omega (arith, h.few_zones))
    ∙ rows d.bounds [] d.rows tail h.some_zone h.rows_over (omega (arith, h.few_rows))
    ∙ run_one (record { bounds = d.bounds; rows = d.rows; target = None; mults = []; mu = None }) (Target d.target) (map Cite d.by.mults ++ Balance d.by.mu ∷ []) (grind (arith, nat_tests))
    ∙ cites d.bounds d.rows d.target [] d.by.mults (Balance d.by.mu ∷ [])
    ∙ run_one (record { bounds = d.bounds; rows = d.rows; target = Some d.target; mults = d.by.mults; mu = None }) (Balance d.by.mu) [] refl

-- A record that a draft takes is put at the end, and keeps the draft staged.
abbrev Step : Draft → Record → Type 0
Step d r = (records_so_far (after d r) ≡ records_so_far d ++ r ∷ []) × IsStaged (after d r)

abbrev made : List Bounds → List Half → Option Half → List Mult → Option ℤ → Draft
made bs hs t ms mu = record { bounds = bs; rows = hs; target = t; mults = ms; mu = mu }

step_zone : (bs : List Bounds) (hs : List Half) (t : Option Half) (ms : List Mult) (mu : Option ℤ) (b : Bounds) → IsStaged (made bs hs t ms mu) → takes (made bs hs t ms mu) (Zone b) ≡ true → Step (made bs hs t ms mu) (Zone b)
step_zone bs hs (Some h) ms mu b s t = cc
step_zone bs hs None (m ∷ ms) mu b s t = let e = s.no_more.0 in cc
step_zone bs hs None [] (Some v) b s t = let e = s.no_more.1 in cc
step_zone bs (h ∷ hs) None [] None b s t = absurd (grind (arith, nat_tests))
step_zone bs [] None [] None b s t =
    let few : length bs < 64 = grind (arith, nat_tests) in
    let l = length-append bs (b ∷ []) in (
      ap (λ (rs : List Record). rs ++ []) (map_push Zone bs b) ∙ append-nil (map Zone bs ++ Zone b ∷ []) ∙ ap (λ (rs : List Record). rs ++ Zone b ∷ []) (sym (append-nil (map Zone bs))),
      record { few_zones = omega arith; few_rows = s.few_rows; rows_over = All-nil (λ (h : Half). length h.a ≡ length (bs ++ b ∷ [])); rows_after = λ _. refl; target_over = tt; no_more = (refl, refl) },
    )

step_row : (bs : List Bounds) (hs : List Half) (t : Option Half) (ms : List Mult) (mu : Option ℤ) (h : Half) → IsStaged (made bs hs t ms mu) → takes (made bs hs t ms mu) (Row h) ≡ true → Step (made bs hs t ms mu) (Row h)
step_row bs hs (Some g) ms mu h s t = cc
step_row bs hs None (m ∷ ms) mu h s t = let e = s.no_more.0 in cc
step_row bs hs None [] (Some v) h s t = let e = s.no_more.1 in cc
step_row bs hs None [] None h s t =
    let few : length hs < 40000 = grind (arith, nat_tests) in
    let some : 0 < length bs = grind (arith, nat_tests) in
    let long : length h.a ≡ length bs = grind (arith, nat_tests) in
    let l = length-append hs (h ∷ []) in (
      ap (λ (rs : List Record). map Zone bs ++ (rs ++ [])) (map_push Row hs h) ∙ simp (append_assoc, append-nil),
      record { few_zones = s.few_zones; few_rows = omega arith; rows_over = All-push (λ (h : Half). length h.a ≡ length bs) hs h s.rows_over long; rows_after = λ none. absurd (omega arith); target_over = tt; no_more = (refl, refl) },
    )

step_target : (bs : List Bounds) (hs : List Half) (t : Option Half) (ms : List Mult) (mu : Option ℤ) (h : Half) → IsStaged (made bs hs t ms mu) → takes (made bs hs t ms mu) (Target h) ≡ true → Step (made bs hs t ms mu) (Target h)
step_target bs hs (Some g) ms mu h s t = cc
step_target bs hs None (m ∷ ms) mu h s t = let e = s.no_more.0 in cc
step_target bs hs None [] (Some v) h s t = let e = s.no_more.1 in cc
step_target bs hs None [] None h s t =
    let some : 1 ≤ length bs = grind (arith, nat_tests) in
    let long : length h.a ≡ length bs = grind (arith, nat_tests) in (
      simp (append_assoc, append-nil),
      record { few_zones = s.few_zones; few_rows = s.few_rows; rows_over = s.rows_over; rows_after = s.rows_after; target_over = (some, long); no_more = tt },
    )

step_cite : (bs : List Bounds) (hs : List Half) (t : Option Half) (ms : List Mult) (mu : Option ℤ) (m : Mult) → IsStaged (made bs hs t ms mu) → takes (made bs hs t ms mu) (Cite m) ≡ true → Step (made bs hs t ms mu) (Cite m)
step_cite bs hs None ms mu m s t = cc
step_cite bs hs (Some g) ms (Some v) m s t = cc
step_cite bs hs (Some g) ms None m s t = (
  ap (λ (rs : List Record). map Zone bs ++ (map Row hs ++ (Target g ∷ (rs ++ [])))) (map_push Cite ms m) ∙ simp (append_assoc, append-nil),
  record { few_zones = s.few_zones; few_rows = s.few_rows; rows_over = s.rows_over; rows_after = s.rows_after; target_over = s.target_over; no_more = tt },
)

step_balance : (bs : List Bounds) (hs : List Half) (t : Option Half) (ms : List Mult) (mu : Option ℤ) (v : ℤ) → IsStaged (made bs hs t ms mu) → takes (made bs hs t ms mu) (Balance v) ≡ true → Step (made bs hs t ms mu) (Balance v)
step_balance bs hs None ms mu v s t = cc
step_balance bs hs (Some g) ms (Some u) v s t = cc
step_balance bs hs (Some g) ms None v s t = (
  simp (append_assoc, append-nil),
  record { few_zones = s.few_zones; few_rows = s.few_rows; rows_over = s.rows_over; rows_after = s.rows_after; target_over = s.target_over; no_more = tt },
)

pub step : (d : Draft) (r : Record) → IsStaged d → takes d r ≡ true → Step d r
step d (Zone b) s t = step_zone d.bounds d.rows d.target d.mults d.mu b s t
step d (Row h) s t = step_row d.bounds d.rows d.target d.mults d.mu h s t
step d (Target h) s t = step_target d.bounds d.rows d.target d.mults d.mu h s t
step d (Cite m) s t = step_cite d.bounds d.rows d.target d.mults d.mu m s t
step d (Balance v) s t = step_balance d.bounds d.rows d.target d.mults d.mu v s t
