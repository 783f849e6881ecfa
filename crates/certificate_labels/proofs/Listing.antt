-- The records that are due, as they are put one behind another.
use Rattle.std.proofs.Common.{◌≡◌, ℕ, ◌+◌, ◌-◌, ◌<◌, ◌≤◌, ℤ, Bool, true, false, List, [], ◌∷◌, ◌++◌, length, get_or, map, take, refl, sym, ap, ◌∙◌, arith, append_assoc, append-nil, length-append, Bor}
use Rattle.std.specs.Prelude.{Option, Some, None, is_some, not, option_map, slice_get}
use Rattle.std.specs.List.{enumerate_from, flat_map}
use Rattle.std.proofs.lemmas.List.{get_or-map, length-map, map-append}
use Rattle.std.proofs.lemmas.List.FromFn.{length-enumerate_from}
use Rattle.std.proofs.lemmas.Option.{slice_get-get_or, slice_get-map}
use Rattle.fb_types.specs.declared.crac.Element.{Element}
use Rattle.fb_certificate.specs.CracRows.{CracRow, row_if, rows_of_element}
use Rattle.certificate_text.proofs.Appending.{flat_more, numbered_more}
use Rattle.certificate_labels.specs.Kinds.{label_of, labels_if, labels_of_rows}
use Rattle.certificate_labels.specs.Labels.{labels_of_state, row_label}
use Rattle.certificate_labels.specs.declared.record.Due.{Due}

abbrev Labels : Type 0
Labels = List (List (List ℕ))

pub pushed : {A B : Type 0} (f : A → B) (xs ys : List A) (x : A) → ys ≡ xs ++ x ∷ [] → map f ys ≡ map f xs ++ f x ∷ []
pushed f xs ys x e = ap (map f) e ∙ map-append f xs (x ∷ [])

-- three labels, and then more
pub three_and_more : (old one two three new : Labels) (a b c : List (List ℕ)) (more : Labels) → one ≡ old ++ a ∷ [] → two ≡ one ++ b ∷ [] → three ≡ two ++ c ∷ [] → new ≡ three ++ more → new ≡ old ++ (a ∷ b ∷ c ∷ more)
three_and_more old one two three new a b c more e₁ e₂ e₃ e₄ =
    e₄
    ∙ ap (λ t. t ++ more) (e₃ ∙ ap (λ t. t ++ c ∷ []) (e₂ ∙ ap (λ t. t ++ b ∷ []) e₁))
    ∙ (simp append_assoc)

-- the label of the record that is due at a place
pub due_at : (dues : List Due) (labels : Labels) (place : ℕ) (d : Due) → map label_of dues ≡ labels → place < length dues → slice_get labels place ≡ Some (label_of (get_or dues place d))
due_at dues labels place d e l =
    ap (λ ls. slice_get ls place) (sym e) ∙ slice_get-map label_of dues place ∙ ap (option_map label_of) (slice_get-get_or dues place d l)

pub no_more_due : (dues : List Due) (labels : Labels) (place : ℕ) → map label_of dues ≡ labels → length dues ≤ place → length labels ≤ place
no_more_due dues labels place e past = let long = length-map dues label_of in let same = ap length e in omega (arith, long, same, past)

-- ---- States

-- the labels of one state more
pub state_more : (first old new : Labels) (shown places : List (ℕ × ℕ)) (items : List (Bor (List ℕ))) (ids : List (List ℕ)) (k : ℕ) (d : Bor (List ℕ)) → old ≡ first ++ flat_map (labels_of_state places) (take k (enumerate_from 0 ids))
    → new ≡ old ++ labels_of_state shown (k, (get_or items k d).now) → shown ≡ places → map (λ (id : Bor (List ℕ)). id.now) items ≡ ids → k < length items
    → new ≡ first ++ flat_map (labels_of_state places) (take (k + 1) (enumerate_from 0 ids))
state_more first old new shown places items ids k d was is same named l =
    let id = (get_or items k d).now in
    let labels = labels_of_state places in
    let numbered = enumerate_from 0 ids in
    let long = sym (length-map items (λ (x : Bor (List ℕ)). x.now)) ∙ ap length named in
    let read : id ≡ get_or ids k id = sym (get_or-map (λ (x : Bor (List ℕ)). x.now) items k d id l) ∙ ap (λ xs. get_or xs k id) named in
    is
    ∙ ap (λ ps. old ++ labels_of_state ps (k, id)) same
    ∙ ap (λ ls. ls ++ labels (k, id)) was
    ∙ append_assoc first (flat_map labels (take k numbered)) (labels (k, id))
    ∙ ap (λ ls. first ++ ls) (sym (flat_more labels numbered k (k, id) (numbered_more 0 ids k k id (omega (arith, long, l)) (omega arith) read)))

-- ---- Rows

pub no_limit : (limit : Option ℤ) (r : Bool) (n : ℕ) (labels : Labels) → is_some limit ≡ not r → r ≡ true → labels ≡ labels ++ labels_if limit n
no_limit None r n labels e t = sym (append-nil labels)
no_limit (Some x) true n labels e t = cc
no_limit (Some x) false n labels e t = cc

pub a_limit : (limit : Option ℤ) (r : Bool) (m n : ℕ) (labels new : Labels) → is_some limit ≡ not r → r ≡ false → new ≡ labels ++ row_label m ∷ [] → m ≡ n → new ≡ labels ++ labels_if limit n
a_limit None true m n labels new e t is same = cc
a_limit None false m n labels new e t is same = cc
a_limit (Some x) r m n labels new e t is same = is ∙ ap (λ k. labels ++ row_label k ∷ []) same

-- the number of the next row, from the labels so far
pub number_is : (f : Due → List (List ℕ)) (dues start : List Due) (before : ℕ) → before ≡ length start → length dues - before + 1 ≡ length (map f dues) - length (map f start) + 1
number_is f dues start before e = let a = length-map dues f in let b = length-map start f in omega (arith, a, b, e)

labels-append : (n : ℕ) (rows more : List CracRow) → labels_of_rows n (rows ++ more) ≡ labels_of_rows n rows ++ labels_of_rows (n + length rows) more
labels-append n [] more = ap (λ m. labels_of_rows m more) (omega arith)
labels-append n (r ∷ rows) more =
    ap (λ (ls : Labels). labels_of_rows n (r ∷ []) ++ ls)
    (labels-append (n + 1) rows more ∙ ap (λ m. labels_of_rows (n + 1) rows ++ labels_of_rows m more) (omega arith))

label_if : (n : ℕ) (e : ℕ × Element) (opposite : Bool) (limit : Option ℤ) → labels_of_rows n (row_if e opposite limit) ≡ labels_if limit n
label_if n e opposite None = refl
label_if n e opposite (Some limit) = refl

row_more : (start old new : Labels) (rows : List CracRow) (e : ℕ × Element) (opposite : Bool) (limit : Option ℤ) (n : ℕ) → old ≡ start ++ labels_of_rows 1 rows → new ≡ old ++ labels_if limit n → n ≡ length rows + 1
    → new ≡ start ++ labels_of_rows 1 (rows ++ row_if e opposite limit)
row_more start old new rows e opposite limit n was is number =
    let counted : n ≡ 1 + length rows = omega (arith, number) in
    is
    ∙ ap (λ t. t ++ labels_if limit n) was
    ∙ append_assoc start (labels_of_rows 1 rows) (labels_if limit n)
    ∙ ap (λ t. start ++ (labels_of_rows 1 rows ++ t)) (ap (labels_if limit) counted ∙ sym (label_if (1 + length rows) e opposite limit))
    ∙ ap (λ t. start ++ t) (sym (labels-append 1 rows (row_if e opposite limit)))

-- so many labels are those of the rows
counted : (start all : Labels) (rows : List CracRow) → all ≡ start ++ labels_of_rows 1 rows → length all ≡ length start + length rows
counted start all rows e =
    let numbered = enumerate_from 1 rows in
    let long = length-enumerate_from 1 rows in
    let mapped = length-map numbered (λ row. row_label row.0) in
    let joined = length-append start (labels_of_rows 1 rows) in
    omega (arith, ap length e, long, mapped, joined)

-- both directions of an element
pub element_more : (start old mid new : Labels) (rows : List CracRow) (e : ℕ × Element) (m n : ℕ) → old ≡ start ++ labels_of_rows 1 rows → mid ≡ old ++ labels_if e.1.direct m → new ≡ mid ++ labels_if e.1.opposite n
    → m ≡ length old - length start + 1 → n ≡ length mid - length start + 1 → new ≡ start ++ labels_of_rows 1 (rows ++ rows_of_element e)
element_more start old mid new rows e m n was first second at_first at_second =
    let direct = row_if e false e.1.direct in
    let opposite = row_if e true e.1.opposite in
    let c₁ = counted start old rows was in
    let half = row_more start old mid rows e false e.1.direct m was first (omega (arith, at_first, c₁)) in
    let c₂ = counted start mid (rows ++ direct) half in
    row_more start mid new (rows ++ direct) e true e.1.opposite n half second (omega (arith, at_second, c₂))
    ∙ ap (λ rs. start ++ labels_of_rows 1 rs) (append_assoc rows direct opposite)

-- the labels so far are no fewer than those at the start
pub no_fewer : (start all : Labels) (rows : List CracRow) → all ≡ start ++ labels_of_rows 1 rows → length start ≤ length all
no_fewer start all rows e = let c = counted start all rows e in omega (arith, c)
