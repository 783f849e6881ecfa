-- Texts and lists that go on with one part more.
use Rattle.std.proofs.Common.{◌≡◌, ℕ, zero, suc, ◌+◌, ◌<◌, ◌≤◌, ℤ, List, [], ◌∷◌, ◌++◌, length, map, take, get_or, refl, sym, ap, ◌∙◌, arith, append_assoc, append-nil}
use Rattle.std.specs.Prelude.{min, codes}
use Rattle.std.specs.Fmt.{signed_decimal}
use Rattle.std.specs.List.{enumerate_from, flat_map, zip}
use Rattle.std.proofs.lemmas.List.{map-append, take_all, take_more}
use Rattle.std.proofs.lemmas.List.Concat.{flat_map-append}
use Rattle.std.proofs.lemmas.List.FromFn.{length-enumerate_from, get_or-enumerate_from}
use Rattle.std.proofs.lemmas.Slice.Zip.{get_or-zip, length-zip}
use Rattle.csv_rows.specs.Tables.{record_text, table_text}
use Rattle.csv_rows.specs.TableLaws.{table_text-append}
use Rattle.fb_certificate.specs.declared.types.Certificate.{Certificate}
use Rattle.fb_certificate.specs.declared.types.Cite.{Cite}
use Rattle.fb_certificate.specs.declared.types.Inputs.{Inputs}
use Rattle.certificate_text.specs.CertificateTexts.{certificate_text, lines_of_rows, lines_of_states, lines_text}
use Rattle.certificate_text.specs.Lines.{Line, version_line, inner_line, outer_line, end_line, fields_of, numbers_text}
use Rattle.certificate_text.specs.Pieces.{cite_fields, spaced_text}

-- ---- Numbers

pub numbers_spaced : (x : ℤ) (xs : List ℤ) → numbers_text (x ∷ xs) ≡ signed_decimal x ++ spaced_text xs
numbers_spaced x [] = sym (append-nil (signed_decimal x))
numbers_spaced x (y ∷ ys) = ap (λ t. signed_decimal x ++ 32 ∷ t) (numbers_spaced y ys)

-- the class of a row, its right sides and its coefficients
pub row_pieces : (word : List ℕ) (inner outer : ℤ) (a : List ℤ) (first sides new : List ℕ) → first ≡ word → sides ≡ first ++ spaced_text (inner ∷ outer ∷ [])
    → new ≡ sides ++ spaced_text a → new ≡ word ++ 32 ∷ numbers_text (inner ∷ outer ∷ a)
row_pieces word inner outer a first sides new e₁ e₂ e₃ =
    let two = spaced_text (inner ∷ outer ∷ []) in
    e₃ ∙ ap (λ t. t ++ spaced_text a) (e₂ ∙ ap (λ t. t ++ two) e₁)
    ∙ append_assoc word two (spaced_text a)
    ∙ ap (λ t. word ++ t) (sym (flat_map-append (λ (x : ℤ). 32 ∷ signed_decimal x) (inner ∷ outer ∷ []) a))
    ∙ ap (λ t. word ++ 32 ∷ t) (sym (numbers_spaced inner (outer ∷ a)))

-- ---- Items

-- an item that is there
pub item_at : {A : Type 0} (xs : List A) (k : ℕ) → k < length xs → (x : A) × (x ≡ get_or xs k x)
item_at [] k l = absurd (omega (arith, l))
item_at (x ∷ xs) zero l = (x, refl)
item_at (x ∷ xs) (suc k) l = item_at xs k (omega (arith, l))

pub item_more : {A : Type 0} (xs : List A) (k : ℕ) (x : A) → k < length xs → x ≡ get_or xs k x → take (k + 1) xs ≡ take k xs ++ x ∷ []
item_more xs k x l read = take_more xs k x l ∙ ap (λ y. take k xs ++ y ∷ []) (sym read)

pub mapped_more : {A B : Type 0} (f : A → B) (xs : List A) (k : ℕ) (x : A) → take (k + 1) xs ≡ take k xs ++ x ∷ [] → map f (take (k + 1) xs) ≡ map f (take k xs) ++ f x ∷ []
mapped_more f xs k x more = ap (map f) more ∙ map-append f (take k xs) (x ∷ [])

pub flat_more : {A B : Type 0} (f : A → List B) (xs : List A) (k : ℕ) (x : A) → take (k + 1) xs ≡ take k xs ++ x ∷ [] → flat_map f (take (k + 1) xs) ≡ flat_map f (take k xs) ++ f x
flat_more f xs k x more =
    ap (flat_map f) more ∙ flat_map-append f (take k xs) (x ∷ []) ∙ ap (λ ys. flat_map f (take k xs) ++ ys) (append-nil (f x))

-- ---- Items with numbers, and pairs

pub numbered_more : {A : Type 0} (n : ℕ) (xs : List A) (k m : ℕ) (x : A) → k < length xs → m ≡ n + k → x ≡ get_or xs k x
    → take (k + 1) (enumerate_from n xs) ≡ take k (enumerate_from n xs) ++ (m, x) ∷ []
numbered_more n xs k m x l number read =
    take_more (enumerate_from n xs) k (m, x) (let long = length-enumerate_from n xs in omega (arith, long, l))
    ∙ ap (λ p. take k (enumerate_from n xs) ++ p ∷ []) (get_or-enumerate_from n xs k (m, x) l ∙ (λ i. (sym number i, sym read i)))

pub numbered_done : {A : Type 0} (n : ℕ) (xs : List A) (k : ℕ) → length xs ≤ k → take k (enumerate_from n xs) ≡ enumerate_from n xs
numbered_done n xs k past = take_all k (enumerate_from n xs) (let long = length-enumerate_from n xs in omega (arith, long, past))

pub pairs_more : {A B : Type 0} (xs : List A) (ys : List B) (k : ℕ) (x : A) (y : B) → k < length xs → k < length ys → x ≡ get_or xs k x → y ≡ get_or ys k y
    → take (k + 1) (zip xs ys) ≡ take k (zip xs ys) ++ (x, y) ∷ []
pairs_more xs ys k x y l m first second =
    take_more (zip xs ys) k (x, y) (let long = length-zip xs ys in omega (arith, long, l, m))
    ∙ ap (λ p. take k (zip xs ys) ++ p ∷ []) (get_or-zip xs ys k (x, y) l m ∙ (λ i. (sym first i, sym second i)))

pub pairs_done : {A B : Type 0} (xs : List A) (ys : List B) (k : ℕ) → min (length xs) (length ys) ≤ k → take k (zip xs ys) ≡ zip xs ys
pairs_done xs ys k past = take_all k (zip xs ys) (let long = length-zip xs ys in omega (arith, long, past))

-- ---- Lines

lines_text-append : (a b : List Line) → lines_text (a ++ b) ≡ lines_text a ++ lines_text b
lines_text-append a b = ap table_text (map-append fields_of a b) ∙ table_text-append (map fields_of a) (map fields_of b)

pub lines_joined : (old text new : List ℕ) (a b : List Line) → text ≡ old ++ lines_text a → new ≡ text ++ lines_text b → new ≡ old ++ lines_text (a ++ b)
lines_joined old text new a b was is =
    is ∙ ap (λ t. t ++ lines_text b) was ∙ append_assoc old (lines_text a) (lines_text b) ∙ ap (λ t. old ++ t) (sym (lines_text-append a b))

pub line_added : (old text new : List ℕ) (a : List Line) (l : Line) → text ≡ old ++ lines_text a → new ≡ text ++ record_text (fields_of l) → new ≡ old ++ lines_text (a ++ l ∷ [])
line_added old text new a l was is = lines_joined old text new a (l ∷ []) was (is ∙ ap (λ t. text ++ t) (sym (append-nil (record_text (fields_of l)))))

-- ---- The whole text

inner_fields : (cites : List Cite) → map (cite_fields (codes "inner")) cites ≡ map fields_of (map inner_line cites)
inner_fields [] = refl
inner_fields (cite ∷ cites) = ap (λ fs. cite_fields (codes "inner") cite ∷ fs) (inner_fields cites)

outer_fields : (cites : List Cite) → map (cite_fields (codes "outer")) cites ≡ map fields_of (map outer_line cites)
outer_fields [] = refl
outer_fields (cite ∷ cites) = ap (λ fs. cite_fields (codes "outer") cite ∷ fs) (outer_fields cites)

five_parts : {A : Type 0} (a b c d e : List A) → (((a ++ b) ++ c) ++ d) ++ e ≡ a ++ (b ++ (c ++ (d ++ e)))
five_parts a b c d e = append_assoc ((a ++ b) ++ c) d e ∙ append_assoc (a ++ b) c (d ++ e) ∙ append_assoc a b (c ++ (d ++ e))

pub whole_text : (inputs : Inputs) (certificate : Certificate) (empty first states rows inner outer new : List ℕ) → empty ≡ []
    → first ≡ empty ++ record_text (fields_of version_line)
    → states ≡ first ++ lines_text (lines_of_states inputs certificate.states)
    → rows ≡ states ++ lines_text (lines_of_rows certificate.rows)
    → inner ≡ rows ++ table_text (map (cite_fields (codes "inner")) certificate.inner)
    → outer ≡ inner ++ table_text (map (cite_fields (codes "outer")) certificate.outer)
    → new ≡ outer ++ record_text (fields_of end_line)
    → new ≡ certificate_text inputs certificate
whole_text inputs certificate empty first states rows inner outer new e₀ e₁ e₂ e₃ e₄ e₅ e₆ =
    let a = lines_of_states inputs certificate.states in
    let b = lines_of_rows certificate.rows in
    let c = map inner_line certificate.inner in
    let d = map outer_line certificate.outer in
    let l₁ = line_added [] empty first [] version_line e₀ e₁ in
    let l₂ = lines_joined [] first states (version_line ∷ []) a l₁ e₂ in
    let l₃ = lines_joined [] states rows (version_line ∷ a) b l₂ e₃ in
    let l₄ = lines_joined [] rows inner (version_line ∷ (a ++ b)) c l₃ (e₄ ∙ ap (λ fs. rows ++ table_text fs) (inner_fields certificate.inner)) in
    let l₅ = lines_joined [] inner outer (version_line ∷ ((a ++ b) ++ c)) d l₄ (e₅ ∙ ap (λ fs. inner ++ table_text fs) (outer_fields certificate.outer)) in
    let l₆ = line_added [] outer new (version_line ∷ (((a ++ b) ++ c) ++ d)) end_line l₅ e₆ in
    l₆ ∙ ap (λ ls. lines_text (version_line ∷ ls)) (five_parts a b c d (end_line ∷ []))
