-- A text is that of one line.
use Rattle.std.proofs.Common.{◌≡◌, ℕ, false, List, [], ◌∷◌, map, refl, sym, ap, ◌∙◌, arith, lit<, ◌*◌, ◌^◌, ℤ, FitsSigned}
use Rattle.std.specs.Prelude.{codes, if◌then◌else◌}
use Rattle.std.specs.Fmt.{decimal}
use Rattle.std.specs.Int.{w128}
use Rattle.std.specs.List.{All}
use Rattle.std.specs.Str.{bytes_eq}
use Rattle.std.proofs.lemmas.Slice.Eq.{bytes_eq-Decides}
use Rattle.std.proofs.lemmas.List.Elements.{All-cons, All-nil}
use Rattle.fb_types.specs.declared.rows.Angles.{Angles}
use Rattle.cnec_rows.specs.declared.types.RowProof.{RowProof}
use Rattle.cnec_selection.specs.declared.Class.{Class}
use Rattle.cnec_selection.specs.declared.Class.TheVariants.{Below, Doubtful, Certain}
use Rattle.fb_certificate.specs.declared.types.Cite.{Cite}
use Rattle.number_lists.specs.ListLaws.{items_same, numbers_same, within_numbers}
use Rattle.number_lists.specs.Lists.{AreNumbers, numbers_text}
use Rattle.number_lists.specs.WordLaws.{word_same}
use Rattle.whole_numbers.specs.SpelledLaws.{decimal_same, fits_within, signed_same}
use Rattle.domain_report.specs.DomainTexts.{class_word}
use Rattle.certificate_text.specs.Lines.{Line, Place, version_line, state_line, barrier_line, column_line, row_line, inner_line, outer_line, end_line, fields_of, place_text, angles_text, row_text, IsGood, IsGoodColumn, IsGoodRow, IsGoodCite}
use Rattle.certificate_text.specs.Lines as line
use Rattle.certificate_reader.specs.Drafts.{kind_of}
use Rattle.certificate_reader.specs.Spellings.{IsGoodBy, cite_texts}
use Rattle.certificate_reader.proofs.CitationLaws.{citation_same}
use Rattle.certificate_reader.proofs.Leaves.{class_is_word, kappa_is_word}

pub head_same : {X : Type 0} (x y : X) (xs ys : List X) → (x ∷ xs) ≡ (y ∷ ys) → x ≡ y
head_same x y xs ys e = cc

pub tail_same : {X : Type 0} (x y : X) (xs ys : List X) → (x ∷ xs) ≡ (y ∷ ys) → xs ≡ ys
tail_same x y xs ys e = cc

-- ---- the values of each kind

are_numbers : (xs : List ℤ) → line.AreNumbers xs → AreNumbers xs
are_numbers xs h = record { some = h.some; fit = h.fit }

apart : (xs ys : List ℕ) → xs ≡ ys → bytes_eq xs ys ≡ false → ⊥
apart xs ys e h = let t = (bytes_eq-Decides xs ys).1 e in cc

class_same : (c d : Class) → class_word c ≡ class_word d → c ≡ d
class_same Below Below e = refl
class_same Doubtful Doubtful e = refl
class_same Certain Certain e = refl
class_same Below Doubtful e = absurd (apart _ _ e refl)
class_same Below Certain e = absurd (apart _ _ e refl)
class_same Doubtful Below e = absurd (apart _ _ e refl)
class_same Doubtful Certain e = absurd (apart _ _ e refl)
class_same Certain Below e = absurd (apart _ _ e refl)
class_same Certain Doubtful e = absurd (apart _ _ e refl)

place_numbers : (p : Place) (x : Angles) → IsGoodColumn p x → AreNumbers (p.state ∷ p.zone ∷ p.block ∷ [])
place_numbers p x g = record {
  some = omega arith;
  fit = All-cons (FitsSigned w128) p.state (p.zone ∷ p.block ∷ []) g.state (All-cons (FitsSigned w128) p.zone (p.block ∷ []) g.zone (All-cons (FitsSigned w128) p.block [] g.block (All-nil (FitsSigned w128))));
}

place_same : (p q : Place) (x y : Angles) → IsGoodColumn p x → IsGoodColumn q y → place_text p ≡ place_text q → p ≡ q
place_same p q x y g h e =
    let all = numbers_same (p.state ∷ p.zone ∷ p.block ∷ []) (q.state ∷ q.zone ∷ q.block ∷ []) (place_numbers p x g) (place_numbers q y h) e in
    let state = head_same p.state q.state (p.zone ∷ p.block ∷ []) (q.zone ∷ q.block ∷ []) all in
    let two = tail_same p.state q.state (p.zone ∷ p.block ∷ []) (q.zone ∷ q.block ∷ []) all in
    let zone = head_same p.zone q.zone (p.block ∷ []) (q.block ∷ []) two in
    let block = head_same p.block q.block [] [] (tail_same p.zone q.zone (p.block ∷ []) (q.block ∷ []) two) in
    λ i. record { state = state i; zone = zone i; block = block i }

angles_same : (p q : Place) (x y : Angles) → IsGoodColumn p x → IsGoodColumn q y → angles_text x ≡ angles_text y → x ≡ y
angles_same p q x y g h e =
    let s = word_same 32 (decimal x.kappa) (decimal y.kappa) (numbers_text x.w) (numbers_text y.w) (kappa_is_word x.kappa g.kappa) (kappa_is_word y.kappa h.kappa) e in
    let kappa = decimal_same x.kappa y.kappa (omega (arith, g.kappa)) (omega (arith, h.kappa)) s.0 in
    let w = numbers_same x.w y.w (are_numbers x.w g.w) (are_numbers y.w h.w) s.1 in
    λ i. record { kappa = kappa i; w = w i }

row_numbers : (r : RowProof) → IsGoodRow r → AreNumbers (r.r_in ∷ r.r_out ∷ r.a)
row_numbers r g = record {
  some = omega arith;
  fit = All-cons (FitsSigned w128) r.r_in (r.r_out ∷ r.a) (fits_within (2 * 10 ^ 13) r.r_in g.inner (lit< tt))
      (All-cons (FitsSigned w128) r.r_out r.a (fits_within (2 * 10 ^ 13) r.r_out g.outer (lit< tt))
      (within_numbers (10 ^ 12) r.a (lit< tt) (record { some = g.some; small = g.coefficients })).fit);
}

row_same : (x y : RowProof) → IsGoodRow x → IsGoodRow y → row_text x ≡ row_text y → x ≡ y
row_same x y g h e =
    let s = word_same 32 (class_word x.class) (class_word y.class) (numbers_text (x.r_in ∷ x.r_out ∷ x.a)) (numbers_text (y.r_in ∷ y.r_out ∷ y.a)) (class_is_word x.class) (class_is_word y.class) e in
    let class = class_same x.class y.class s.0 in
    let all = numbers_same (x.r_in ∷ x.r_out ∷ x.a) (y.r_in ∷ y.r_out ∷ y.a) (row_numbers x g) (row_numbers y h) s.1 in
    let inner = head_same x.r_in y.r_in (x.r_out ∷ x.a) (y.r_out ∷ y.a) all in
    let rest = tail_same x.r_in y.r_in (x.r_out ∷ x.a) (y.r_out ∷ y.a) all in
    let outer = head_same x.r_out y.r_out x.a y.a rest in
    let a = tail_same x.r_out y.r_out x.a y.a rest in
    λ i. record { class = class i; a = a i; r_in = inner i; r_out = outer i }

good_by : (c : Cite) → IsGoodCite c → IsGoodBy c.by
good_by c g = record { mu = g.mu; mults = λ k d l. record { row = g.rows k d l; value = g.values k d l } }

cite_same : (c d : Cite) → IsGoodCite c → IsGoodCite d → cite_texts c ≡ cite_texts d → c ≡ d
cite_same c d g h e =
    let row = decimal_same c.row d.row (omega (arith, g.row)) (omega (arith, h.row)) (head_same _ _ _ _ e) in
    let by = citation_same c.by d.by (good_by c g) (good_by d h) (head_same _ _ _ _ (tail_same _ _ _ _ e)) in
    λ i. record { row = row i; by = by i }

-- ---- kinds

abbrev word_kind : List ℕ → ℕ
word_kind w =
    if bytes_eq w (codes "version") then 1
    else if bytes_eq w (codes "state") then 2
    else if bytes_eq w (codes "barrier") then 3
    else if bytes_eq w (codes "column") then 4
    else if bytes_eq w (codes "row") then 5
    else if bytes_eq w (codes "inner") then 6
    else if bytes_eq w (codes "outer") then 7
    else 8

abbrev text_kind : List (List ℕ) → ℕ
text_kind [] = 0
text_kind (w ∷ ws) = word_kind w

kind_is : (l : Line) → text_kind (fields_of l) ≡ kind_of l
kind_is version_line = refl
kind_is (state_line k id) = refl
kind_is (barrier_line k v) = refl
kind_is (column_line place x) = refl
kind_is (row_line n r) = refl
kind_is (inner_line c) = refl
kind_is (outer_line c) = refl
kind_is end_line = refl

kind_same : (l m : Line) → kind_of l ≡ kind_of m → IsGood l → IsGood m → fields_of l ≡ fields_of m → l ≡ m
kind_same version_line version_line same g h e = refl
kind_same version_line (state_line j name) same g h e = cc
kind_same version_line (barrier_line j w) same g h e = cc
kind_same version_line (column_line spot y) same g h e = cc
kind_same version_line (row_line m s) same g h e = cc
kind_same version_line (inner_line d) same g h e = cc
kind_same version_line (outer_line d) same g h e = cc
kind_same version_line end_line same g h e = cc
kind_same (state_line k id) version_line same g h e = cc
kind_same (state_line k id) (state_line j name) same g h e =
    let t = tail_same _ _ _ _ e in
    let number = signed_same k j g.0 h.0 (head_same _ _ _ _ t) in
    let id_same = head_same _ _ _ _ (tail_same _ _ _ _ t) in
    λ i. state_line (number i) (id_same i)
kind_same (state_line k id) (barrier_line j w) same g h e = cc
kind_same (state_line k id) (column_line spot y) same g h e = cc
kind_same (state_line k id) (row_line m s) same g h e = cc
kind_same (state_line k id) (inner_line d) same g h e = cc
kind_same (state_line k id) (outer_line d) same g h e = cc
kind_same (state_line k id) end_line same g h e = cc
kind_same (barrier_line k v) version_line same g h e = cc
kind_same (barrier_line k v) (state_line j name) same g h e = cc
kind_same (barrier_line k v) (barrier_line j w) same g h e =
    let t = tail_same _ _ _ _ e in
    let state = signed_same k j g.0 h.0 (head_same _ _ _ _ t) in
    let heights = numbers_same v w (are_numbers v g.1) (are_numbers w h.1) (head_same _ _ _ _ (tail_same _ _ _ _ t)) in
    λ i. barrier_line (state i) (heights i)
kind_same (barrier_line k v) (column_line spot y) same g h e = cc
kind_same (barrier_line k v) (row_line m s) same g h e = cc
kind_same (barrier_line k v) (inner_line d) same g h e = cc
kind_same (barrier_line k v) (outer_line d) same g h e = cc
kind_same (barrier_line k v) end_line same g h e = cc
kind_same (column_line place x) version_line same g h e = cc
kind_same (column_line place x) (state_line j name) same g h e = cc
kind_same (column_line place x) (barrier_line j w) same g h e = cc
kind_same (column_line place x) (column_line spot y) same g h e =
    let t = tail_same _ _ _ _ e in
    let at = place_same place spot x y g h (head_same _ _ _ _ t) in
    let column = angles_same place spot x y g h (head_same _ _ _ _ (tail_same _ _ _ _ t)) in
    λ i. column_line (at i) (column i)
kind_same (column_line place x) (row_line m s) same g h e = cc
kind_same (column_line place x) (inner_line d) same g h e = cc
kind_same (column_line place x) (outer_line d) same g h e = cc
kind_same (column_line place x) end_line same g h e = cc
kind_same (row_line n r) version_line same g h e = cc
kind_same (row_line n r) (state_line j name) same g h e = cc
kind_same (row_line n r) (barrier_line j w) same g h e = cc
kind_same (row_line n r) (column_line spot y) same g h e = cc
kind_same (row_line n r) (row_line m s) same g h e =
    let t = tail_same _ _ _ _ e in
    let number = signed_same n m g.0 h.0 (head_same _ _ _ _ t) in
    let row = row_same r s g.1 h.1 (head_same _ _ _ _ (tail_same _ _ _ _ t)) in
    λ i. row_line (number i) (row i)
kind_same (row_line n r) (inner_line d) same g h e = cc
kind_same (row_line n r) (outer_line d) same g h e = cc
kind_same (row_line n r) end_line same g h e = cc
kind_same (inner_line c) version_line same g h e = cc
kind_same (inner_line c) (state_line j name) same g h e = cc
kind_same (inner_line c) (barrier_line j w) same g h e = cc
kind_same (inner_line c) (column_line spot y) same g h e = cc
kind_same (inner_line c) (row_line m s) same g h e = cc
kind_same (inner_line c) (inner_line d) same g h e = ap inner_line (cite_same c d g h (tail_same _ _ _ _ e))
kind_same (inner_line c) (outer_line d) same g h e = cc
kind_same (inner_line c) end_line same g h e = cc
kind_same (outer_line c) version_line same g h e = cc
kind_same (outer_line c) (state_line j name) same g h e = cc
kind_same (outer_line c) (barrier_line j w) same g h e = cc
kind_same (outer_line c) (column_line spot y) same g h e = cc
kind_same (outer_line c) (row_line m s) same g h e = cc
kind_same (outer_line c) (inner_line d) same g h e = cc
kind_same (outer_line c) (outer_line d) same g h e = ap outer_line (cite_same c d g h (tail_same _ _ _ _ e))
kind_same (outer_line c) end_line same g h e = cc
kind_same end_line version_line same g h e = cc
kind_same end_line (state_line j name) same g h e = cc
kind_same end_line (barrier_line j w) same g h e = cc
kind_same end_line (column_line spot y) same g h e = cc
kind_same end_line (row_line m s) same g h e = cc
kind_same end_line (inner_line d) same g h e = cc
kind_same end_line (outer_line d) same g h e = cc
kind_same end_line end_line same g h e = refl

-- different lines have different texts
pub line_same : (l m : Line) → IsGood l → IsGood m → fields_of l ≡ fields_of m → l ≡ m
line_same l m g h e = kind_same l m (sym (kind_is l) ∙ ap text_kind e ∙ kind_is m) g h e

pub lines_same : (xs ys : List Line) → All IsGood xs → All IsGood ys → map fields_of xs ≡ map fields_of ys → xs ≡ ys
lines_same xs ys g h e = items_same fields_of IsGood line_same xs ys g h e
