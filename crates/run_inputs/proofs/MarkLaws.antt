-- Contingencies that are marked where an element names them, and the places of marks.
use Rattle.std.proofs.Common.{◌≡◌, ℕ, ◌+◌, ◌<◌, ◌≤◌, ◌==◌, ◌||◌, Bool, true, false, cond, List, [], ◌∷◌, ◌++◌, length, take, get_or, set, filter, replicate, Some, All, inl, inr, arith, refl, sym, ap, subst, ◌∙◌, append-nil}
use Rattle.std.specs.List.{range_with_len}
use Rattle.std.proofs.lemmas.Bool.{cases_eq, eq-eqb, ne_eqb}
use Rattle.std.proofs.lemmas.List.{map-id, length-set, get_or-set_same, get_or-set_other, get_or-replicate, length-replicate}
use Rattle.std.proofs.lemmas.List.Elements.{All-head, All-tail, All-filter}
use Rattle.std.proofs.lemmas.List.Folds.{list_any_more}
use Rattle.std.proofs.lemmas.List.FromFn.{fill_by_all, filter_of_map_range_with_len_more, get_or-map-range_with_len, length-map-range_with_len, get_or-range_with_len, length-range_with_len}
use Rattle.std.proofs.lemmas.List.Sums.{length-filter, count_by-le-length}
use Rattle.fb_types.specs.declared.crac.Crac.{Crac}
use Rattle.fb_types.specs.declared.crac.Element.{Element}
use Rattle.fb_certificate.specs.CracRows.{names, outages_of}
use Rattle.run_inputs.specs.Marks.{is_marked, is_named, named_of}

-- ---- one element more
pub named-none : (count : ℕ) → replicate count false ≡ named_of count []
named-none count = fill_by_all (is_named []) (replicate count false) count false (length-replicate count false) (λ k b. get_or-replicate count k false false b)

pub sized : (count : ℕ) (es : List Element) (marks : List Bool) → marks ≡ named_of count es → length marks ≡ count
sized count es marks e = ap length e ∙ length-map-range_with_len (is_named es) 0 count

read : (count : ℕ) (es : List Element) (marks : List Bool) (k : ℕ) → marks ≡ named_of count es → k < count → get_or marks k false ≡ is_named es k
read count es marks k e b = ap (λ (bs : List Bool). get_or bs k false) e ∙ get_or-map-range_with_len (is_named es) 0 count k k false b (omega arith)

or_true : (a b : Bool) → b ≡ true → true ≡ (a || b)
or_true true b e = refl
or_true false b e = sym e

or_false : (a b : Bool) → b ≡ false → a ≡ (a || b)
or_false true b e = refl
or_false false b e = sym e

names_some : (e : Element) (named k : ℕ) → e.contingency ≡ Some named → names k e ≡ (named == k)
names_some e named k some = rw some refl

named_more : (es : List Element) (i k : ℕ) (d : Element) → i < length es → is_named (take (i + 1) es) k ≡ (is_named (take i es) k || names k (get_or es i d))
named_more es i k d h = list_any_more (names k) es i d h

pub named-more_some : (count : ℕ) (es : List Element) (i : ℕ) (d : Element) (named : ℕ) (marks : List Bool) → i < length es → d ≡ get_or es i d → d.contingency ≡ Some named → named < count → marks ≡ named_of count (take i es)
    → set marks named true ≡ named_of count (take (i + 1) es)
named-more_some count es i d named marks h is some lt e =
    let size = sized count (take i es) marks e in
    let at : (get_or es i d).contingency ≡ Some named = subst (λ (x : Element). x.contingency ≡ Some named) is some in
    fill_by_all (is_named (take (i + 1) es)) (set marks named true) count false (length-set marks named true ∙ size)
    (λ k b. elim (cases_eq named k) [
      | inl same ↦
          subst (λ (j : ℕ). get_or (set marks named true) j false ≡ is_named (take (i + 1) es) j) same
          (get_or-set_same marks named true false (omega arith) ∙ or_true (is_named (take i es) named) (names named (get_or es i d)) (names_some (get_or es i d) named named at ∙ eq-eqb named named refl) ∙ sym (named_more es i named d h))
      | inr other ↦
          get_or-set_other marks named k true false (λ same. other (sym same)) ∙ read count (take i es) marks k e b
          ∙ or_false (is_named (take i es) k) (names k (get_or es i d)) (names_some (get_or es i d) named k at ∙ ne_eqb named k other) ∙ sym (named_more es i k d h)
    ])

-- ---- one place more
places_more : (p : ℕ → Bool) (n : ℕ) → filter p (range_with_len 0 (n + 1)) ≡ filter p (range_with_len 0 n) ++ cond (p n) (n ∷ []) []
places_more p n =
    ap (filter p) (sym (map-id (range_with_len 0 (n + 1)))) ∙ filter_of_map_range_with_len_more p (λ (x : ℕ). x) 0 n n (omega arith)
    ∙ ap (λ (xs : List ℕ). filter p xs ++ cond (p n) (n ∷ []) []) (map-id (range_with_len 0 n))

pub places-more_off : (p : ℕ → Bool) (n : ℕ) (places : List ℕ) → p n ≡ false → places ≡ filter p (range_with_len 0 n) → places ≡ filter p (range_with_len 0 (n + 1))
places-more_off p n places off e =
    e ∙ sym (append-nil (filter p (range_with_len 0 n))) ∙ ap (λ (b : Bool). filter p (range_with_len 0 n) ++ cond b (n ∷ []) []) (sym off) ∙ sym (places_more p n)

pub places-more_on : (p : ℕ → Bool) (n : ℕ) (places : List ℕ) → p n ≡ true → places ≡ filter p (range_with_len 0 n) → places ++ n ∷ [] ≡ filter p (range_with_len 0 (n + 1))
places-more_on p n places on e =
    ap (λ (xs : List ℕ). xs ++ n ∷ []) e ∙ ap (λ (b : Bool). filter p (range_with_len 0 n) ++ cond b (n ∷ []) []) (sym on) ∙ sym (places_more p n)

-- ---- the places of the marks
filter_same : {A : Type 0} (p q : A → Bool) (xs : List A) → All (λ x. p x ≡ q x) xs → filter p xs ≡ filter q xs
filter_same p q [] h = refl
filter_same {A} p q (x ∷ xs) h =
    let rest = filter_same p q xs (All-tail (λ (y : A). p y ≡ q y) x xs h) in
    ap (λ (b : Bool). cond b (x ∷ filter p xs) (filter p xs)) (All-head (λ (y : A). p y ≡ q y) x xs h) ∙ ap (λ (ys : List A). cond (q x) (x ∷ ys) ys) rest

all_in_range : (P : ℕ → Type 0) (n : ℕ) → ((k : ℕ) → k < n → P k) → All P (range_with_len 0 n)
all_in_range P n h k d lt =
    let size = length-range_with_len 0 n in
    let within : k < n = omega arith in
    let at : get_or (range_with_len 0 n) k d ≡ k = get_or-range_with_len 0 n k d within ∙ (omega arith) in
    subst P (sym at) (h k within)

pub marked_are_named : (crac : Crac) (marks : List Bool) → marks ≡ named_of (length crac.contingencies) crac.elements → filter (is_marked marks) (range_with_len 0 (length marks)) ≡ outages_of crac
marked_are_named crac marks e =
    let size : length marks ≡ length crac.contingencies = sized (length crac.contingencies) crac.elements marks e in
    ap (λ (n : ℕ). filter (is_marked marks) (range_with_len 0 n)) size
    ∙ filter_same (is_marked marks) (is_named crac.elements) (range_with_len 0 (length crac.contingencies))
    (all_in_range (λ (k : ℕ). is_marked marks k ≡ is_named crac.elements k) (length crac.contingencies) (λ k lt. read (length crac.contingencies) crac.elements marks k e lt))

-- ---- outages are contingencies, and no more than there are
pub outages_below : (crac : Crac) → All (λ k. k < length crac.contingencies) (outages_of crac)
outages_below crac =
    All-filter (is_named crac.elements) (λ (k : ℕ). k < length crac.contingencies) (range_with_len 0 (length crac.contingencies))
    (all_in_range (λ (k : ℕ). k < length crac.contingencies) (length crac.contingencies) (λ k lt. lt))

pub outages_few : (crac : Crac) → length (outages_of crac) ≤ length crac.contingencies
outages_few crac =
    let kept = length-filter (is_named crac.elements) (range_with_len 0 (length crac.contingencies)) in
    let at_most = count_by-le-length (is_named crac.elements) (range_with_len 0 (length crac.contingencies)) in
    let size = length-range_with_len 0 (length crac.contingencies) in
    omega arith
