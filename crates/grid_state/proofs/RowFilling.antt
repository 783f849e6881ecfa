-- Counting the edges of each class, and putting each into its row.
use Rattle.std.proofs.Common.{◌≡◌, ℕ, zero, suc, ◌+◌, ◌*◌, ◌-◌, ◌^◌, ◌<◌, ◌≤◌, Bool, true, false, eqb, cond, List, [], ◌∷◌, ◌++◌, length, get_or, set, take, drop, inl, inr, arith, refl, sym, ap, subst, ◌∙◌, add-one, length-set, get_or-set_same, get_or-set_other}
use Rattle.std.specs.Prelude.{slice_index}
use Rattle.std.proofs.lemmas.Bool.{cases_eq, cases_lt, cond-true, cond-false, eq-eqb, ne_eqb}
use Rattle.std.proofs.lemmas.List.{get_or_append_left, get_or_push, length_push, ext_get_or, get_or-take, get_or-drop, length-take, length-drop}
use Rattle.grid_state.specs.declared.types.Edge.{Edge}
use Rattle.grid_state.specs.declared.links.Link.{Link}
use Rattle.grid_state.specs.GridState.{no_edge}
use Rattle.grid_state.specs.Rows.{is_crossing, edges_at, AreRows}
use Rattle.grid_state.specs.RowCuts.{cut_rows, AreEnds, before, row_seen, width_seen, AreWidths, AreStarts, AreRowStarts, AreFilled}
use Rattle.grid_state.proofs.RowLists.{edges_passed, ends_apart, edges_at_one, edges_at_other, edges_elsewhere, fewer_edges}
use Rattle.grid_state.proofs.RowPieces.{length-cut_rows, get_or-cut_rows}
use Rattle.grid_state.proofs.Weights.{few_edges_at}

-- ---- sums of widths
pub before-more : (widths : ℕ → ℕ) (i : ℕ) → before widths (i + 1) ≡ before widths i + widths i
before-more widths i = ap (before widths) (add-one i)

-- a row ends before a later one starts
pub before_later : (widths : ℕ → ℕ) (i j : ℕ) → i < j → before widths i + widths i ≤ before widths j
before_later widths i zero h = absurd (omega arith)
before_later widths i (suc j) h =
    elim (cases_eq i j) [
      | inl e ↦ subst (λ (k : ℕ). before widths k + widths k ≤ before widths (suc j)) (sym e) (omega arith)
      | inr ne ↦ let rest = before_later widths i j (omega arith) in omega arith
    ]

pub before_grows : (widths : ℕ → ℕ) (i j : ℕ) → i ≤ j → before widths i ≤ before widths j
before_grows widths i j h =
    elim (cases_eq i j) [
      | inl e ↦ subst (λ (k : ℕ). before widths k ≤ before widths j) (sym e) (omega arith)
      | inr ne ↦ let rest = before_later widths i j (omega arith) in omega arith
    ]

pub before_same : (n : ℕ) (v w : ℕ → ℕ) → ((i : ℕ) → i < n → v i ≡ w i) → before v n ≡ before w n
before_same zero v w same = refl
before_same (suc n) v w same = let rest = before_same n v w (λ i h. same i (omega arith)) in let here = same n (omega arith) in omega arith

pub before_small : (n : ℕ) (w : ℕ → ℕ) → ((i : ℕ) → i < n → w i ≤ 16384) → before w n ≤ n * 16384
before_small zero w small = omega arith
before_small (suc n) w small = let rest = before_small n w (λ i h. small i (omega arith)) in let here = small n (omega arith) in omega arith

-- ---- widths
pub widths_none : (live : List Bool) (counts : List ℕ) → length counts ≡ length live → ((i : ℕ) → i < length live → get_or counts i 0 ≡ 0) → AreWidths live [] counts
widths_none live counts size none = record { each_class = size; width = λ i h. none i h }

pub widths_passed : (live : List Bool) (links : List Link) (k : ℕ) (d : Link) (counts : List ℕ) → k < length links → is_crossing live (get_or links k d) ≡ false
    → AreWidths live (take k links) counts → AreWidths live (take (k + 1) links) counts
widths_passed live links k d counts h passed are = record {
  each_class = are.each_class;
  width = λ i b. are.width i b ∙ sym (ap length (edges_passed live links k d h passed i));
}

module _ (live : List Bool) (links : List Link) (k : ℕ) (d : Link) (counts one_more both_more : List ℕ) (h : k < length links) (crossing : is_crossing live (get_or links k d) ≡ true)
    (below_one : (get_or links k d).one < length live) (below_other : (get_or links k d).other < length live) (are : AreWidths live (take k links) counts)
    (first : one_more ≡ set counts (get_or links k d).one (get_or counts (get_or links k d).one 0 + 1))
    (second : both_more ≡ set one_more (get_or links k d).other (get_or one_more (get_or links k d).other 0 + 1)) where
  apart : (get_or links k d).one ≡ (get_or links k d).other → ⊥
  apart = ends_apart live links k d h crossing

  size_one : length one_more ≡ length live
  size_one = ap length first ∙ length-set counts (get_or links k d).one _ ∙ are.each_class

  other_before : get_or one_more (get_or links k d).other 0 ≡ get_or counts (get_or links k d).other 0
  other_before = ap (λ (r : List ℕ). get_or r (get_or links k d).other 0) first ∙ get_or-set_other counts (get_or links k d).one (get_or links k d).other _ 0 (λ e. apart (sym e))

  one_then : get_or one_more (get_or links k d).one 0 ≡ get_or counts (get_or links k d).one 0 + 1
  one_then = ap (λ (r : List ℕ). get_or r (get_or links k d).one 0) first ∙ get_or-set_same counts (get_or links k d).one _ 0 (let size = are.each_class in omega arith)

  at_one : get_or both_more (get_or links k d).one 0 ≡ length (edges_at live (get_or links k d).one (take (k + 1) links))
  at_one =
      ap (λ (r : List ℕ). get_or r (get_or links k d).one 0) second
      ∙ get_or-set_other one_more (get_or links k d).other (get_or links k d).one _ 0 apart
      ∙ one_then
      ∙ ap (λ (n : ℕ). n + 1) (are.width (get_or links k d).one below_one)
      ∙ sym (ap length (edges_at_one live links k d h crossing) ∙ length_push (edges_at live (get_or links k d).one (take k links)) _)

  at_other : get_or both_more (get_or links k d).other 0 ≡ length (edges_at live (get_or links k d).other (take (k + 1) links))
  at_other =
      ap (λ (r : List ℕ). get_or r (get_or links k d).other 0) second
      ∙ get_or-set_same one_more (get_or links k d).other _ 0 (let size = size_one in omega arith)
      ∙ ap (λ (n : ℕ). n + 1) (other_before ∙ are.width (get_or links k d).other below_other)
      ∙ sym (ap length (edges_at_other live links k d h crossing) ∙ length_push (edges_at live (get_or links k d).other (take k links)) _)

  elsewhere : (i : ℕ) → (i ≡ (get_or links k d).one → ⊥) → (i ≡ (get_or links k d).other → ⊥) → i < length live → get_or both_more i 0 ≡ length (edges_at live i (take (k + 1) links))
  elsewhere i no_one no_other b =
      ap (λ (r : List ℕ). get_or r i 0) second
      ∙ get_or-set_other one_more (get_or links k d).other i _ 0 no_other
      ∙ ap (λ (r : List ℕ). get_or r i 0) first
      ∙ get_or-set_other counts (get_or links k d).one i _ 0 no_one
      ∙ are.width i b ∙ sym (ap length (edges_elsewhere live links k d h crossing i no_one no_other))

  pub widths_joined : AreWidths live (take (k + 1) links) both_more
  widths_joined = record {
    each_class = ap length second ∙ length-set one_more (get_or links k d).other _ ∙ size_one;
    width = λ i b. elim (cases_eq i (get_or links k d).one) [
      | inl e ↦ subst (λ (j : ℕ). get_or both_more j 0 ≡ length (edges_at live j (take (k + 1) links))) (sym e) at_one
      | inr no_one ↦ elim (cases_eq i (get_or links k d).other) [
        | inl e ↦ subst (λ (j : ℕ). get_or both_more j 0 ≡ length (edges_at live j (take (k + 1) links))) (sym e) at_other
        | inr no_other ↦ elsewhere i no_one no_other b
      ]
    ];
  }

-- counts stay small
pub count_small : (live : List Bool) (links : List Link) (k : ℕ) (counts : List ℕ) (c : ℕ) → length links ≤ 16384 → AreWidths live (take k links) counts → c < length live → get_or counts c 0 ≤ 16384
count_small live links k counts c few are h =
    let width = are.width c h in
    let part = fewer_edges live c links k in
    let all = few_edges_at live c links in
    omega arith

-- also the count of a link's second class, once its first is counted
pub one_small : (live : List Bool) (links : List Link) (k : ℕ) (d : Link) (counts one_more : List ℕ) → k < length links → is_crossing live (get_or links k d) ≡ true → length links ≤ 16384 → (get_or links k d).other < length live
    → AreWidths live (take k links) counts → one_more ≡ set counts (get_or links k d).one (get_or counts (get_or links k d).one 0 + 1) → get_or one_more (get_or links k d).other 0 ≤ 16384
one_small live links k d counts one_more h crossing few below are first =
    let same = ap (λ (r : List ℕ). get_or r (get_or links k d).other 0) first ∙ get_or-set_other counts (get_or links k d).one (get_or links k d).other _ 0 (λ e. ends_apart live links k d h crossing (sym e)) in
    let small = count_small live links k counts (get_or links k d).other few are below in
    omega arith

-- ---- filling
module _ (n : ℕ) (widths : ℕ → ℕ) (rows more : ℕ → List Edge) (cursors cursors' : List ℕ) (edges edges' : List Edge) (c : ℕ) (e : Edge) (are : AreFilled n widths rows cursors edges)
    (below : c < n) (room : length (more c) ≤ widths c) (here : more c ≡ rows c ++ e ∷ []) (there : (i : ℕ) → (i ≡ c → ⊥) → more i ≡ rows i)
    (moved : cursors' ≡ set cursors c (get_or cursors c 0 + 1)) (written : edges' ≡ set edges (get_or cursors c 0) e) where
  longer : length (more c) ≡ length (rows c) + 1
  longer = ap length here ∙ length_push (rows c) e

  within : before widths c + length (rows c) < length edges
  within =
      let whole = are.whole in
      let size = longer in
      let later = before_later widths c n below in
      omega arith

  place : get_or cursors c 0 ≡ before widths c + length (rows c)
  place = are.cursor c below

  wrote : edges' ≡ set edges (before widths c + length (rows c)) e
  wrote = written ∙ ap (λ (k : ℕ). set edges k e) place

  old_stays : (i j : ℕ) (d : Edge) → i < n → j < length (rows i) → get_or edges' (before widths i + j) d ≡ get_or (rows i) j d
  old_stays i j d hi hj =
      ap (λ (es : List Edge). get_or es (before widths i + j) d) wrote
      ∙ get_or-set_other edges (before widths c + length (rows c)) (before widths i + j) e d (λ same. elim (cases_eq i c) [
        | inl at ↦ let same' = subst (λ (k : ℕ). before widths k + j ≡ before widths c + length (rows c)) at same in let hj' = subst (λ (k : ℕ). j < length (rows k)) at hj in omega arith
        | inr ne ↦ elim (cases_lt i c) [
          | inl lt ↦ let later = before_later widths i c lt in let fits = are.fits i hi in omega arith
          | inr le ↦ let later = before_later widths c i (omega arith) in let size = longer in omega arith
        ]
      ])
      ∙ are.put i j d hi hj

  new_stands : (d : Edge) → get_or edges' (before widths c + length (rows c)) d ≡ e
  new_stands d = ap (λ (es : List Edge). get_or es (before widths c + length (rows c)) d) wrote ∙ get_or-set_same edges (before widths c + length (rows c)) e d within

  put_here : (j : ℕ) (d : Edge) → j < length (more c) → get_or edges' (before widths c + j) d ≡ get_or (more c) j d
  put_here j d h =
      elim (cases_eq j (length (rows c))) [
        | inl last ↦ subst (λ (k : ℕ). get_or edges' (before widths c + k) d ≡ get_or (more c) k d) (sym last) (new_stands d ∙ sym (ap (λ (r : List Edge). get_or r (length (rows c)) d) here ∙ get_or_push (rows c) e d (length (rows c)) refl))
        | inr ne ↦
            let size = longer in
            let first : j < length (rows c) = omega arith in
            old_stays c j d below first ∙ sym (ap (λ (r : List Edge). get_or r j d) here ∙ get_or_append_left (rows c) (e ∷ []) d j first)
      ]

  cursor_here : get_or cursors' c 0 ≡ before widths c + length (more c)
  cursor_here =
      let size = are.each_class in
      let step = ap (λ (ks : List ℕ). get_or ks c 0) moved ∙ get_or-set_same cursors c (get_or cursors c 0 + 1) 0 (omega arith) in
      let at = place in
      let long = longer in
      omega arith

  pub filled_more : AreFilled n widths more cursors' edges'
  filled_more = record {
    each_class = ap length moved ∙ length-set cursors c _ ∙ are.each_class;
    whole = ap length written ∙ length-set edges (get_or cursors c 0) e ∙ are.whole;
    fits = λ i h. elim (cases_eq i c) [
      | inl at ↦ subst (λ (k : ℕ). length (more k) ≤ widths k) (sym at) room
      | inr ne ↦ subst (λ (r : List Edge). length r ≤ widths i) (sym (there i ne)) (are.fits i h)
    ];
    cursor = λ i h. elim (cases_eq i c) [
      | inl at ↦ subst (λ (k : ℕ). get_or cursors' k 0 ≡ before widths k + length (more k)) (sym at) cursor_here
      | inr ne ↦
          ap (λ (ks : List ℕ). get_or ks i 0) moved ∙ get_or-set_other cursors c i _ 0 ne ∙ are.cursor i h ∙ ap (λ (r : List Edge). before widths i + length r) (sym (there i ne))
    ];
    put = λ i j d hi hj. elim (cases_eq i c) [
      | inl at ↦ subst (λ (k : ℕ). get_or edges' (before widths k + j) d ≡ get_or (more k) j d) (sym at) (put_here j d (subst (λ (k : ℕ). j < length (more k)) at hj))
      | inr ne ↦ old_stays i j d hi (subst (λ (r : List Edge). j < length r) (there i ne) hj) ∙ ap (λ (r : List Edge). get_or r j d) (sym (there i ne))
    ];
  }

-- the widths that are counted, as a function
module _ (live : List Bool) (links : List Link) (counts : List ℕ) (are : AreWidths live links counts) where
  pub same_before : (n : ℕ) → n ≤ length live → before (slice_index counts) n ≡ before (width_seen live links) n
  same_before n h = before_same n (slice_index counts) (width_seen live links) (λ i b. are.width i (omega arith))

  pub few_before : length live ≤ 4096 → length links ≤ 16384 → before (slice_index counts) (length counts) < 2 ^ 32
  few_before few few' =
      let size = are.each_class in
      let small = before_small (length counts) (slice_index counts) (λ i b. let width = are.width i (omega arith) in let all = few_edges_at live i links in omega arith) in
      omega arith

  pub starts_stand : (starts : List ℕ) (total : ℕ) → AreStarts counts starts total → AreRowStarts live links starts total
  starts_stand starts total s =
      let size = are.each_class in
      record {
        each_class = s.each_class ∙ size;
        start = λ i b. s.start i (omega arith) ∙ same_before i (omega arith);
        whole = s.whole ∙ ap (before (slice_index counts)) size ∙ same_before (length live) (omega arith);
      }

-- a cursor stands within the list where its row has room
pub cursor_within : (n : ℕ) (widths : ℕ → ℕ) (rows : ℕ → List Edge) (cursors : List ℕ) (edges : List Edge) (c : ℕ) → AreFilled n widths rows cursors edges → c < n → length (rows c) + 1 ≤ widths c
    → get_or cursors c 0 < length edges
cursor_within n widths rows cursors edges c are h room =
    let at = are.cursor c h in
    let whole = are.whole in
    let later = before_later widths c n h in
    omega arith

-- before the first link
pub filled_none : (live : List Bool) (links : List Link) (starts : List ℕ) (total : ℕ) (edges : List Edge) → AreRowStarts live links starts total → length edges ≡ total
    → AreFilled (length live) (width_seen live links) (row_seen live []) starts edges
filled_none live links starts total edges s size = record {
  each_class = s.each_class;
  whole = size ∙ s.whole;
  fits = λ i h. omega arith;
  cursor = λ i h. s.start i h ∙ omega arith;
  put = λ i j d hi hj. absurd (omega arith);
}

pub filled_passed : (live : List Bool) (links : List Link) (k : ℕ) (d : Link) (cursors : List ℕ) (edges : List Edge) → k < length links → is_crossing live (get_or links k d) ≡ false
    → AreFilled (length live) (width_seen live links) (row_seen live (take k links)) cursors edges → AreFilled (length live) (width_seen live links) (row_seen live (take (k + 1) links)) cursors edges
filled_passed live links k d cursors edges h passed are = record {
  each_class = are.each_class;
  whole = are.whole;
  fits = λ i b. fewer_edges live i links (k + 1);
  cursor = λ i b. are.cursor i b ∙ ap (λ (r : List Edge). before (width_seen live links) i + length r) (sym (edges_passed live links k d h passed i));
  put = λ i j e b b'. are.put i j e b (subst (λ (r : List Edge). j < length r) (edges_passed live links k d h passed i) b') ∙ ap (λ (r : List Edge). get_or r j e) (sym (edges_passed live links k d h passed i));
}

-- the rows once the first of a link's two edges is put
abbrev half : List Bool → List Link → ℕ → Link → ℕ → List Edge
half live links k l i = cond (eqb i l.one) (edges_at live i (take (k + 1) links)) (edges_at live i (take k links))

module _ (live : List Bool) (links : List Link) (k : ℕ) (d : Link) (h : k < length links) (crossing : is_crossing live (get_or links k d) ≡ true)
    (below_one : (get_or links k d).one < length live) (below_other : (get_or links k d).other < length live)
    (cursors : List ℕ) (edges : List Edge) (are : AreFilled (length live) (width_seen live links) (row_seen live (take k links)) cursors edges) where
  half_at : half live links k (get_or links k d) (get_or links k d).one ≡ edges_at live (get_or links k d).one (take (k + 1) links)
  half_at = cond-true (eqb (get_or links k d).one (get_or links k d).one) _ _ (eq-eqb (get_or links k d).one (get_or links k d).one refl)

  half_else : (i : ℕ) → (i ≡ (get_or links k d).one → ⊥) → half live links k (get_or links k d) i ≡ edges_at live i (take k links)
  half_else i ne = cond-false (eqb i (get_or links k d).one) _ _ (ne_eqb i (get_or links k d).one ne)

  room_one : length (edges_at live (get_or links k d).one (take k links)) + 1 ≤ width_seen live links (get_or links k d).one
  room_one =
      let long = ap length (edges_at_one live links k d h crossing) ∙ length_push (edges_at live (get_or links k d).one (take k links)) _ in
      let part = fewer_edges live (get_or links k d).one links (k + 1) in
      omega arith

  room_other : length (edges_at live (get_or links k d).other (take k links)) + 1 ≤ width_seen live links (get_or links k d).other
  room_other =
      let long = ap length (edges_at_other live links k d h crossing) ∙ length_push (edges_at live (get_or links k d).other (take k links)) _ in
      let part = fewer_edges live (get_or links k d).other links (k + 1) in
      omega arith

  pub within_one : get_or cursors (get_or links k d).one 0 < length edges
  within_one = cursor_within (length live) (width_seen live links) (row_seen live (take k links)) cursors edges (get_or links k d).one are below_one room_one

  pub filled_half : (moved : List ℕ) (put : List Edge) → moved ≡ set cursors (get_or links k d).one (get_or cursors (get_or links k d).one 0 + 1)
      → put ≡ set edges (get_or cursors (get_or links k d).one 0) (record { to = (get_or links k d).other; b = (get_or links k d).b })
      → AreFilled (length live) (width_seen live links) (half live links k (get_or links k d)) moved put
  filled_half moved put is_moved is_put =
      filled_more (length live) (width_seen live links) (row_seen live (take k links)) (half live links k (get_or links k d)) cursors moved edges put (get_or links k d).one
      (record { to = (get_or links k d).other; b = (get_or links k d).b }) are below_one
      (subst (λ (r : List Edge). length r ≤ width_seen live links (get_or links k d).one) (sym half_at) (fewer_edges live (get_or links k d).one links (k + 1)))
      (half_at ∙ edges_at_one live links k d h crossing) half_else is_moved is_put

  at_other' : half live links k (get_or links k d) (get_or links k d).other ≡ edges_at live (get_or links k d).other (take k links)
  at_other' = half_else (get_or links k d).other (λ e. ends_apart live links k d h crossing (sym e))

  then_other : (i : ℕ) → (i ≡ (get_or links k d).other → ⊥) → edges_at live i (take (k + 1) links) ≡ half live links k (get_or links k d) i
  then_other i no_other = elim (cases_eq i (get_or links k d).one) [
    | inl e ↦ subst (λ (j : ℕ). edges_at live j (take (k + 1) links) ≡ half live links k (get_or links k d) j) (sym e) (sym half_at)
    | inr no_one ↦ edges_elsewhere live links k d h crossing i no_one no_other ∙ sym (half_else i no_one)
  ]

  pub within_other : (moved : List ℕ) (put : List Edge) → AreFilled (length live) (width_seen live links) (half live links k (get_or links k d)) moved put → get_or moved (get_or links k d).other 0 < length put
  within_other moved put so_far =
      cursor_within (length live) (width_seen live links) (half live links k (get_or links k d)) moved put (get_or links k d).other so_far below_other
      (subst (λ (r : List Edge). length r + 1 ≤ width_seen live links (get_or links k d).other) (sym at_other') room_other)

  pub filled_joined : (moved moved' : List ℕ) (put put' : List Edge) → AreFilled (length live) (width_seen live links) (half live links k (get_or links k d)) moved put
      → moved' ≡ set moved (get_or links k d).other (get_or moved (get_or links k d).other 0 + 1)
      → put' ≡ set put (get_or moved (get_or links k d).other 0) (record { to = (get_or links k d).one; b = (get_or links k d).b })
      → AreFilled (length live) (width_seen live links) (row_seen live (take (k + 1) links)) moved' put'
  filled_joined moved moved' put put' so_far is_moved is_put =
      filled_more (length live) (width_seen live links) (half live links k (get_or links k d)) (row_seen live (take (k + 1) links)) moved moved' put put' (get_or links k d).other
      (record { to = (get_or links k d).one; b = (get_or links k d).b }) so_far below_other (fewer_edges live (get_or links k d).other links (k + 1))
      (edges_at_other live links k d h crossing ∙ ap (λ (r : List Edge). r ++ (record { to = (get_or links k d).one; b = (get_or links k d).b }) ∷ []) (sym at_other')) then_other is_moved is_put

-- ---- the rows that are filled
module _ (live : List Bool) (links : List Link) (ends : List ℕ) (edges : List Edge) (are : AreFilled (length live) (width_seen live links) (row_seen live links) ends edges) where
  end_at : (i : ℕ) → i < length live → get_or ends i 0 ≡ before (width_seen live links) (suc i)
  end_at i h = are.cursor i h

  start_at : (i : ℕ) → i < length live → get_or (0 ∷ ends) i 0 ≡ before (width_seen live links) i
  start_at zero h = refl
  start_at (suc i) h = end_at i (omega arith)

  pub ends_stand : AreEnds ends edges
  ends_stand = let size = are.each_class in record {
    rising = λ i h. let start = start_at i (omega arith) in let stop = are.cursor i (omega arith) in omega arith;
    within = λ i h. let stop = are.cursor i (omega arith) in let later = before_later (width_seen live links) i (length live) (omega arith) in let whole = are.whole in omega arith;
  }

  piece : (i : ℕ) → i < length live → get_or (cut_rows 0 ends edges) i [] ≡ edges_at live i links
  piece i h =
      let size = are.each_class in
      let start = start_at i h in
      let stop = are.cursor i h in
      let later = before_later (width_seen live links) i (length live) h in
      let whole = are.whole in
      let left = length-drop (before (width_seen live links) i) edges in
      let long = length-take (width_seen live links i) (drop (before (width_seen live links) i) edges) in
      let cut = get_or-cut_rows 0 ends edges i (omega arith) in
      cut
      ∙ ap (λ (k : ℕ). take (get_or ends i 0 - k) (drop k edges)) start
      ∙ ap (λ (k : ℕ). take k (drop (before (width_seen live links) i) edges)) (let e : get_or ends i 0 - before (width_seen live links) i ≡ width_seen live links i = omega arith in e)
      ∙ ext_get_or no_edge (take (width_seen live links i) (drop (before (width_seen live links) i) edges)) (edges_at live i links) (omega arith)
      (λ j b. get_or-take (width_seen live links i) (drop (before (width_seen live links) i) edges) j no_edge (omega arith) ∙ get_or-drop (before (width_seen live links) i) edges j no_edge
      ∙ are.put i j no_edge h (omega arith))

  pub rows_stand : AreRows live links (cut_rows 0 ends edges)
  rows_stand = record { each_class = length-cut_rows 0 ends edges ∙ are.each_class; row = λ i h. piece i h }
