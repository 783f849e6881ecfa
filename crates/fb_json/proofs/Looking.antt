-- Looking into a document: the items of an array, and the members of an object.
use Rattle.std.proofs.Common.{◌≡◌, ℕ, zero, suc, ◌+◌, ◌*◌, ◌<◌, ◌≤◌, true, false, List, [], ◌∷◌, ◌++◌, length, take, drop, get_or, slice_get, Option, Some, None, refl, sym, ap, subst, ◌∙◌, append_assoc, arith}
use Rattle.std.specs.Str.{bytes_eq}
use Rattle.std.proofs.lemmas.Bool.{false≢true}
use Rattle.std.proofs.lemmas.List.{length-drop, length-take-le, get_or-take, get_or-drop, take_more}
use Rattle.std.proofs.lemmas.Slice.Eq.{bytes_eq-Decides}
use Rattle.serde_json.specs.Data.{Data, null, Members, no_members, put}
use Rattle.serde_json.specs.Find.{get_member}
use Rattle.serde_json.proofs.Views.{get_member-put, get_member-put_other}
use Rattle.fb_json.specs.declared.document.Got.TheVariants as got
use Rattle.fb_json.specs.declared.node.Span.{Span}
use Rattle.fb_json.specs.declared.node.Node.{Node}
use Rattle.fb_json.specs.declared.node.Part.{Part}
use Rattle.fb_json.specs.declared.node.Part.TheVariants.{Array}
use Rattle.fb_json.specs.Node.{part_of}
use Rattle.fb_json.specs.Tree.{length_of, item_of}
use Rattle.fb_json.specs.Kept.{cut, pairs_span, name_of, put_all, trees_of, tree_of, end_of, Lies, no_node, IsSound}
use Rattle.fb_json.proofs.Listed.{listed-items_of, got_at, got_none}
use Rattle.fb_json.proofs.Tables.{length-trees_of, tree_at, count_rises}
use Rattle.fb_json.proofs.Gathered.{put_all-pair}

pub length_cut : {A : Type 0} (s : Span) (xs : List A) → end_of s ≤ length xs → length (cut s xs) ≡ s.len
length_cut s xs le =
    let rest : s.len ≤ length (drop s.start xs) = rw (length-drop s.start xs) (omega (arith, le)) in
    length-take-le s.len (drop s.start xs) rest

pub get_or_cut : {A : Type 0} (s : Span) (xs : List A) (k : ℕ) (d : A) → k < s.len → get_or (cut s xs) k d ≡ get_or xs (s.start + k) d
get_or_cut s xs k d lt = get_or-take s.len (drop s.start xs) k d lt ∙ get_or-drop s.start xs k d

pub as_part : (texts : List ℕ) (n : ℕ) (p q : Part) → q ≡ p → Lies texts n p → Lies texts n q
as_part texts n p q e h = subst (λ x. Lies texts n x) (sym e) h

default_stays : {A : Type 0} (xs : List A) (k : ℕ) (d e : A) → k < length xs → get_or xs k d ≡ get_or xs k e
default_stays [] k d e lt = absurd (omega (arith, lt))
default_stays (x ∷ xs) zero d e lt = refl
default_stays (x ∷ xs) (suc k) d e lt = default_stays xs k d e (omega (arith, lt))

module _ (texts : List ℕ) (nodes : List Node) (sound : IsSound texts nodes) (s : Span) (le : end_of s ≤ length nodes) where
  -- the trees at a span are those of the nodes there
  pub tree_in_cut : (k : ℕ) (x : Node) → k < s.len → x ≡ get_or (cut s nodes) k x → get_or (cut s (trees_of texts nodes)) k null ≡ tree_of texts nodes x
  tree_in_cut k x lt e =
      let within : s.start + k < length nodes = omega (arith, le, lt) in
      let same : get_or nodes (s.start + k) no_node ≡ x = default_stays nodes (s.start + k) no_node x within ∙ sym (get_or_cut s nodes k x lt) ∙ sym e in
      get_or_cut s (trees_of texts nodes) k null lt ∙ tree_at texts nodes (s.start + k) sound within ∙ ap (tree_of texts nodes) same

  pub lies_in_cut : (k : ℕ) (x : Node) → k < s.len → x ≡ get_or (cut s nodes) k x → Lies texts (length nodes) (part_of x)
  lies_in_cut k x lt e =
      let within : s.start + k < length nodes = omega (arith, le, lt) in
      let same : get_or nodes (s.start + k) no_node ≡ x = default_stays nodes (s.start + k) no_node x within ∙ sym (get_or_cut s nodes k x lt) ∙ sym e in
      subst (λ y. Lies texts (length nodes) (part_of y)) same (count_rises texts (s.start + k) (length nodes) (part_of (get_or nodes (s.start + k) no_node)) (omega (arith, within)) (sound (s.start + k) within))

  pub length_trees : length (cut s (trees_of texts nodes)) ≡ s.len
  length_trees = length_cut s (trees_of texts nodes) (rw (length-trees_of texts nodes) le)

  pub array_length : (n : Node) → Array s ≡ part_of n → got.Value s.len ≡ length_of (tree_of texts nodes n)
  unfolding length_of
  array_length n is = rw (sym is, listed-items_of (cut s (trees_of texts nodes)), length_trees) refl

  pub array_item : (n x : Node) (k : ℕ) → Array s ≡ part_of n → k < s.len → x ≡ get_or (cut s nodes) k x → got.Value (tree_of texts nodes x) ≡ item_of k (tree_of texts nodes n)
  unfolding item_of
  array_item n x k is lt e =
      let trees = cut s (trees_of texts nodes) in
      let within : k < length trees = rw length_trees lt in
      let found : slice_get trees k ≡ Some (tree_of texts nodes x) = got_at trees k (tree_of texts nodes x) within (sym (tree_in_cut k x lt e) ∙ default_stays trees k null (tree_of texts nodes x) within) in
      rw (sym is, listed-items_of trees, found) refl

  pub array_end : (n : Node) (k : ℕ) → Array s ≡ part_of n → s.len ≤ k → got.Absent ≡ item_of k (tree_of texts nodes n)
  unfolding item_of
  array_end n k is past =
      let trees = cut s (trees_of texts nodes) in
      let none : slice_get trees k ≡ None = got_none trees k (rw length_trees past) in
      rw (sym is, listed-items_of trees, none) refl

-- ---- members, from the last one on

pair_more : (ds : List Data) (m : ℕ) → m * 2 + 1 < length ds → take (suc m * 2) ds ≡ take (m * 2) ds ++ get_or ds (m * 2) null ∷ get_or ds (m * 2 + 1) null ∷ []
pair_more ds m lt =
    let next : suc m * 2 ≡ m * 2 + 1 + 1 = omega arith in
    let first : take (m * 2 + 1) ds ≡ take (m * 2) ds ++ get_or ds (m * 2) null ∷ [] = take_more ds (m * 2) null (omega (arith, lt)) in
    let second : take (m * 2 + 1 + 1) ds ≡ take (m * 2 + 1) ds ++ get_or ds (m * 2 + 1) null ∷ [] = take_more ds (m * 2 + 1) null lt in
    ap (λ n. take n ds) next ∙ second ∙ ap (λ (xs : List Data). xs ++ get_or ds (m * 2 + 1) null ∷ []) first ∙ append_assoc (take (m * 2) ds) (get_or ds (m * 2) null ∷ []) (get_or ds (m * 2 + 1) null ∷ [])

abbrev pub members_to : ℕ → List Data → Members
members_to m ds = put_all (take (m * 2) ds) no_members

one_more : (ds : List Data) (m : ℕ) → m * 2 + 1 < length ds → members_to (suc m) ds ≡ put (name_of (get_or ds (m * 2) null)) (get_or ds (m * 2 + 1) null) (members_to m ds)
one_more ds m lt =
    let even : length (take (m * 2) ds) ≡ m * 2 = length-take-le (m * 2) ds (omega (arith, lt)) in
    ap (λ xs. put_all xs no_members) (pair_more ds m lt) ∙ put_all-pair m (take (m * 2) ds) (get_or ds (m * 2) null) (get_or ds (m * 2 + 1) null) no_members even

pub is_member : (ds : List Data) (m : ℕ) (k : List ℕ) → m * 2 + 1 < length ds → bytes_eq k (name_of (get_or ds (m * 2) null)) ≡ true → get_member k (members_to (suc m) ds) ≡ Some (get_or ds (m * 2 + 1) null)
is_member ds m k lt e =
    let same : k ≡ name_of (get_or ds (m * 2) null) = (bytes_eq-Decides k (name_of (get_or ds (m * 2) null))).0 e in
    ap (get_member k) (one_more ds m lt ∙ ap (λ n. put n (get_or ds (m * 2 + 1) null) (members_to m ds)) (sym same)) ∙ get_member-put k (get_or ds (m * 2 + 1) null) (members_to m ds)

pub is_other : (ds : List Data) (m : ℕ) (k : List ℕ) → m * 2 + 1 < length ds → bytes_eq k (name_of (get_or ds (m * 2) null)) ≡ false → get_member k (members_to (suc m) ds) ≡ get_member k (members_to m ds)
is_other ds m k lt e =
    let name = name_of (get_or ds (m * 2) null) in
    ap (get_member k) (one_more ds m lt) ∙ get_member-put_other k name (get_or ds (m * 2 + 1) null) (members_to m ds) (λ same. false≢true (sym e ∙ (bytes_eq-Decides k name).1 same))

module _ (texts : List ℕ) (nodes : List Node) (sound : IsSound texts nodes) (span : Span) (le : end_of (pairs_span span) ≤ length nodes) where
  abbrev here : ℕ → Node
  here k = get_or (cut (pairs_span span) nodes) k no_node

  abbrev all : List Data
  all = cut (pairs_span span) (trees_of texts nodes)

  is_here : (k : ℕ) → k < span.len * 2 → here k ≡ get_or (cut (pairs_span span) nodes) k (here k)
  is_here k lt = default_stays (cut (pairs_span span) nodes) k no_node (here k) (rw (length_cut (pairs_span span) nodes le) lt)

  pub lies_at : (k : ℕ) → k < span.len * 2 → Lies texts (length nodes) (part_of (here k))
  lies_at k lt = lies_in_cut texts nodes sound (pairs_span span) le k (here k) lt (is_here k lt)

  pub tree_here : (k : ℕ) → k < span.len * 2 → get_or all k null ≡ tree_of texts nodes (here k)
  tree_here k lt = tree_in_cut texts nodes sound (pairs_span span) le k (here k) lt (is_here k lt)

  length_all : length all ≡ span.len * 2
  length_all = length_trees texts nodes sound (pairs_span span) le

  pub member_found : (count m : ℕ) (k : List ℕ) (total : Option Data) → count ≡ suc m → count ≤ span.len → bytes_eq k (name_of (tree_of texts nodes (here (m * 2)))) ≡ true
      → get_member k (members_to count all) ≡ total → Some (tree_of texts nodes (here (m * 2 + 1))) ≡ total
  member_found count m k total e within named h =
      let lt : m * 2 + 1 < span.len * 2 = omega (arith, e, within) in
      let less : m * 2 < span.len * 2 = omega (arith, lt) in
      let inside : m * 2 + 1 < length all = rw length_all lt in
      let name : bytes_eq k (name_of (get_or all (m * 2) null)) ≡ true = rw (tree_here (m * 2) less) named in
      ap (λ (d : Data). Some d) (sym (tree_here (m * 2 + 1) lt)) ∙ sym (is_member all m k inside name) ∙ ap (λ n. get_member k (members_to n all)) (sym e) ∙ h

  pub member_further : (count m : ℕ) (k : List ℕ) (total : Option Data) → count ≡ suc m → count ≤ span.len → bytes_eq k (name_of (tree_of texts nodes (here (m * 2)))) ≡ false
      → get_member k (members_to count all) ≡ total → get_member k (members_to m all) ≡ total
  member_further count m k total e within named h =
      let lt : m * 2 + 1 < span.len * 2 = omega (arith, e, within) in
      let less : m * 2 < span.len * 2 = omega (arith, lt) in
      let inside : m * 2 + 1 < length all = rw length_all lt in
      let name : bytes_eq k (name_of (get_or all (m * 2) null)) ≡ false = rw (tree_here (m * 2) less) named in
      sym (is_other all m k inside name) ∙ ap (λ n. get_member k (members_to n all)) (sym e) ∙ h
