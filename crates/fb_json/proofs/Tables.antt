-- The trees of nodes, as the tables of texts and nodes grow at their ends.
use Rattle.std.proofs.Common.{◌≡◌, ℕ, zero, suc, ◌-◌, ◌<◌, ◌≤◌, List, [], ◌∷◌, ◌++◌, length, take, drop, map, get_or, inl, inr, refl, sym, ap, ◌∙◌, append_assoc, append-nil, length-append, arith}
use Rattle.std.proofs.lemmas.Bool.{cases_lt}
use Rattle.std.proofs.lemmas.List.{take-append-le, drop-append-le, length-drop, length-take-le, take-append-drop, take_all, get_or_append_left}
use Rattle.std.proofs.Math.Seq.{drop-append_seam, drop-cons, get_or-append_seam, get_or-append_right}
use Rattle.serde_json.specs.Data.{Data, null, number, string, array, object, no_members}
use Rattle.serde_json.specs.Read.{number_of}
use Rattle.serde_json.specs.View.{items_of}
use Rattle.fb_json.specs.declared.node.Span.{Span}
use Rattle.fb_json.specs.declared.node.Node.{Node}
use Rattle.fb_json.specs.declared.node.Part.{Part}
use Rattle.fb_json.specs.declared.node.Part.TheVariants.{Null, Truth, Number, Text, Array, Object}
use Rattle.fb_json.specs.Node.{part_of}
use Rattle.fb_json.specs.Kept.{cut, pairs_span, num_in, put_all, tree_with, trees_after, trees_of, tree_of, end_of, text_end, node_end, bytes_of, Lies, no_node, IsSound, AllLie}

-- ---- what lies in the front of a table stays

pub cut_stays : {A : Type 0} (s : Span) (xs ys : List A) → end_of s ≤ length xs → cut s (xs ++ ys) ≡ cut s xs
cut_stays s xs ys le =
    let start : s.start ≤ length xs = omega (arith, le) in
    let rest : s.len ≤ length (drop s.start xs) = rw (length-drop s.start xs) (omega (arith, le)) in
    ap (take s.len) (drop-append-le s.start xs ys start) ∙ take-append-le s.len (drop s.start xs) ys rest

pub tree_with_stays : (texts : List ℕ) (trees more : List Data) (p : Part) → node_end p ≤ length trees → tree_with texts (trees ++ more) p ≡ tree_with texts trees p
tree_with_stays texts trees more Null le = refl
tree_with_stays texts trees more (Truth b) le = refl
tree_with_stays texts trees more (Number s) le = refl
tree_with_stays texts trees more (Text s) le = refl
tree_with_stays texts trees more (Array s) le = ap (λ ds. array (items_of ds)) (cut_stays s trees more le)
tree_with_stays texts trees more (Object s) le = ap (λ ds. object (put_all ds no_members)) (cut_stays (pairs_span s) trees more le)

pub tree_with_text_stays : (texts more : List ℕ) (trees : List Data) (p : Part) → text_end p ≤ length texts → tree_with (texts ++ more) trees p ≡ tree_with texts trees p
tree_with_text_stays texts more trees Null le = refl
tree_with_text_stays texts more trees (Truth b) le = refl
tree_with_text_stays texts more trees (Number s) le = ap (λ t. number (num_in (number_of t))) (cut_stays s texts more le)
tree_with_text_stays texts more trees (Text s) le = ap (λ t. string t) (cut_stays s texts more le)
tree_with_text_stays texts more trees (Array s) le = refl
tree_with_text_stays texts more trees (Object s) le = refl

pub bytes_stay : (texts more : List ℕ) (p : Part) → text_end p ≤ length texts → bytes_of (texts ++ more) p ≡ bytes_of texts p
bytes_stay texts more Null le = refl
bytes_stay texts more (Truth b) le = refl
bytes_stay texts more (Number s) le = refl
bytes_stay texts more (Text s) le = cut_stays s texts more le
bytes_stay texts more (Array s) le = refl
bytes_stay texts more (Object s) le = refl

pub lies_stays : (texts more : List ℕ) (n m : ℕ) (p : Part) → n ≤ m → Lies texts n p → Lies (texts ++ more) m p
lies_stays texts more n m p le h = record {
  in_texts = rw (length-append texts more) (omega (arith, h.in_texts));
  in_nodes = omega (arith, h.in_nodes, le);
  is_text = rw (bytes_stay texts more p h.in_texts) h.is_text;
}

pub count_rises : (texts : List ℕ) (n m : ℕ) (p : Part) → n ≤ m → Lies texts n p → Lies texts m p
count_rises texts n m p le h = record { in_texts = h.in_texts; in_nodes = omega (arith, h.in_nodes, le); is_text = h.is_text }

pub all_lie_stays : (texts more : List ℕ) (n m : ℕ) (ns : List Node) → n ≤ m → AllLie texts n ns → AllLie (texts ++ more) m ns
all_lie_stays texts more n m [] le h = tt
all_lie_stays texts more n m (x ∷ xs) le h = (lies_stays texts more n m (part_of x) le h.0, all_lie_stays texts more n m xs le h.1)

pub all_lie_push : (texts : List ℕ) (n : ℕ) (ns : List Node) (x : Node) → AllLie texts n ns → Lies texts n (part_of x) → AllLie texts n (ns ++ x ∷ [])
all_lie_push texts n [] x h l = (l, tt)
all_lie_push texts n (y ∷ ys) x h l = (h.0, all_lie_push texts n ys x h.1 l)

all_lie_at : (texts : List ℕ) (n k : ℕ) (ns : List Node) → AllLie texts n ns → k < length ns → Lies texts n (part_of (get_or ns k no_node))
all_lie_at texts n k [] h lt = absurd (omega (arith, lt))
all_lie_at texts n zero (x ∷ xs) h lt = h.0
all_lie_at texts n (suc k) (x ∷ xs) h lt = all_lie_at texts n k xs h.1 (omega (arith, lt))

-- ---- the trees of nodes

pub trees_after-append : (texts : List ℕ) (before : List Data) (ns ms : List Node) → trees_after texts before (ns ++ ms) ≡ trees_after texts before ns ++ trees_after texts (before ++ trees_after texts before ns) ms
trees_after-append texts before [] ms = ap (λ b. trees_after texts b ms) (sym (append-nil before))
trees_after-append texts before (n ∷ ns) ms =
    let d = tree_with texts before (part_of n) in
    ap (λ (ds : List Data). d ∷ ds) (trees_after-append texts (before ++ d ∷ []) ns ms
    ∙ ap (λ b. trees_after texts (before ++ d ∷ []) ns ++ trees_after texts b ms) (append_assoc before (d ∷ []) (trees_after texts (before ++ d ∷ []) ns)))

pub trees_of-append : (texts : List ℕ) (ns ms : List Node) → trees_of texts (ns ++ ms) ≡ trees_of texts ns ++ trees_after texts (trees_of texts ns) ms
unfolding trees_of
trees_of-append texts ns ms = trees_after-append texts [] ns ms

length-trees_after : (texts : List ℕ) (before : List Data) (ns : List Node) → length (trees_after texts before ns) ≡ length ns
length-trees_after texts before [] = refl
length-trees_after texts before (n ∷ ns) = ap suc (length-trees_after texts (before ++ tree_with texts before (part_of n) ∷ []) ns)

pub length-trees_of : (texts : List ℕ) (ns : List Node) → length (trees_of texts ns) ≡ length ns
unfolding trees_of
length-trees_of texts ns = length-trees_after texts [] ns

-- nodes that lie in the tables before them, one after another
trees_side_by_side : (texts : List ℕ) (trees more : List Data) (ns : List Node) → AllLie texts (length trees) ns → trees_after texts (trees ++ more) ns ≡ map (λ n. tree_with texts trees (part_of n)) ns
trees_side_by_side texts trees more [] h = refl
trees_side_by_side texts trees more (n ∷ ns) h =
    let here = tree_with_stays texts trees more (part_of n) h.0.in_nodes in
    let d = tree_with texts (trees ++ more) (part_of n) in
    let rest = ap (λ b. trees_after texts b ns) (append_assoc trees more (d ∷ [])) ∙ trees_side_by_side texts trees (more ++ d ∷ []) ns h.1 in
    ap (λ (x : Data). x ∷ trees_after texts ((trees ++ more) ++ d ∷ []) ns) here ∙ ap (λ (xs : List Data). tree_with texts trees (part_of n) ∷ xs) rest

pub trees_of_more : (texts : List ℕ) (nodes ns : List Node) → AllLie texts (length nodes) ns → trees_of texts (nodes ++ ns) ≡ trees_of texts nodes ++ map (tree_of texts nodes) ns
trees_of_more texts nodes ns h =
    let trees = trees_of texts nodes in
    let lie : AllLie texts (length trees) ns = rw (length-trees_of texts nodes) h in
    trees_of-append texts nodes ns ∙ ap (λ ds. trees ++ ds) (ap (λ b. trees_after texts b ns) (sym (append-nil trees)) ∙ trees_side_by_side texts trees [] ns lie)

trees_after_text : (texts more : List ℕ) (before : List Data) (ns : List Node) → ((k : ℕ) → k < length ns → text_end (part_of (get_or ns k no_node)) ≤ length texts)
    → trees_after (texts ++ more) before ns ≡ trees_after texts before ns
trees_after_text texts more before [] h = refl
trees_after_text texts more before (n ∷ ns) h =
    let here = tree_with_text_stays texts more before (part_of n) (h 0 (omega arith)) in
    ap (λ (x : Data). x ∷ trees_after (texts ++ more) (before ++ x ∷ []) ns) here
    ∙ ap (λ (xs : List Data). tree_with texts before (part_of n) ∷ xs) (trees_after_text texts more (before ++ tree_with texts before (part_of n) ∷ []) ns (λ k lt. h (suc k) (omega (arith, lt))))

pub trees_of_text : (texts more : List ℕ) (nodes : List Node) → IsSound texts nodes → trees_of (texts ++ more) nodes ≡ trees_of texts nodes
unfolding trees_of
trees_of_text texts more nodes sound = trees_after_text texts more [] nodes (λ k lt. (sound k lt).in_texts)

-- a node keeps its tree
pub tree_stays : (texts more : List ℕ) (nodes ns : List Node) (p : Part) → IsSound texts nodes → Lies texts (length nodes) p
    → tree_with (texts ++ more) (trees_of (texts ++ more) (nodes ++ ns)) p ≡ tree_with texts (trees_of texts nodes) p
tree_stays texts more nodes ns p sound h =
    let long = texts ++ more in
    let within : node_end p ≤ length (trees_of long nodes) = rw (length-trees_of long nodes) h.in_nodes in
    ap (λ ds. tree_with long ds p) (trees_of-append long nodes ns)
    ∙ tree_with_stays long (trees_of long nodes) (trees_after long (trees_of long nodes) ns) p within
    ∙ ap (λ ds. tree_with long ds p) (trees_of_text texts more nodes sound)
    ∙ tree_with_text_stays texts more (trees_of texts nodes) p h.in_texts

pub trees_stay : (texts more : List ℕ) (nodes ns fresh : List Node) → IsSound texts nodes → AllLie texts (length nodes) fresh
    → map (tree_of (texts ++ more) (nodes ++ ns)) fresh ≡ map (tree_of texts nodes) fresh
trees_stay texts more nodes ns [] sound h = refl
trees_stay texts more nodes ns (x ∷ xs) sound h =
    ap (λ (d : Data). d ∷ map (tree_of (texts ++ more) (nodes ++ ns)) xs) (tree_stays texts more nodes ns (part_of x) sound h.0)
    ∙ ap (λ (ds : List Data). tree_of texts nodes x ∷ ds) (trees_stay texts more nodes ns xs sound h.1)

-- the tables stay sound
pub sound_text : (texts more : List ℕ) (nodes : List Node) → IsSound texts nodes → IsSound (texts ++ more) nodes
sound_text texts more nodes sound = λ k lt. lies_stays texts more k k (part_of (get_or nodes k no_node)) (omega arith) (sound k lt)

old_or_new : (texts : List ℕ) (nodes ns : List Node) (k : ℕ) → IsSound texts nodes → AllLie texts (length nodes) ns → k < length (nodes ++ ns) → Lies texts k (part_of (get_or (nodes ++ ns) k no_node))
old_or_new texts nodes ns k sound h lt = elim (cases_lt k (length nodes)) [
  | inl old ↦ rw (get_or_append_left nodes ns no_node k old) (sound k old)
  | inr new ↦
      let within : k - length nodes < length ns = omega (arith, length-append nodes ns, lt, new) in
      let found = all_lie_at texts (length nodes) (k - length nodes) ns h within in
      rw (get_or-append_right nodes ns k no_node new) (count_rises texts (length nodes) k (part_of (get_or ns (k - length nodes) no_node)) new found)
]

pub sound_more : (texts : List ℕ) (nodes ns : List Node) → IsSound texts nodes → AllLie texts (length nodes) ns → IsSound texts (nodes ++ ns)
sound_more texts nodes ns sound h = λ k lt. old_or_new texts nodes ns k sound h lt

-- what was put at the end of a table
pub cut_last : {A : Type 0} (s : Span) (xs ys : List A) → s.start ≡ length xs → s.len ≡ length ys → cut s (xs ++ ys) ≡ ys
cut_last s xs ys start len = rw (start, len, drop-append_seam xs ys) (take_all (length ys) ys (omega arith))

-- the tree at a place of the table is that of the node there
at_seam : (texts : List ℕ) (front rest : List Node) (n : Node) → node_end (part_of n) ≤ length front → get_or (trees_of texts (front ++ n ∷ rest)) (length front) null ≡ tree_of texts (front ++ n ∷ rest) n
at_seam texts front rest n le =
    let trees = trees_of texts front in
    let d = tree_with texts trees (part_of n) in
    let more = trees_after texts (trees ++ d ∷ []) rest in
    let split : trees_of texts (front ++ n ∷ rest) ≡ trees ++ d ∷ more = trees_of-append texts front (n ∷ rest) in
    let within : node_end (part_of n) ≤ length trees = rw (length-trees_of texts front) le in
    let here : get_or (trees ++ d ∷ more) (length front) null ≡ d = ap (λ k. get_or (trees ++ d ∷ more) k null) (sym (length-trees_of texts front)) ∙ get_or-append_seam trees d more null in
    ap (λ ds. get_or ds (length front) null) split ∙ here ∙ sym (tree_with_stays texts trees (d ∷ more) (part_of n) within) ∙ ap (λ ds. tree_with texts ds (part_of n)) (sym split)

pub tree_at : (texts : List ℕ) (nodes : List Node) (k : ℕ) → IsSound texts nodes → k < length nodes → get_or (trees_of texts nodes) k null ≡ tree_of texts nodes (get_or nodes k no_node)
tree_at texts nodes k sound lt =
    let n = get_or nodes k no_node in
    let front = take k nodes in
    let rest = drop (suc k) nodes in
    let length_front : length front ≡ k = length-take-le k nodes (omega (arith, lt)) in
    let split : front ++ n ∷ rest ≡ nodes = ap (λ (xs : List Node). front ++ xs) (sym (drop-cons nodes k no_node lt)) ∙ take-append-drop k nodes in
    let within : node_end (part_of n) ≤ length front = rw length_front (sound k lt).in_nodes in
    ap (λ i. get_or (trees_of texts nodes) i null) (sym length_front) ∙ ap (λ ns. get_or (trees_of texts ns) (length front) null) (sym split) ∙ at_seam texts front rest n within ∙ ap (λ ns. tree_of texts ns n) split
