-- Lists of nodes that wait until their array or object ends.
use Rattle.std.proofs.Common.{◌≡◌, ℕ, zero, suc, ◌*◌, ◌<◌, ◌≤◌, List, [], ◌∷◌, ◌++◌, length, take, drop, map, Option, Some, None, Result, Ok, Err, ◌/◌, subst, refl, sym, ap, ◌∙◌, append_assoc, append-nil, length-append, arith}
use Rattle.std.proofs.Math.Seq.{drop-append_seam, take-append_seam}
use Rattle.std.proofs.lemmas.List.{length-map, map-append}
use Rattle.std.proofs.Math.Nat.{mul-div_left}
use Rattle.json.specs.Token.{Token}
use Rattle.json.specs.Json.{parse_map}
use Rattle.serde_json.specs.Data.{Data, Num, string, number, Items, no_items, item, Members, no_members, put}
use Rattle.serde_json.specs.View.{items_of}
use Rattle.serde_json.specs.Read.{number_of}
use Rattle.std.specs.Prelude.{IsUtf8, IfOk, OnOk}
use Rattle.std.proofs.lemmas.Str.{IsUtf8-nil}
use Rattle.fb_json.specs.declared.node.Part.{Part}
use Rattle.fb_json.specs.declared.node.Part.TheVariants.{Number, Text}
use Rattle.fb_json.proofs.Tables.{cut_last, sound_text, sound_more, all_lie_stays, all_lie_push, trees_stay, trees_of_more, length-trees_of}
use Rattle.fb_json.specs.declared.node.Span.{Span}
use Rattle.fb_json.specs.declared.node.Node.{Node}
use Rattle.fb_json.specs.declared.builder.Builder.{Builder}
use Rattle.fb_json.specs.Node.{part_of}
use Rattle.fb_json.specs.Kept.{cut, pairs_span, name_of, put_all, trees_of, tree_of, Lies, IsSound, AllLie, num_in, end_of}
use Rattle.fb_json.specs.Building.{Grows, IsPut, IsWaiting, IsGathered, part_tree, items_at, members_at}

-- the tables grow, and the fresh nodes wait behind the others
pub record IsListing (first now : Builder) (fresh : List Node) : Type 0 where
  pub grows : Grows first now
  pub waiting : now.waiting.items ≡ first.waiting.items ++ fresh
  pub lie : AllLie now.texts.items (length now.nodes.items) fresh

pub grows_not : (b : Builder) → IsSound b.texts.items b.nodes.items → Grows b b
grows_not b sound = record { texts = []; nodes = []; in_texts = sym (append-nil b.texts.items); in_nodes = sym (append-nil b.nodes.items); sound = sound }

pub grows_twice : (a b c : Builder) → Grows a b → Grows b c → Grows a c
grows_twice a b c p q = record {
  texts = p.texts ++ q.texts;
  nodes = p.nodes ++ q.nodes;
  in_texts = q.in_texts ∙ ap (λ (x : List ℕ). x ++ q.texts) p.in_texts ∙ append_assoc a.texts.items p.texts q.texts;
  in_nodes = q.in_nodes ∙ ap (λ (x : List Node). x ++ q.nodes) p.in_nodes ∙ append_assoc a.nodes.items p.nodes q.nodes;
  sound = q.sound;
}

-- the same tables
pub grows_same : (a b c : Builder) → Grows a b → c.texts.items ≡ b.texts.items → c.nodes.items ≡ b.nodes.items → Grows a c
grows_same a b c p t n = record {
  texts = p.texts;
  nodes = p.nodes;
  in_texts = t ∙ p.in_texts;
  in_nodes = n ∙ p.in_nodes;
  sound = rw (t, n) p.sound;
}

-- ---- a text that is put

pub put_at : (a b : Builder) (text : List ℕ) (s : Span) → IsPut a b text s → cut s b.texts.items ≡ text
put_at a b text s p = ap (cut s) p.texts ∙ cut_last s a.texts.items text p.start p.len

pub put_grows : (a b : Builder) (text : List ℕ) (s : Span) → IsSound a.texts.items a.nodes.items → IsPut a b text s → Grows a b
put_grows a b text s sound p = record {
  texts = text;
  nodes = [];
  in_texts = p.texts;
  in_nodes = p.nodes ∙ sym (append-nil a.nodes.items);
  sound = rw (p.texts, p.nodes) (sound_text a.texts.items text a.nodes.items sound);
}

put_within : (a b : Builder) (text : List ℕ) (s : Span) → IsPut a b text s → end_of s ≤ length b.texts.items
put_within a b text s p = rw (p.texts, length-append a.texts.items text) (omega (arith, p.start, p.len))

pub text_lies : (a b : Builder) (text : List ℕ) (s : Span) → IsUtf8 text → IsPut a b text s → Lies b.texts.items (length b.nodes.items) (Text s)
text_lies a b text s u p = record { in_texts = put_within a b text s p; in_nodes = omega arith; is_text = rw (put_at a b text s p) (∣ u ∣₁) }

pub number_lies : (a b : Builder) (text : List ℕ) (s : Span) → IsPut a b text s → Lies b.texts.items (length b.nodes.items) (Number s)
number_lies a b text s p = record { in_texts = put_within a b text s p; in_nodes = omega arith; is_text = ∣ IsUtf8-nil ∣₁ }

pub text_tree : (a b : Builder) (text : List ℕ) (s : Span) → IsPut a b text s → part_tree b (Text s) ≡ string text
text_tree a b text s p = ap (λ t. string t) (put_at a b text s p)

pub number_tree : (a b : Builder) (text : List ℕ) (s : Span) (n : Num) → number_of text ≡ Some n → IsPut a b text s → part_tree b (Number s) ≡ number n
number_tree a b text s n e p = ap (λ t. number (num_in (number_of t))) (put_at a b text s p) ∙ ap (λ o. number (num_in o)) e

-- ---- a part that is put behind the fresh nodes

-- the tables grow by what the part needs
pub record Adds (old new : Builder) (p : Part) : Type 0 where
  pub grows : Grows old new
  pub waiting : new.waiting.items ≡ old.waiting.items
  pub lies : Lies new.texts.items (length new.nodes.items) p

pub listing_none : (b : Builder) → IsSound b.texts.items b.nodes.items → IsListing b b []
listing_none b sound = record { grows = grows_not b sound; waiting = sym (append-nil b.waiting.items); lie = tt }

length_rises : (a b : Builder) → Grows a b → length a.nodes.items ≤ length b.nodes.items
length_rises a b g = rw (g.in_nodes, length-append a.nodes.items g.nodes) (omega arith)

fresh_lie : (a b : Builder) (fresh : List Node) → Grows a b → AllLie a.texts.items (length a.nodes.items) fresh → AllLie b.texts.items (length b.nodes.items) fresh
fresh_lie a b fresh g h = rw g.in_texts (all_lie_stays a.texts.items g.texts (length a.nodes.items) (length b.nodes.items) fresh (length_rises a b g) h)

fresh_trees : (a b : Builder) (fresh : List Node) → IsSound a.texts.items a.nodes.items → Grows a b → AllLie a.texts.items (length a.nodes.items) fresh
    → map (tree_of b.texts.items b.nodes.items) fresh ≡ map (tree_of a.texts.items a.nodes.items) fresh
fresh_trees a b fresh sound g h = rw (g.in_texts, g.in_nodes) (trees_stay a.texts.items g.texts a.nodes.items g.nodes fresh sound h)

module _ (first a b c : Builder) (fresh : List Node) (p : Part) (h : IsListing first a fresh) (added : Adds a b p) (w : IsWaiting b c p) where
  pub listing_push : IsListing first c (fresh ++ w.node ∷ [])
  listing_push =
      let lies : Lies b.texts.items (length b.nodes.items) (part_of w.node) = rw w.is_part added.lies in
      record {
        grows = grows_same first b c (grows_twice first a b h.grows added.grows) w.texts w.nodes;
        waiting = w.waiting ∙ ap (λ (x : List Node). x ++ w.node ∷ []) (added.waiting ∙ h.waiting) ∙ append_assoc first.waiting.items fresh (w.node ∷ []);
        lie = rw (w.texts, w.nodes) (all_lie_push b.texts.items (length b.nodes.items) fresh w.node (fresh_lie a b fresh added.grows h.lie) lies);
      }

  pub listing_trees : map (tree_of c.texts.items c.nodes.items) (fresh ++ w.node ∷ []) ≡ map (tree_of a.texts.items a.nodes.items) fresh ++ part_tree b p ∷ []
  listing_trees =
      let last : tree_of b.texts.items b.nodes.items w.node ≡ part_tree b p = ap (part_tree b) w.is_part in
      rw (w.texts, w.nodes) (map-append (tree_of b.texts.items b.nodes.items) fresh (w.node ∷ [])
      ∙ ap (λ (x : List Data). x ++ tree_of b.texts.items b.nodes.items w.node ∷ []) (fresh_trees a b fresh h.grows.sound added.grows h.lie)
      ∙ ap (λ (x : Data). map (tree_of a.texts.items a.nodes.items) fresh ++ x ∷ []) last)

-- ---- fresh nodes that are gathered

module _ (first a b : Builder) (fresh : List Node) (s : Span) (h : IsListing first a fresh) (g : IsGathered a b (length first.waiting.items) s) where
  fresh_is : drop (length first.waiting.items) a.waiting.items ≡ fresh
  fresh_is = ap (drop (length first.waiting.items)) h.waiting ∙ drop-append_seam first.waiting.items fresh

  nodes_are : b.nodes.items ≡ a.nodes.items ++ fresh
  nodes_are = g.nodes ∙ ap (λ (x : List Node). a.nodes.items ++ x) fresh_is

  pub length_is : s.len ≡ length fresh
  length_is = g.len ∙ ap length fresh_is

  pub gathered_waiting : b.waiting.items ≡ first.waiting.items
  gathered_waiting = g.waiting ∙ ap (take (length first.waiting.items)) h.waiting ∙ take-append_seam first.waiting.items fresh

  pub gathered_grows : Grows first b
  gathered_grows = grows_twice first a b h.grows (record {
    texts = [];
    nodes = fresh;
    in_texts = g.texts ∙ sym (append-nil a.texts.items);
    in_nodes = nodes_are;
    sound = rw (g.texts, nodes_are) (sound_more a.texts.items a.nodes.items fresh h.grows.sound h.lie);
  })

  pub gathered_within : end_of s ≤ length b.nodes.items
  gathered_within = rw (nodes_are, length-append a.nodes.items fresh) (omega (arith, g.start, length_is))

  pub gathered_trees : cut s (trees_of b.texts.items b.nodes.items) ≡ map (tree_of a.texts.items a.nodes.items) fresh
  gathered_trees =
      let trees = trees_of a.texts.items a.nodes.items in
      let more = map (tree_of a.texts.items a.nodes.items) fresh in
      let start : s.start ≡ length trees = g.start ∙ sym (length-trees_of a.texts.items a.nodes.items) in
      let len : s.len ≡ length more = length_is ∙ sym (length-map fresh (tree_of a.texts.items a.nodes.items)) in
      rw (g.texts, nodes_are, trees_of_more a.texts.items a.nodes.items fresh h.lie) (cut_last s trees more start len)

abbrev pub items_before : List Data → Items → Items
items_before [] rest = rest
items_before (d ∷ ds) rest = item d (items_before ds rest)

pub items_before-no_items : (ds : List Data) → items_before ds no_items ≡ items_of ds
items_before-no_items [] = refl
items_before-no_items (d ∷ ds) = ap (item d) (items_before-no_items ds)

items_push : (ds : List Data) (d : Data) (rest : Items) → items_before ds (item d rest) ≡ items_before (ds ++ d ∷ []) rest
items_push [] d rest = refl
items_push (e ∷ es) d rest = ap (item e) (items_push es d rest)

pub one_more_item : (ds : List Data) (d : Data) (r : Option (Items × List Token)) → parse_map (items_before ds) (parse_map (item d) r) ≡ parse_map (items_before (ds ++ d ∷ [])) r
one_more_item ds d None = refl
one_more_item ds d (Some p) = ap (λ js. Some (js, p.1)) (items_push ds d p.0)

pub none_before : (r : Option (Items × List Token)) → r ≡ parse_map (λ a. a) r
none_before None = refl
none_before (Some p) = refl

-- a pair behind pairs
pub put_all-pair : (half : ℕ) (ds : List Data) (k d : Data) (found : Members) → length ds ≡ half * 2 → put_all (ds ++ k ∷ d ∷ []) found ≡ put (name_of k) d (put_all ds found)
put_all-pair half [] k d found e = refl
put_all-pair zero (x ∷ xs) k d found e = absurd (omega (arith, e))
put_all-pair half (x ∷ []) k d found e = absurd (omega (arith, e))
put_all-pair (suc half) (x ∷ y ∷ rest) k d found e = put_all-pair half rest k d (put (name_of x) y found) (omega (arith, e))

-- ---- the whole list, where there was memory for it

pub all_grows : {E : Type 0} (first a b : Builder) (fresh : List Node) (from : ℕ) (r : Result Span E) → IsListing first a fresh → from ≡ length first.waiting.items → IfOk r (λ s. IsGathered a b from s) → OnOk r (Grows first b)
all_grows first a b fresh from (Ok s) h e g = gathered_grows first a b fresh s h (subst (λ n. IsGathered a b n s) e g)
all_grows first a b fresh from (Err x) h e g = tt

pub all_waiting : {E : Type 0} (first a b : Builder) (fresh : List Node) (from : ℕ) (r : Result Span E) → IsListing first a fresh → from ≡ length first.waiting.items → IfOk r (λ s. IsGathered a b from s) → OnOk r (b.waiting.items ≡ first.waiting.items)
all_waiting first a b fresh from (Ok s) h e g = gathered_waiting first a b fresh s h (subst (λ n. IsGathered a b n s) e g)
all_waiting first a b fresh from (Err x) h e g = tt

pub all_within : {E : Type 0} (first a b : Builder) (fresh : List Node) (from : ℕ) (r : Result Span E) → IsListing first a fresh → from ≡ length first.waiting.items → IfOk r (λ s. IsGathered a b from s) → IfOk r (λ s. end_of s ≤ length b.nodes.items)
all_within first a b fresh from (Ok s) h e g = gathered_within first a b fresh s h (subst (λ n. IsGathered a b n s) e g)
all_within first a b fresh from (Err x) h e g = tt

pub all_items : {E : Type 0} (first a b : Builder) (fresh : List Node) (from : ℕ) (r : Result Span E) (all : Option (Items × List Token)) (rest : List Token) → IsListing first a fresh → from ≡ length first.waiting.items
    → all ≡ Some (items_of (map (tree_of a.texts.items a.nodes.items) fresh), rest) → IfOk r (λ s. IsGathered a b from s) → IfOk r (λ s. all ≡ Some (items_at b s, rest))
all_items first a b fresh from (Ok s) all rest h e is g = is ∙ ap (λ (ds : List Data). Some (items_of ds, rest)) (sym (gathered_trees first a b fresh s h (subst (λ n. IsGathered a b n s) e g)))
all_items first a b fresh from (Err x) all rest h e is g = tt

-- members are half as many as their nodes
pub halves : (s : Span) (n half : ℕ) → s.len ≡ n → n ≡ half * 2 → pairs_span (record { start = s.start; len = s.len / 2 }) ≡ s
halves s n half e f =
    let some : 0 < 2 = omega arith in
    let same : s.len / 2 * 2 ≡ s.len = rw (e, f, mul-div_left half {n = 2} some) refl in
    ap (λ (k : ℕ). record { start = s.start; len = k }) same

pub all_members : (first a b : Builder) (fresh : List Node) (from half : ℕ) (s : Span) (all : Option (Members × List Token)) (rest : List Token) → IsListing first a fresh → from ≡ length first.waiting.items
    → length fresh ≡ half * 2 → all ≡ Some (put_all (map (tree_of a.texts.items a.nodes.items) fresh) no_members, rest) → IsGathered a b from s
    → all ≡ Some (members_at b (record { start = s.start; len = s.len / 2 }), rest)
all_members first a b fresh from half s all rest h e even is g =
    let gathered = subst (λ n. IsGathered a b n s) e g in
    let trees = trees_of b.texts.items b.nodes.items in
    let whole = halves s (length fresh) half (length_is first a b fresh s h gathered) even in
    let found = ap (λ (t : Span). cut t trees) whole ∙ gathered_trees first a b fresh s h gathered in
    is ∙ ap (λ (ds : List Data). Some (put_all ds no_members, rest)) (sym found)

pub members_within : (first a b : Builder) (fresh : List Node) (from half : ℕ) (s : Span) → IsListing first a fresh → from ≡ length first.waiting.items → length fresh ≡ half * 2 → IsGathered a b from s
    → end_of (pairs_span (record { start = s.start; len = s.len / 2 })) ≤ length b.nodes.items
members_within first a b fresh from half s h e even g =
    let gathered = subst (λ n. IsGathered a b n s) e g in
    subst (λ (t : Span). end_of t ≤ length b.nodes.items) (sym (halves s (length fresh) half (length_is first a b fresh s h gathered) even)) (gathered_within first a b fresh s h gathered)

pub length-pair : (fresh : List Node) (m n : Node) (half : ℕ) → length fresh ≡ half * 2 → length ((fresh ++ m ∷ []) ++ n ∷ []) ≡ suc half * 2
length-pair fresh m n half e = rw (length-append (fresh ++ m ∷ []) (n ∷ []), length-append fresh (m ∷ []), e) (omega arith)

pub put_pair : (half : ℕ) (ds all : List Data) (k : List ℕ) (d : Data) → length ds ≡ half * 2 → all ≡ (ds ++ string k ∷ []) ++ d ∷ [] → put_all all no_members ≡ put k d (put_all ds no_members)
put_pair half ds all k d e is = ap (λ xs. put_all xs no_members) (is ∙ append_assoc ds (string k ∷ []) (d ∷ [])) ∙ put_all-pair half ds (string k) d no_members e
