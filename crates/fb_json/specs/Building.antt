-- How the tables of a document grow. Nobody need believe this.
use Rattle.std.specs.Prelude.{◌≡◌, ℕ, List, [], ◌∷◌, ◌++◌, length, take, drop}
use Rattle.fb_json.specs.declared.node.Span.{Span}
use Rattle.fb_json.specs.declared.node.Node.{Node}
use Rattle.fb_json.specs.declared.builder.Builder.{Builder}
use Rattle.serde_json.specs.Data.{Data, Items, Members, no_members}
use Rattle.serde_json.specs.View.{items_of}
use Rattle.fb_json.specs.declared.node.Part.{Part}
use Rattle.fb_json.specs.Node.{part_of}
use Rattle.fb_json.specs.Kept.{IsSound, cut, pairs_span, put_all, tree_with, trees_of}

-- texts and nodes are put behind the old ones, and the tables are sound
pub record Grows (old new : Builder) : Type 0 where
  pub texts : List ℕ
  pub nodes : List Node
  pub in_texts : new.texts.items ≡ old.texts.items ++ texts
  pub in_nodes : new.nodes.items ≡ old.nodes.items ++ nodes
  pub sound : IsSound new.texts.items new.nodes.items

-- a text is put, at the span
pub record IsPut (old new : Builder) (text : List ℕ) (span : Span) : Type 0 where
  pub texts : new.texts.items ≡ old.texts.items ++ text
  pub nodes : new.nodes.items ≡ old.nodes.items
  pub waiting : new.waiting.items ≡ old.waiting.items
  pub start : span.start ≡ length old.texts.items
  pub len : span.len ≡ length text

-- the part's node waits behind the others
pub record IsWaiting (old new : Builder) (part : Part) : Type 0 where
  pub node : Node
  pub is_part : part_of node ≡ part
  pub texts : new.texts.items ≡ old.texts.items
  pub nodes : new.nodes.items ≡ old.nodes.items
  pub waiting : new.waiting.items ≡ old.waiting.items ++ node ∷ []

-- the waiting nodes from a place on are put, at the span
pub record IsGathered (old new : Builder) (from : ℕ) (span : Span) : Type 0 where
  pub texts : new.texts.items ≡ old.texts.items
  pub nodes : new.nodes.items ≡ old.nodes.items ++ drop from old.waiting.items
  pub waiting : new.waiting.items ≡ take from old.waiting.items
  pub start : span.start ≡ length old.nodes.items
  pub len : span.len ≡ length (drop from old.waiting.items)

-- ---- what stands in the tables so far

abbrev pub part_tree : Builder → Part → Data
part_tree b p = tree_with b.texts.items (trees_of b.texts.items b.nodes.items) p

abbrev pub items_at : Builder → Span → Items
items_at b s = items_of (cut s (trees_of b.texts.items b.nodes.items))

abbrev pub members_at : Builder → Span → Members
members_at b s = put_all (cut (pairs_span s) (trees_of b.texts.items b.nodes.items)) no_members
