-- What stands in a kept tree: two tables, of texts and of nodes. Nobody need believe this: the contract of `tree` ties what a
-- document's tree is to what is read of its bytes.
use Rattle.std.specs.Prelude.{ℕ, ◌+◌, ◌*◌, ◌<◌, ◌≤◌, List, [], ◌∷◌, ◌++◌, length, take, drop, get_or, Option, Some, None, IsUtf8}
use Rattle.std.specs.List.{AllByRecursion}
use Rattle.serde_json.specs.Data.{Num, unsigned, Data, null, boolean, number, string, array, object, Members, no_members, put}
use Rattle.serde_json.specs.View.{items_of}
use Rattle.serde_json.specs.Read.{number_of}
use Rattle.fb_json.specs.declared.node.Span.{Span}
use Rattle.fb_json.specs.declared.node.Node.{Node}
use Rattle.fb_json.specs.declared.node.Part.{Part}
use Rattle.fb_json.specs.declared.node.Part.TheVariants.{Null, Truth, Number, Text, Array, Object}
use Rattle.fb_json.specs.Node.{part_of}

-- ---- the tree of a part

abbrev pub cut : {A : Type 0} → Span → List A → List A
cut s xs = take s.len (drop s.start xs)

-- an object's length counts pairs
abbrev pub pairs_span : Span → Span
pairs_span s = record { start = s.start; len = s.len * 2 }

abbrev pub num_in : Option Num → Num
num_in None = unsigned 0
num_in (Some n) = n

abbrev pub name_of : Data → List ℕ
name_of null = []
name_of (boolean b) = []
name_of (number n) = []
name_of (string s) = s
name_of (array ds) = []
name_of (object ms) = []

-- the members in their order in the document, where of equal names the last counts
abbrev pub put_all : List Data → Members → Members
put_all [] found = found
put_all (k ∷ []) found = found
put_all (k ∷ d ∷ rest) found = put_all rest (put (name_of k) d found)

-- what a part stands for, over the bytes of the texts and the trees of the nodes
abbrev pub tree_with : List ℕ → List Data → Part → Data
tree_with texts trees Null = null
tree_with texts trees (Truth b) = boolean b
tree_with texts trees (Number s) = number (num_in (number_of (cut s texts)))
tree_with texts trees (Text s) = string (cut s texts)
tree_with texts trees (Array s) = array (items_of (cut s trees))
tree_with texts trees (Object s) = object (put_all (cut (pairs_span s) trees) no_members)

-- the trees of nodes, each over the trees before it
abbrev pub trees_after : List ℕ → List Data → List Node → List Data
trees_after texts before [] = []
trees_after texts before (n ∷ ns) = tree_with texts before (part_of n) ∷ trees_after texts (before ++ tree_with texts before (part_of n) ∷ []) ns

unfoldable pub trees_of : List ℕ → List Node → List Data
trees_of texts nodes = trees_after texts [] nodes

abbrev pub tree_of : List ℕ → List Node → Node → Data
tree_of texts nodes n = tree_with texts (trees_of texts nodes) (part_of n)

-- ---- parts that lie in the tables

abbrev pub end_of : Span → ℕ
end_of s = s.start + s.len

abbrev pub text_end : Part → ℕ
text_end Null = 0
text_end (Truth b) = 0
text_end (Number s) = end_of s
text_end (Text s) = end_of s
text_end (Array s) = 0
text_end (Object s) = 0

abbrev pub node_end : Part → ℕ
node_end Null = 0
node_end (Truth b) = 0
node_end (Number s) = 0
node_end (Text s) = 0
node_end (Array s) = end_of s
node_end (Object s) = end_of (pairs_span s)

abbrev pub bytes_of : List ℕ → Part → List ℕ
bytes_of texts Null = []
bytes_of texts (Truth b) = []
bytes_of texts (Number s) = []
bytes_of texts (Text s) = cut s texts
bytes_of texts (Array s) = []
bytes_of texts (Object s) = []

-- the part lies in the texts, and in the first so many nodes
pub record Lies (texts : List ℕ) (count : ℕ) (part : Part) : Type 0 where
  pub in_texts : text_end part ≤ length texts
  pub in_nodes : node_end part ≤ count
  pub is_text : ∥ IsUtf8 (bytes_of texts part) ∥₁

abbrev pub no_node : Node
no_node = record { head = 0; len = 0 }

-- each node's part lies in the texts and in the nodes before it
abbrev pub IsSound : List ℕ → List Node → Type 0
IsSound texts nodes = (k : ℕ) → k < length nodes → Lies texts k (part_of (get_or nodes k no_node))

abbrev pub AllLie : List ℕ → ℕ → List Node → Type 0
AllLie texts count nodes = AllByRecursion (λ n. Lies texts count (part_of n)) nodes
