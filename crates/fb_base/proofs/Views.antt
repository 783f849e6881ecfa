-- The maps and the set of std that the shelf and the sink in memory keep, seen as finite maps and sets: a look-up there is
-- a look-up here, and an insertion there is an insertion here.
use Rattle.std.proofs.Common.{◌≡◌, ℕ, Bool, true, false, cond, List, [], ◌∷◌, ◌||◌, map, refl, sym, ap, ◌∙◌, Option, Some, String}
use Rattle.std.specs.Option.{option_map}
use Rattle.std.specs.Ordering.{nat_cmp, is_eq}
use Rattle.std.specs.Cmp.{nat_cmp_total, eq_by_cmp_equiv}
use Rattle.std.specs.Cmp.Lexicographic.{slice_cmp, nat_list_cmp_total}
use Rattle.std.specs.Map.{lookup}
use Rattle.std.specs.BTreeMap.{BTreeMap, is_at, get_by, get_by_text, Updates}
use Rattle.std.specs.BTreeSet as tree
use Rattle.std.specs.FinMap as map
use Rattle.std.specs.FinSet as set
use Rattle.std.specs.String.{string_bytes, string_cmp}
use Rattle.std.specs.Str.{bytes_eq}
use Rattle.std.proofs.lemmas.Map.Text.{is_eq-slice_cmp, btree_map_updates_text}
use Rattle.fb_base.specs.Documents.{documents_of}

-- a look-up among numbered entries
pub get-from_entries : {X : Type 0} (m : BTreeMap ℕ X) (q : ℕ) → map.get (map.from_entries {R = nat_cmp} m.entries) q ≡ get_by (nat_cmp q) m
get-from_entries {X} m q = map.get-from_entries nat_cmp_total m.entries q ∙ found m.entries
  where
    found : (es : List (ℕ × X)) → map.find nat_cmp q es ≡ lookup (is_at (nat_cmp q)) es
    found [] = refl
    found (e ∷ es) = ap (cond (is_eq (nat_cmp q e.0)) (Some e.1)) (found es)

-- an insertion among numbered entries
pub from_entries-insert : {X : Type 0} (old new : BTreeMap ℕ X) (k : ℕ) (w : X) → Updates nat_cmp old new k (Some w) → map.from_entries {R = nat_cmp} new.entries ≡ map.insert (map.from_entries old.entries) k w
from_entries-insert old new k w updates =
    map.same_map nat_cmp_total map.nat_cmp-IsAntisymmetric _ _
    (λ q. get-from_entries new q
    ∙ updates.0 q
    ∙ ap (λ b. cond b (Some w) (get_by (nat_cmp q) old)) ((eq_by_cmp_equiv nat_cmp_total).symm k q)
    ∙ ap (cond (is_eq (nat_cmp q k)) (Some w)) (sym (get-from_entries old q))
    ∙ sym (map.get-insert nat_cmp_total (map.from_entries old.entries) k w q))

-- a test among numbers
pub contains-from_list : (s : tree.BTreeSet ℕ) (q : ℕ) → set.contains (set.from_list {R = nat_cmp} s.keys) q ≡ tree.contains nat_cmp s q
contains-from_list s q = set.contains-from_list nat_cmp_total s.keys q

either : (a b : Bool) → cond a true b ≡ (a || b)
either true b = refl
either false b = refl

-- an insertion among numbers
pub from_list-insert : (old new : tree.BTreeSet ℕ) (k : ℕ) → tree.Updates nat_cmp old new k true → set.from_list {R = nat_cmp} new.keys ≡ set.insert (set.from_list old.keys) k
from_list-insert old new k updates =
    set.same_set nat_cmp_total set.nat_cmp-IsAntisymmetric _ _
    (λ q. contains-from_list new q
    ∙ updates.0 q
    ∙ ap (λ b. cond b true (tree.contains nat_cmp old q)) ((eq_by_cmp_equiv nat_cmp_total).symm k q)
    ∙ either (is_eq (nat_cmp q k)) (tree.contains nat_cmp old q)
    ∙ ap (λ b. is_eq (nat_cmp q k) || b) (sym (contains-from_list old q))
    ∙ sym (set.contains-insert nat_cmp_total (set.from_list old.keys) k q))

-- a look-up by name
pub get-documents_of : {Y V : Type 0} (bytes_of : V → List ℕ) (m : BTreeMap (String Y) V) (name : List ℕ) → map.get (documents_of string_bytes bytes_of m.entries) name ≡ option_map bytes_of (get_by_text m name)
get-documents_of {Y} {V} bytes_of m name = map.get-from_entries nat_list_cmp_total (map (λ e. (string_bytes e.0, bytes_of e.1)) m.entries) name ∙ found m.entries
  where
    found : (es : List (String Y × V)) → map.find (slice_cmp nat_cmp) name (map (λ e. (string_bytes e.0, bytes_of e.1)) es) ≡ option_map bytes_of (lookup (is_at (λ k. slice_cmp nat_cmp name (string_bytes k))) es)
    found [] = refl
    found (e ∷ es) =
        elim (is_eq (slice_cmp nat_cmp name (string_bytes e.0))) as (λ b. cond b (Some (bytes_of e.1)) (map.find (slice_cmp nat_cmp) name (map (λ e. (string_bytes e.0, bytes_of e.1)) es)) ≡ option_map bytes_of (cond b (Some e.1) (lookup (is_at (λ k. slice_cmp nat_cmp name (string_bytes k))) es))) [ true ↦ refl | false ↦ found es ]

mapped : {V W : Type 0} (f : V → W) (b : Bool) (v : V) (o : Option V) → option_map f (cond b (Some v) o) ≡ cond b (Some (f v)) (option_map f o)
mapped f true v o = refl
mapped f false v o = refl

-- an insertion by name
pub documents_of-insert : {Y V : Type 0} (bytes_of : V → List ℕ) (old new : BTreeMap (String Y) V) (k : String Y) (w : V) → Updates string_cmp old new k (Some w) → documents_of string_bytes bytes_of new.entries ≡ map.insert (documents_of string_bytes bytes_of old.entries) (string_bytes k) (bytes_of w)
documents_of-insert bytes_of old new k w updates =
    let name = string_bytes k in
    map.same_map nat_list_cmp_total (map.slice_cmp-IsAntisymmetric map.nat_cmp-IsAntisymmetric) _ _
    (λ q. get-documents_of bytes_of new q
    ∙ ap (option_map bytes_of) (btree_map_updates_text name old new (Some w) updates q)
    ∙ mapped bytes_of (bytes_eq name q) w (get_by_text old q)
    ∙ ap (λ b. cond b (Some (bytes_of w)) (option_map bytes_of (get_by_text old q))) (sym (is_eq-slice_cmp name q) ∙ (eq_by_cmp_equiv nat_list_cmp_total).symm name q)
    ∙ ap (cond (is_eq (slice_cmp nat_cmp q name)) (Some (bytes_of w))) (sym (get-documents_of bytes_of old q))
    ∙ sym (map.get-insert nat_list_cmp_total (documents_of string_bytes bytes_of old.entries) name (bytes_of w) q))
