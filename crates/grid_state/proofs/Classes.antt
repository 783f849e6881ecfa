-- The labels of trees are the classes that links make.
use Rattle.std.proofs.Common.{◌≡◌, ℕ, ◌+◌, ◌<◌, eqb, List, [], ◌∷◌, ◌++◌, inl, inr, length, get_or, arith, refl, sym, ap, ◌∙◌}
use Rattle.std.proofs.lemmas.Bool.{cases_eq, eq-eqb, eqb-true}
use Rattle.std.proofs.lemmas.List.{get_or_append_left, get_or_push, length_push}
use Rattle.grid_state.specs.declared.links.Link.{Link}
use Rattle.grid_state.specs.Links.{AreClasses}
use Rattle.grid_state.specs.Unions.{Respects, ArePlacesApart, AreTrees, AreLabels}
use Rattle.grid_state.proofs.Chains.{same_side, joined_from_sets}

-- each place a tree of its own
pub trees_apart : (up : List ℕ) (n : ℕ) → ArePlacesApart up n → AreTrees [] up
trees_apart up n a = let size = a.size in record {
  points = record { before = λ i h. let here = a.itself i (omega arith) in omega arith };
  followed = λ s r. record { both = λ i h. ap s (a.itself i (omega arith)) };
  respected = λ s f. record { both = λ k d h. absurd (omega arith) };
}

pub apart_more : (up : List ℕ) (n : ℕ) → ArePlacesApart up n → ArePlacesApart (up ++ n ∷ []) (n + 1)
apart_more up n a = let size = a.size in record {
  size = length_push up n ∙ ap (λ (k : ℕ). k + 1) size;
  itself = λ i h. elim (cases_eq i n) [
    | inl e ↦ get_or_push up n 0 i (size ∙ sym e) ∙ sym e
    | inr ne ↦ get_or_append_left up (n ∷ []) 0 i (omega arith) ∙ a.itself i (omega arith)
  ];
}

pub classes_of_labels : (n : ℕ) (links : List Link) (up labels : List ℕ) (count : ℕ) → AreTrees links up → AreLabels up labels count → length up ≡ n → length labels ≡ length up → AreClasses n links count labels
classes_of_labels n links up labels count trees l size size' =
    record {
      each_place = size' ∙ size;
      few = let few = l.few in omega arith;
      below = l.below;
      used = λ c h. let u = l.used c h in let b : u.0 < length labels = u.1 in (u.0, omega arith, u.2);
      one_class = λ i j hi hj. (
        (λ e. joined_from_sets links i j (λ s r. l.one_tree i j (omega arith) (omega arith) e s (trees.followed s r))),
        (λ chain. sym (eqb-true (get_or labels j 0) (get_or labels i 0) (sym (same_side links (λ k. eqb (get_or labels k 0) (get_or labels i 0)) (respected i) i j chain) ∙ eq-eqb (get_or labels i 0) (get_or labels i 0) refl))),
      );
      in_order = λ i c h lt. l.in_order i c (omega arith) lt;
    }
  where
    respected : (i : ℕ) → Respects links (λ k. eqb (get_or labels k 0) (get_or labels i 0))
    respected i = trees.respected (λ k. eqb (get_or labels k 0) (get_or labels i 0)) (record { both = λ k h. ap (λ (c : ℕ). eqb c (get_or labels i 0)) (l.follow k (omega arith)) })
