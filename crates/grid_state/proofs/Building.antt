-- What the parts of a state give, once each is made.
use Rattle.std.proofs.Common.{◌≡◌, ℕ, ◌≤◌, Bool, true, false, List, [], ◌∷◌, length, get_or, map, All, ℤ, arith, refl, sym, ap, ap₂, subst, ◌∙◌, ◌&&◌, not}
use Rattle.std.specs.List.{enumerate_from}
use Rattle.std.proofs.lemmas.List.{length-map, get_or_read}
use Rattle.std.proofs.lemmas.List.Elements.{All-from_get_or}
use Rattle.fb_types.specs.declared.grid.Grid.{Grid}
use Rattle.fb_types.specs.declared.grid.Branch.{Branch}
use Rattle.grid_state.specs.declared.types.Edge.{Edge}
use Rattle.grid_state.specs.declared.links.Link.{Link}
use Rattle.grid_state.specs.GridState.{IsKept, AreSums}
use Rattle.grid_state.specs.Links.{is_out, couplers_of, between, AreClasses, AreReached}
use Rattle.grid_state.specs.Rows.{AreRows, carries_in}
use Rattle.grid_state.specs.States.{class_lines_of, IsStateOf}
use Rattle.grid_state.specs.Parts.{AreParts}
use Rattle.grid_state.specs.Unions.{IsLineBelow, AreLinksBelow, links_marked, carries_marked, is_wanted}
use Rattle.grid_state.proofs.LinkLists.{links_of_marks}
use Rattle.grid_state.proofs.Ranges.{few_links, links_below, lines_below, class_lines_below, links_from_lines}
use Rattle.grid_state.proofs.Weights.{few_edges_at}
use Rattle.grid_state.proofs.Soundness.{sound_of}

pub couplers_below : (grid : Grid) (out : List Bool) (n : ℕ) (couplers : List Link) → n ≡ length grid.nodes → couplers ≡ links_marked true out grid.branches → AreLinksBelow n couplers
couplers_below grid out n couplers e e' = rw (e, e') (links_below (length grid.nodes) (is_wanted true) (λ k. get_or out k false) grid.branches grid.branches_in_range)

pub node_lines_below : (grid : Grid) (out : List Bool) (class_of : List ℕ) (lines : List Link) → length class_of ≡ length grid.nodes → lines ≡ links_marked false out grid.branches → AreLinksBelow (length class_of) lines
node_lines_below grid out class_of lines e e' = rw (e, e') (links_below (length grid.nodes) (is_wanted false) (λ k. get_or out k false) grid.branches grid.branches_in_range)

module _ (grid : Grid) (slack : ℕ) (outage : List ℕ) (out : List Bool) (count : ℕ) (class_of : List ℕ) (lines : List Link) (p : AreParts grid slack outage out count class_of lines) where
  ranged : All (IsLineBelow count) lines
  ranged =
      let classes = p.classes in
      subst (λ (ls : List Link). All (IsLineBelow count) ls) (sym p.made)
      (class_lines_below count class_of (links_marked false out grid.branches) classes.below
      (subst (λ (n : ℕ). All (IsLineBelow n) (links_marked false out grid.branches)) (sym classes.each_place) (lines_below (length grid.nodes) (λ k. get_or out k false) grid.branches grid.branches_in_range)))

  pub parts_lines_below : AreLinksBelow count lines
  parts_lines_below = links_from_lines count lines ranged

  pub few_lines : length lines ≤ 16384
  few_lines =
      let few = grid.few_branches in
      let part = few_links (is_wanted false) (λ k. get_or out k false) grid.branches in
      let size = ap length p.made ∙ length-map (links_marked false out grid.branches) (between class_of) in
      omega arith

  pub parts_short_rows : (live : List Bool) (rows : List (List Edge)) → AreRows live lines rows → All (λ row. length row ≤ 16384) rows
  parts_short_rows live rows are =
      All-from_get_or (λ row. length row ≤ 16384) rows []
      (λ i b. let size = are.each_class in subst (λ (row : List Edge). length row ≤ 16384) (sym (are.row i (omega arith))) (let part = few_edges_at live i lines in let few = few_lines in omega arith))

  pub few_classes : count ≤ 4096
  few_classes = let few = grid.few_nodes in let classes = p.classes in let part = classes.few in omega arith

  same_lines : lines ≡ class_lines_of outage grid.branches class_of
  same_lines = p.made ∙ ap (map (between class_of)) (links_of_marks false out outage (length grid.branches) grid.branches p.marks)

  map_same : (f g : ℕ × Branch → Bool) → ((q : ℕ × Branch) → f q ≡ g q) → (xs : List (ℕ × Branch)) → map f xs ≡ map g xs
  map_same f g e [] = refl
  map_same f g e (x ∷ xs) = ap₂ ◌∷◌ (e x) (map_same f g e xs)

  pub parts_state : (slack_class : ℕ) → slack_class ≡ get_or class_of slack slack_class → (live : List Bool) (rows : List (List Edge)) (carries : List Bool) → AreReached count lines slack_class live → AreRows live lines rows
      → carries ≡ carries_marked out class_of live grid.branches
      → IsStateOf grid slack outage (record { class_of = class_of; slack = slack_class; live = live; rows = rows; carries = carries })
  parts_state slack_class read live rows carries reached are carry =
      let classes = p.classes in
      let h = p.slack_below in
      let size = classes.each_place in
      record {
        classes = subst (λ (n : ℕ). AreClasses (length grid.nodes) (couplers_of outage grid.branches) n class_of) (sym reached.size)
            (subst (λ (ls : List Link). AreClasses (length grid.nodes) ls count class_of) (links_of_marks true out outage (length grid.branches) grid.branches p.marks) classes);
        slack_class = get_or_read class_of slack slack_class (omega arith) read 0;
        live = subst (λ (n : ℕ). AreReached n (class_lines_of outage grid.branches class_of) slack_class live) (sym reached.size) (subst (λ (ls : List Link). AreReached count ls slack_class live) same_lines reached);
        carries = carry ∙ map_same (carries_in (λ k. get_or out k false) class_of live) (carries_in (is_out outage) class_of live)
            (λ q. ap (λ (o : Bool). (is_wanted false q.1 && (q.1.in_operation && not o)) && (get_or live (get_or class_of q.1.from 0) false && get_or live (get_or class_of q.1.to 0) false)) (p.marks.each q.0)) (enumerate_from 0 grid.branches);
        rows = subst (λ (ls : List Link). AreRows live ls rows) same_lines are;
      }

  pub parts_kept : (slack_class : ℕ) → slack_class ≡ get_or class_of slack slack_class → (live : List Bool) (rows : List (List Edge)) (carries : List Bool) (sums : List ℤ) → AreReached count lines slack_class live → AreRows live lines rows
      → carries ≡ carries_marked out class_of live grid.branches → AreSums rows sums
      → IsKept (record { class_of = class_of; slack = slack_class; live = live; rows = rows; carries = carries }) sums
  parts_kept slack_class read live rows carries sums reached are carry summed = record {
    sound = sound_of grid slack outage (record { class_of = class_of; slack = slack_class; live = live; rows = rows; carries = carries }) p.slack_below (parts_state slack_class read live rows carries reached are carry);
    summed = summed;
  }
