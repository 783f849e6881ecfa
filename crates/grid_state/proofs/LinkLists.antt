-- Links of branches, one branch more at a time.
use Rattle.std.proofs.Common.{◌≡◌, ℕ, ◌+◌, ◌<◌, ◌≤◌, Bool, true, false, cond, not, ◌&&◌, List, [], ◌∷◌, ◌++◌, length, get_or, map, take, arith, sym, ap, ◌∙◌}
use Rattle.std.specs.List.{filter, enumerate_from}
use Rattle.std.proofs.lemmas.Bool.{cond-true, cond-false}
use Rattle.std.proofs.lemmas.List.{map-append, map_more, append-nil, take_all}
use Rattle.std.proofs.lemmas.List.FromFn.{length-enumerate_from, get_or-enumerate_from}
use Rattle.std.proofs.lemmas.List.Elements.{filter_more, filter_agree}
use Rattle.fb_types.specs.declared.grid.Branch.{Branch}
use Rattle.grid_state.specs.Links.{is_chosen, link_of, links_of, is_out}
use Rattle.grid_state.specs.Unions.{links_before, carries_before, AreMarks, is_wanted}
use Rattle.grid_state.specs.Rows.{carries_in}

module _ (couplers : Bool) (out : List Bool) (branches : List Branch) (k : ℕ) (b : Branch) (h : k < length branches) (read : b ≡ get_or branches k b) where
  item : get_or (enumerate_from 0 branches) k (k, b) ≡ (k, b)
  item = get_or-enumerate_from 0 branches k (k, b) h ∙ ap (λ (n : ℕ). (n, get_or branches k b)) (omega arith) ∙ ap (λ (x : Branch). (k, x)) (sym read)

  step : filter (is_chosen (is_wanted couplers) (λ n. get_or out n false)) (take (k + 1) (enumerate_from 0 branches))
      ≡ filter (is_chosen (is_wanted couplers) (λ n. get_or out n false)) (take k (enumerate_from 0 branches)) ++ cond (is_wanted couplers b && (b.in_operation && not (get_or out k false))) ((k, b) ∷ []) []
  step =
      let size = length-enumerate_from 0 branches in
      filter_more (is_chosen (is_wanted couplers) (λ n. get_or out n false)) (enumerate_from 0 branches) k (k, b) (omega arith)
      ∙ ap (λ (p : ℕ × Branch). filter (is_chosen (is_wanted couplers) (λ n. get_or out n false)) (take k (enumerate_from 0 branches)) ++ cond (is_chosen (is_wanted couplers) (λ n. get_or out n false) p) (p ∷ []) []) item

  pub links_chosen : (is_wanted couplers b && (b.in_operation && not (get_or out k false))) ≡ true → links_before couplers out branches (k + 1) ≡ links_before couplers out branches k ++ link_of b ∷ []
  links_chosen e =
      ap (map (λ (p : ℕ × Branch). link_of p.1)) (step ∙ ap (λ (xs : List (ℕ × Branch)). filter (is_chosen (is_wanted couplers) (λ n. get_or out n false)) (take k (enumerate_from 0 branches)) ++ xs) (cond-true _ ((k, b) ∷ []) [] e))
      ∙ map-append (λ (p : ℕ × Branch). link_of p.1) (filter (is_chosen (is_wanted couplers) (λ n. get_or out n false)) (take k (enumerate_from 0 branches))) ((k, b) ∷ [])

  pub links_passed : (is_wanted couplers b && (b.in_operation && not (get_or out k false))) ≡ false → links_before couplers out branches (k + 1) ≡ links_before couplers out branches k
  links_passed e =
      ap (map (λ (p : ℕ × Branch). link_of p.1)) (step ∙ ap (λ (xs : List (ℕ × Branch)). filter (is_chosen (is_wanted couplers) (λ n. get_or out n false)) (take k (enumerate_from 0 branches)) ++ xs) (cond-false _ ((k, b) ∷ []) [] e) ∙ append-nil _)

pub links_all : (couplers : Bool) (out : List Bool) (branches : List Branch) (k : ℕ) → length branches ≤ k → links_before couplers out branches k ≡ links_of (is_wanted couplers) (λ n. get_or out n false) branches
links_all couplers out branches k h =
    let size = length-enumerate_from 0 branches in
    ap (λ (xs : List (ℕ × Branch)). map (λ (p : ℕ × Branch). link_of p.1) (filter (is_chosen (is_wanted couplers) (λ n. get_or out n false)) xs)) (take_all k (enumerate_from 0 branches) (omega arith))

-- marks of an outage stand for it
pub links_of_marks : (couplers : Bool) (out : List Bool) (outage : List ℕ) (n : ℕ) (branches : List Branch) → AreMarks n out (is_out outage)
    → links_of (is_wanted couplers) (λ k. get_or out k false) branches ≡ links_of (is_wanted couplers) (is_out outage) branches
links_of_marks couplers out outage n branches marks =
    ap (map (λ (p : ℕ × Branch). link_of p.1))
    (filter_agree (is_chosen (is_wanted couplers) (λ k. get_or out k false)) (is_chosen (is_wanted couplers) (is_out outage)) (λ p. ap (λ (o : Bool). is_wanted couplers p.1 && (p.1.in_operation && not o)) (marks.each p.0)) (enumerate_from 0 branches))

pub carries_more : (out : List Bool) (class_of : List ℕ) (live : List Bool) (branches : List Branch) (k : ℕ) (b : Branch) → k < length branches → b ≡ get_or branches k b
    → carries_before out class_of live branches (k + 1) ≡ carries_before out class_of live branches k ++ carries_in (λ n. get_or out n false) class_of live (k, b) ∷ []
carries_more out class_of live branches k b h read =
    let size = length-enumerate_from 0 branches in
    map_more (carries_in (λ n. get_or out n false) class_of live) (enumerate_from 0 branches) k (k, b) (omega arith)
    ∙ ap (λ (p : ℕ × Branch). carries_before out class_of live branches k ++ carries_in (λ n. get_or out n false) class_of live p ∷ []) (item false out branches k b h read)

pub carries_all : (out : List Bool) (class_of : List ℕ) (live : List Bool) (branches : List Branch) (k : ℕ) → length branches ≤ k
    → carries_before out class_of live branches k ≡ map (carries_in (λ n. get_or out n false) class_of live) (enumerate_from 0 branches)
carries_all out class_of live branches k h =
    let size = length-enumerate_from 0 branches in
    ap (map (carries_in (λ n. get_or out n false) class_of live)) (take_all k (enumerate_from 0 branches) (omega arith))
