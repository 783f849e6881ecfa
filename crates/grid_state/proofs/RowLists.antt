-- The edges of each class, one link more at a time.
use Rattle.std.proofs.Common.{◌≡◌, ℕ, zero, suc, ◌+◌, ◌<◌, ◌≤◌, Bool, true, false, eqb, List, [], ◌∷◌, ◌++◌, length, get_or, take, drop, Option, Some, None, arith, refl, sym, ap, ◌∙◌, add-one, length-append}
use Rattle.std.specs.List.{cons_option}
use Rattle.std.proofs.lemmas.Bool.{cond-true, cond-false, and_parts, not-true, eqb-false, eq-eqb, ne_eqb}
use Rattle.std.proofs.lemmas.List.{append-nil, take_more, take-append-drop}
use Rattle.std.proofs.lemmas.List.Elements.{filter_map-append}
use Rattle.grid_state.specs.declared.types.Edge.{Edge}
use Rattle.grid_state.specs.declared.links.Link.{Link}
use Rattle.grid_state.specs.GridState.{susceptance_over}
use Rattle.grid_state.specs.Rows.{is_crossing, end_seen, edge_seen, edges_at}

edges_more : (live : List Bool) (i : ℕ) (links : List Link) (k : ℕ) (d : Link) → k < length links
    → edges_at live i (take (k + 1) links) ≡ edges_at live i (take k links) ++ cons_option (edge_seen live i (get_or links k d)) []
edges_more live i links k d h = ap (edges_at live i) (take_more links k d h) ∙ filter_map-append (edge_seen live i) (take k links) (get_or links k d ∷ [])

-- a link that does not cross adds nothing
pub edges_passed : (live : List Bool) (links : List Link) (k : ℕ) (d : Link) → k < length links → is_crossing live (get_or links k d) ≡ false → (i : ℕ)
    → edges_at live i (take (k + 1) links) ≡ edges_at live i (take k links)
edges_passed live links k d h passed i =
    edges_more live i links k d h ∙ ap (λ (o : Option Edge). edges_at live i (take k links) ++ cons_option o []) (cond-false (is_crossing live (get_or links k d)) (end_seen i (get_or links k d)) None passed) ∙ append-nil (edges_at live i (take k links))

-- a link that crosses adds an edge to the rows of its two classes
module _ (live : List Bool) (links : List Link) (k : ℕ) (d : Link) (h : k < length links) (crossing : is_crossing live (get_or links k d) ≡ true) where
  pub ends_apart : (get_or links k d).one ≡ (get_or links k d).other → ⊥
  ends_apart = eqb-false (get_or links k d).one (get_or links k d).other (not-true (eqb (get_or links k d).one (get_or links k d).other) (and_parts _ _ crossing).0)

  seen : (i : ℕ) (o : Option Edge) → end_seen i (get_or links k d) ≡ o → edges_at live i (take (k + 1) links) ≡ edges_at live i (take k links) ++ cons_option o []
  seen i o e =
      edges_more live i links k d h
      ∙ ap (λ (p : Option Edge). edges_at live i (take k links) ++ cons_option p []) (cond-true (is_crossing live (get_or links k d)) (end_seen i (get_or links k d)) None crossing ∙ e)

  pub edges_at_one : edges_at live (get_or links k d).one (take (k + 1) links) ≡ edges_at live (get_or links k d).one (take k links) ++ (record { to = (get_or links k d).other; b = (get_or links k d).b }) ∷ []
  edges_at_one =
      seen (get_or links k d).one (Some (record { to = (get_or links k d).other; b = (get_or links k d).b }))
      (cond-true (eqb (get_or links k d).one (get_or links k d).one) _ _ (eq-eqb (get_or links k d).one (get_or links k d).one refl))

  pub edges_at_other : edges_at live (get_or links k d).other (take (k + 1) links) ≡ edges_at live (get_or links k d).other (take k links) ++ (record { to = (get_or links k d).one; b = (get_or links k d).b }) ∷ []
  edges_at_other =
      seen (get_or links k d).other (Some (record { to = (get_or links k d).one; b = (get_or links k d).b }))
      (cond-false (eqb (get_or links k d).one (get_or links k d).other) _ _ (ne_eqb (get_or links k d).one (get_or links k d).other ends_apart)
      ∙ cond-true (eqb (get_or links k d).other (get_or links k d).other) _ _ (eq-eqb (get_or links k d).other (get_or links k d).other refl))

  pub edges_elsewhere : (i : ℕ) → (i ≡ (get_or links k d).one → ⊥) → (i ≡ (get_or links k d).other → ⊥) → edges_at live i (take (k + 1) links) ≡ edges_at live i (take k links)
  edges_elsewhere i no_one no_other =
      seen i None
      (cond-false (eqb (get_or links k d).one i) _ _ (ne_eqb (get_or links k d).one i (λ e. no_one (sym e)))
      ∙ cond-false (eqb (get_or links k d).other i) _ _ (ne_eqb (get_or links k d).other i (λ e. no_other (sym e))))
      ∙ append-nil (edges_at live i (take k links))

-- the first links give no more than all
pub fewer_edges : (live : List Bool) (i : ℕ) (links : List Link) (k : ℕ) → length (edges_at live i (take k links)) ≤ length (edges_at live i links)
fewer_edges live i links k =
    let parts = ap (λ (ls : List Link). length (edges_at live i ls)) (sym (take-append-drop k links)) ∙ ap length (filter_map-append (edge_seen live i) (take k links) (drop k links)) in
    let sizes = length-append (edges_at live i (take k links)) (edges_at live i (drop k links)) in
    omega arith

pub susceptance_over-more : (es : List Edge) (k : ℕ) (d : Edge) → k < length es → susceptance_over (take (k + 1) es) ≡ susceptance_over (take k es) + (get_or es k d).b
susceptance_over-more [] k d h = absurd (omega arith)
susceptance_over-more (e ∷ es) zero d h = omega arith
susceptance_over-more (e ∷ es) (suc k) d h =
    let rest = susceptance_over-more es k d (omega arith) in
    rw (add-one (suc k)) (let rest' = rw (add-one k) at rest in omega arith)
