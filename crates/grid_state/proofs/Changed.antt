-- What a state is that is told by changes.
use Rattle.std.proofs.Common.{◌≡◌, ℕ, ◌+◌, ◌<◌, ◌≤◌, Bool, true, false, not, ◌&&◌, ◌==◌, List, [], length, get_or, map, Option, Some, None, true≢false, arith, refl, ap, subst, ◌∙◌}
use Rattle.std.specs.Bool.{Decides}
use Rattle.std.specs.Option.{is_some}
use Rattle.std.specs.List.{enumerate_from}
use Rattle.std.proofs.lemmas.Bool.Decides.{Decides-and, Decides-eqb, Decides-like}
use Rattle.std.proofs.lemmas.List.{length-map, get_or-map, ext_get_or}
use Rattle.std.proofs.lemmas.List.Elements.{All-get_or}
use Rattle.std.proofs.lemmas.List.FromFn.{get_or-enumerate_from, length-enumerate_from}
use Rattle.grid_state.specs.declared.types.Edge.{Edge}
use Rattle.grid_state.specs.declared.changes.Changes.{Changes}
use Rattle.grid_state.specs.GridState.{GridState, IsSound, classes_of, row_of, carries_at}
use Rattle.grid_state.specs.Links.{is_out}
use Rattle.grid_state.specs.Changes.{changed_at, row_or, with_changes, HasClassesOf, HasRowsOf, HasCarriesOf}

read : {X : Type 0} (xs : List X) (i : ℕ) (d : X) → i < length xs → get_or (enumerate_from 0 xs) i (0, d) ≡ (i, get_or xs i d)
read xs i d h = let same : 0 + i ≡ i = omega arith in subst (λ (k : ℕ). get_or (enumerate_from 0 xs) i (0, d) ≡ (k, get_or xs i d)) same (get_or-enumerate_from 0 xs i (0, d) h)

-- a list of which each item is made anew from its number and itself
module _ {X : Type 0} (f : ℕ × X → X) where
  pub length_made : (xs : List X) → length (map f (enumerate_from 0 xs)) ≡ length xs
  length_made xs = length-map (enumerate_from 0 xs) f ∙ length-enumerate_from 0 xs

  pub made_at : (xs : List X) (i : ℕ) (d : X) → i < length xs → get_or (map f (enumerate_from 0 xs)) i d ≡ f (i, get_or xs i d)
  made_at xs i d h =
      get_or-map f (enumerate_from 0 xs) i (0, d) d (let size = length-enumerate_from 0 xs in omega arith) ∙ ap f (read xs i d h)

  pub same_made : (xs : List X) (d : X) → ((i : ℕ) → i < length xs → f (i, get_or xs i d) ≡ get_or xs i d) → map f (enumerate_from 0 xs) ≡ xs
  same_made xs d same =
      ext_get_or d (map f (enumerate_from 0 xs)) xs (length_made xs)
      (λ i h. let size = length_made xs in made_at xs i d (omega arith) ∙ same i (omega arith))

module _ (changes : Changes) (s : GridState) where
  pub length_carried : length (with_changes changes s).carries ≡ length s.carries
  length_carried = length_made _ s.carries

  pub length_changed : length (with_changes changes s).rows ≡ length s.rows
  length_changed = length_made _ s.rows

  pub row_changed : (i : ℕ) → i < length s.rows → row_of (with_changes changes s) i ≡ row_or changes.rows (changed_at changes.rows i) (row_of s i)
  row_changed i h = made_at _ s.rows i [] h

  pub carried : (i : ℕ) → i < length s.carries → carries_at (with_changes changes s) i ≡ carries_at s i && not (is_out changes.out i)
  carried i h = made_at _ s.carries i false h

and_true : (b : Bool) → b && true ≡ b
and_true true = refl
and_true false = refl

pub unchanged : (s : GridState) → with_changes (record { rows = []; out = [] }) s ≡ s
unchanged s = rw (same_made (λ p. p.1) s.rows [] (λ i h. refl), same_made (λ p. p.1 && true) s.carries false (λ i h. and_true _)) refl

pub same_state : (s t : GridState) → HasClassesOf s t → s.rows ≡ t.rows → s.carries ≡ t.carries → s ≡ t
same_state s t c e e' = rw (c.class_of, c.slack, c.live, e, e') refl

pub same_with_changes : (changes : Changes) (s t : GridState) → IsSound s → IsSound t → HasClassesOf s t → length s.carries ≡ length t.carries
    → HasRowsOf (with_changes changes s) t (classes_of t) → HasCarriesOf (with_changes changes s) t (length t.carries) → with_changes changes s ≡ t
same_with_changes changes s t sound sound' classes branches rows carries =
    let live = ap length classes.live in
    let size = sound.same_length in
    let size' = sound'.same_length in
    let whole = length_changed changes s in
    let whole' = length_carried changes s in
    same_state (with_changes changes s) t (record { class_of = classes.class_of; slack = classes.slack; live = classes.live })
    (ext_get_or [] _ _ (omega arith) (λ i h. rows i (omega arith)))
    (ext_get_or false _ _ (omega arith) (λ i h. carries i (omega arith)))

pub same_edge : (d e : Edge) → d.to ≡ e.to → d.b ≡ e.b → d ≡ e
same_edge d e h h' = rw (h, h') refl

pub edges_decide : (d e : Edge) → Decides (d.to == e.to && d.b == e.b) (d ≡ e)
edges_decide d e =
    Decides-like (d.to == e.to && d.b == e.b) (λ h. same_edge d e h.0 h.1) (λ h. (ap (λ (x : Edge). x.to) h, ap (λ (x : Edge). x.b) h))
    (Decides-and (d.to == e.to) (d.b == e.b) (Decides-eqb d.to e.to) (Decides-eqb d.b e.b))

-- a row of a sound state has few edges
pub few_edges_in : (s : GridState) → IsSound s → (i : ℕ) → i < classes_of s → length (row_of s i) ≤ 16384
few_edges_in s sound i h =
    let size = sound.same_length in All-get_or (λ (row : List Edge). length row ≤ 16384) s.rows i [] (omega arith) sound.few_edges

pub none_if_not_some : {X : Type 0} (found : Option X) → is_some found ≡ false → found ≡ None
none_if_not_some None h = refl
none_if_not_some (Some x) h = absurd (true≢false h)
