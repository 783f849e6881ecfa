-- A line that a draft admits is put at its end.
use Rattle.std.proofs.Common.{◌≡◌, ℤ, pos, true, List, [], ◌∷◌, ◌++◌, map, refl, sym, ap, ◌∙◌, subst, append_assoc, append-nil}
use Rattle.std.specs.List.{flat_map}
use Rattle.std.proofs.lemmas.List.{map_push}
use Rattle.fb_types.specs.declared.rows.Angles.{Angles}
use Rattle.state_proofs.specs.declared.StateProof.{StateProof}
use Rattle.cnec_rows.specs.declared.types.RowProof.{RowProof}
use Rattle.fb_certificate.specs.declared.types.Cite.{Cite}
use Rattle.certificate_text.specs.Lines.{Line, version_line, state_line, barrier_line, column_line, row_line, inner_line, outer_line, end_line}
use Rattle.certificate_reader.specs.declared.draft.Draft.{Draft}
use Rattle.certificate_reader.specs.declared.draft.Last.{Last}
use Rattle.certificate_reader.specs.declared.draft.Last.TheVariants as last
use Rattle.certificate_reader.specs.Reading.{no_place, unlabelled, state_lines}
use Rattle.certificate_reader.specs.Drafts.{admits, with_line, lines_so_far, IsStaged}

flat_push : {X Y : Type 0} (f : X → List Y) (xs : List X) (x : X) → flat_map f (xs ++ x ∷ []) ≡ flat_map f xs ++ f x
flat_push f [] x = append-nil (f x)
flat_push f (y ∷ ys) x = ap (λ t. f y ++ t) (flat_push f ys x) ∙ sym (append_assoc (f y) (flat_map f ys) (f x))

-- the line stands at the end, and the draft is staged
pub record IsStep (d : Draft) (l : Line) : Type 0 where
  pub put : lines_so_far (with_line d l) ≡ lines_so_far d ++ unlabelled l ∷ []
  pub staged : IsStaged (with_line d l)

abbrev pub made : Last → List StateProof → List RowProof → List Cite → List Cite → Draft
made now states rows inner outer = record { last = now; states = states; rows = rows; inner = inner; outer = outer }

abbrev marks : List StateProof → List Line
marks states = flat_map state_lines states

-- ---- puts

put_open : (m x : List Line) (l : Line) → version_line ∷ (m ++ (x ++ l ∷ [])) ≡ (version_line ∷ (m ++ x)) ++ l ∷ []
put_open m x l = simp append_assoc

put_block : (states : List StateProof) (s : StateProof) (x : Angles) → version_line ∷ (marks states ++ ((state_line (pos 0) [] ∷ barrier_line (pos 0) s.barrier ∷ column_line no_place s.reference ∷ map (column_line no_place) (s.blocks ++ x ∷ [])) ++ [])) ≡ (version_line ∷ (marks states ++ (state_lines s ++ []))) ++ column_line no_place x ∷ []
put_block states s x = rw (map_push (column_line no_place) s.blocks x) (simp (append_assoc, append-nil))

put_closed : (states : List StateProof) (s : StateProof) (l : Line) → version_line ∷ (marks (states ++ s ∷ []) ++ (l ∷ [])) ≡ (version_line ∷ (marks states ++ (state_lines s ++ []))) ++ l ∷ []
put_closed states s l = rw (flat_push state_lines states s) (simp (append_assoc, append-nil))

put_row : (m : List Line) (rows : List RowProof) (r : RowProof) → version_line ∷ (m ++ (map (row_line (pos 0)) (rows ++ r ∷ []) ++ [])) ≡ (version_line ∷ (m ++ (map (row_line (pos 0)) rows ++ []))) ++ row_line (pos 0) r ∷ []
put_row m rows r = rw (map_push (row_line (pos 0)) rows r) (simp (append_assoc, append-nil))

put_behind_rows : (m x : List Line) (l : Line) → version_line ∷ (m ++ (x ++ (l ∷ []))) ≡ (version_line ∷ (m ++ (x ++ []))) ++ l ∷ []
put_behind_rows m x l = simp (append_assoc, append-nil)

put_inner : (m x : List Line) (cites : List Cite) (c : Cite) → version_line ∷ (m ++ (x ++ (map inner_line (cites ++ c ∷ []) ++ []))) ≡ (version_line ∷ (m ++ (x ++ (map inner_line cites ++ [])))) ++ inner_line c ∷ []
put_inner m x cites c = rw (map_push inner_line cites c) (simp (append_assoc, append-nil))

put_behind_inner : (m x y : List Line) (l : Line) → version_line ∷ (m ++ (x ++ (y ++ (l ∷ [])))) ≡ (version_line ∷ (m ++ (x ++ (y ++ [])))) ++ l ∷ []
put_behind_inner m x y l = simp (append_assoc, append-nil)

put_outer : (m x y : List Line) (cites : List Cite) (c : Cite) → version_line ∷ (m ++ (x ++ (y ++ (map outer_line (cites ++ c ∷ []) ++ [])))) ≡ (version_line ∷ (m ++ (x ++ (y ++ (map outer_line cites ++ []))))) ++ outer_line c ∷ []
put_outer m x y cites c = rw (map_push outer_line cites c) (simp (append_assoc, append-nil))

put_behind_outer : (m x y z : List Line) (l : Line) → version_line ∷ (m ++ (x ++ (y ++ (z ++ (l ∷ []))))) ≡ (version_line ∷ (m ++ (x ++ (y ++ (z ++ []))))) ++ l ∷ []
put_behind_outer m x y z l = simp (append_assoc, append-nil)

-- ---- steps, by what is last

at_nothing : (l : Line) → admits (made last.Nothing [] [] [] []) l ≡ true → IsStep (made last.Nothing [] [] [] []) l
at_nothing version_line t = record { put = refl; staged = (refl, refl, refl, refl) }
at_nothing (state_line k id) t = cc
at_nothing (barrier_line k v) t = cc
at_nothing (column_line place x) t = cc
at_nothing (row_line n r) t = cc
at_nothing (inner_line c) t = cc
at_nothing (outer_line c) t = cc
at_nothing end_line t = cc

at_version : (l : Line) → admits (made last.Version [] [] [] []) l ≡ true → IsStep (made last.Version [] [] [] []) l
at_version version_line t = cc
at_version (state_line k id) t = record { put = refl; staged = (refl, refl, refl) }
at_version (barrier_line k v) t = cc
at_version (column_line place x) t = cc
at_version (row_line n r) t = record { put = refl; staged = (refl, refl) }
at_version (inner_line c) t = record { put = refl; staged = refl }
at_version (outer_line c) t = record { put = refl; staged = tt }
at_version end_line t = record { put = refl; staged = tt }

at_state : (states : List StateProof) (l : Line) → admits (made last.State states [] [] []) l ≡ true → IsStep (made last.State states [] [] []) l
at_state states version_line t = cc
at_state states (state_line k id) t = cc
at_state states (barrier_line k v) t = record { put = put_open (marks states) (state_line (pos 0) [] ∷ []) (barrier_line (pos 0) v); staged = (refl, refl, refl) }
at_state states (column_line place x) t = cc
at_state states (row_line n r) t = cc
at_state states (inner_line c) t = cc
at_state states (outer_line c) t = cc
at_state states end_line t = cc

at_barrier : (w : List ℤ) (states : List StateProof) (l : Line) → admits (made (last.Barrier w) states [] [] []) l ≡ true → IsStep (made (last.Barrier w) states [] [] []) l
at_barrier w states version_line t = cc
at_barrier w states (state_line k id) t = cc
at_barrier w states (barrier_line k v) t = cc
at_barrier w states (column_line place x) t = record { put = put_open (marks states) (state_line (pos 0) [] ∷ barrier_line (pos 0) w ∷ []) (column_line no_place x); staged = (refl, refl, refl) }
at_barrier w states (row_line n r) t = cc
at_barrier w states (inner_line c) t = cc
at_barrier w states (outer_line c) t = cc
at_barrier w states end_line t = cc

at_column : (s : StateProof) (states : List StateProof) (l : Line) → admits (made (last.Column s) states [] [] []) l ≡ true → IsStep (made (last.Column s) states [] [] []) l
at_column s states version_line t = cc
at_column s states (state_line k id) t = record { put = put_closed states s (state_line (pos 0) []); staged = (refl, refl, refl) }
at_column s states (barrier_line k v) t = cc
at_column s states (column_line place x) t = record { put = put_block states s x; staged = (refl, refl, refl) }
at_column s states (row_line n r) t = record { put = put_closed states s (row_line (pos 0) r); staged = (refl, refl) }
at_column s states (inner_line c) t = record { put = put_closed states s (inner_line c); staged = refl }
at_column s states (outer_line c) t = record { put = put_closed states s (outer_line c); staged = tt }
at_column s states end_line t = record { put = put_closed states s end_line; staged = tt }

at_row : (states : List StateProof) (rows : List RowProof) (l : Line) → admits (made last.Row states rows [] []) l ≡ true → IsStep (made last.Row states rows [] []) l
at_row states rows version_line t = cc
at_row states rows (state_line k id) t = cc
at_row states rows (barrier_line k v) t = cc
at_row states rows (column_line place x) t = cc
at_row states rows (row_line n r) t = record { put = put_row (marks states) rows r; staged = (refl, refl) }
at_row states rows (inner_line c) t = record { put = put_behind_rows (marks states) (map (row_line (pos 0)) rows) (inner_line c); staged = refl }
at_row states rows (outer_line c) t = record { put = put_behind_rows (marks states) (map (row_line (pos 0)) rows) (outer_line c); staged = tt }
at_row states rows end_line t = record { put = put_behind_rows (marks states) (map (row_line (pos 0)) rows) end_line; staged = tt }

at_inner : (states : List StateProof) (rows : List RowProof) (inner : List Cite) (l : Line) → admits (made last.Inner states rows inner []) l ≡ true → IsStep (made last.Inner states rows inner []) l
at_inner states rows inner version_line t = cc
at_inner states rows inner (state_line k id) t = cc
at_inner states rows inner (barrier_line k v) t = cc
at_inner states rows inner (column_line place x) t = cc
at_inner states rows inner (row_line n r) t = cc
at_inner states rows inner (inner_line c) t = record { put = put_inner (marks states) (map (row_line (pos 0)) rows) inner c; staged = refl }
at_inner states rows inner (outer_line c) t = record { put = put_behind_inner (marks states) (map (row_line (pos 0)) rows) (map inner_line inner) (outer_line c); staged = tt }
at_inner states rows inner end_line t = record { put = put_behind_inner (marks states) (map (row_line (pos 0)) rows) (map inner_line inner) end_line; staged = tt }

at_outer : (states : List StateProof) (rows : List RowProof) (inner outer : List Cite) (l : Line) → admits (made last.Outer states rows inner outer) l ≡ true → IsStep (made last.Outer states rows inner outer) l
at_outer states rows inner outer version_line t = cc
at_outer states rows inner outer (state_line k id) t = cc
at_outer states rows inner outer (barrier_line k v) t = cc
at_outer states rows inner outer (column_line place x) t = cc
at_outer states rows inner outer (row_line n r) t = cc
at_outer states rows inner outer (inner_line c) t = cc
at_outer states rows inner outer (outer_line c) t = record { put = put_outer (marks states) (map (row_line (pos 0)) rows) (map inner_line inner) outer c; staged = tt }
at_outer states rows inner outer end_line t = record { put = put_behind_outer (marks states) (map (row_line (pos 0)) rows) (map inner_line inner) (map outer_line outer) end_line; staged = tt }

-- lists that are empty
none_last : (P : List Cite → Type 0) (outer : List Cite) → outer ≡ [] → P [] → P outer
none_last P outer e p = subst P (sym e) p

none_two : (P : List Cite → List Cite → Type 0) (inner outer : List Cite) → inner ≡ [] → outer ≡ [] → P [] [] → P inner outer
none_two P inner outer e f p = subst (λ i. P i outer) (sym e) (none_last (P []) outer f p)

none_three : (P : List RowProof → List Cite → List Cite → Type 0) (rows : List RowProof) (inner outer : List Cite) → rows ≡ [] → inner ≡ [] → outer ≡ [] → P [] [] [] → P rows inner outer
none_three P rows inner outer d e f p = subst (λ r. P r inner outer) (sym d) (none_two (P []) inner outer e f p)

none_four : (P : List StateProof → List RowProof → List Cite → List Cite → Type 0) (states : List StateProof) (rows : List RowProof) (inner outer : List Cite) → states ≡ [] → rows ≡ [] → inner ≡ [] → outer ≡ [] → P [] [] [] [] → P states rows inner outer
none_four P states rows inner outer b d e f p = subst (λ s. P s rows inner outer) (sym b) (none_three (P []) rows inner outer d e f p)

abbrev Steps : Last → List StateProof → List RowProof → List Cite → List Cite → Type 0
Steps now states rows inner outer = (l : Line) → admits (made now states rows inner outer) l ≡ true → IsStep (made now states rows inner outer) l

steps : (now : Last) (states : List StateProof) (rows : List RowProof) (inner outer : List Cite) → IsStaged (made now states rows inner outer) → Steps now states rows inner outer
steps last.Nothing states rows inner outer g = none_four (Steps last.Nothing) states rows inner outer g.0 g.1 g.2 g.3 at_nothing
steps last.Version states rows inner outer g = none_four (Steps last.Version) states rows inner outer g.0 g.1 g.2 g.3 at_version
steps last.State states rows inner outer g = none_three (Steps last.State states) rows inner outer g.0 g.1 g.2 (at_state states)
steps (last.Barrier w) states rows inner outer g = none_three (Steps (last.Barrier w) states) rows inner outer g.0 g.1 g.2 (at_barrier w states)
steps (last.Column s) states rows inner outer g = none_three (Steps (last.Column s) states) rows inner outer g.0 g.1 g.2 (at_column s states)
steps last.Row states rows inner outer g = none_two (Steps last.Row states rows) inner outer g.0 g.1 (at_row states rows)
steps last.Inner states rows inner outer g = none_last (Steps last.Inner states rows inner) outer g (at_inner states rows inner)
steps last.Outer states rows inner outer g = at_outer states rows inner outer
steps last.End states rows inner outer g = λ l t. cc

pub step : (d : Draft) (l : Line) → IsStaged d → admits d l ≡ true → IsStep d l
step d l g t = steps d.last d.states d.rows d.inner d.outer g l t
