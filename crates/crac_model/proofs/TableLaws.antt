-- Tables of names after one more item.
use Rattle.std.proofs.Common.{◌≡◌, ℕ, Bool, true, false, not, cond, List, [], ◌∷◌, ◌++◌, refl, sym, ap, ◌∙◌}
use Rattle.std.specs.Prelude.{is_some}
use Rattle.fb_types.specs.declared.crac.Contingency.{Contingency}
use Rattle.fb_types.specs.declared.crac.Element.{Element}
use Rattle.name_tables.specs.Names.{is_among, value_at}
use Rattle.name_tables.specs.Tables.{with_name, with_entry}
use Rattle.crac_model.specs.Crac.{kinds_of, contingency_ids, element_ids}
use Rattle.crac_model.specs.declared.instants.Instant.{Instant}
use Rattle.crac_model.specs.declared.instants.InstantKind.{InstantKind}

-- a new name goes last
pub new_name : (old new : List (List ℕ)) (name : List ℕ) (is_new : Bool) → new ≡ with_name old name → is_new ≡ not (is_among old name) → is_new ≡ true → new ≡ old ++ name ∷ []
new_name old new name is_new e added holds = by_test (is_among old name) (sym added ∙ holds) e
  where
    by_test : (b : Bool) → not b ≡ true → new ≡ cond b old (old ++ name ∷ []) → new ≡ old ++ name ∷ []
    by_test true no_new e = absurd cc
    by_test false is e = e

pub new_entry : {V : Type 0} (old new : List (List ℕ × V)) (name : List ℕ) (value : V) → new ≡ with_entry old name value → is_some (value_at old name) ≡ false → new ≡ old ++ (name, value) ∷ []
new_entry old new name value e none = e ∙ ap (λ (b : Bool). cond b old (old ++ (name, value) ∷ [])) none

pub push_instant : (before : List Instant) (i : Instant) → kinds_of (before ++ i ∷ []) ≡ kinds_of before ++ (i.id, i.kind) ∷ []
push_instant [] i = refl
push_instant (b ∷ bs) i = ap (λ (xs : List (List ℕ × InstantKind)). (b.id, b.kind) ∷ xs) (push_instant bs i)

pub push_contingency : (before : List Contingency) (c : Contingency) → contingency_ids (before ++ c ∷ []) ≡ contingency_ids before ++ c.id ∷ []
push_contingency [] c = refl
push_contingency (b ∷ bs) c = ap (λ (xs : List (List ℕ)). b.id ∷ xs) (push_contingency bs c)

pub push_element : (before : List Element) (e : Element) → element_ids (before ++ e ∷ []) ≡ element_ids before ++ e.id ∷ []
push_element [] e = refl
push_element (b ∷ bs) e = ap (λ (xs : List (List ℕ)). b.id ∷ xs) (push_element bs e)
