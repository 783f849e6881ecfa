-- Places of names, one after the other.
use Rattle.std.proofs.Common.{◌≡◌, ℕ, ◌+◌, ◌<◌, List, ◌∷◌, ◌++◌, length, get_or, drop, sym, ap, ◌∙◌, append_assoc}
use Rattle.std.specs.List.{flat_map}
use Rattle.std.proofs.lemmas.List.{at_drop_more}
use Rattle.fb_types.specs.declared.grid.Branch.{Branch}
use Rattle.fb_types.specs.declared.crac.Contingency.{Contingency}
use Rattle.name_tables.specs.Names.{numbered_from}
use Rattle.name_tables.specs.Tables.{with_entry, with_entries}
use Rattle.crac_model.specs.Naming.{branch_ids}
use Rattle.crac_model.specs.Crac.{contingency_ids, branches_named}
use Rattle.crac_model.specs.declared.names.Named.{Named}

abbrev Places : Type 0
Places = List (List ℕ × ℕ)

pub branch_step : (old new total : Places) (bs : List Branch) (i place : ℕ) (b : Branch) → i < length bs → b ≡ get_or bs i b → new ≡ with_entry old b.id place
    → with_entries old (numbered_from place (branch_ids (drop i bs))) ≡ total → with_entries new (numbered_from (place + 1) (branch_ids (drop (i + 1) bs))) ≡ total
branch_step old new total bs i place b lt is e so_far =
    let here : with_entries old (numbered_from place (branch_ids (drop i bs))) ≡ with_entries old (numbered_from place (branch_ids (get_or bs i b ∷ drop (i + 1) bs))) =
    at_drop_more (λ (xs : List Branch). with_entries old (numbered_from place (branch_ids xs))) bs i b lt in
    let item : with_entries old (numbered_from place (branch_ids (get_or bs i b ∷ drop (i + 1) bs))) ≡ with_entries old (numbered_from place (branch_ids (b ∷ drop (i + 1) bs))) =
    ap (λ (x : Branch). with_entries old (numbered_from place (branch_ids (x ∷ drop (i + 1) bs)))) (sym is) in
    ap (λ (t : Places). with_entries t (numbered_from (place + 1) (branch_ids (drop (i + 1) bs)))) e ∙ sym item ∙ sym here ∙ so_far

pub contingency_step : (old new total : Places) (cs : List Contingency) (i place : ℕ) (b : Contingency) → i < length cs → b ≡ get_or cs i b → new ≡ with_entry old b.id place
    → with_entries old (numbered_from place (contingency_ids (drop i cs))) ≡ total → with_entries new (numbered_from (place + 1) (contingency_ids (drop (i + 1) cs))) ≡ total
contingency_step old new total cs i place b lt is e so_far =
    let here : with_entries old (numbered_from place (contingency_ids (drop i cs))) ≡ with_entries old (numbered_from place (contingency_ids (get_or cs i b ∷ drop (i + 1) cs))) =
    at_drop_more (λ (xs : List Contingency). with_entries old (numbered_from place (contingency_ids xs))) cs i b lt in
    let item : with_entries old (numbered_from place (contingency_ids (get_or cs i b ∷ drop (i + 1) cs))) ≡ with_entries old (numbered_from place (contingency_ids (b ∷ drop (i + 1) cs))) =
    ap (λ (x : Contingency). with_entries old (numbered_from place (contingency_ids (x ∷ drop (i + 1) cs)))) (sym is) in
    ap (λ (t : Places). with_entries t (numbered_from (place + 1) (contingency_ids (drop (i + 1) cs)))) e ∙ sym item ∙ sym here ∙ so_far

pub outage_step : (old new total : List ℕ) (ns : List Named) (i : ℕ) (d : Named) → i < length ns → new ≡ old ++ branches_named (get_or ns i d)
    → old ++ flat_map branches_named (drop i ns) ≡ total → new ++ flat_map branches_named (drop (i + 1) ns) ≡ total
outage_step old new total ns i d lt e so_far =
    let here : old ++ flat_map branches_named (drop i ns) ≡ old ++ (branches_named (get_or ns i d) ++ flat_map branches_named (drop (i + 1) ns)) =
    at_drop_more (λ (xs : List Named). old ++ flat_map branches_named xs) ns i d lt in
    ap (λ (xs : List ℕ). xs ++ flat_map branches_named (drop (i + 1) ns)) e ∙ append_assoc old (branches_named (get_or ns i d)) (flat_map branches_named (drop (i + 1) ns)) ∙ sym here ∙ so_far
