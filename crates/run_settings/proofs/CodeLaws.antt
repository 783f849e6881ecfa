-- The codes of zones, as they are listed and as a table has them.
use Rattle.std.proofs.Common.{◌≡◌, ℕ, ◌<◌, Bool, true, false, cond, List, [], ◌∷◌, ◌++◌, length, get_or, Option, Some, None, Ok, refl, sym, ap, ◌∙◌, subst, append_assoc, append-nil, arith}
use Rattle.std.specs.Prelude.{◌≢◌, ◌||◌, codes}
use Rattle.std.specs.Option.{option_to_list}
use Rattle.std.specs.Str.{bytes_eq}
use Rattle.std.proofs.lemmas.List.Folds.{list_any-append, list_any_at}
use Rattle.std.proofs.lemmas.List.Quantifiers.{all_pairs_push}
use Rattle.std.proofs.lemmas.Slice.Eq.{bytes_eq-Decides}
use Rattle.name_tables.specs.Names.{is_among}
use Rattle.name_tables.specs.Tables.{with_name, with_names}
use Rattle.fb_json.specs.Tree.{text_of}
use Rattle.json_reading.specs.Reading.{At, fault_here, fault_in, refuse_if, here, optional_array}
use Rattle.json_reading.specs.Place.{in_member}
use Rattle.json_reading.proofs.Kept.{bind_ok, refuse_if_ok, optional_array_keeps}
use Rattle.run_settings.specs.Codes.{AreCodes}
use Rattle.run_settings.specs.Laws.{AreDistinct}
use Rattle.run_settings.specs.Zones.{zone_codes, code_of, listed_codes, codes_or_id}
use Rattle.run_settings.specs.declared.model.SettingsKind.{SettingsKind}
use Rattle.run_settings.specs.declared.model.SettingsKind.TheVariants.{Twice}
use Rattle.run_settings.specs.declared.model.Zone.{Zone}

-- ---- tables of names

pub with_names-push : (names more : List (List ℕ)) (name : List ℕ) → with_names names (more ++ name ∷ []) ≡ with_name (with_names names more) name
with_names-push names [] name = refl
with_names-push names (m ∷ ms) name = with_names-push (with_name names m) ms name

with_name-new : (names : List (List ℕ)) (name : List ℕ) → is_among names name ≡ false → with_name names name ≡ names ++ name ∷ []
with_name-new names name e = ap (λ (b : Bool). cond b names (names ++ name ∷ [])) e

differs : (names : List (List ℕ)) (name : List ℕ) → is_among names name ≡ false → (k : ℕ) (d : List ℕ) → k < length names → get_or names k d ≢ name
differs names name e k d lt = λ same.
    let here : bytes_eq name (get_or names k d) ≡ true = (bytes_eq-Decides name (get_or names k d)).1 (sym same) in
    let found = list_any_at (λ (n : List ℕ). bytes_eq name n) names k d lt here in
    absurd cc

-- one more name that is not among the names
pub distinct-push : (names : List (List ℕ)) (name : List ℕ) → is_among names name ≡ false → AreDistinct names → AreDistinct (names ++ name ∷ [])
distinct-push names name e distinct = all_pairs_push (λ (a b : List ℕ). a ≢ b) names name distinct (differs names name e)

pub none_distinct : (let none : List (List ℕ) = [] in AreDistinct none)
none_distinct = λ i j d below within. absurd (omega arith)

neither : (a b : Bool) → a ≡ false → b ≡ false → (a || b) ≡ false
neither a b e f = ap (λ (x : Bool). x || b) e ∙ f

among_neither : (xs ys : List (List ℕ)) (name : List ℕ) → is_among xs name ≡ false → is_among ys name ≡ false → is_among (xs ++ ys) name ≡ false
among_neither xs ys name e f = list_any-append (λ (n : List ℕ). bytes_eq name n) xs ys ∙ neither (is_among xs name) (is_among ys name) e f

-- ---- the codes of one zone

-- the codes of a zone so far, after those of the earlier zones
record AreNew (earlier before : List (List ℕ)) : Type 0 where
  distinct : AreDistinct (earlier ++ before)
  noted : with_names earlier before ≡ earlier ++ before

one_more : (earlier before : List (List ℕ)) (code : List ℕ) → is_among earlier code ≡ false → is_among before code ≡ false → AreNew earlier before → AreNew earlier (before ++ code ∷ [])
one_more earlier before code free new so_far =
    let none = among_neither earlier before code free new in
    let joined : (earlier ++ before) ++ code ∷ [] ≡ earlier ++ (before ++ code ∷ []) = append_assoc earlier before (code ∷ []) in
    record {
      distinct = subst AreDistinct joined (distinct-push (earlier ++ before) code none so_far.distinct);
      noted = with_names-push earlier before code ∙ ap (λ (names : List (List ℕ)). with_name names code) so_far.noted ∙ with_name-new (earlier ++ before) code none ∙ joined;
    }

none_new : (earlier : List (List ℕ)) → AreDistinct earlier → AreNew earlier []
none_new earlier distinct = record { distinct = subst AreDistinct (sym (append-nil earlier)) distinct; noted = sym (append-nil earlier) }

code_step : (earlier before : List (List ℕ)) (at : At SettingsKind) (item : Option (List ℕ)) → code_of earlier before at ≡ Ok item → AreNew earlier before → AreNew earlier (before ++ option_to_list item)
unfolding code_of
code_step earlier before at item e so_far =
    let code = bind_ok (here text_of at) _ item e in
    let free = bind_ok (refuse_if (is_among earlier code.0) (fault_here Twice at)) _ item code.2 in
    let new = bind_ok (refuse_if (is_among before code.0) (fault_here Twice at)) _ item free.2 in
    let is : Some code.0 ≡ item = cc in
    let more = one_more earlier before code.0 (refuse_if_ok (is_among earlier code.0) at.place Twice free.0 free.1) (refuse_if_ok (is_among before code.0) at.place Twice new.0 new.1) so_far in
    subst (λ (o : Option (List ℕ)). AreNew earlier (before ++ option_to_list o)) is more

codes_step : (earlier : List (List ℕ)) (id : List ℕ) (at : At SettingsKind) (listed : Option (List (List ℕ))) (found : List (List ℕ))
    → optional_array (code_of earlier) (codes "codes") at ≡ Ok listed → codes_or_id earlier id at listed ≡ Ok found → AreDistinct earlier → AreNew earlier found
codes_step earlier id at (Some xs) found e f distinct =
    let same : xs ≡ found = cc in
    subst (λ (ys : List (List ℕ)). AreNew earlier ys) same (optional_array_keeps (AreNew earlier) (code_of earlier) (code_step earlier) (codes "codes") at xs (none_new earlier distinct) e)
codes_step earlier id at None found e f distinct =
    let free = bind_ok (refuse_if (is_among earlier id) (fault_in (codes "id") Twice at)) _ found f in
    let same : id ∷ [] ≡ found = cc in
    subst (λ (ys : List (List ℕ)). AreNew earlier ys) same
    (one_more earlier [] id (refuse_if_ok (is_among earlier id) (in_member at.place (codes "id")) Twice free.0 free.1) refl (none_new earlier distinct))

codes_new : (earlier : List (List ℕ)) (id : List ℕ) (at : At SettingsKind) (found : List (List ℕ)) → listed_codes earlier id at ≡ Ok found → AreDistinct earlier → AreNew earlier found
unfolding listed_codes
codes_new earlier id at found e distinct =
    let listed = bind_ok (optional_array (code_of earlier) (codes "codes") at) _ found e in
    codes_step earlier id at listed.0 found listed.1 listed.2 distinct

-- ---- the codes of all zones

pub zone_codes-push : (zones : List Zone) (zone : Zone) → zone_codes (zones ++ zone ∷ []) ≡ zone_codes zones ++ zone.codes
zone_codes-push [] zone = append-nil zone.codes
zone_codes-push (z ∷ zs) zone = ap (λ (names : List (List ℕ)). z.codes ++ names) (zone_codes-push zs zone) ∙ sym (append_assoc z.codes (zone_codes zs) zone.codes)

-- the codes of one zone more
pub zone_distinct : (zones : List Zone) (zone : Zone) (id : List ℕ) (at : At SettingsKind) → listed_codes (zone_codes zones) id at ≡ Ok zone.codes → AreDistinct (zone_codes zones) → AreDistinct (zone_codes (zones ++ zone ∷ []))
zone_distinct zones zone id at e distinct =
    subst AreDistinct (sym (zone_codes-push zones zone)) (codes_new (zone_codes zones) id at zone.codes e distinct).distinct

pub zone_noted : (table after : List (List ℕ)) (zones : List Zone) (zone : Zone) (id : List ℕ) (at : At SettingsKind)
    → listed_codes table id at ≡ Ok zone.codes → after ≡ with_names table zone.codes → AreCodes table zones → AreCodes after (zones ++ zone ∷ [])
zone_noted table after zones zone id at e is kept =
    let read : listed_codes (zone_codes zones) id at ≡ Ok zone.codes = ap (λ (names : List (List ℕ)). listed_codes names id at) (sym kept.same) ∙ e in
    let new = codes_new (zone_codes zones) id at zone.codes read kept.distinct in
    record {
      same = is ∙ ap (λ (names : List (List ℕ)). with_names names zone.codes) kept.same ∙ new.noted ∙ sym (zone_codes-push zones zone);
      distinct = zone_distinct zones zone id at read kept.distinct;
    }

pub none_coded : AreCodes [] []
none_coded = record { same = refl; distinct = none_distinct }
