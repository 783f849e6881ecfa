-- Tables of the zones of codes, one code more at a time.
use Rattle.std.proofs.Common.{◌≡◌, ℕ, ◌+◌, ◌<◌, ◌≤◌, Bool, true, false, cond, ◌||◌, List, [], ◌∷◌, ◌++◌, length, take, drop, get_or, Option, Some, None, refl, sym, ap, ◌∙◌}
use Rattle.std.specs.Prelude.{is_some, if◌then◌else◌}
use Rattle.std.specs.List.{position_from}
use Rattle.std.specs.Str.{bytes_eq}
use Rattle.std.proofs.lemmas.List.{at_drop_more, at_drop_all}
use Rattle.std.proofs.lemmas.List.Folds.{list_any_more}
use Rattle.std.proofs.lemmas.Slice.Eq.{bytes_eq-Decides}
use Rattle.name_tables.specs.Names.{is_among, value_at}
use Rattle.name_tables.specs.Tables.{with_entry}
use Rattle.run_settings.specs.declared.model.Zone.{Zone}
use Rattle.glsk_keys.specs.Zones.{lists, zone_of_code}
use Rattle.glsk_keys.specs.Homes.{or_else, AreNoted, AreHomes, WillBeHomes}

-- an entry put last
put_last : (entries : List (List ℕ × ℕ)) (name : List ℕ) (value : ℕ) (q : List ℕ) → value_at (entries ++ (name, value) ∷ []) q ≡ or_else (value_at entries q) (if bytes_eq q name then Some value else None)
put_last [] name value q = refl
put_last (x ∷ xs) name value q = by_test (bytes_eq q x.0) (put_last xs name value q)
  where
    by_test : (b : Bool) → value_at (xs ++ (name, value) ∷ []) q ≡ or_else (value_at xs q) (if bytes_eq q name then Some value else None)
        → cond b (Some x.1) (value_at (xs ++ (name, value) ∷ []) q) ≡ or_else (cond b (Some x.1) (value_at xs q)) (if bytes_eq q name then Some value else None)
    by_test true h = refl
    by_test false h = h

-- an entry of a name that is there
there : (o p : Option ℕ) → is_some o ≡ true → o ≡ or_else o p
there None p e = absurd cc
there (Some x) p e = refl

absent : (o : Option ℕ) → o ≡ or_else o None
absent None = refl
absent (Some x) = refl

pub value_at-with_entry : (entries : List (List ℕ × ℕ)) (name : List ℕ) (value : ℕ) (q : List ℕ) → value_at (with_entry entries name value) q ≡ or_else (value_at entries q) (if bytes_eq q name then Some value else None)
value_at-with_entry entries name value q = by_test (is_some (value_at entries name)) refl
  where
    same : (b : Bool) → bytes_eq q name ≡ b → is_some (value_at entries name) ≡ true → value_at entries q ≡ or_else (value_at entries q) (cond b (Some value) None)
    same true t e = there (value_at entries q) (Some value) (ap (λ n. is_some (value_at entries n)) ((bytes_eq-Decides q name).0 t) ∙ e)
    same false t e = absent (value_at entries q)

    by_test : (b : Bool) → is_some (value_at entries name) ≡ b → value_at (cond b entries (entries ++ (name, value) ∷ [])) q ≡ or_else (value_at entries q) (if bytes_eq q name then Some value else None)
    by_test true e = same (bytes_eq q name) refl e
    by_test false e = put_last entries name value q

-- ---- the codes of a zone
joined : (o : Option ℕ) (a b : Bool) (z : ℕ) → or_else (or_else o (if a then Some z else None)) (if b then Some z else None) ≡ or_else o (if a || b then Some z else None)
joined None true b z = refl
joined None false b z = refl
joined (Some x) a b z = refl

pub none_noted : (table : List (List ℕ × ℕ)) (zone : ℕ) → AreNoted table table [] zone
none_noted table zone = record { each = λ code. absent (value_at table code) }

pub one_noted : (before now after : List (List ℕ × ℕ)) (codes : List (List ℕ)) (i : ℕ) (name code : List ℕ) (zone : ℕ) → i < length codes → code ≡ get_or codes i code → name ≡ code
    → after ≡ with_entry now name zone → AreNoted before now (take i codes) zone → AreNoted before after (take (i + 1) codes) zone
one_noted before now after codes i name code zone l r n e h = record { each = λ q. one q }
  where
    one : (q : List ℕ) → value_at after q ≡ or_else (value_at before q) (if is_among (take (i + 1) codes) q then Some zone else None)
    one q =
        let more = list_any_more (λ n'. bytes_eq q n') codes i code l in
        ap (λ (t : List (List ℕ × ℕ)). value_at t q) e
        ∙ (value_at-with_entry now name zone q
        ∙ (ap (λ o. or_else o (if bytes_eq q name then Some zone else None)) (h.each q)
        ∙ (joined (value_at before q) (is_among (take i codes) q) (bytes_eq q name) zone
        ∙ (ap (λ (n' : List ℕ). or_else (value_at before q) (if is_among (take i codes) q || bytes_eq q n' then Some zone else None)) (n ∙ r)
        ∙ ap (λ (b : Bool). or_else (value_at before q) (if b then Some zone else None)) (sym more)))))

-- ---- all zones
passed : (o p : Option ℕ) (b : Bool) (k : ℕ) → or_else (or_else o (if b then Some k else None)) p ≡ or_else o (cond b (Some k) p)
passed None p true k = refl
passed None p false k = refl
passed (Some x) p b k = refl

pub no_homes : (zones : List Zone) → WillBeHomes [] 0 zones zones
no_homes zones = record { each = λ code. refl }

pub next_home : (before after : List (List ℕ × ℕ)) (zones : List Zone) (place : ℕ) (zone : Zone) → place < length zones → zone ≡ get_or zones place zone
    → AreNoted before after zone.codes place → WillBeHomes before place (drop place zones) zones → WillBeHomes after (place + 1) (drop (place + 1) zones) zones
next_home before after zones place zone l r n h = record { each = λ q. one q }
  where
    one : (q : List ℕ) → or_else (value_at after q) (position_from (lists q) (place + 1) (drop (place + 1) zones)) ≡ zone_of_code zones q
    one q =
        ap (λ o. or_else o (position_from (lists q) (place + 1) (drop (place + 1) zones))) (n.each q)
        ∙ (passed (value_at before q) (position_from (lists q) (place + 1) (drop (place + 1) zones)) (is_among zone.codes q) place
        ∙ (ap (λ (z : Zone). or_else (value_at before q) (cond (lists q z) (Some place) (position_from (lists q) (place + 1) (drop (place + 1) zones)))) r
        ∙ (sym (at_drop_more (λ zs. or_else (value_at before q) (position_from (lists q) place zs)) zones place zone l)
        ∙ h.each q)))

pub all_homes : (table : List (List ℕ × ℕ)) (zones : List Zone) (place : ℕ) → length zones ≤ place → WillBeHomes table place (drop place zones) zones → AreHomes table zones
all_homes table zones place l h = record {
  each = λ q. absent (value_at table q) ∙ (sym (at_drop_all (λ zs. or_else (value_at table q) (position_from (lists q) place zs)) zones place l) ∙ h.each q);
}
