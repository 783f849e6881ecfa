-- Columns at the places of their zones, one series more at a time.
use Rattle.std.proofs.Common.{◌≡◌, ℕ, zero, suc, ◌+◌, ◌<◌, ◌≤◌, ◌==◌, Bool, true, false, cond, inl, inr, List, [], ◌∷◌, ◌++◌, length, get_or, set, map, refl, sym, ap, subst, ◌∙◌, arith, append_assoc, append-nil}
use Rattle.std.proofs.lemmas.List.{length-set, length-map, get_or-set_same, get_or-set_other, get_or-map, same_lists}
use Rattle.std.proofs.lemmas.Bool.{cases_eq}
use Rattle.std.proofs.lemmas.Bool.Decides.{nat_tests}
use Rattle.fb_types.specs.declared.keys.Column.{Column}
use Rattle.run_settings.specs.declared.model.Zone.{Zone}
use Rattle.glsk_keys.specs.Document.{Facts}
use Rattle.glsk_keys.specs.Columns.{defaults_from, column_or}
use Rattle.glsk_keys.specs.Placing.{ArePlaced, WerePlaced}

pub length-defaults_from : (facts : Facts) (k : ℕ) (zones : List Zone) → length (defaults_from facts k zones) ≡ length zones
length-defaults_from facts k [] = refl
length-defaults_from facts k (z ∷ zs) = ap suc (length-defaults_from facts (k + 1) zs)

default_zone : (facts : Facts) (k : ℕ) (zones : List Zone) (j : ℕ) (d : Column) → j < length (defaults_from facts k zones) → (get_or (defaults_from facts k zones) j d).zone ≡ k + j
default_zone facts k [] j d l = absurd (omega arith)
default_zone facts k (z ∷ zs) zero d l = omega arith
default_zone facts k (z ∷ zs) (suc j) d l = default_zone facts (k + 1) zs j d (omega arith) ∙ omega arith

pub defaults_placed : (facts : Facts) (zones : List Zone) → ArePlaced (defaults_from facts 0 zones)
defaults_placed facts zones = record { each = λ k d l. default_zone facts 0 zones k d l ∙ omega arith }

-- ---- one column more
of_zone : (k : ℕ) (c default : Column) (cs : List Column) → default.zone ≡ k → c.zone ≡ k → column_or (c ∷ cs) default ≡ c
of_zone k c default cs d e =
    let t : (c.zone == default.zone) ≡ true = grind (arith, nat_tests) in
    ap (λ (b : Bool). cond b c (column_or cs default)) t

of_another : (k : ℕ) (c default : Column) (cs : List Column) → default.zone ≡ k → (c.zone ≡ k → ⊥) → column_or (c ∷ cs) default ≡ column_or cs default
of_another k c default cs d n =
    let t : (c.zone == default.zone) ≡ false = grind (arith, nat_tests) in
    ap (λ (b : Bool). cond b c (column_or cs default)) t

pub none_placed : (series defaults : List Column) → WerePlaced series defaults series defaults
none_placed series defaults = record { gone = []; all = append-nil series; columns = sym (mapped defaults) }
  where
    mapped : (xs : List Column) → map (column_or []) xs ≡ xs
    mapped [] = refl
    mapped (x ∷ xs) = ap (λ (ys : List Column). x ∷ ys) (mapped xs)

pub one_placed : (left rest now series defaults : List Column) (c : Column) → left ≡ rest ++ c ∷ [] → c.zone < length now → ArePlaced defaults → WerePlaced left now series defaults
    → WerePlaced rest (set now c.zone c) series defaults
one_placed left rest now series defaults c e l p h = record {
  gone = c ∷ h.gone;
  all = sym (append_assoc rest (c ∷ []) h.gone) ∙ (ap (λ (xs : List Column). xs ++ h.gone) (sym e) ∙ h.all);
  columns = same_lists (set now c.zone c) (map (column_or (c ∷ h.gone)) defaults) (length-set now c.zone c ∙ (ap length h.columns ∙ (length-map defaults (column_or h.gone) ∙ sym (length-map defaults (column_or (c ∷ h.gone)))))) each;
}
  where
    size : length now ≡ length defaults
    size = ap length h.columns ∙ length-map defaults (column_or h.gone)

    each : (k : ℕ) (d : Column) → k < length (set now c.zone c) → get_or (set now c.zone c) k d ≡ get_or (map (column_or (c ∷ h.gone)) defaults) k d
    each k d b =
        let n : k < length defaults = omega (arith, size, length-set now c.zone c) in
        let mapped = get_or-map (column_or (c ∷ h.gone)) defaults k d d n in
        let before = ap (λ (xs : List Column). get_or xs k d) h.columns ∙ get_or-map (column_or h.gone) defaults k d d n in
        elim (cases_eq k c.zone) [
          | inl s ↦ subst (λ j. get_or (set now c.zone c) j d ≡ c) (sym s) (get_or-set_same now c.zone c d l) ∙ (sym (of_zone k c (get_or defaults k d) h.gone (p.each k d n) (sym s)) ∙ sym mapped)
          | inr o ↦ get_or-set_other now c.zone k c d o ∙ (before ∙ (sym (of_another k c (get_or defaults k d) h.gone (p.each k d n) (λ s. o (sym s))) ∙ sym mapped))
        ]

pub past_placed : (left rest now series defaults : List Column) (c : Column) → left ≡ rest ++ c ∷ [] → length now ≤ c.zone → ArePlaced defaults → WerePlaced left now series defaults
    → WerePlaced rest now series defaults
past_placed left rest now series defaults c e l p h = record {
  gone = c ∷ h.gone;
  all = sym (append_assoc rest (c ∷ []) h.gone) ∙ (ap (λ (xs : List Column). xs ++ h.gone) (sym e) ∙ h.all);
  columns = same_lists now (map (column_or (c ∷ h.gone)) defaults) (ap length h.columns ∙ (length-map defaults (column_or h.gone) ∙ sym (length-map defaults (column_or (c ∷ h.gone))))) each;
}
  where
    size : length now ≡ length defaults
    size = ap length h.columns ∙ length-map defaults (column_or h.gone)

    each : (k : ℕ) (d : Column) → k < length now → get_or now k d ≡ get_or (map (column_or (c ∷ h.gone)) defaults) k d
    each k d b =
        let n : k < length defaults = omega (arith, size) in
        let mapped = get_or-map (column_or (c ∷ h.gone)) defaults k d d n in
        let before = ap (λ (xs : List Column). get_or xs k d) h.columns ∙ get_or-map (column_or h.gone) defaults k d d n in
        before ∙ (sym (of_another k c (get_or defaults k d) h.gone (p.each k d n) (λ s. absurd (omega arith))) ∙ sym mapped)

-- no series is left
pub all_placed : (left now series defaults : List Column) → left ≡ [] → WerePlaced left now series defaults → now ≡ map (column_or series) defaults
all_placed left now series defaults e h = h.columns ∙ ap (λ (xs : List Column). map (column_or xs) defaults) (ap (λ (xs : List Column). xs ++ h.gone) (sym e) ∙ h.all)
