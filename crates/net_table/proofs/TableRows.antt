-- One node, or one branch, more, and one record more of the table.
use Rattle.std.proofs.Common.{◌≡◌, ℕ, zero, suc, ◌+◌, ◌<◌, ℤ, Bool, true, false, cond, List, [], ◌∷◌, ◌++◌, map, filter, take, length, get_or, ap, ◌∙◌, arith}
use Rattle.std.specs.Prelude.{codes, slice_get, Some, None, string_bytes}
use Rattle.std.specs.Fmt.{signed_decimal}
use Rattle.std.specs.declared.alloc.Global.{Global}
use Rattle.std.specs.declared.string.String.{String}
use Rattle.std.proofs.lemmas.List.{take_more, map_push}
use Rattle.fb_types.specs.declared.grid.Branch.{Branch}
use Rattle.net_table.specs.NetTexts.{note_rows, rows_of}
use Rattle.net_table.specs.Totals.{totals_in}

filter_push_in : (xs : List Branch) (x : Branch) → x.floored ≡ true → filter (λ (b : Branch). b.floored) (xs ++ x ∷ []) ≡ filter (λ b. b.floored) xs ++ x ∷ []
filter_push_in [] x e = ap (λ t. cond t (x ∷ []) []) e
filter_push_in (y ∷ ys) x e = both y.floored (filter_push_in ys x e)
  where
    both : (t : Bool) → filter (λ (b : Branch). b.floored) (ys ++ x ∷ []) ≡ filter (λ b. b.floored) ys ++ x ∷ [] → cond t (y ∷ filter (λ b. b.floored) (ys ++ x ∷ [])) (filter (λ b. b.floored) (ys ++ x ∷ [])) ≡ cond t (y ∷ filter (λ b. b.floored) ys) (filter (λ b. b.floored) ys) ++ x ∷ []
    both true h = ap (λ l. y ∷ l) h
    both false h = h

filter_push_out : (xs : List Branch) (x : Branch) → x.floored ≡ false → filter (λ (b : Branch). b.floored) (xs ++ x ∷ []) ≡ filter (λ b. b.floored) xs
filter_push_out [] x e = ap (λ t. cond t (x ∷ []) []) e
filter_push_out (y ∷ ys) x e = both y.floored (filter_push_out ys x e)
  where
    both : (t : Bool) → filter (λ (b : Branch). b.floored) (ys ++ x ∷ []) ≡ filter (λ b. b.floored) ys → cond t (y ∷ filter (λ b. b.floored) (ys ++ x ∷ [])) (filter (λ b. b.floored) (ys ++ x ∷ [])) ≡ cond t (y ∷ filter (λ b. b.floored) ys) (filter (λ b. b.floored) ys)
    both true h = ap (λ l. y ∷ l) h
    both false h = h

-- a branch whose reactance was raised has its record, another has none
pub note_more : (branches : List Branch) (k : ℕ) (d : Branch) → k < length branches → (get_or branches k d).floored ≡ true → note_rows (take (k + 1) branches) ≡ note_rows (take k branches) ++ (codes "note" ∷ (get_or branches k d).id ∷ []) ∷ []
note_more branches k d l e =
    ap note_rows (take_more branches k d l)
    ∙ ap (map (λ (b : Branch). codes "note" ∷ b.id ∷ [])) (filter_push_in (take k branches) (get_or branches k d) e)
    ∙ map_push (λ (b : Branch). codes "note" ∷ b.id ∷ []) (filter (λ (b : Branch). b.floored) (take k branches)) (get_or branches k d)

pub note_none : (branches : List Branch) (k : ℕ) (d : Branch) → k < length branches → (get_or branches k d).floored ≡ false → note_rows (take (k + 1) branches) ≡ note_rows (take k branches)
note_none branches k d l e =
    ap note_rows (take_more branches k d l)
    ∙ ap (map (λ (b : Branch). codes "note" ∷ b.id ∷ [])) (filter_push_out (take k branches) (get_or branches k d) e)

abbrev Entry : Type 0
Entry = String Global × ℤ

some_at : (entries : List Entry) (k : ℕ) (e : Entry) → slice_get entries k ≡ Some e → (k < length entries) × (get_or entries k e ≡ e)
some_at [] k e h = cc
some_at (p ∷ ps) zero e h = (omega arith, some_same p e h)
  where
    some_same : (x y : Entry) → Some x ≡ Some y → x ≡ y
    some_same x y s = cc
some_at (p ∷ ps) (suc k) e h = let r = some_at ps k e h in (omega (arith, r.0), r.1)

pub total_more : (entries : List Entry) (k : ℕ) (e : Entry) → slice_get entries k ≡ Some e → rows_of (totals_in (take (k + 1) entries)) ≡ rows_of (totals_in (take k entries)) ++ (string_bytes e.0 ∷ signed_decimal e.1 ∷ []) ∷ []
total_more entries k e h =
    let r = some_at entries k e h in
    ap (λ es. rows_of (totals_in es)) (take_more entries k e r.0 ∙ ap (λ (p : Entry). take k entries ++ p ∷ []) r.1)
    ∙ ap rows_of (map_push (λ (p : Entry). (string_bytes p.0, p.1)) (take k entries) e)
    ∙ map_push (λ (n : List ℕ × ℤ). n.0 ∷ signed_decimal n.1 ∷ []) (totals_in (take k entries)) (string_bytes e.0, e.1)

pub none_at : (entries : List Entry) (k : ℕ) → slice_get entries k ≡ None → k < length entries → ⊥
none_at [] k h l = absurd (omega arith)
none_at (p ∷ ps) zero h l = cc
none_at (p ∷ ps) (suc k) h l = none_at ps k h (omega arith)
