-- A span in the row's direction holds the number in the row's direction.
use Rattle.std.proofs.Common.{◌≡◌, ℕ, zero, suc, ◌+◌, ◌<◌, ◌≤◌, Bool, true, false, ℤ, pos, negsuc, ◌*ℤ◌, List, [], ◌∷◌, ◌++◌, length, map, take, get_or, All, sym, subst, arith, add-one}
use Rattle.std.specs.List.{AllZip}
use Rattle.std.proofs.lemmas.Int.{ints}
use Rattle.std.proofs.lemmas.List.Elements.{All-map, All-same, All-weaker}
use Rattle.whole_laws.specs.Ring.{ring}
use Rattle.fractions.specs.Fractions.{Fraction, Same, times}
use Rattle.fractions.specs.FractionLaws.{times_left_comm}
use Rattle.fractions.specs.Spans.{LiesAt}
use Rattle.fractions.specs.SpanLaws.{Lies-Same, Lies-negated}
use Rattle.fb_span.specs.Ends.{EndsWithin}
use Rattle.fb_types.specs.declared.grid.Grid.{Grid}
use Rattle.fb_types.specs.declared.keys.Column.{Column}
use Rattle.grid_state.specs.GridState.{GridState}
use Rattle.security.specs.Flows.{NumberedBranch, factor_of, reference_flow_of}
use Rattle.reference_flows.specs.ReferenceSpans.{HoldsReference}
use Rattle.zonal_factors.specs.FactorSpans.{HoldsFactor}
use Rattle.reference_flows.specs.WithoutExchanges.{trillion}
use Rattle.security.specs.Rows.{direction_of}
use Rattle.cnec_rows.specs.RowNumbers.{directed}
use Rattle.cnec_rows.specs.RowParts.{HoldsAlong, HoldFactors}

along : (p : Fraction) → Same (times trillion p) (times trillion (times (pos 1) p))
along p = record { same = step trillion p.num p.den }
  where
    step : (t n d : ℤ) → (t *ℤ n) *ℤ d ≡ (t *ℤ (pos 1 *ℤ n)) *ℤ d
    step t n d = simp ring

pub turned_lies : (against : Bool) (span : ℤ × ℤ) (p : Fraction) → LiesAt trillion span p → LiesAt trillion (directed against span) (times (direction_of against) p)
turned_lies false span p h = Lies-Same (along p) h
turned_lies true span p h = Lies-Same (times_left_comm (negsuc 0) trillion p) (Lies-negated span.0 span.1 h)

-- the same of each zone, and its factor
turned_hold : (s : GridState) (c : NumberedBranch) (against : Bool) (columns : List Column) (along : List (ℤ × ℤ)) → AllZip (HoldsFactor s c) columns along
    → HoldFactors s c (direction_of against) columns (map (directed against) along)
turned_hold s c against [] [] h = tt
turned_hold s c against [] (span ∷ along) h = absurd h
turned_hold s c against (column ∷ columns) [] h = absurd h
turned_hold s c against (column ∷ columns) (span ∷ along) h =
    (λ es solved. turned_lies against span (factor_of s c column es) (h.0 es solved), turned_hold s c against columns along h.1)

pub turned_factors : (s : GridState) (c : NumberedBranch) (against : Bool) (columns : List Column) (along turned : List (ℤ × ℤ)) → AllZip (HoldsFactor s c) columns along → turned ≡ map (directed against) along
    → HoldFactors s c (direction_of against) columns turned
turned_factors s c against columns along turned h is = subst (HoldFactors s c (direction_of against) columns) (sym is) (turned_hold s c against columns along h)

-- the same of the reference flow
pub turned_along : (s : GridState) (grid : Grid) (c : NumberedBranch) (against : Bool) (span turned : ℤ × ℤ) → HoldsReference s grid c span → turned ≡ directed against span
    → HoldsAlong s grid c (direction_of against) turned
turned_along s grid c against span turned h is =
    subst (HoldsAlong s grid c (direction_of against)) (sym is) (λ e solved. turned_lies against span (reference_flow_of s c e) (h e solved))

-- ---- how large the ends are

turned_ends : (m : ℕ) (against : Bool) (span : ℤ × ℤ) → EndsWithin m span → EndsWithin m (directed against span)
turned_ends m false span k = k
turned_ends m true span k = record {
  low = record { low = omega (arith, ints, k.high.high); high = omega (arith, ints, k.high.low) };
  high = record { low = omega (arith, ints, k.low.high); high = omega (arith, ints, k.low.low) };
}

pub turned_within : (m : ℕ) (against : Bool) (span turned : ℤ × ℤ) → EndsWithin m span → turned ≡ directed against span → EndsWithin m turned
turned_within m against span turned k e = subst (EndsWithin m) (sym e) (turned_ends m against span k)

pub turned_all : (m : ℕ) (against : Bool) (along turned : List (ℤ × ℤ)) → All (EndsWithin m) along → turned ≡ map (directed against) along → All (EndsWithin m) turned
turned_all m against along turned h e =
    All-same (EndsWithin m) turned (map (directed against) along) e
    (All-map (EndsWithin m) (directed against) along (All-weaker (EndsWithin m) (λ span. EndsWithin m (directed against span)) (turned_ends m against) along h))

-- ---- lists side by side, one place more

zip_suc : {A B : Type 0} (R : A → B → Type 0) (xs : List A) (ys : List B) (i : ℕ) (d : A) (y : B) → i < length xs → AllZip R (take i xs) ys → R (get_or xs i d) y → AllZip R (take (suc i) xs) (ys ++ y ∷ [])
zip_suc R [] ys i d y h zip here = absurd (omega arith)
zip_suc R (x ∷ xs) [] zero d y h zip here = (here, tt)
zip_suc R (x ∷ xs) (z ∷ ys) zero d y h zip here = absurd zip
zip_suc R (x ∷ xs) [] (suc i) d y h zip here = absurd zip
zip_suc R (x ∷ xs) (z ∷ ys) (suc i) d y h zip here = (zip.0, zip_suc R xs ys i d y (omega arith) zip.1 here)

pub zip_more : {A B : Type 0} (R : A → B → Type 0) (xs : List A) (ys more : List B) (i : ℕ) (x : A) (y : B) → i < length xs → x ≡ get_or xs i x → AllZip R (take i xs) ys → R x y → more ≡ ys ++ y ∷ [] → AllZip R (take (i + 1) xs) more
zip_more R xs ys more i x y h at zip here pushed =
    subst (λ zs. AllZip R (take (i + 1) xs) zs) (sym pushed) (rw add-one (zip_suc R xs ys i x y h zip (subst (λ z. R z y) at here)))
