-- The spans of a row hold its exact numbers, and the row of the domain is right, whatever exact angles are chosen.
use Rattle.std.proofs.Common.{◌≡◌, ℕ, suc, Bool, true, false, cond, ℤ, List, [], ◌∷◌, length, map, All, refl, sym, ap, subst, ◌∙◌, arith}
use Rattle.std.specs.List.{filter, zip}
use Rattle.std.proofs.lemmas.List.Elements.{All-head, All-tail}
use Rattle.fractions.specs.Fractions.{Fraction}
use Rattle.fractions.specs.Spans.{LiesAt, EachLiesAt}
use Rattle.fb_types.specs.declared.grid.Grid.{Grid}
use Rattle.fb_types.specs.declared.keys.Column.{Column}
use Rattle.grid_state.specs.GridState.{GridState}
use Rattle.security.specs.Exchanges.{ZoneOfRow}
use Rattle.security.specs.Flows.{AreAnglesOfKey}
use Rattle.cnec_selection.specs.Classes.{IsRight}
use Rattle.cnec_selection.specs.declared.Class.{Class}
use Rattle.cnec_selection.specs.declared.Class.TheVariants.{Below, Doubtful, Certain}
use Rattle.domain_rows.specs.Brackets.{Brackets}
use Rattle.security.specs.Rows.{Row, KeyedZone, SolvedZone, Choice, IsChoice, row_factor_of, row_reference_of, seen_by, f0core_of, fuaf_of, core_of, core_factors_of, spread_of_row}
use Rattle.row_security.specs.Laws.{HeldRowsAreBracketed}
use Rattle.reference_flows.specs.WithoutExchanges.{trillion, HaveNumbers, AreOfCore}
use Rattle.cnec_rows.specs.declared.types.RowZones.{RowZones}
use Rattle.cnec_rows.specs.declared.types.RowSpans.{RowSpans}
use Rattle.cnec_rows.specs.declared.types.RowProof.{RowProof}
use Rattle.cnec_rows.specs.RowNumbers.{keyed_zone, keyed_zones, of_core, HoldNumbers, IsOfClass, IsRightRow, AreRowZones}
use Rattle.cnec_rows.specs.RowParts.{HoldFactors, HoldsAlong, HoldFrom}

-- ---- the zones with their keys

keys_of : (columns : List Column) (ps : List ℤ) (cs : List Bool) → length ps ≡ length columns → length cs ≡ length columns → map (λ (z : KeyedZone). z.key) (map keyed_zone (zip columns (zip ps cs))) ≡ columns
keys_of [] ps cs h k = refl
keys_of (x ∷ columns) [] cs h k = absurd (omega arith)
keys_of (x ∷ columns) (p ∷ ps) [] h k = absurd (omega arith)
keys_of (x ∷ columns) (p ∷ ps) (c ∷ cs) h k = ap (λ v. x ∷ v) (keys_of columns ps cs (omega arith) (omega arith))

positions_of : (columns : List Column) (ps : List ℤ) (cs : List Bool) → length ps ≡ length columns → length cs ≡ length columns → map (λ (z : KeyedZone). z.position) (map keyed_zone (zip columns (zip ps cs))) ≡ ps
positions_of [] [] cs h k = refl
positions_of [] (p ∷ ps) cs h k = absurd (omega arith)
positions_of (x ∷ columns) [] cs h k = refl
positions_of (x ∷ columns) (p ∷ ps) [] h k = absurd (omega arith)
positions_of (x ∷ columns) (p ∷ ps) (c ∷ cs) h k = ap (λ v. p ∷ v) (positions_of columns ps cs (omega arith) (omega arith))

flags_of : (columns : List Column) (ps : List ℤ) (cs : List Bool) → length ps ≡ length columns → length cs ≡ length columns → map (λ (z : KeyedZone). z.is_core) (map keyed_zone (zip columns (zip ps cs))) ≡ cs
flags_of [] ps [] h k = refl
flags_of [] ps (c ∷ cs) h k = absurd (omega arith)
flags_of (x ∷ columns) [] cs h k = absurd (omega arith)
flags_of (x ∷ columns) (p ∷ ps) [] h k = refl
flags_of (x ∷ columns) (p ∷ ps) (c ∷ cs) h k = ap (λ v. c ∷ v) (flags_of columns ps cs (omega arith) (omega arith))

core_count : (zones : List KeyedZone) → length (filter (λ (z : KeyedZone). z.is_core) zones) ≡ length (filter (λ c. c) (map (λ (z : KeyedZone). z.is_core) zones))
core_count [] = refl
core_count (z ∷ zs) = by_test z.is_core (core_count zs)
  where
    by_test : (b : Bool) → length (filter (λ (y : KeyedZone). y.is_core) zs) ≡ length (filter (λ c. c) (map (λ (y : KeyedZone). y.is_core) zs))
        → length (cond b (z ∷ filter (λ (y : KeyedZone). y.is_core) zs) (filter (λ (y : KeyedZone). y.is_core) zs)) ≡ length (cond b (b ∷ filter (λ c. c) (map (λ (y : KeyedZone). y.is_core) zs)) (filter (λ c. c) (map (λ (y : KeyedZone). y.is_core) zs)))
    by_test true later = ap suc later
    by_test false later = later

-- there are bounds for each Core zone
pub bounds_for_core : (columns : List Column) (zones : RowZones) → AreRowZones columns zones → length zones.bounds ≡ length (filter (λ (z : KeyedZone). z.is_core) (keyed_zones columns zones))
bounds_for_core columns zones are =
    are.bounds ∙ ap (λ (cs : List Bool). length (filter (λ c. c) cs)) (sym (flags_of columns zones.positions zones.core are.positions are.flags)) ∙ sym (core_count (keyed_zones columns zones))

-- ---- the zones with exact angles

map_zones : {A : Type 0} (f : KeyedZone → A) (zs : List SolvedZone) → map (λ (z : SolvedZone). f z.zone) zs ≡ map f (map (λ (z : SolvedZone). z.zone) zs)
map_zones f [] = refl
map_zones f (z ∷ zs) = ap (λ v. f z.zone ∷ v) (map_zones f zs)

map_seen : {A : Type 0} (s : GridState) (row : Row) (f : ZoneOfRow → A) (zs : List SolvedZone) → map f (map (seen_by s row) zs) ≡ map (λ (z : SolvedZone). f (seen_by s row z)) zs
map_seen s row f [] = refl
map_seen s row f (z ∷ zs) = ap (λ v. f (seen_by s row z) ∷ v) (map_seen s row f zs)

each_lies : (s : GridState) (row : Row) (zs : List SolvedZone) (spans : List (ℤ × ℤ)) → HoldFactors s row.branch row.direction (map (λ (z : SolvedZone). z.zone.key) zs) spans
    → All (λ (z : SolvedZone). AreAnglesOfKey s z.zone.key z.blocks) zs → EachLiesAt trillion spans (map (row_factor_of s row) zs)
each_lies s row [] [] h solved = tt
each_lies s row [] (span ∷ spans) h solved = absurd h
each_lies s row (z ∷ zs) [] h solved = absurd h
each_lies s row (z ∷ zs) (span ∷ spans) h solved =
    (h.0 z.blocks (All-head (λ (y : SolvedZone). AreAnglesOfKey s y.zone.key y.blocks) z zs solved), each_lies s row zs spans h.1 (All-tail (λ (y : SolvedZone). AreAnglesOfKey s y.zone.key y.blocks) z zs solved))

core_lies : (f : SolvedZone → Fraction) (zs : List SolvedZone) (spans : List (ℤ × ℤ)) → EachLiesAt trillion spans (map f zs) → EachLiesAt trillion (of_core (map (λ (z : SolvedZone). z.zone.is_core) zs) spans) (map f (core_of zs))
core_lies f [] [] h = tt
core_lies f [] (span ∷ spans) h = absurd h
core_lies f (z ∷ zs) [] h = absurd h
core_lies f (z ∷ zs) (span ∷ spans) h = by_test z.zone.is_core (core_lies f zs spans h.1)
  where
    flags : List Bool
    flags = map (λ (y : SolvedZone). y.zone.is_core) zs

    by_test : (b : Bool) → EachLiesAt trillion (of_core flags spans) (map f (core_of zs)) → EachLiesAt trillion (of_core (b ∷ flags) (span ∷ spans)) (map f (cond b (z ∷ core_of zs) (core_of zs)))
    by_test true later = (h.0, later)
    by_test false later = later

-- what is known of the zones of a choice
record Known (s : GridState) (row : Row) (columns : List Column) (zones : RowZones) (factors : List (ℤ × ℤ)) (zs : List SolvedZone) : Type 0 where
  each : EachLiesAt trillion factors (map (row_factor_of s row) zs)
  numbers : HaveNumbers factors zones.positions (map (seen_by s row) zs)
  core : AreOfCore zones.core (map (seen_by s row) zs)
  core_each : EachLiesAt trillion (of_core zones.core factors) (map (row_factor_of s row) (core_of zs))

known : (s : GridState) (grid : Grid) (row : Row) (columns : List Column) (zones : RowZones) (factors : List (ℤ × ℤ)) → AreRowZones columns zones → HoldFactors s row.branch row.direction columns factors
    → (choice : Choice) → IsChoice s grid (keyed_zones columns zones) choice → Known s row columns zones factors choice.zones
known s grid row columns zones factors are hold choice ok = record {
  each = each;
  numbers = record { each_lies = subst (EachLiesAt trillion factors) (sym (map_seen s row (λ z. z.factor) choice.zones)) each; same_positions = map_seen s row (λ z. z.position) choice.zones ∙ positions };
  core = map_seen s row (λ z. z.is_core) choice.zones ∙ flags;
  core_each = subst (λ (cs : List Bool). EachLiesAt trillion (of_core cs factors) (map (row_factor_of s row) (core_of choice.zones))) flags (core_lies (row_factor_of s row) choice.zones factors each);
}
  where
    keys : map (λ (z : SolvedZone). z.zone.key) choice.zones ≡ columns
    keys = map_zones (λ z. z.key) choice.zones ∙ ap (map (λ (z : KeyedZone). z.key)) ok.same_zones ∙ keys_of columns zones.positions zones.core are.positions are.flags

    positions : map (λ (z : SolvedZone). z.zone.position) choice.zones ≡ zones.positions
    positions = map_zones (λ z. z.position) choice.zones ∙ ap (map (λ (z : KeyedZone). z.position)) ok.same_zones ∙ positions_of columns zones.positions zones.core are.positions are.flags

    flags : map (λ (z : SolvedZone). z.zone.is_core) choice.zones ≡ zones.core
    flags = map_zones (λ z. z.is_core) choice.zones ∙ ap (map (λ (z : KeyedZone). z.is_core)) ok.same_zones ∙ flags_of columns zones.positions zones.core are.positions are.flags

    each : EachLiesAt trillion factors (map (row_factor_of s row) choice.zones)
    each = each_lies s row choice.zones factors (subst (λ (cs : List Column). HoldFactors s row.branch row.direction cs factors) (sym keys) hold) ok.blocks

-- ---- the numbers of the row

pub hold_numbers : (s : GridState) (grid : Grid) (row : Row) (columns : List Column) (zones : RowZones) (factors : List (ℤ × ℤ)) (spans : RowSpans) → AreRowZones columns zones
    → HoldFactors s row.branch row.direction columns factors → HoldsAlong s grid row.branch row.direction spans.fref → HoldFrom row.numbers zones factors spans
    → HoldNumbers s grid (keyed_zones columns zones) row spans
hold_numbers s grid row columns zones factors spans are hold along from = record {
  fref = reference;
  f0core = f0core;
  f0all = λ choice ok. from.f0all (row_reference_of s row choice) (map (seen_by s row) choice.zones) (reference choice ok) (of choice ok).numbers;
  fuaf = fuaf;
  ram = λ choice ok. from.ram (f0core_of s row choice) (fuaf_of s row choice) (f0core choice ok) (fuaf choice ok);
  spread = λ choice ok. from.spread (core_factors_of s row choice) (of choice ok).core_each;
}
  where
    of : (choice : Choice) → IsChoice s grid (keyed_zones columns zones) choice → Known s row columns zones factors choice.zones
    of choice ok = known s grid row columns zones factors are hold choice ok

    reference : (choice : Choice) → IsChoice s grid (keyed_zones columns zones) choice → LiesAt trillion spans.fref (row_reference_of s row choice)
    reference choice ok = along choice.reference ok.reference

    f0core : (choice : Choice) → IsChoice s grid (keyed_zones columns zones) choice → LiesAt trillion spans.f0core (f0core_of s row choice)
    f0core choice ok = from.f0core (row_reference_of s row choice) (map (seen_by s row) choice.zones) (reference choice ok) (of choice ok).numbers (of choice ok).core

    fuaf : (choice : Choice) → IsChoice s grid (keyed_zones columns zones) choice → LiesAt trillion spans.fuaf (fuaf_of s row choice)
    fuaf choice ok = from.fuaf (row_reference_of s row choice) (map (seen_by s row) choice.zones) (of choice ok).numbers (of choice ok).core

-- ---- the row of the domain

class_is : (s : GridState) (grid : Grid) (zones : List KeyedZone) (row : Row) (threshold : ℕ) (spread : ℤ × ℤ) (class : Class)
    → ((choice : Choice) → IsChoice s grid zones choice → LiesAt trillion spread (spread_of_row s row choice)) → IsRight spread threshold class → IsOfClass s grid zones row threshold class
class_is s grid zones row threshold spread Below lies right = λ choice ok. right (spread_of_row s row choice) (lies choice ok)
class_is s grid zones row threshold spread Doubtful lies right = tt
class_is s grid zones row threshold spread Certain lies right = λ choice ok. right (spread_of_row s row choice) (lies choice ok)

pub right_row : (s : GridState) (grid : Grid) (row : Row) (columns : List Column) (zones : RowZones) (factors : List (ℤ × ℤ)) (threshold : ℕ) (spans : RowSpans) (proof : RowProof)
    → HeldRowsAreBracketed s grid → AreRowZones columns zones → HoldFactors s row.branch row.direction columns factors → HoldNumbers s grid (keyed_zones columns zones) row spans
    → IsRight spans.spread threshold proof.class → Brackets (of_core zones.core factors) spans.ram zones.bounds proof.a proof.r_in proof.r_out
    → IsRightRow s grid columns zones row threshold proof
right_row s grid row columns zones factors threshold spans proof law are hold numbers right brackets = record {
  of_class = class_is s grid (keyed_zones columns zones) row threshold spans.spread proof.class numbers.spread right;
  brackets = law (keyed_zones columns zones) row (of_core zones.core factors) spans.ram zones.bounds proof.a proof.r_in proof.r_out (bounds_for_core columns zones are)
      (record { core_factors = λ choice ok. (known s grid row columns zones factors are hold choice ok).core_each; margin = numbers.ram }) brackets;
}
