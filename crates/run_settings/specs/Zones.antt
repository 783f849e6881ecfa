-- The zones of a settings document, or the one first fault in them.
use Rattle.std.specs.Prelude.{ℕ, ℤ, pos, neg_ℤ, ◌==◌, ◌||◌, ◌&&◌, ◌^◌, Bool, true, false, not, List, [], ◌∷◌, ◌++◌, Option, Some, None, Ok, unwrap_or, codes, nat_lt, int_lt, int_le}
use Rattle.std.specs.List.{list_any}
use Rattle.std.specs.Str.{bytes_eq}
use Rattle.fb_json.specs.Tree.{text_of, decimal_of, length_of, truth_of}
use Rattle.json_reading.specs.Reading.{Reading, At, ◌>>=◌, fault_here, fault_in, refuse_if, required, optional, here, optional_array, required_array}
use Rattle.name_tables.specs.Names.{is_among}
use Rattle.whole_laws.specs.Sums.{sum_over}
use Rattle.fb_types.specs.declared.rows.Bounds.{Bounds}
use Rattle.run_settings.specs.declared.model.SettingsKind.{SettingsKind}
use Rattle.run_settings.specs.declared.model.SettingsKind.TheVariants.{Missing, BoxReversed, OutOfRange, Twice, TooMany}
use Rattle.run_settings.specs.declared.model.Zone.{Zone}

abbrev pub Read : Type 0 → Type 0
Read A = Reading SettingsKind A

-- ---- codes

-- the codes that zones list, zone by zone
abbrev pub zone_codes : List Zone → List (List ℕ)
zone_codes [] = []
zone_codes (zone ∷ zones) = zone.codes ++ zone_codes zones

-- a code is a text that no earlier zone lists, and that the zone has not listed before
unfoldable pub code_of : List (List ℕ) → List (List ℕ) → At SettingsKind → Read (Option (List ℕ))
code_of earlier before at = do
  code ← here text_of at
  is_free ← refuse_if (is_among earlier code) (fault_here Twice at)
  is_new ← refuse_if (is_among before code) (fault_here Twice at)
  Ok (Some code)

-- where a zone lists no codes, its id is the one code
abbrev pub codes_or_id : List (List ℕ) → List ℕ → At SettingsKind → Option (List (List ℕ)) → Read (List (List ℕ))
codes_or_id earlier id at (Some listed) = Ok listed
codes_or_id earlier id at None = do
  is_free ← refuse_if (is_among earlier id) (fault_in (codes "id") Twice at)
  Ok (id ∷ [])

unfoldable pub listed_codes : List (List ℕ) → List ℕ → At SettingsKind → Read (List (List ℕ))
listed_codes earlier id at = do
  listed ← optional_array (code_of earlier) (codes "codes") at
  codes_or_id earlier id at listed

-- ---- bounds

-- a net position in megawatts, cut to whole watts, within 10^11 W
abbrev pub is_bound : ℤ → Bool
is_bound watts = int_le (neg_ℤ (pos (10 ^ 11))) watts && int_le watts (pos (10 ^ 11))

unfoldable pub bound_in : List ℕ → At SettingsKind → Read ℤ
bound_in name at = do
  megawatts ← required decimal_of name at
  fits ← refuse_if (not (is_bound megawatts.millionths)) (fault_in name OutOfRange at)
  Ok megawatts.millionths

-- the bounds of a Core zone are read; those of another zone are 0 and 0
unfoldable pub bounds_of : Bool → At SettingsKind → Read Bounds
bounds_of false at = Ok (record { low = pos 0; high = pos 0 })
bounds_of true at = do
  low ← bound_in (codes "min") at
  high ← bound_in (codes "max") at
  ordered ← refuse_if (int_lt high low) (fault_here BoxReversed at)
  Ok (record { low = low; high = high })

-- ---- zones

-- one of the zones has the id
unfoldable pub has_id : List ℕ → List Zone → Bool
has_id id zones = list_any (λ zone. bytes_eq id zone.id) zones

unfoldable pub zone_of : List Zone → At SettingsKind → Read (Option Zone)
zone_of before at = do
  id ← required text_of (codes "id") at
  is_new ← refuse_if (has_id id before) (fault_in (codes "id") Twice at)
  listed ← listed_codes (zone_codes before) id at
  core ← optional truth_of (codes "core") at
  bounds ← bounds_of (unwrap_or core true) at
  Ok (Some (record { id = id; codes = listed; core = unwrap_or core true; bounds = bounds }))

-- one of the zones is a Core zone
unfoldable pub has_core : List Zone → Bool
has_core zones = list_any (λ zone. zone.core) zones

-- the sums of the least and of the greatest net positions
abbrev pub least_sum : List Zone → ℤ
least_sum zones = sum_over (λ zone. zone.bounds.low) zones

abbrev pub greatest_sum : List Zone → ℤ
greatest_sum zones = sum_over (λ zone. zone.bounds.high) zones

-- no net positions within the bounds have the sum 0
unfoldable pub is_reversed : List Zone → Bool
is_reversed zones = int_lt (pos 0) (least_sum zones) || int_lt (greatest_sum zones) (pos 0)

unfoldable pub zones_of : At SettingsKind → Read (List Zone)
zones_of at = do
  count ← required length_of (codes "zones") at
  some ← refuse_if (count == 0) (fault_in (codes "zones") Missing at)
  few ← refuse_if (nat_lt 64 count) (fault_in (codes "zones") TooMany at)
  zones ← required_array zone_of (codes "zones") at
  core ← refuse_if (not (has_core zones)) (fault_in (codes "zones") Missing at)
  box ← refuse_if (is_reversed zones) (fault_in (codes "zones") BoxReversed at)
  Ok zones
