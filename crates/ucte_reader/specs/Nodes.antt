-- Node lines of the UCTE data exchange format. Powers are in watts: the millionths of the numbers in megawatts.
use Rattle.std.specs.Prelude.{ℕ, ℤ, pos, ◌+◌, ◌-◌, ◌^◌, not, ◌||◌, ◌&&◌, nat_lt, nat_le, List, [], ◌∷◌, length, map, sum_by, Option, Some, None, is_none, unwrap_or, if◌then◌else◌}
use Rattle.std.specs.Str.{encode_utf8_all}
use Rattle.fb_types.specs.GridRanges.{exchange_of}
use Rattle.fb_types.specs.declared.grid.Node.{Node}
use Rattle.name_tables.specs.Names.{is_among}
use Rattle.ucte_lines.specs.Fields.{field_of, number_or_zero}
use Rattle.ucte_reader.specs.Codes.{first_code, is_code, level_of, code_text}
use Rattle.first_fault.specs.Checks.{first_failing}
use Rattle.ucte_reader.specs.declared.block.ZoneCode.{ZoneCode}
use Rattle.ucte_reader.specs.declared.kind.GridKind.{GridKind}
use Rattle.ucte_reader.specs.declared.kind.GridKind.TheVariants.{BadCode, DuplicateNode, BadStatus, BadNumber, InjectionOutOfRange, TooMany}

-- 0 to 3: PQ, Q and angle, PU, U and angle; blank counts as 0
abbrev pub node_kind : List ℕ → Option ℕ
node_kind [] = Some 0
node_kind (c ∷ []) = if nat_le 48 c && nat_le c 51 then Some (c - 48) else None
node_kind (c ∷ d ∷ cs) = None

abbrev pub kind_in : List ℕ → Option ℕ
kind_in line = node_kind (field_of line 25 25)

abbrev pub load_in : List ℕ → Option ℤ
load_in line = number_or_zero (field_of line 34 40)

abbrev pub generation_in : List ℕ → Option ℤ
generation_in line = number_or_zero (field_of line 50 56)

abbrev pub zone_text : ZoneCode → List ℕ
zone_text zone = encode_utf8_all (zone.first ∷ zone.second ∷ [])

-- the node of a line in the block of a zone; a field with a fault counts as 0
unfoldable pub node_of : ZoneCode → List ℕ → Node
node_of zone line = record {
  code = code_text (first_code line);
  zone = zone_text zone;
  level = level_of (first_code line);
  kind = unwrap_or (kind_in line) 0;
  load = unwrap_or (load_in line) (pos 0);
  generation = unwrap_or (generation_in line) (pos 0);
}

abbrev pub node_codes : List Node → List (List ℕ)
node_codes nodes = map (λ n. n.code) nodes

-- the checks of a node line, in order, after these nodes
unfoldable pub node_fault : List Node → ZoneCode → List ℕ → Option GridKind
node_fault earlier zone line = first_failing (
    (not (is_code (first_code line)), BadCode)
    ∷ (is_among (node_codes earlier) (code_text (first_code line)), DuplicateNode)
    ∷ (is_none (kind_in line), BadStatus)
    ∷ (is_none (load_in line) || is_none (generation_in line), BadNumber)
    ∷ (nat_lt (10 ^ 12) (sum_by exchange_of earlier + exchange_of (node_of zone line)), InjectionOutOfRange)
    ∷ (nat_lt 4096 (length earlier + 1), TooMany)
    ∷ [])
