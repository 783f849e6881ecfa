-- What a settings document says over the nodes of a grid, member by member in the order in which it is read, or its one
-- first fault.
use Rattle.std.specs.Prelude.{ℕ, ℤ, pos, ◌==◌, ◌&&◌, ◌*◌, ◌^◌, ◌/◌, ◌%◌, Bool, not, nat_abs, List, [], Option, Some, None, Ok, codes, int_le}
use Rattle.serde_json.specs.Data.{Data}
use Rattle.fb_decimal.specs.declared.Decimal.{Decimal}
use Rattle.fb_json.specs.Tree.{text_of, decimal_of}
use Rattle.json_reading.specs.Reading.{At, ◌>>=◌, fault_in, refuse_if, found_or, optional}
use Rattle.fb_types.specs.declared.grid.Node.{Node}
use Rattle.run_settings.specs.Nodes.{node_named}
use Rattle.run_settings.specs.Times.{moment_of}
use Rattle.run_settings.specs.Zones.{Read, zones_of}
use Rattle.run_settings.specs.declared.model.SettingsKind.{SettingsKind}
use Rattle.run_settings.specs.declared.model.SettingsKind.TheVariants.{Missing, WrongType, OutOfRange, UnknownNode, BadTime}
use Rattle.run_settings.specs.declared.model.Zone.{Zone}

-- What settings say: the moment in nanoseconds since 1970-01-01T00:00:00Z, the zones, the minimum RAM factor and the
-- threshold of selection in thousandths, and the slack node by its place.
pub record Said : Type 0 where
  pub moment : ℤ
  pub zones : List Zone
  pub ramr : ℕ
  pub threshold : ℕ
  pub slack : Option ℕ

-- a number that is whole, seen by its millionths
abbrev pub is_whole : ℤ → Bool
is_whole millionths = nat_abs millionths % 10 ^ 6 == 0

-- a number from 0 to 1000
abbrev pub is_permille : ℤ → Bool
is_permille millionths = int_le (pos 0) millionths && int_le millionths (pos (1000 * 10 ^ 6))

abbrev pub permille_or : ℕ → List ℕ → At SettingsKind → Option Decimal → Read ℕ
permille_or default name at None = Ok default
permille_or default name at (Some number) = do
  whole ← refuse_if (not (is_whole number.millionths)) (fault_in name WrongType at)
  fits ← refuse_if (not (is_permille number.millionths)) (fault_in name OutOfRange at)
  Ok (nat_abs number.millionths / 10 ^ 6)

-- a whole number of thousandths, or the default where there is none
unfoldable pub permille_in : ℕ → List ℕ → At SettingsKind → Read ℕ
permille_in default name at = do
  number ← optional decimal_of name at
  permille_or default name at number

abbrev pub slack_named : List Node → At SettingsKind → Option (List ℕ) → Read (Option ℕ)
slack_named nodes at None = Ok None
slack_named nodes at (Some name) = do
  place ← found_or (node_named nodes name) (fault_in (codes "slack") UnknownNode at)
  Ok (Some place)

-- the slack node, if one is named
unfoldable pub slack_in : List Node → At SettingsKind → Read (Option ℕ)
slack_in nodes at = do
  name ← optional text_of (codes "slack") at
  slack_named nodes at name

unfoldable pub settings_at : List Node → At SettingsKind → Read Said
settings_at nodes at = do
  moment ← moment_of BadTime (codes "moment") at
  zones ← zones_of at
  ramr ← permille_in 700 (codes "ramrPermille") at
  threshold ← permille_in 50 (codes "thresholdPermille") at
  slack ← slack_in nodes at
  Ok (record { moment = moment; zones = zones; ramr = ramr; threshold = threshold; slack = slack })

unfoldable pub settings_of : List Node → Data → Read Said
settings_of nodes tree = settings_at nodes (record { place = []; tree = tree; missing = Missing; wrong = WrongType })
