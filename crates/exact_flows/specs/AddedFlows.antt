-- The law that the flows of net positions add up. Nobody need read this to know what a domain promises: it is proved of it.
use Rattle.std.specs.Prelude.{◌-ℤ◌, List, map, All}
use Rattle.fractions.specs.Fractions.{Same, plus, times, total}
use Rattle.fb_types.specs.declared.grid.Grid.{Grid}
use Rattle.grid_state.specs.GridState.{GridState}
use Rattle.security.specs.Balances.{base_balance, Exchange, balance_with}
use Rattle.security.specs.Flows.{ExactAngles, AreAnglesOf, AreAnglesFor, NumberedBranch, reference_flow_of, flow_with, factor_of, AreAnglesOfKey}

-- an exchange with angles for each block of its key
pub record SolvedExchange : Type 0 where
  pub exchange : Exchange
  pub blocks : List ExactAngles

-- The flow where zones have other net positions is the reference flow and, for each zone, the difference of its positions times
-- its factor; whatever exact angles are chosen for each of them.
abbrev pub Superposition : GridState → Grid → Type 0
Superposition s grid =
    (c : NumberedBranch) (zones : List SolvedExchange) (reference point : ExactAngles)
    → AreAnglesOf s (base_balance s grid) reference
    → All (λ z. AreAnglesOfKey s z.exchange.key z.blocks) zones
    → AreAnglesFor s (balance_with s grid (map (λ z. z.exchange) zones)) point
    → Same (flow_with s c point)
    (plus (reference_flow_of s c reference) (total (λ z. times (z.exchange.position -ℤ z.exchange.reference) (factor_of s c z.exchange.key z.blocks)) zones))
