-- The flow of exchanges outside Core is the sum over the zones outside Core.
use Rattle.std.proofs.Common.{List}
use Rattle.std.specs.List.{filter}
use Rattle.fractions.specs.Fractions.{Fraction, times, Same}
use Rattle.fractions.specs.FractionLaws.{Same_refl, Same_trans, Same-minus, minus-minus_plus}
use Rattle.fractions.specs.TotalLaws.{total-filter}
use Rattle.security.specs.Exchanges.{ZoneOfRow, exchanged_of, without_core_of, external_of}
use Rattle.security.specs.ShorterForms.{outside_of}

pub external-outside : (reference : Fraction) (zones : List ZoneOfRow) → Same (external_of reference zones) (outside_of zones)
external-outside reference zones =
    Same_trans
    (Same-minus (Same_refl (without_core_of reference zones)) (Same-minus (Same_refl reference) (total-filter (λ z. times z.position z.factor) (λ z. z.is_core) zones)))
    (minus-minus_plus reference (exchanged_of (filter (λ z. z.is_core) zones)) (outside_of zones))
