-- Words of private contracts, which nobody need believe.
use Rattle.std.specs.Prelude.{ℕ, ℤ, List, [], ◌∷◌}
use Rattle.std.specs.Fmt.{decimal, signed_decimal}
use Rattle.std.specs.List.{flat_map}
use Rattle.domain_report.specs.DomainTexts.{citation_text}
use Rattle.fb_certificate.specs.declared.types.Cite.{Cite}

-- numbers, each after a blank
abbrev pub spaced_text : List ℤ → List ℕ
spaced_text xs = flat_map (λ x. 32 ∷ signed_decimal x) xs

-- the fields of a row that is removed from the list of a kind
abbrev pub cite_fields : List ℕ → Cite → List (List ℕ)
cite_fields kind cite = kind ∷ decimal cite.row ∷ citation_text cite.by ∷ []
