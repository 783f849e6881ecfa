-- Words of private contracts, which nobody need believe.
use Rattle.std.specs.Prelude.{◌≡◌, ℕ, ◌<◌, ◌-ℤ◌, List, [], ◌∷◌, map, codes}
use Rattle.std.specs.Fmt.{signed_decimal}
use Rattle.place_tables.specs.Places.{first_places}
use Rattle.cnec_rows.specs.declared.types.RowProof.{RowProof}
use Rattle.fb_certificate.specs.declared.types.Certificate.{Certificate}
use Rattle.fb_certificate.specs.declared.types.Cite.{Cite}
use Rattle.domain_report.specs.DomainTexts.{citation_text, class_word}
use Rattle.domain_report.specs.declared.cite_index.CiteIndex.{CiteIndex}
use Rattle.domain_report.specs.declared.cite_index.Cites.{Cites}
use Rattle.domain_report.specs.declared.standing.Standing.{Standing}
use Rattle.domain_report.specs.declared.standing.Standing.TheVariants as st

-- the word of a standing, and its citation
abbrev pub standing_word : Standing → List ℕ
standing_word st.Absent = codes "-"
standing_word st.Kept = codes "KEPT"
standing_word (st.Removed by) = codes "REMOVED"

abbrev pub standing_citation : Standing → List ℕ
standing_citation st.Absent = []
standing_citation st.Kept = []
standing_citation (st.Removed by) = citation_text by.now

-- the class of a row, how it stands in the lists, its right sides and their gap
abbrev pub sides_of : List ℕ → List ℕ → RowProof → List (List ℕ)
sides_of inner outer row =
    class_word row.class ∷ inner ∷ outer ∷ signed_decimal row.r_in ∷ signed_decimal row.r_out ∷ signed_decimal (row.r_out -ℤ row.r_in) ∷ []

-- ---- Cites by number

-- the cites, and the first place of each number below a count
pub record IsCiteIndex (count : ℕ) (cites : List Cite) (index : CiteIndex) : Type 0 where
  pub same : index.cites.now ≡ cites
  pub places : index.places.items ≡ first_places count (map (λ cite. cite.row) cites)

-- an index over a count above the number
pub record IsIndexFor (number : ℕ) (index : CiteIndex) : Type 0 where
  pub count : ℕ
  pub above : number < count
  pub places : index.places.items ≡ first_places count (map (λ cite. cite.row) index.cites.now)

-- the cites of both lists of a certificate
pub record AreCitesOf (count : ℕ) (certificate : Certificate) (cites : Cites) : Type 0 where
  pub inner : IsCiteIndex count certificate.inner cites.inner
  pub outer : IsCiteIndex count certificate.outer cites.outer
