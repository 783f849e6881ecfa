-- Words of private contracts: the cites of a list, and the first reason for which one fails. Nobody need believe them.
use Rattle.std.specs.Prelude.{◌≡◌, ℕ, ◌+◌, ◌<◌, ◌≤◌, Bool, false, List, ◌++◌, length, map, drop, All, Option, Some, None, slice_index_or, ◌⊎◌}
use Rattle.fb_types.specs.Domain.{IsHalfOver, AreBounds}
use Rattle.fb_types.specs.declared.rows.Bounds.{Bounds}
use Rattle.cnec_rows.specs.declared.types.RowProof.{RowProof}
use Rattle.run_settings.specs.Laws.{core_bounds}
use Rattle.fb_certificate.specs.Lists.{ListKind, inner_list, outer_list, is_removed}
use Rattle.fb_certificate.specs.Thin.{IsProvedBy}
use Rattle.fb_certificate.specs.declared.types.Certificate.{Certificate}
use Rattle.fb_certificate.specs.declared.types.Cite.{Cite}
use Rattle.fb_certificate.specs.declared.types.Inputs.{Inputs}
use Rattle.row_removal.specs.Kinds.{kind_of}
use Rattle.certificate_check.specs.Judged.{IsReached, IsJudged}
use Rattle.certificate_check.specs.Records.{cite_records, IsCited}
use Rattle.certificate_check.specs.declared.judgement.Judgement.{Judgement}
use Rattle.certificate_check.specs.declared.lists.CitedList.{CitedList}
use Rattle.certificate_check.specs.declared.verdict.Reason.{Reason}
use Rattle.certificate_check.specs.declared.verdict.Reason.TheVariants as why

-- ---- A list

-- a mark for each of so many rows: whether a cite removes it
pub record AreMarks (cites : List Cite) (count : ℕ) (marks : List Bool) : Type 0 where
  pub each_row : length marks ≡ count
  pub same : (k : ℕ) → k < count → slice_index_or marks k false ≡ is_removed cites (k + 1)

-- the list has a mark for each of its rows, and these cites remove those that are marked
abbrev pub HasCites : List Cite → CitedList → Type 0
HasCites cites list = AreMarks cites (length list.rows.now) list.removed.items

-- what the list has beside its rows
pub record IsReady (list : CitedList) : Type 0 where
  pub halves : list.halves ≡ map (kind_of list.kind).half list.rows.now
  pub over : All (IsHalfOver (length list.bounds.now)) list.halves
  pub bounds : AreBounds list.bounds.now
  pub marks : length list.removed.items ≡ length list.rows.now

-- ---- The first reason

pub record IsOrderFault (least : ℕ) (c : Cite) (reason : Reason) : Type 0 where
  pub is : reason ≡ why.Order
  pub fails : c.row < least

pub record IsCitedFault (kind : ListKind) (rows : List RowProof) (cites : List Cite) (least : ℕ) (c : Cite)
    (reason : Reason) : Type 0 where
  pub is : reason ≡ why.Cited
  pub order : least ≤ c.row
  pub fails : IsCited kind rows cites c → ⊥

pub record IsFollowsFault (kind : ListKind) (bounds : List Bounds) (rows : List RowProof) (cites : List Cite)
    (least : ℕ) (c : Cite) (reason : Reason) : Type 0 where
  pub is : reason ≡ why.Follows
  pub order : least ≤ c.row
  pub cited : IsCited kind rows cites c
  pub fails : IsProvedBy kind bounds rows c.row c.by → ⊥

pub record IsGoodCite (kind : ListKind) (bounds : List Bounds) (rows : List RowProof) (cites : List Cite) (least : ℕ)
    (c : Cite) : Type 0 where
  pub order : least ≤ c.row
  pub cited : IsCited kind rows cites c
  pub follows : IsProvedBy kind bounds rows c.row c.by

abbrev pub CiteRuling : ListKind → List Bounds → List RowProof → List Cite → ℕ → Cite → Option Reason → Type 0
CiteRuling kind bounds rows cites least c None = IsGoodCite kind bounds rows cites least c
CiteRuling kind bounds rows cites least c (Some reason) =
    IsOrderFault least c reason
    ⊎ (IsCitedFault kind rows cites least c reason ⊎ IsFollowsFault kind bounds rows cites least c reason)

-- ---- All cites

-- the first cites of the list, so many, pass, and those after them are to remove at least this row
abbrev pub AreCitesReached : ListKind → List Bounds → List RowProof → List Cite → ℕ → ℕ → Type 0
AreCitesReached kind bounds rows cites count least =
    (inputs : Inputs) (c : Certificate) → c.rows ≡ rows → core_bounds inputs.settings.zones ≡ bounds
    → IsReached inputs c (cite_records kind cites 0 cites) (cite_records kind cites least (drop count cites)) count

abbrev pub AreCitesJudged : ListKind → List Bounds → List RowProof → List Cite → Judgement → Type 0
AreCitesJudged kind bounds rows cites judgement =
    (inputs : Inputs) (c : Certificate) → c.rows ≡ rows → core_bounds inputs.settings.zones ≡ bounds
    → IsJudged inputs c (cite_records kind cites 0 cites) judgement

-- the cites of both lists
abbrev pub AreListsJudged : List Bounds → List RowProof → List Cite → List Cite → Judgement → Type 0
AreListsJudged bounds rows inner outer judgement =
    (inputs : Inputs) (c : Certificate) → c.rows ≡ rows → core_bounds inputs.settings.zones ≡ bounds
    → IsJudged inputs c (cite_records inner_list inner 0 inner ++ cite_records outer_list outer 0 outer) judgement
