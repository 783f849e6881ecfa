-- What is known of the grid states and of the rows of a certificate of whole inputs.
use Rattle.std.proofs.Common.{◌≡◌, ℕ, zero, suc, ◌<◌, ◌^◌, List, [], ◌∷◌, length, get_or, All, Option, Some, None, pos, sym, subst, ◌∙◌, arith}
use Rattle.std.specs.Prelude.{IfSome, slice_get, ◌==◌, ◌<ℤ◌, position}
use Rattle.std.specs.List.{AllZip}
use Rattle.std.proofs.lemmas.List.Elements.{All-head, All-tail, All-cons, All-nil, All-weaker, All-get_or}
use Rattle.std.proofs.lemmas.List.Quantifiers.{position-Some}
use Rattle.std.proofs.lemmas.Option.{slice_get_within, get_or_from_slice_get, same_Some}
use Rattle.fb_types.specs.declared.grid.Branch.{Branch}
use Rattle.fb_types.specs.declared.grid.Node.{Node}
use Rattle.fb_types.specs.declared.keys.Block.{Block}
use Rattle.fb_types.specs.declared.keys.Column.{Column}
use Rattle.grid_state.specs.GridState.{GridState, IsSound}
use Rattle.grid_state.specs.Split.{slack_node_of}
use Rattle.grid_state.specs.States.{IsStateOf}
use Rattle.grid_state.proofs.Soundness.{sound_of}
use Rattle.grid_laplacian.specs.Ranges.{IsOfGrid, IsInRange}
use Rattle.security.specs.Secure.{RowPlace}
use Rattle.state_proofs.specs.StateProofs.{IsStateProof}
use Rattle.state_proofs.specs.declared.StateProof.{StateProof}
use Rattle.glsk_keys.specs.Laws as key_laws
use Rattle.glsk_keys.specs.Zones.{homes_of}
use Rattle.cnec_rows.specs.RowNumbers.{row_proof_of}
use Rattle.cnec_rows.specs.declared.types.RowProof.{RowProof}
use Rattle.row_gaps.specs.GapLaws.{IsProved}
use Rattle.row_gaps.specs.Widths.{HasGreatTotals}
use Rattle.fb_certificate.specs.CracRows.{CracRow, out_by_state, state_of_row}
use Rattle.fb_certificate.specs.Situations.{stated, IsPlaceOf, branch_of}
use Rattle.fb_certificate.specs.Valid.{IsRowOf, AreProofs}
use Rattle.fb_certificate.specs.Whole.{IsWhole, row_zones}
use Rattle.fb_certificate.proofs.WholeLaws.{are_keys, zones_fit}
use Rattle.fb_certificate.specs.declared.types.Inputs.{Inputs}

-- ---- lists side by side

module _ {X Y : Type 0} (R : X → Y → Type 0) where
  both_at : (xs : List X) (ys : List Y) → AllZip R xs ys → (k : ℕ) (x : X) (y : Y) → slice_get xs k ≡ Some x
      → slice_get ys k ≡ Some y → R x y
  both_at [] ys h k x y e f = absurd (cc)
  both_at (a ∷ xs) [] h k x y e f = absurd h
  both_at (a ∷ xs) (b ∷ ys) h zero x y e f =
      subst (λ v. R x v) (same_Some b y f) (subst (λ u. R u b) (same_Some a x e) h.0)
  both_at (a ∷ xs) (b ∷ ys) h (suc k) x y e f = both_at xs ys h.1 k x y e f

  second_at : (Q : Y → Type 0) (xs : List X) (ys : List Y) → ((x : X) (y : Y) → R x y → Q y) → AllZip R xs ys
      → (k : ℕ) (y : Y) → slice_get ys k ≡ Some y → Q y
  second_at Q xs [] f h k y e = absurd (cc)
  second_at Q [] (z ∷ ys) f h k y e = absurd h
  second_at Q (x ∷ xs) (z ∷ ys) f h zero y e = subst Q (same_Some z y e) (f x z h.0)
  second_at Q (x ∷ xs) (z ∷ ys) f h (suc k) y e = second_at Q xs ys f h.1 k y e

  pub zip_weaker : (Q : X → Y → Type 0) → ((x : X) (y : Y) → R x y → Q x y) → (xs : List X) (ys : List Y)
      → AllZip R xs ys → AllZip Q xs ys
  zip_weaker Q f [] [] h = tt
  zip_weaker Q f [] (y ∷ ys) h = absurd h
  zip_weaker Q f (x ∷ xs) [] h = absurd h
  zip_weaker Q f (x ∷ xs) (y ∷ ys) h = (f x y h.0, zip_weaker Q f xs ys h.1)

  -- what holds of the first and of both holds of the second
  pub seconds : (P : X → Type 0) (Q : Y → Type 0) → ((x : X) (y : Y) → P x → R x y → Q y) → (xs : List X) (ys : List Y)
      → All P xs → AllZip R xs ys → All Q ys
  seconds P Q f [] [] p h = All-nil Q
  seconds P Q f [] (y ∷ ys) p h = absurd h
  seconds P Q f (x ∷ xs) [] p h = absurd h
  seconds P Q f (x ∷ xs) (y ∷ ys) p h =
      All-cons Q y ys (f x y (All-head P x xs p) h.0) (seconds P Q f xs ys (All-tail P x xs p) h.1)

-- ---- keys

great_column : (homes : List (Option ℕ)) (zone : ℕ) (column : Column) → key_laws.IsColumn homes zone column
    → HasGreatTotals column
great_column homes zone column h = record { each = All-weaker (key_laws.IsBlock homes zone) (λ (block : Block). pos (10 ^ 11) <ℤ block.total) (λ block b. b.some) column.blocks h.blocks }

are_great : (inputs : Inputs) → IsWhole inputs → All HasGreatTotals inputs.keys.columns
are_great inputs whole = λ k d l.
    let long = whole.keys.columns in
    great_column (homes_of inputs.settings.zones inputs.grid.nodes) k (get_or inputs.keys.columns k d)
    (whole.keys.each k d (omega (arith, l, long)))

-- ---- states

-- the slack node is one of the grid
slack_below : (nodes : List Node) (named : Option ℕ) (slack : ℕ) → IfSome named (λ place. place < length nodes)
    → slack_node_of nodes named ≡ Some slack → slack < length nodes
slack_below nodes (Some n) slack below e = subst (λ (k : ℕ). k < length nodes) (same_Some n slack e) below
slack_below nodes None slack below e = by_first nodes e
  where
    by_first : (ns : List Node) → position (λ node. node.kind == 3) ns ≡ Some slack → slack < length ns
    by_first [] e = absurd (cc)
    by_first (n ∷ ns) e = (position-Some (λ (node : Node). node.kind == 3) (n ∷ ns) slack n e).0

-- what is known of a state of the inputs
pub record IsKnownState (inputs : Inputs) (s : GridState) : Type 0 where
  pub sound : IsSound s
  pub of_grid : IsOfGrid inputs.grid s
  pub range : IsInRange inputs.grid s

pub known_state : (inputs : Inputs) → IsWhole inputs → (k : ℕ) (s : GridState) → slice_get inputs.states k ≡ Some s
    → IsKnownState inputs s
known_state inputs whole k s e =
    let below = slack_below inputs.grid.nodes inputs.settings.slack whole.slack whole.settings.slack whole.slack_node in
    let of =
    second_at (IsStateOf inputs.grid whole.slack) (λ t. (outage : List ℕ) × IsStateOf inputs.grid whole.slack outage t)
    (out_by_state inputs.crac inputs.outages) inputs.states (λ outage t h. (outage, h)) whole.states.of_grid k s e in
    record {
      sound = sound_of inputs.grid whole.slack of.0 s below of.1;
      of_grid = record { slack_node = whole.slack; outage = of.0; of_grid = of.1 };
      range = subst (IsInRange inputs.grid) (get_or_from_slice_get inputs.states k s s e)
          (All-get_or (IsInRange inputs.grid) inputs.states k s (slice_get_within inputs.states k s e) whole.states.in_range);
    }

-- ---- rows

-- the numbers that a proof of a row's state gives
abbrev pub numbers_at : Inputs → CracRow → RowPlace → StateProof → RowProof
numbers_at inputs row place proof =
    row_proof_of place.state inputs.keys.columns (row_zones inputs.settings inputs.keys) (stated inputs row)
    (branch_of row place) proof

-- a row's numbers come of a proof of its state for the keys and the zones
pub record IsKnownRow (inputs : Inputs) (row : CracRow) (numbers : RowProof) : Type 0 where
  pub place : RowPlace
  pub is_place : IsPlaceOf inputs row place
  pub state : IsKnownState inputs place.state
  pub proof : StateProof
  pub proved : IsProved place.state inputs.grid inputs.keys.columns (row_zones inputs.settings inputs.keys) proof
  pub numbers_are : numbers ≡ numbers_at inputs row place proof

pub known_row : (inputs : Inputs) → IsWhole inputs → (proofs : List StateProof) → AreProofs inputs proofs
    → (row : CracRow) (numbers : RowProof) → IsRowOf inputs proofs row numbers → IsKnownRow inputs row numbers
known_row inputs whole proofs proved row numbers is =
    let are = is.are in
    let at = state_of_row inputs.outages row in
    record {
      place = are.place;
      is_place = are.is_place;
      state = known_state inputs whole at are.place.state are.is_place.state;
      proof = are.proof;
      proved = record {
        keys = are_keys inputs whole;
        great = are_great inputs whole;
        fit = zones_fit inputs whole;
        proves = both_at (λ s p. IsStateProof s inputs.grid inputs.keys.columns p) inputs.states proofs proved at
            are.place.state are.proof are.is_place.state are.is_proof;
      };
      numbers_are = are.numbers_are;
    }

-- a row has one place
same_place : (inputs : Inputs) (row : CracRow) (p q : RowPlace) → IsPlaceOf inputs row p → IsPlaceOf inputs row q
    → p ≡ q
same_place inputs row p q h k =
    both p.state q.state p.branch q.branch (same_Some p.state q.state (sym h.state ∙ k.state))
    (same_Some p.branch q.branch (sym h.branch ∙ k.branch))
  where
    both : (s t : GridState) (b d : Branch) → s ≡ t → b ≡ d
        → ◌≡◌ {A = RowPlace} (record { state = s; branch = b }) (record { state = t; branch = d })
    both s t b d e f = cc

-- what holds at the place of the proof holds at every place of the row
pub at_place : (inputs : Inputs) (row : CracRow) (numbers : RowProof) (known : IsKnownRow inputs row numbers) (P : RowPlace → RowProof → Type 0)
    → P known.place (numbers_at inputs row known.place known.proof)
    → (place : RowPlace) → IsPlaceOf inputs row place → P place numbers
at_place inputs row numbers known P h place is_place =
    subst (λ (q : RowPlace). P q numbers) (same_place inputs row known.place place known.is_place is_place)
    (subst (P known.place) (sym known.numbers_are) h)
