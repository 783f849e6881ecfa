-- Laws, which are proved: nobody need believe them.
-- A run is refused for one cause, and for none where its inputs are whole. Want of memory is no cause.
use Rattle.std.proofs.Common.{◌≡◌, ◌⊎◌, ℕ, ◌<◌, List, Option, Some, None, All, slice_get, inl, inr, refl, sym, ap, subst, ◌∙◌}
use Rattle.std.specs.List.{AllZip}
use Rattle.std.specs.Option.{IsSomeAnd}
use Rattle.std.proofs.lemmas.Bool.{cases_order}
use Rattle.std.proofs.lemmas.Option.{MatchOption-at_some, none-some, same_Some, slice_get_within, get_or_from_slice_get}
use Rattle.std.proofs.lemmas.Slice.Zip.{AllZip-left}
use Rattle.fb_types.specs.declared.crac.Crac.{Crac}
use Rattle.fb_types.specs.declared.grid.Grid.{Grid}
use Rattle.fb_types.specs.declared.keys.Column.{Column}
use Rattle.grid_state.specs.GridState.{GridState}
use Rattle.grid_state.specs.Split.{slack_node_of, first_stranded_node, IsSplit}
use Rattle.grid_state.specs.States.{IsStateOf}
use Rattle.grid_state.specs.StateLaws.{state_unique, split_unique, not_split}
use Rattle.grid_laplacian.specs.Ranges.{IsInRange}
use Rattle.fb_certificate.specs.CracRows.{out_by_state}
use Rattle.fb_certificate.specs.Whole.{AreStates, IsWhole}
use Rattle.fb_certificate.specs.declared.types.Inputs.{Inputs}
use Rattle.run_inputs.specs.Refusals.{IsFirstSplit, code_at, IsFirstStranded, IsFirstOutOfRange, IsRefused, IsMemory, out_of}
use Rattle.run_inputs.specs.declared.fault.InputsError.{InputsError}
use Rattle.run_inputs.specs.declared.fault.InputsError.TheVariants.{NoSlack, SplitGrid, RangeExceeded, Memory}

-- ---- States of a list of outages

pub some_and : {A : Type 0} (o : Option A) (P : A → Type 0) → IsSomeAnd o P → (x : A) × (o ≡ Some x) × P x
some_and None P h = absurd h
some_and (Some x) P h = (x, refl, h)

-- the state after an outage of the list
pub state_at : (grid : Grid) (slack : ℕ) (out : List (List ℕ)) (states : List GridState) → AllZip (IsStateOf grid slack) out states → (k : ℕ) (outage : List ℕ) → slice_get out k ≡ Some outage
    → (s : GridState) × (slice_get states k ≡ Some s) × IsStateOf grid slack outage s
state_at grid slack out states zip k outage e =
    some_and (slice_get states k) (IsStateOf grid slack outage)
    (MatchOption-at_some (Unit {0}) (λ x. IsSomeAnd (slice_get states k) (IsStateOf grid slack x)) outage e (AllZip-left (IsStateOf grid slack) out states zip k))

-- what holds of all items holds of the one at a place
pub all_at : {A : Type 0} (P : A → Type 0) (xs : List A) (k : ℕ) (x : A) → All P xs → slice_get xs k ≡ Some x → P x
all_at P xs k x h e = subst P (get_or_from_slice_get xs k x x e) (h k x (slice_get_within xs k x e))

-- states without stranded nodes are not split
pub none_split : (grid : Grid) (slack : ℕ) (columns : List Column) (out : List (List ℕ)) (states : List GridState) → AllZip (IsStateOf grid slack) out states
    → All (λ s. first_stranded_node s columns grid.nodes ≡ None) states → (k : ℕ) (outage : List ℕ) → slice_get out k ≡ Some outage → (n : ℕ) → IsSplit grid slack outage columns n → ⊥
none_split grid slack columns out states zip none k outage e =
    let found = state_at grid slack out states zip k outage e in
    not_split grid slack outage columns found.0 found.2 (all_at (λ (s : GridState). first_stranded_node s columns grid.nodes ≡ None) states k found.0 none found.1)

-- ---- One refusal

module _ (grid : Grid) (slack : ℕ) (columns : List Column) (out : List (List ℕ)) where
  same_outage : (k k' : ℕ) (outage outage' : List ℕ) → k ≡ k' → slice_get out k ≡ Some outage → slice_get out k' ≡ Some outage' → outage ≡ outage'
  same_outage k k' outage outage' same e e' = same_Some outage outage' (sym e ∙ ap (slice_get out) same ∙ e')

  -- of two split states that are first, neither stands before the other
  not_before : (state node state' node' : ℕ) → IsFirstSplit grid slack columns out state node → IsFirstSplit grid slack columns out state' node' → state < state' → ⊥
  not_before state node state' node' h h' lt = h'.before state h.outage lt h.here node h.split

  first_split_once : (state node state' node' : ℕ) → IsFirstSplit grid slack columns out state node → IsFirstSplit grid slack columns out state' node' → (state ≡ state') × (node ≡ node')
  first_split_once state node state' node' h h' =
      elim (cases_order state state') [
        | inl same ↦
            let outages = same_outage state state' h.outage h'.outage same h.here h'.here in
            (same, split_unique grid slack h'.outage columns node node' (subst (λ (o : List ℕ). IsSplit grid slack o columns node) outages h.split) h'.split)
        | inr apart ↦ elim apart [ inl lower ↦ absurd (not_before state node state' node' h h' lower) | inr higher ↦ absurd (not_before state' node' state node h' h higher) ]
      ]

  first_stranded_once : (state state' : ℕ) (code code' : List ℕ) → IsFirstStranded grid slack columns out state code → IsFirstStranded grid slack columns out state' code' → (state ≡ state') × (code ≡ code')
  first_stranded_once state state' code code' h h' =
      let once = first_split_once state h.node state' h'.node h.split h'.split in
      (once.0, h.code_is ∙ ap (code_at grid) once.1 ∙ sym h'.code_is)

  not_outside_before : (state state' : ℕ) → IsFirstOutOfRange grid slack columns out state → IsFirstOutOfRange grid slack columns out state' → state < state' → ⊥
  not_outside_before state state' h h' lt = h.outside (h'.before state h.outage h.s lt h.here h.of_grid)

  first_out_of_range_once : (state state' : ℕ) → IsFirstOutOfRange grid slack columns out state → IsFirstOutOfRange grid slack columns out state' → state ≡ state'
  first_out_of_range_once state state' h h' =
      elim (cases_order state state') [
        | inl same ↦ same
        | inr apart ↦ elim apart [ inl lower ↦ absurd (not_outside_before state state' h h' lower) | inr higher ↦ absurd (not_outside_before state' state h' h higher) ]
      ]

  not_both : (state node state' : ℕ) → IsFirstSplit grid slack columns out state node → IsFirstOutOfRange grid slack columns out state' → ⊥
  not_both state node state' h h' = h'.unsplit state h.outage h.here node h.split

no_slack : (o : Option ℕ) (slack : ℕ) → o ≡ None → o ≡ Some slack → ⊥
no_slack o slack none some = none-some slack (sym none ∙ some)

-- Of two refusals both are the same, or one is want of memory.
pub refused_once : (grid : Grid) (crac : Crac) (named : Option ℕ) (columns : List Column) (e e' : InputsError) → IsRefused grid crac named columns e → IsRefused grid crac named columns e' → (e ≡ e') ⊎ (IsMemory e ⊎ IsMemory e')
refused_once grid crac named columns (Memory d) e' h h' = inr (inl tt)
refused_once grid crac named columns NoSlack (Memory d) h h' = inr (inr tt)
refused_once grid crac named columns NoSlack NoSlack h h' = inl refl
refused_once grid crac named columns NoSlack (SplitGrid state code) h h' = absurd (no_slack _ _ h h'.1)
refused_once grid crac named columns NoSlack (RangeExceeded state) h h' = absurd (no_slack _ _ h h'.1)
refused_once grid crac named columns (SplitGrid state code) (Memory d) h h' = inr (inr tt)
refused_once grid crac named columns (SplitGrid state code) NoSlack h h' = absurd (no_slack _ _ h' h.1)
refused_once grid crac named columns (SplitGrid state code) (SplitGrid state' code') h h' =
    let slacks = same_Some h'.0 h.0 (sym h'.1 ∙ h.1) in
    let once = first_stranded_once grid h.0 columns (out_of crac) state state' code code' h.2 (subst (λ (slack : ℕ). IsFirstStranded grid slack columns (out_of crac) state' code') slacks h'.2) in
    inl (cc)
refused_once grid crac named columns (SplitGrid state code) (RangeExceeded state') h h' =
    let slacks = same_Some h'.0 h.0 (sym h'.1 ∙ h.1) in
    absurd (not_both grid h.0 columns (out_of crac) state h.2.node state' h.2.split (subst (λ (slack : ℕ). IsFirstOutOfRange grid slack columns (out_of crac) state') slacks h'.2))
refused_once grid crac named columns (RangeExceeded state) (Memory d) h h' = inr (inr tt)
refused_once grid crac named columns (RangeExceeded state) NoSlack h h' = absurd (no_slack _ _ h' h.1)
refused_once grid crac named columns (RangeExceeded state) (SplitGrid state' code') h h' =
    let slacks = same_Some h'.0 h.0 (sym h'.1 ∙ h.1) in
    absurd (not_both grid h.0 columns (out_of crac) state' h'.2.node state (subst (λ (slack : ℕ). IsFirstSplit grid slack columns (out_of crac) state' h'.2.node) slacks h'.2.split) h.2)
refused_once grid crac named columns (RangeExceeded state) (RangeExceeded state') h h' =
    let slacks = same_Some h'.0 h.0 (sym h'.1 ∙ h.1) in
    inl (ap RangeExceeded (first_out_of_range_once grid h.0 columns (out_of crac) state state' h.2 (subst (λ (slack : ℕ). IsFirstOutOfRange grid slack columns (out_of crac) state') slacks h'.2)))

-- ---- No refusal of whole inputs

module _ (grid : Grid) (slack : ℕ) (columns : List Column) (out : List (List ℕ)) (states : List GridState) (are : AreStates grid slack columns out states) where
  not_first_split : (state node : ℕ) → IsFirstSplit grid slack columns out state node → ⊥
  not_first_split state node h = none_split grid slack columns out states are.of_grid are.unsplit state h.outage h.here node h.split

  not_first_out_of_range : (state : ℕ) → IsFirstOutOfRange grid slack columns out state → ⊥
  not_first_out_of_range state h =
      let found = state_at grid slack out states are.of_grid state h.outage h.here in
      h.outside (subst (IsInRange grid) (state_unique grid slack h.outage found.0 h.s found.2 h.of_grid) (all_at (IsInRange grid) states state found.0 are.in_range found.1))

whole_states : (inputs : Inputs) (whole : IsWhole inputs) (slack : ℕ) → slack_node_of inputs.grid.nodes inputs.settings.slack ≡ Some slack
    → AreStates inputs.grid slack inputs.keys.columns (out_of inputs.crac) inputs.states
whole_states inputs whole slack e =
    subst (λ (k : ℕ). AreStates inputs.grid k inputs.keys.columns (out_of inputs.crac) inputs.states) (same_Some whole.slack slack (sym whole.slack_node ∙ e))
    (subst (λ (ks : List ℕ). AreStates inputs.grid whole.slack inputs.keys.columns (out_by_state inputs.crac ks) inputs.states) whole.outages whole.states)

-- Where inputs are whole, nothing but want of memory is a refusal.
pub refused_not_whole : (inputs : Inputs) → IsWhole inputs → (e : InputsError) → IsRefused inputs.grid inputs.crac inputs.settings.slack inputs.keys.columns e → IsMemory e
refused_not_whole inputs whole NoSlack h = absurd (no_slack _ _ h whole.slack_node)
refused_not_whole inputs whole (SplitGrid state code) h =
    absurd (not_first_split inputs.grid h.0 inputs.keys.columns (out_of inputs.crac) inputs.states (whole_states inputs whole h.0 h.1) state h.2.node h.2.split)
refused_not_whole inputs whole (RangeExceeded state) h =
    absurd (not_first_out_of_range inputs.grid h.0 inputs.keys.columns (out_of inputs.crac) inputs.states (whole_states inputs whole h.0 h.1) state h.2)
refused_not_whole inputs whole (Memory e) h = tt
