-- States one by one: none is split so far, or one is the first that is; and the first that is outside the range rule.
use Rattle.std.proofs.Common.{◌≡◌, ℕ, zero, suc, ◌+◌, ◌<◌, ◌≤◌, List, [], ◌∷◌, ◌++◌, length, map, take, get_or, Option, Some, None, All, slice_get, inl, inr, arith, refl, sym, ap, subst, ◌∙◌}
use Rattle.std.specs.List.{AllZip}
use Rattle.std.specs.Option.{option_map_or}
use Rattle.std.proofs.lemmas.List.{take_more, length-take, get_or-take, take_all}
use Rattle.std.proofs.lemmas.List.Elements.{All-nil, All-push, All-more}
use Rattle.std.proofs.lemmas.Option.{slice_get-get_or, slice_get_within, get_or_from_slice_get}
use Rattle.std.proofs.lemmas.Slice.Zip.{all_zipped_more}
use Rattle.fb_types.specs.declared.crac.Contingency.{Contingency}
use Rattle.fb_types.specs.declared.crac.Crac.{Crac}
use Rattle.fb_types.specs.declared.grid.Grid.{Grid}
use Rattle.fb_types.specs.declared.keys.Column.{Column}
use Rattle.grid_state.specs.GridState.{GridState}
use Rattle.grid_state.specs.Split.{first_stranded_node, IsSplit, IsCaused}
use Rattle.grid_state.specs.States.{IsStateOf}
use Rattle.grid_state.specs.declared.state_fault.StateFault.{StateFault}
use Rattle.grid_state.specs.declared.state_fault.StateFault.TheVariants as faults
use Rattle.grid_laplacian.specs.Ranges.{IsInRange}
use Rattle.fb_certificate.specs.CracRows.{branches_out}
use Rattle.fb_certificate.specs.Whole.{IsCracOver}
use Rattle.run_inputs.specs.Building.{out_in, AreUnsplit, IsToldAt, IsSplitAt, IsFirstOutside}
use Rattle.run_inputs.specs.RefusalLaws.{all_at, none_split}
use Rattle.run_inputs.specs.Refusals.{IsFirstSplit, IsMemory}
use Rattle.run_inputs.specs.declared.fault.InputsError.{InputsError}
use Rattle.run_inputs.specs.declared.fault.InputsError.TheVariants.{NoSlack, SplitGrid, RangeExceeded, Memory}

taken_at : {A : Type 0} (xs : List A) (i k : ℕ) (x : A) → k < i → slice_get xs k ≡ Some x → slice_get (take i xs) k ≡ Some x
taken_at xs i k x lt e =
    let within = slice_get_within xs k x e in
    let size = length-take i xs in
    slice_get-get_or (take i xs) k x (omega arith) ∙ ap Some (get_or-take i xs k x lt ∙ get_or_from_slice_get xs k x x e)

-- ---- The branches that are out in a state are branches of the grid

branches_below : (n : ℕ) (contingencies : List Contingency) (k : ℕ) → All (λ c. All (λ j. j < n) c.branches) contingencies → All (λ j. j < n) (branches_out contingencies k)
branches_below n contingencies k all = of_some (slice_get contingencies k) (λ c e. all_at (λ (d : Contingency). All (λ j. j < n) d.branches) contingencies k c all e)
  where
    of_some : (o : Option Contingency) → ((c : Contingency) → o ≡ Some c → All (λ j. j < n) c.branches) → All (λ j. j < n) (option_map_or (λ c. c.branches) o [])
    of_some None gives = All-nil (λ j. j < n)
    of_some (Some c) gives = gives c refl

mapped_below : (n : ℕ) (contingencies : List Contingency) (outages : List ℕ) (i : ℕ) → All (λ c. All (λ j. j < n) c.branches) contingencies
    → All (λ j. j < n) (get_or (map (branches_out contingencies) outages) i [])
mapped_below n contingencies [] i all = All-nil (λ j. j < n)
mapped_below n contingencies (k ∷ ks) zero all = branches_below n contingencies k all
mapped_below n contingencies (k ∷ ks) (suc i) all = mapped_below n contingencies ks i all

pub out_below : (n : ℕ) (crac : Crac) (outages : List ℕ) (i : ℕ) → IsCracOver n crac → All (λ j. j < n) (out_in crac outages i)
out_below n crac outages zero is = All-nil (λ j. j < n)
out_below n crac outages (suc i) is = mapped_below n crac.contingencies outages i is.outages

-- ---- States one by one

module _ (grid : Grid) (slack : ℕ) (columns : List Column) where
  pub unsplit-more : (out : List (List ℕ)) (i : ℕ) (states : List GridState) (s : GridState) → i < length out → AreUnsplit grid slack columns (take i out) states → IsStateOf grid slack (get_or out i []) s
      → first_stranded_node s columns grid.nodes ≡ None → AreUnsplit grid slack columns (take (i + 1) out) (states ++ s ∷ [])
  unsplit-more out i states s lt so_far is none = record {
    of_grid = subst (λ (os : List (List ℕ)). AllZip (IsStateOf grid slack) os (states ++ s ∷ [])) (sym (take_more out i [] lt)) (all_zipped_more (IsStateOf grid slack) (take i out) states (get_or out i []) s so_far.of_grid is);
    unsplit = All-push (λ (t : GridState). first_stranded_node t columns grid.nodes ≡ None) states s so_far.unsplit none;
  }

  pub split-first : (out : List (List ℕ)) (i : ℕ) (states : List GridState) (node : ℕ) → i < length out → AreUnsplit grid slack columns (take i out) states → IsSplit grid slack (get_or out i []) columns node
      → IsFirstSplit grid slack columns out i node
  split-first out i states node lt so_far split = record {
    outage = get_or out i [];
    here = slice_get-get_or out i [] lt;
    split = split;
    before = λ k earlier below e n. none_split grid slack columns (take i out) states so_far.of_grid so_far.unsplit k earlier (taken_at out i k earlier below e) n;
  }

  memory_is : (out : List (List ℕ)) (error : InputsError) → IsMemory error → IsSplitAt grid slack columns out error
  memory_is out NoSlack m = absurd m
  memory_is out (SplitGrid state code) m = absurd m
  memory_is out (RangeExceeded state) m = absurd m
  memory_is out (Memory e) m = tt

  -- a refused state is the first that is split, or memory is wanting
  pub refusal_is : (out : List (List ℕ)) (i : ℕ) (states : List GridState) (fault : StateFault) (error : InputsError) → i < length out → AreUnsplit grid slack columns (take i out) states
      → IsCaused grid slack (get_or out i []) columns fault → IsToldAt grid i fault error → IsSplitAt grid slack columns out error
  refusal_is out i states (faults.SplitGrid node) error lt so_far cause (inl told) =
      subst (IsSplitAt grid slack columns out) (sym told) (record { node = node; split = split-first out i states node lt so_far cause; code_is = refl })
  refusal_is out i states (faults.SplitGrid node) error lt so_far cause (inr memory) = memory_is out error memory
  refusal_is out i states (faults.Memory e) error lt so_far cause told = subst (IsSplitAt grid slack columns out) (sym told) tt

module _ (grid : Grid) (states : List GridState) where
  pub in_range-more : (i : ℕ) (s : GridState) → i < length states → s ≡ get_or states i s → IsInRange grid s → All (IsInRange grid) (take i states) → All (IsInRange grid) (take (i + 1) states)
  in_range-more i s lt is within so_far = All-more (IsInRange grid) states i s lt so_far (subst (IsInRange grid) is within)

  pub in_range-all : (i : ℕ) → length states ≤ i → All (IsInRange grid) (take i states) → All (IsInRange grid) states
  in_range-all i le all = subst (All (IsInRange grid)) (take_all i states le) all

  pub outside-first : (i : ℕ) (s : GridState) → i < length states → s ≡ get_or states i s → (IsInRange grid s → ⊥) → All (IsInRange grid) (take i states) → IsFirstOutside grid states i
  outside-first i s lt is outside so_far = record {
    s = s;
    here = slice_get-get_or states i s lt ∙ ap Some (sym is);
    outside = outside;
    before = λ k t below e. all_at (IsInRange grid) (take i states) k t so_far (taken_at states i k t below e);
  }
