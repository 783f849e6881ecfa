-- No step of a command refuses with usage.
use Rattle.std.proofs.Common.{◌≡◌, ◌⊎◌, ℕ, List, inl, inr, subst}
use Rattle.std.specs.Prelude.{Err}
use Rattle.serde_json.specs.Data.{Data}
use Rattle.fb_types.specs.declared.crac.Crac.{Crac}
use Rattle.fb_types.specs.declared.grid.Grid.{Grid}
use Rattle.run_settings.specs.declared.model.Settings.{Settings}
use Rattle.case_maker.specs.declared.Case.{Case}
use Rattle.run_inputs.specs.declared.InputsError.{InputsError}
use Rattle.run_inputs.specs.declared.InputsError.TheVariants as refusal
use Rattle.fbcc_core.specs.Commands.{fault_of, puts_together, domain_inputs, domain_work, check_work, selftest_work, work_of}
use Rattle.fbcc_core.specs.Reading.{fetched, reads_grid, reads_tree, reads_crac, reads_settings, reads_keys, reads_reductions, reads_rows, reads_certificate, grid_read, tree_read, crac_read, settings_read, keys_read, reductions_read, certificate_read, run_documents, case_documents}
use Rattle.fbcc_core.specs.Seen.{ShelfSeen}
use Rattle.fbcc_core.specs.Steps.{Step, step, after, IsMemory}
use Rattle.fbcc_core.specs.Words.{Names}
use Rattle.fbcc_core.specs.declared.answer.Document.{Document}
use Rattle.fbcc_core.specs.declared.answer.Document.TheVariants as document
use Rattle.fbcc_core.specs.declared.answer.Fault.{Fault}
use Rattle.fbcc_core.specs.declared.answer.Fault.TheVariants.{Usage}
use Rattle.fbcc_core.specs.declared.documents.RunDocuments.{RunDocuments}
use Rattle.fbcc_core.specs.declared.paper.Paper.{Paper}
use Rattle.fbcc_core.specs.declared.paper.Paper.TheVariants.{Table, Evidence, Report}
use Rattle.fbcc_core.specs.declared.request.Command.{Command}
use Rattle.fbcc_core.specs.declared.request.Command.TheVariants as command

no_memory : IsMemory Usage → ⊥
no_memory m = let e = m.1 in cc

IsTold : {A : Type 0} → Step A → Type 0
IsTold s = s (Err Usage) → ⊥

step_told : {A : Type 0} (takes : A → Type 0) (refuses : Fault → Type 0) → (refuses Usage → ⊥) → IsTold (step takes refuses)
unfolding IsTold
step_told takes refuses apart (inl h) = apart h
step_told takes refuses apart (inr m) = no_memory m

after_told : {A B : Type 0} (first : Step A) (next : A → Step B) → IsTold first → ((a : A) → IsTold (next a)) → IsTold (after first next)
unfolding IsTold
after_told first next f n (inl h) = f h
after_told first next f n (inr h) = n h.0 h.2

fault_told : (e : InputsError) → Usage ≡ fault_of e → ⊥
fault_told refusal.NoSlack e = cc
fault_told (refusal.SplitGrid state node) e = cc
fault_told (refusal.RangeExceeded state) e = cc
fault_told (refusal.Memory m) e = cc

tree_told : (d : Document) (bytes : List ℕ) → IsTold (reads_tree d bytes)
tree_told d bytes = step_told _ _ (λ h. let e = h.0 in cc)

reads_grid_told : (bytes : List ℕ) → IsTold (reads_grid bytes)
reads_grid_told bytes = step_told _ _ (λ h. let e = h.2 in cc)

reads_crac_told : (grid : Grid) (tree : Data) → IsTold (reads_crac grid tree)
reads_crac_told grid tree = step_told _ _ (λ h. let e = h.2 in cc)

reads_settings_told : (grid : Grid) (tree : Data) → IsTold (reads_settings grid tree)
reads_settings_told grid tree = step_told _ _ (λ h. let e = h.2 in cc)

reads_keys_told : (grid : Grid) (settings : Settings) (tree : Data) → IsTold (reads_keys grid settings tree)
reads_keys_told grid settings tree = step_told _ _ (λ h. let e = h.2 in cc)

reads_reductions_told : (crac : Crac) (bytes : List ℕ) → IsTold (reads_reductions crac bytes)
reads_reductions_told crac bytes = step_told _ _ (λ h. let e = h.2 in cc)

reads_rows_told : (bytes : List ℕ) → IsTold (reads_rows bytes)
reads_rows_told bytes = step_told _ _ (λ h. let e = h.1 in cc)

reads_certificate_told : (bytes : List ℕ) → IsTold (reads_certificate bytes)
reads_certificate_told bytes = step_told _ _ (λ h. let e = h.1 in cc)

puts_told : (d : RunDocuments) → IsTold (puts_together d)
puts_told d = step_told _ _ (λ h. fault_told h.0 h.2)

case_told : (case : Case) → IsTold (case_documents case)
case_told case =
    after_told _ _ (reads_grid_told case.grid) (λ grid.
    after_told _ _ (after_told _ _ (tree_told document.Crac case.crac) (reads_crac_told grid)) (λ crac.
    after_told _ _ (after_told _ _ (tree_told document.Settings case.settings) (reads_settings_told grid)) (λ settings.
    after_told _ _ (after_told _ _ (tree_told document.Glsk case.glsk) (reads_keys_told grid settings)) (λ keys.
    step_told _ _ (λ h. h)))))

selftest_told : (number nodes : ℕ) → IsTold (selftest_work number nodes)
selftest_told number nodes =
    after_told _ _ (after_told _ _ (step_told _ _ (λ h. h)) (λ case. after_told _ _ (case_told case) puts_told)) (λ inputs. step_told _ _ (λ h. h))

module _ (names : Names) (shelf : ShelfSeen) where
  fetched_told : (d : Document) → IsTold (fetched names shelf d)
  fetched_told d = step_told _ _ (λ h. elim h [ inl u ↦ absurd (let e = u.is in cc) | inr l ↦ absurd (let e = l.is in cc) ])

  read_tree_told : (d : Document) → IsTold (tree_read names shelf d)
  read_tree_told d = after_told _ _ (fetched_told d) (λ bytes. tree_told d bytes)

  grid_told : IsTold (grid_read names shelf)
  grid_told = after_told _ _ (fetched_told document.Grid) reads_grid_told

  crac_told : (grid : Grid) → IsTold (crac_read names shelf grid)
  crac_told grid = after_told _ _ (read_tree_told document.Crac) (reads_crac_told grid)

  settings_told : (grid : Grid) → IsTold (settings_read names shelf grid)
  settings_told grid = after_told _ _ (read_tree_told document.Settings) (reads_settings_told grid)

  keys_told : (grid : Grid) (settings : Settings) → IsTold (keys_read names shelf grid settings)
  keys_told grid settings = after_told _ _ (read_tree_told document.Glsk) (reads_keys_told grid settings)

  fetched_reductions_told : (crac : Crac) → IsTold (after (fetched names shelf document.Reductions) (reads_reductions crac))
  fetched_reductions_told crac = after_told _ _ (fetched_told document.Reductions) (reads_reductions_told crac)

  reductions_told : (crac : Crac) → IsTold (reductions_read names shelf crac)
  unfolding IsTold
  reductions_told crac (inl h) = absurd (let e = h.1 in cc)
  reductions_told crac (inr h) = fetched_reductions_told crac h

  certificate_told : IsTold (certificate_read names shelf)
  certificate_told = after_told _ _ (fetched_told document.Certificate) reads_certificate_told

  documents_told : IsTold (run_documents names shelf)
  documents_told =
      after_told _ _ grid_told (λ grid.
      after_told _ _ (crac_told grid) (λ crac.
      after_told _ _ (settings_told grid) (λ settings.
      after_told _ _ (keys_told grid settings) (λ keys.
      after_told _ _ (reductions_told crac) (λ reductions.
      step_told _ _ (λ h. h))))))

  inputs_told : IsTold (domain_inputs names shelf)
  inputs_told = after_told _ _ documents_told puts_told

  domain_told : (paper : Paper) → IsTold (domain_work paper names shelf)
  domain_told paper = after_told _ _ inputs_told (λ inputs. step_told _ _ (λ h. h))

  check_told : IsTold (check_work names shelf)
  check_told =
      after_told _ _ documents_told (λ d.
      after_told _ _ certificate_told (λ file.
      after_told _ _ (puts_told d) (λ inputs. step_told _ _ (λ h. h))))

  told : (c : Command) → IsTold (work_of names shelf c)
  told command.Rows = after_told _ _ (after_told _ _ (fetched_told document.Rows) reads_rows_told) (λ d. step_told _ _ (λ h. h))
  told command.Net = after_told _ _ grid_told (λ grid. step_told _ _ (λ h. h))
  told command.Domain = domain_told Table
  told command.Certify = domain_told Evidence
  told command.Check = check_told
  told command.Report = domain_told Report
  told (command.Selftest case nodes) = selftest_told case nodes

pub work_told : (names : Names) (shelf : ShelfSeen) (c : Command) (fault : Fault) → fault ≡ Usage → work_of names shelf c (Err fault) → ⊥
unfolding IsTold
work_told names shelf c fault e h = told names shelf c (subst (λ (f : Fault). work_of names shelf c (Err f)) e h)
