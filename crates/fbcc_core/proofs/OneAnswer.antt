-- Of the results to which the steps come where the shelf tells its documents and does not fail, no two differ.
use Rattle.std.proofs.Common.{◌≡◌, ◌⊎◌, ℕ, ◌<◌, ◌≤◌, List, length, inl, inr, refl, sym, ap, subst, ◌∙◌, arith}
use Rattle.std.specs.Prelude.{Option, Some, None, Result, Ok, Err, IsTrue}
use Rattle.std.specs.Option.{IsSomeAnd}
use Rattle.std.specs.FinMap.{get}
use Rattle.std.proofs.lemmas.Option.{same_Some}
use Rattle.serde_json.specs.Data.{Data}
use Rattle.fb_types.specs.declared.crac.Crac.{Crac}
use Rattle.fb_types.specs.declared.grid.Grid.{Grid}
use Rattle.fb_json.proofs.Trees.{same_tree}
use Rattle.first_fault.proofs.FirstFaultLaws.{IsFirstFault-same, IsFirstFault-fault}
use Rattle.ucte_reader.specs.File.{IsGridOf}
use Rattle.ucte_reader.specs.declared.kind.GridKind.{GridKind}
use Rattle.ucte_reader.specs.declared.kind.GridError.TheVariants as grid_error
use Rattle.ucte_reader.proofs.GridLaws.{fault_from}
use Rattle.crac_model.specs.Crac.{crac_of}
use Rattle.run_settings.specs.Settings.{settings_of}
use Rattle.run_settings.specs.Reductions.{row_fault, document_rows}
use Rattle.run_settings.specs.Views.{said}
use Rattle.run_settings.specs.declared.model.Settings.{Settings}
use Rattle.run_settings.specs.declared.reduction.Reduction.{Reduction}
use Rattle.run_settings.specs.declared.reduction.ReductionKind.{ReductionKind}
use Rattle.glsk_keys.specs.Columns.{keys_of}
use Rattle.glsk_keys.specs.declared.model.Keys.{Keys}
use Rattle.rows_document.specs.Table.{lines_of}
use Rattle.rows_document.specs.declared.reader.RowsDocument.{RowsDocument}
use Rattle.rows_document.proofs.ReadSoFar.{first_bad_line_same}
use Rattle.rows_document.proofs.Drafted.{reading_same}
use Rattle.fb_certificate.specs.declared.types.Inputs.{Inputs}
use Rattle.run_inputs.specs.Refusals.{IsRefused}
use Rattle.run_inputs.specs.declared.InputsError.{InputsError}
use Rattle.run_inputs.specs.declared.InputsError.TheVariants as refusal
use Rattle.case_maker.specs.CaseTexts.{IsCase}
use Rattle.case_maker.specs.declared.Case.{Case}
use Rattle.certificate_reader.specs.Reading.{IsReading as IsCertificate}
use Rattle.certificate_reader.proofs.Beginnings.{first_bad_row_same}
use Rattle.csv_rows.specs.Rows.{records_in}
use Rattle.fbcc_core.specs.Causes.{answer_for}
use Rattle.fbcc_core.specs.Commands.{IsYes, IsNo, judges, rows_work, nets, net_work, AreInputs, fault_of, puts_together, domain_inputs, computes, domain_work, IsAccepted, IsRejected, checks, check_work, case_inputs, tests, selftest_work, work_of}
use Rattle.fbcc_core.specs.Reading.{IsGiven, IsUnread, IsLonger, fetched, reads_grid, reads_tree, reads_crac, reads_settings, reads_keys, reads_reductions, reads_rows, reads_certificate, grid_read, tree_read, crac_read, settings_read, keys_read, reductions_read, run_documents, certificate_read, crac_said, settings_said, keys_said, case_documents}
use Rattle.fbcc_core.specs.Seen.{ShelfSeen, ShelfFailed}
use Rattle.fbcc_core.specs.Statuses.{limit_of}
use Rattle.fbcc_core.specs.Steps.{step, after, gives, IsMemory}
use Rattle.fbcc_core.specs.Words.{Names}
use Rattle.fbcc_core.specs.declared.answer.Document.{Document}
use Rattle.fbcc_core.specs.declared.documents.CertificateFile.{CertificateFile}
use Rattle.fbcc_core.specs.declared.documents.RunDocuments.{RunDocuments}
use Rattle.fbcc_core.specs.declared.answer.Document.TheVariants as document
use Rattle.fbcc_core.specs.declared.answer.Fault.{Fault}
use Rattle.fbcc_core.specs.declared.answer.Fault.TheVariants.{GridFault, CracFault, SettingsFault, KeyFault, ReductionFault, CertificateFault}
use Rattle.fbcc_core.specs.declared.request.Command.{Command}
use Rattle.fbcc_core.specs.declared.paper.Paper.{Paper}
use Rattle.fbcc_core.specs.declared.paper.Paper.TheVariants.{Table, Evidence, Report}
use Rattle.fbcc_core.specs.declared.request.Command.TheVariants as command
use Rattle.fbcc_core.specs.declared.work.Work.{Work}
use Rattle.fbcc_core.proofs.Agreement.{Agrees, after_agrees, step_agrees, from_same}
use Rattle.fbcc_core.proofs.Chains.{past_reductions, past_keys, past_settings, past_crac, past_grid, past_file, past_documents, past_keys_said, past_settings_said, past_crac_said, past_grid_said, past_case}
use Rattle.fbcc_core.proofs.Checking.{told_of, verdict_is_one, reading_is_one}
use Rattle.fbcc_core.proofs.GridSame.{grid_same}
use Rattle.fbcc_core.proofs.SameInputs.{settings_same, inputs_same}
use Rattle.run_inputs.specs.RefusalLaws.{refused_once, refused_not_whole}
use Rattle.run_inputs.specs.Refusals.{IsMemory as LacksMemory}

abbrev pub Same : {A : Type 0} → A → A → Type 0
Same a b = a ≡ b

-- ---- What is fetched

more_of : (o : Option (List ℕ)) (bytes : List ℕ) (n : ℕ) → o ≡ Some bytes → IsSomeAnd o (λ b. n < length b) → n < length bytes
more_of None bytes n e h = absurd h
more_of (Some b) bytes n e h = subst (λ (x : List ℕ). n < length x) (same_Some b bytes e) h

module _ (names : Names) (shelf : ShelfSeen) (told : IsTrue shelf.tells) (fine : ¬ ShelfFailed shelf) where
  given_same : (d : Document) (a b : List ℕ) → IsGiven names shelf d a → IsGiven names shelf d b → a ≡ b
  given_same d a b g h =
      let same_name : g.name ≡ h.name = same_Some g.name h.name (sym g.named ∙ h.named) in
      same_Some a b (sym (g.told told) ∙ ap (get shelf.documents) same_name ∙ h.told told)

  not_longer : (d : Document) (a : List ℕ) (fault : Fault) → IsGiven names shelf d a → IsLonger names shelf d fault → ⊥
  not_longer d a fault g l =
      let same_name : l.name ≡ g.name = same_Some l.name g.name (sym l.named ∙ g.named) in
      let held : get shelf.documents l.name ≡ Some a = ap (get shelf.documents) same_name ∙ g.told told in
      let more : limit_of d < length a = more_of (get shelf.documents l.name) a (limit_of d) held (l.told told) in
      let within : length a ≤ limit_of d = g.within in
      omega arith

  not_refused : (d : Document) (a : List ℕ) (fault : Fault) → IsGiven names shelf d a → IsUnread names shelf d fault ⊎ IsLonger names shelf d fault → ⊥
  not_refused d a fault g (inl u) = fine u.failed
  not_refused d a fault g (inr l) = not_longer d a fault g l

  same_refusal : (d : Document) (f g : Fault) → IsUnread names shelf d f ⊎ IsLonger names shelf d f → IsUnread names shelf d g ⊎ IsLonger names shelf d g → f ≡ g
  same_refusal d f g (inl u) t = absurd (fine u.failed)
  same_refusal d f g (inr l) (inl u) = absurd (fine u.failed)
  same_refusal d f g (inr l) (inr m) = l.is ∙ sym m.is

  fetched_once : (d : Document) → Agrees Same (fetched names shelf d) (fetched names shelf d)
  fetched_once d = step_agrees Same (IsGiven names shelf d) (IsGiven names shelf d)
      (λ fault. IsUnread names shelf d fault ⊎ IsLonger names shelf d fault) (λ fault. IsUnread names shelf d fault ⊎ IsLonger names shelf d fault)
      (given_same d) (λ a fault g t. absurd (not_refused d a fault g t)) (λ fault b s h. absurd (not_refused d b fault h s)) (λ f g s t. inl (same_refusal d f g s t))

-- ---- What is understood

no_both : {A E : Type 0} (r : Result A E) (a : A) (e : E) → r ≡ Ok a → r ≡ Err e → ⊥
no_both r a e p q = cc

ok_same : {A E : Type 0} (r : Result A E) (a b : A) → r ≡ Ok a → r ≡ Ok b → a ≡ b
ok_same r a b p q = cc

err_same : {A E : Type 0} (r : Result A E) (d e : E) → r ≡ Err d → r ≡ Err e → d ≡ e
err_same r d e p q = cc

grids_same : (bytes : List ℕ) (g h : Grid) → IsGridOf bytes g → IsGridOf bytes h → g ≡ h
grids_same bytes g h p q = grid_same g h (p.nodes ∙ sym q.nodes) (p.branches ∙ sym q.branches)

reads_grid_once : (bytes : List ℕ) → Agrees Same (reads_grid bytes) (reads_grid bytes)
reads_grid_once bytes = step_agrees Same _ _ _ _
    (grids_same bytes)
    (λ a f g t. absurd (fault_from bytes (Ok a) g t.0 t.1 t.3))
    (λ f b s h. absurd (fault_from bytes (Ok b) h s.0 s.1 s.3))
    (λ f g s t. let e = fault_from bytes (Err (grid_error.Fault s.0 s.1)) s.3 t.0 t.1 t.3 in
    inl (s.2 ∙ ap (λ (n : ℕ). GridFault n s.1) e.0 ∙ ap (λ (k : GridKind). GridFault t.0 k) e.1 ∙ sym t.2))

reads_tree_once : (d : Document) (bytes : List ℕ) → Agrees Same (reads_tree d bytes) (reads_tree d bytes)
reads_tree_once d bytes = step_agrees Same _ _ _ _
    (same_tree bytes)
    (λ a f h t. absurd (t.1 a h))
    (λ f b s h. absurd (s.1 b h))
    (λ f g s t. inl (s.0 ∙ sym t.0))

reads_crac_once : (grid : Grid) (tree : Data) → Agrees Same (reads_crac grid tree) (reads_crac grid tree)
reads_crac_once grid tree =
    let read = crac_of grid.nodes grid.branches tree in
    step_agrees Same _ _ _ _
    (λ a b s t. ok_same read a b s t)
    (λ a f s t. absurd (no_both read a _ s t.3))
    (λ f b s t. absurd (no_both read b _ t s.3))
    (λ f g s t. inl (s.2 ∙ ap (λ e. CracFault e.place e.kind) (err_same read (record { place = s.0; kind = s.1 }) (record { place = t.0; kind = t.1 }) s.3 t.3) ∙ sym t.2))

reads_settings_once : (grid : Grid) (tree : Data) → Agrees Same (reads_settings grid tree) (reads_settings grid tree)
reads_settings_once grid tree =
    let read = settings_of grid.nodes tree in
    step_agrees Same _ _ _ _
    (λ a b s t. settings_same a b (ok_same read (said a) (said b) s t))
    (λ a f s t. absurd (no_both read (said a) _ s t.3))
    (λ f b s t. absurd (no_both read (said b) _ t s.3))
    (λ f g s t. inl (s.2 ∙ ap (λ e. SettingsFault e.place e.kind) (err_same read (record { place = s.0; kind = s.1 }) (record { place = t.0; kind = t.1 }) s.3 t.3) ∙ sym t.2))

reads_keys_once : (grid : Grid) (settings : Settings) (tree : Data) → Agrees Same (reads_keys grid settings tree) (reads_keys grid settings tree)
reads_keys_once grid settings tree =
    let read = keys_of grid.nodes settings.zones settings.moment.nanosecond tree in
    step_agrees Same _ _ _ _
    (λ a b s t. ok_same read a b s t)
    (λ a f s t. absurd (no_both read a _ s t.3))
    (λ f b s t. absurd (no_both read b _ t s.3))
    (λ f g s t. inl (s.2 ∙ ap (λ e. KeyFault e.place e.kind) (err_same read (record { place = s.0; kind = s.1 }) (record { place = t.0; kind = t.1 }) s.3 t.3) ∙ sym t.2))

reads_reductions_once : (crac : Crac) (bytes : List ℕ) → Agrees Same (reads_reductions crac bytes) (reads_reductions crac bytes)
reads_reductions_once crac bytes =
    let judge = row_fault crac.elements in
    let rows = document_rows bytes in
    step_agrees Same _ _ _ _
    (λ a b s t. s.1 ∙ sym t.1)
    (λ a f s t. absurd (IsFirstFault-fault judge rows t.0 t.1 t.3 s.0))
    (λ f b s t. absurd (IsFirstFault-fault judge rows s.0 s.1 s.3 t.0))
    (λ f g s t. let e = IsFirstFault-same judge rows s.0 t.0 s.1 t.1 s.3 t.3 in
    inl (s.2 ∙ ap (λ (n : ℕ). ReductionFault n s.1) e.0 ∙ ap (λ (k : ReductionKind). ReductionFault t.0 k) e.1 ∙ sym t.2))

files_same : (bytes : List ℕ) (a b : CertificateFile) → (a.bytes ≡ bytes) × IsCertificate bytes a.certificate → (b.bytes ≡ bytes) × IsCertificate bytes b.certificate → a ≡ b
files_same bytes a b s t = λ k. record {
  bytes = (s.0 ∙ sym t.0) k;
  certificate = reading_is_one (records_in bytes) a.certificate b.certificate s.1 t.1 k;
}

reads_certificate_once : (bytes : List ℕ) → Agrees Same (reads_certificate bytes) (reads_certificate bytes)
reads_certificate_once bytes = step_agrees Same _ _ _ _
    (files_same bytes)
    (λ a f s t. absurd (t.2.unread a.certificate s.1))
    (λ f b s t. absurd (s.2.unread b.certificate t.1))
    (λ f g s t. inl (s.1 ∙ ap (λ (n : ℕ). CertificateFault n) (first_bad_row_same (records_in bytes) s.0 t.0 s.2 t.2) ∙ sym t.1))

reads_rows_once : (bytes : List ℕ) → Agrees Same (reads_rows bytes) (reads_rows bytes)
reads_rows_once bytes = step_agrees Same _ _ _ _
    (reading_same bytes)
    (λ a f s t. absurd (t.2.unread a s))
    (λ f b s t. absurd (s.2.unread b t))
    (λ f g s t. inl (s.1 ∙ ap (λ (n : ℕ). CertificateFault n) (first_bad_line_same (lines_of bytes) s.0 t.0 s.2 t.2) ∙ sym t.1))

-- ---- What is judged

-- works with the same verdict
abbrev pub JudgeSame : Work → Work → Type 0
JudgeSame v w = v.verdict ≡ w.verdict

judged_same : (d : RowsDocument) (v w : Work) → IsYes d v ⊎ IsNo d v → IsYes d w ⊎ IsNo d w → v.verdict ≡ w.verdict
judged_same d v w (inl y) (inl z) = y.verdict ∙ sym z.verdict
judged_same d v w (inl y) (inr n) = absurd (n.fails y.proves)
judged_same d v w (inr n) (inl y) = absurd (n.fails y.proves)
judged_same d v w (inr m) (inr n) = m.verdict ∙ sym n.verdict

judges_once : (d : RowsDocument) → Agrees JudgeSame (judges d) (judges d)
judges_once d = step_agrees JudgeSame _ _ _ _ (judged_same d) (λ a f s t. absurd t) (λ f b s t. absurd s) (λ f g s t. absurd s)

nets_once : (grid : Grid) → Agrees JudgeSame (nets grid) (nets grid)
nets_once grid = step_agrees JudgeSame _ _ _ _ (λ v w s t. s.verdict ∙ sym t.verdict) (λ a f s t. absurd t) (λ f b s t. absurd s) (λ f g s t. absurd s)

computes_once : (paper : Paper) (inputs : Inputs) → Agrees JudgeSame (computes paper inputs) (computes paper inputs)
computes_once paper inputs = step_agrees JudgeSame _ _ _ _ (λ v w s t. s.verdict ∙ sym t.verdict) (λ a f s t. absurd t) (λ f b s t. absurd s) (λ f g s t. absurd s)

-- works that say the same of a file
checked_same : (inputs : Inputs) (file : CertificateFile) (v w : Work) → IsAccepted inputs file v ⊎ IsRejected inputs file v → IsAccepted inputs file w ⊎ IsRejected inputs file w → v.verdict ≡ w.verdict
checked_same inputs file v w s t =
    let a = told_of inputs file v s in
    let b = told_of inputs file w t in
    a.told ∙ ap answer_for (verdict_is_one inputs file.bytes file.certificate a.verdict b.verdict a.is b.is) ∙ sym b.told

checks_once : (inputs : Inputs) (file : CertificateFile) → Agrees JudgeSame (checks inputs file) (checks inputs file)
checks_once inputs file = step_agrees JudgeSame _ _ _ _ (checked_same inputs file) (λ a f s t. absurd t) (λ f b s t. absurd s) (λ f g s t. absurd s)

-- ---- Grid states

memory_told : (e : InputsError) → LacksMemory e → IsMemory (fault_of e)
memory_told refusal.NoSlack m = absurd m
memory_told (refusal.SplitGrid state node) m = absurd m
memory_told (refusal.RangeExceeded state) m = absurd m
memory_told (refusal.Memory e) m = (e, refl)

module _ (d : RunDocuments) where
  -- where there are inputs, only want of memory is a refusal
  whole_memory : (inputs : Inputs) (f : Fault) → AreInputs d inputs → (x : InputsError) → IsRefused d.grid d.crac d.settings.slack d.keys.columns x → f ≡ fault_of x → IsMemory f
  whole_memory inputs f are x refused is =
      let here : IsRefused inputs.grid inputs.crac inputs.settings.slack inputs.keys.columns x =
      subst (λ (g : Grid). IsRefused g inputs.crac inputs.settings.slack inputs.keys.columns x) (sym are.grid_is)
      (subst (λ (c : Crac). IsRefused d.grid c inputs.settings.slack inputs.keys.columns x) (sym are.crac_is)
      (subst (λ (s : Settings). IsRefused d.grid d.crac s.slack inputs.keys.columns x) (sym are.settings_are)
      (subst (λ (k : Keys). IsRefused d.grid d.crac d.settings.slack k.columns x) (sym are.keys_are) refused))) in
      subst IsMemory (sym is) (memory_told x (refused_not_whole inputs are.whole x here))

  told_once : (x y : InputsError) → (x ≡ y) ⊎ (LacksMemory x ⊎ LacksMemory y) → (f g : Fault) → f ≡ fault_of x → g ≡ fault_of y → (f ≡ g) ⊎ (IsMemory f ⊎ IsMemory g)
  told_once x y (inl same) f g p q = inl (p ∙ ap fault_of same ∙ sym q)
  told_once x y (inr (inl m)) f g p q = inr (inl (subst IsMemory (sym p) (memory_told x m)))
  told_once x y (inr (inr m)) f g p q = inr (inr (subst IsMemory (sym q) (memory_told y m)))

  pub puts_once : Agrees Same (puts_together d) (puts_together d)
  puts_once = step_agrees Same _ _ _ _
      (λ i j a b. inputs_same d i j a b)
      (λ i f a b. whole_memory i f a b.0 b.1 b.2)
      (λ f j a b. whole_memory j f b a.0 a.1 a.2)
      (λ f g a b. told_once a.0 b.0 (refused_once d.grid d.crac d.settings.slack d.keys.columns a.0 b.0 a.1 b.1) f g a.2 b.2)

gives_once : {A : Type 0} (a : A) → Agrees Same (gives a) (gives a)
gives_once {A} a = step_agrees Same _ _ _ _ (λ b c s t. s ∙ sym t) (λ b f s t. absurd t) (λ f b s t. absurd s) (λ f g s t. absurd s)

-- ---- A generated case

cases_same : (number nodes : ℕ) (a b : Case) → IsCase number nodes a → IsCase number nodes b → a ≡ b
cases_same number nodes a b p q = λ k. record {
  grid = (p.grid ∙ sym q.grid) k;
  crac = (p.crac ∙ sym q.crac) k;
  settings = (p.settings ∙ sym q.settings) k;
  glsk = (p.glsk ∙ sym q.glsk) k;
}

making_once : (number nodes : ℕ) → Agrees Same (step (IsCase number nodes) (λ fault. ⊥)) (step (IsCase number nodes) (λ fault. ⊥))
making_once number nodes = step_agrees Same _ _ _ _ (cases_same number nodes) (λ a f s t. absurd t) (λ f b s t. absurd s) (λ f g s t. absurd s)

crac_said_once : (text : List ℕ) (grid : Grid) → Agrees Same (crac_said text grid) (crac_said text grid)
crac_said_once text grid = after_agrees Same Same (reads_tree document.Crac text) (reads_tree document.Crac text) (reads_crac grid) (reads_crac grid)
    (reads_tree_once document.Crac text) (from_same Same (reads_crac grid) (reads_crac_once grid))

settings_said_once : (text : List ℕ) (grid : Grid) → Agrees Same (settings_said text grid) (settings_said text grid)
settings_said_once text grid = after_agrees Same Same (reads_tree document.Settings text) (reads_tree document.Settings text) (reads_settings grid) (reads_settings grid)
    (reads_tree_once document.Settings text) (from_same Same (reads_settings grid) (reads_settings_once grid))

keys_said_once : (text : List ℕ) (grid : Grid) (settings : Settings) → Agrees Same (keys_said text grid settings) (keys_said text grid settings)
keys_said_once text grid settings = after_agrees Same Same (reads_tree document.Glsk text) (reads_tree document.Glsk text) (reads_keys grid settings) (reads_keys grid settings)
    (reads_tree_once document.Glsk text) (from_same Same (reads_keys grid settings) (reads_keys_once grid settings))

module _ (case : Case) where
  past_settings_said_once : (grid : Grid) (crac : Crac) (settings : Settings) → Agrees Same (past_settings_said case grid crac settings) (past_settings_said case grid crac settings)
  past_settings_said_once grid crac settings = after_agrees Same Same (keys_said case.glsk grid settings) (keys_said case.glsk grid settings) (past_keys_said case grid crac settings) (past_keys_said case grid crac settings)
      (keys_said_once case.glsk grid settings) (from_same Same (past_keys_said case grid crac settings) (λ keys. gives_once _))

  past_crac_said_once : (grid : Grid) (crac : Crac) → Agrees Same (past_crac_said case grid crac) (past_crac_said case grid crac)
  past_crac_said_once grid crac = after_agrees Same Same (settings_said case.settings grid) (settings_said case.settings grid) (past_settings_said case grid crac) (past_settings_said case grid crac)
      (settings_said_once case.settings grid) (from_same Same (past_settings_said case grid crac) (past_settings_said_once grid crac))

  past_grid_said_once : (grid : Grid) → Agrees Same (past_grid_said case grid) (past_grid_said case grid)
  past_grid_said_once grid = after_agrees Same Same (crac_said case.crac grid) (crac_said case.crac grid) (past_crac_said case grid) (past_crac_said case grid)
      (crac_said_once case.crac grid) (from_same Same (past_crac_said case grid) (past_crac_said_once grid))

  case_documents_once : Agrees Same (case_documents case) (case_documents case)
  case_documents_once = after_agrees Same Same (reads_grid case.grid) (reads_grid case.grid) (past_grid_said case) (past_grid_said case)
      (reads_grid_once case.grid) (from_same Same (past_grid_said case) past_grid_said_once)

module _ (number nodes : ℕ) where
  past_case_once : (case : Case) → Agrees Same (past_case number nodes case) (past_case number nodes case)
  past_case_once case = after_agrees Same Same (case_documents case) (case_documents case) puts_together puts_together (case_documents_once case) (from_same Same puts_together puts_once)

  case_inputs_once : Agrees Same (case_inputs number nodes) (case_inputs number nodes)
  case_inputs_once = after_agrees Same Same (step (IsCase number nodes) (λ fault. ⊥)) (step (IsCase number nodes) (λ fault. ⊥)) (past_case number nodes) (past_case number nodes)
      (making_once number nodes) (from_same Same (past_case number nodes) past_case_once)

  tests_once : (inputs : Inputs) → Agrees JudgeSame (tests number nodes inputs) (tests number nodes inputs)
  tests_once inputs = step_agrees JudgeSame _ _ _ _ (λ v w s t. s.verdict ∙ sym t.verdict) (λ a f s t. absurd t) (λ f b s t. absurd s) (λ f g s t. absurd s)

  selftest_once : Agrees JudgeSame (selftest_work number nodes) (selftest_work number nodes)
  selftest_once = after_agrees Same JudgeSame (case_inputs number nodes) (case_inputs number nodes) (tests number nodes) (tests number nodes)
      case_inputs_once (from_same JudgeSame (tests number nodes) tests_once)

-- ---- Whole commands

module _ (names : Names) (shelf : ShelfSeen) (told : IsTrue shelf.tells) (fine : ¬ ShelfFailed shelf) where
  grid_once : Agrees Same (grid_read names shelf) (grid_read names shelf)
  grid_once = after_agrees Same Same (fetched names shelf document.Grid) (fetched names shelf document.Grid) reads_grid reads_grid
      (fetched_once names shelf told fine document.Grid) (from_same Same reads_grid reads_grid_once)

  rows_once : Agrees Same (after (fetched names shelf document.Rows) reads_rows) (after (fetched names shelf document.Rows) reads_rows)
  rows_once = after_agrees Same Same (fetched names shelf document.Rows) (fetched names shelf document.Rows) reads_rows reads_rows
      (fetched_once names shelf told fine document.Rows) (from_same Same reads_rows reads_rows_once)

  tree_once : (d : Document) → Agrees Same (tree_read names shelf d) (tree_read names shelf d)
  tree_once d = after_agrees Same Same (fetched names shelf d) (fetched names shelf d) (reads_tree d) (reads_tree d)
      (fetched_once names shelf told fine d) (from_same Same (reads_tree d) (reads_tree_once d))

  crac_once : (grid : Grid) → Agrees Same (crac_read names shelf grid) (crac_read names shelf grid)
  crac_once grid = after_agrees Same Same (tree_read names shelf document.Crac) (tree_read names shelf document.Crac) (reads_crac grid) (reads_crac grid)
      (tree_once document.Crac) (from_same Same (reads_crac grid) (reads_crac_once grid))

  settings_once : (grid : Grid) → Agrees Same (settings_read names shelf grid) (settings_read names shelf grid)
  settings_once grid = after_agrees Same Same (tree_read names shelf document.Settings) (tree_read names shelf document.Settings) (reads_settings grid) (reads_settings grid)
      (tree_once document.Settings) (from_same Same (reads_settings grid) (reads_settings_once grid))

  keys_once : (grid : Grid) (settings : Settings) → Agrees Same (keys_read names shelf grid settings) (keys_read names shelf grid settings)
  keys_once grid settings = after_agrees Same Same (tree_read names shelf document.Glsk) (tree_read names shelf document.Glsk) (reads_keys grid settings) (reads_keys grid settings)
      (tree_once document.Glsk) (from_same Same (reads_keys grid settings) (reads_keys_once grid settings))

  fetched_reductions_once : (crac : Crac) → Agrees Same (after (fetched names shelf document.Reductions) (reads_reductions crac)) (after (fetched names shelf document.Reductions) (reads_reductions crac))
  fetched_reductions_once crac = after_agrees Same Same (fetched names shelf document.Reductions) (fetched names shelf document.Reductions) (reads_reductions crac) (reads_reductions crac)
      (fetched_once names shelf told fine document.Reductions) (from_same Same (reads_reductions crac) (reads_reductions_once crac))

  no_name : (name : List ℕ) → names document.Reductions ≡ None → names document.Reductions ≡ Some name → ⊥
  no_name name none some = cc

  -- a name that is not given is not fetched
  unnamed : (crac : Crac) (f : Fault) → names document.Reductions ≡ None → after (fetched names shelf document.Reductions) (reads_reductions crac) (Err f) → IsMemory f
  unnamed crac f none (inl (inl (inl u))) = absurd (no_name u.name none u.named)
  unnamed crac f none (inl (inl (inr l))) = absurd (no_name l.name none l.named)
  unnamed crac f none (inl (inr m)) = m
  unnamed crac f none (inr h) = absurd (no_name h.1.name none h.1.named)

  given_or_memory : (crac : Crac) (a : List Reduction) (g : Fault) → reductions_read names shelf crac (Ok a) → reductions_read names shelf crac (Err g) → IsMemory g
  given_or_memory crac a g s (inl t) = absurd (no_both (Err g) _ g t.1 refl)
  given_or_memory crac a g (inl s) (inr t) = unnamed crac g s.0 t
  given_or_memory crac a g (inr s) (inr t) = (fetched_reductions_once crac).given a g s t

  reductions_refused : (crac : Crac) (f g : Fault) → reductions_read names shelf crac (Err f) → reductions_read names shelf crac (Err g) → (f ≡ g) ⊎ (IsMemory f ⊎ IsMemory g)
  reductions_refused crac f g (inl s) t = absurd (no_both (Err f) _ f s.1 refl)
  reductions_refused crac f g (inr s) (inl t) = absurd (no_both (Err g) _ g t.1 refl)
  reductions_refused crac f g (inr s) (inr t) = (fetched_reductions_once crac).neither f g s t

  -- no name given twice over, or the same reductions
  given_once : (crac : Crac) (a b : List Reduction) → reductions_read names shelf crac (Ok a) → reductions_read names shelf crac (Ok b) → a ≡ b
  given_once crac a b (inl s) (inl t) = ok_same (Ok a) a b refl (s.1 ∙ sym t.1)
  given_once crac a b (inl s) (inr t) = absurd (no_name t.1.name s.0 t.1.named)
  given_once crac a b (inr s) (inl t) = absurd (no_name s.1.name t.0 s.1.named)
  given_once crac a b (inr s) (inr t) = (fetched_reductions_once crac).both a b s t

  reductions_once : (crac : Crac) → Agrees Same (reductions_read names shelf crac) (reductions_read names shelf crac)
  reductions_once crac = record {
    both = given_once crac;
    given = given_or_memory crac;
    refused = λ f b s t. given_or_memory crac b f t s;
    neither = reductions_refused crac;
  }

  past_keys_once : (grid : Grid) (crac : Crac) (settings : Settings) (keys : Keys) → Agrees Same (past_keys names shelf grid crac settings keys) (past_keys names shelf grid crac settings keys)
  past_keys_once grid crac settings keys = after_agrees Same Same (reductions_read names shelf crac) (reductions_read names shelf crac) (past_reductions names shelf grid crac settings keys) (past_reductions names shelf grid crac settings keys)
      (reductions_once crac) (from_same Same (past_reductions names shelf grid crac settings keys) (λ reductions. gives_once _))

  past_settings_once : (grid : Grid) (crac : Crac) (settings : Settings) → Agrees Same (past_settings names shelf grid crac settings) (past_settings names shelf grid crac settings)
  past_settings_once grid crac settings = after_agrees Same Same (keys_read names shelf grid settings) (keys_read names shelf grid settings) (past_keys names shelf grid crac settings) (past_keys names shelf grid crac settings)
      (keys_once grid settings) (from_same Same (past_keys names shelf grid crac settings) (past_keys_once grid crac settings))

  past_crac_once : (grid : Grid) (crac : Crac) → Agrees Same (past_crac names shelf grid crac) (past_crac names shelf grid crac)
  past_crac_once grid crac = after_agrees Same Same (settings_read names shelf grid) (settings_read names shelf grid) (past_settings names shelf grid crac) (past_settings names shelf grid crac)
      (settings_once grid) (from_same Same (past_settings names shelf grid crac) (past_settings_once grid crac))

  past_grid_once : (grid : Grid) → Agrees Same (past_grid names shelf grid) (past_grid names shelf grid)
  past_grid_once grid = after_agrees Same Same (crac_read names shelf grid) (crac_read names shelf grid) (past_crac names shelf grid) (past_crac names shelf grid)
      (crac_once grid) (from_same Same (past_crac names shelf grid) (past_crac_once grid))

  pub documents_once : Agrees Same (run_documents names shelf) (run_documents names shelf)
  documents_once = after_agrees Same Same (grid_read names shelf) (grid_read names shelf) (past_grid names shelf) (past_grid names shelf) grid_once (from_same Same (past_grid names shelf) past_grid_once)

  pub inputs_once : Agrees Same (domain_inputs names shelf) (domain_inputs names shelf)
  inputs_once = after_agrees Same Same (run_documents names shelf) (run_documents names shelf) puts_together puts_together documents_once (from_same Same puts_together puts_once)

  pub certificate_once : Agrees Same (certificate_read names shelf) (certificate_read names shelf)
  certificate_once = after_agrees Same Same (fetched names shelf document.Certificate) (fetched names shelf document.Certificate) reads_certificate reads_certificate
      (fetched_once names shelf told fine document.Certificate) (from_same Same reads_certificate reads_certificate_once)

  domain_once : (paper : Paper) → Agrees JudgeSame (domain_work paper names shelf) (domain_work paper names shelf)
  domain_once paper =
      after_agrees Same JudgeSame (domain_inputs names shelf) (domain_inputs names shelf) (computes paper) (computes paper) inputs_once (from_same JudgeSame (computes paper) (computes_once paper))

  past_file_once : (d : RunDocuments) (file : CertificateFile) → Agrees JudgeSame (past_file names shelf d file) (past_file names shelf d file)
  past_file_once d file = after_agrees Same JudgeSame (puts_together d) (puts_together d) (λ inputs. checks inputs file) (λ inputs. checks inputs file)
      (puts_once d) (from_same JudgeSame (λ inputs. checks inputs file) (λ inputs. checks_once inputs file))

  past_documents_once : (d : RunDocuments) → Agrees JudgeSame (past_documents names shelf d) (past_documents names shelf d)
  past_documents_once d = after_agrees Same JudgeSame (certificate_read names shelf) (certificate_read names shelf) (past_file names shelf d) (past_file names shelf d)
      certificate_once (from_same JudgeSame (past_file names shelf d) (past_file_once d))

  check_once : Agrees JudgeSame (check_work names shelf) (check_work names shelf)
  check_once = after_agrees Same JudgeSame (run_documents names shelf) (run_documents names shelf) (past_documents names shelf) (past_documents names shelf)
      documents_once (from_same JudgeSame (past_documents names shelf) past_documents_once)

  net_once : Agrees JudgeSame (net_work names shelf) (net_work names shelf)
  net_once = after_agrees Same JudgeSame (grid_read names shelf) (grid_read names shelf) nets nets grid_once (from_same JudgeSame nets nets_once)

  judged_once : Agrees JudgeSame (rows_work names shelf) (rows_work names shelf)
  judged_once = after_agrees Same JudgeSame (after (fetched names shelf document.Rows) reads_rows) (after (fetched names shelf document.Rows) reads_rows) judges judges
      rows_once (from_same JudgeSame judges judges_once)

  pub work_once : (c : Command) → Agrees JudgeSame (work_of names shelf c) (work_of names shelf c)
  work_once command.Rows = judged_once
  work_once command.Net = net_once
  work_once command.Domain = domain_once Table
  work_once command.Certify = domain_once Evidence
  work_once command.Check = check_once
  work_once command.Report = domain_once Report
  work_once (command.Selftest case nodes) = selftest_once case nodes
