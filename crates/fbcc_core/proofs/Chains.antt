-- Steps one after another, and steps that are seen over a part of a call.
use Rattle.std.proofs.Common.{◌≡◌, ℕ, ◌≤◌, Bool, List, [], inl, inr, refl, sym, subst, ◌∙◌, arith}
use Rattle.std.specs.Prelude.{Option, Result, Ok, Err, IsTrue}
use Rattle.serde_json.specs.Data.{Data}
use Rattle.fb_base.specs.Counts.{Rose}
use Rattle.fb_base.specs.CountLaws.{Rose-after}
use Rattle.fb_base.specs.Documents.{Documents, Holds, HasMoreThan}
use Rattle.fb_types.specs.declared.crac.Crac.{Crac}
use Rattle.fb_types.specs.declared.grid.Grid.{Grid}
use Rattle.run_settings.specs.declared.model.Settings.{Settings}
use Rattle.run_settings.specs.declared.reduction.Reduction.{Reduction}
use Rattle.glsk_keys.specs.declared.model.Keys.{Keys}
use Rattle.rows_document.specs.declared.reader.RowsDocument.{RowsDocument}
use Rattle.fb_certificate.specs.declared.types.Inputs.{Inputs}
use Rattle.case_maker.specs.CaseTexts.{IsCase}
use Rattle.case_maker.specs.declared.Case.{Case}
use Rattle.fbcc_core.specs.Commands.{case_inputs, tests, selftest_work, judges, rows_work, nets, net_work, puts_together, domain_inputs, computes, domain_work, checks, check_work}
use Rattle.fbcc_core.specs.declared.documents.CertificateFile.{CertificateFile}
use Rattle.fbcc_core.specs.declared.documents.RunDocuments.{RunDocuments}
use Rattle.fbcc_core.specs.declared.paper.Paper.{Paper}
use Rattle.fbcc_core.specs.declared.work.Work.{Work}
use Rattle.fbcc_core.specs.Reading.{reads_rows, IsGiven, IsUnread, IsLonger, fetched, tree_read, reads_tree, grid_read, reads_grid, crac_read, reads_crac, settings_read, reads_settings, keys_read, reads_keys, reductions_read, reads_reductions, run_documents, certificate_read, reads_certificate, crac_said, settings_said, keys_said, case_documents}
use Rattle.fbcc_core.specs.Seen.{ShelfSeen, shelf_seen}
use Rattle.fbcc_core.specs.Statuses.{limit_of}
use Rattle.fbcc_core.specs.Steps.{Step, step, after, gives}
use Rattle.fbcc_core.specs.Words.{Names}
use Rattle.fbcc_core.specs.declared.answer.Document.{Document}
use Rattle.fbcc_core.specs.declared.answer.Document.TheVariants as document
use Rattle.fbcc_core.specs.declared.answer.Fault.{Fault}

-- ---- One step after another

-- the first step is done, and the second comes to r
pub joined : {A B : Type 0} (first : Step A) (next : A → Step B) (a : A) (r : Result B Fault) → first (Ok a) → next a r → after first next r
joined first next a (Ok b) f n = (a, f, n)
joined first next a (Err fault) f n = inr (a, f, n)

-- the same, document by document and command by command
module _ (names : Names) (shelf : ShelfSeen) where
  pub grid_joined : (bytes : List ℕ) (r : Result Grid Fault) → fetched names shelf document.Grid (Ok bytes) → reads_grid bytes r → grid_read names shelf r
  grid_joined bytes r = joined (fetched names shelf document.Grid) reads_grid bytes r

  pub crac_joined : (grid : Grid) (tree : Data) (r : Result Crac Fault) → tree_read names shelf document.Crac (Ok tree) → reads_crac grid tree r → crac_read names shelf grid r
  crac_joined grid tree r = joined (tree_read names shelf document.Crac) (reads_crac grid) tree r

  pub settings_joined : (grid : Grid) (tree : Data) (r : Result Settings Fault) → tree_read names shelf document.Settings (Ok tree) → reads_settings grid tree r → settings_read names shelf grid r
  settings_joined grid tree r = joined (tree_read names shelf document.Settings) (reads_settings grid) tree r

  pub keys_joined : (grid : Grid) (settings : Settings) (tree : Data) (r : Result Keys Fault) → tree_read names shelf document.Glsk (Ok tree) → reads_keys grid settings tree r → keys_read names shelf grid settings r
  keys_joined grid settings tree r = joined (tree_read names shelf document.Glsk) (reads_keys grid settings) tree r

  pub reductions_joined : (crac : Crac) (bytes : List ℕ) (r : Result (List Reduction) Fault) → fetched names shelf document.Reductions (Ok bytes) → reads_reductions crac bytes r → reductions_read names shelf crac r
  reductions_joined crac bytes r f n = inr (joined (fetched names shelf document.Reductions) (reads_reductions crac) bytes r f n)

  pub rows_joined : (bytes : List ℕ) (d : RowsDocument) (r : Result Work Fault) → fetched names shelf document.Rows (Ok bytes) → reads_rows bytes (Ok d) → judges d r → rows_work names shelf r
  rows_joined bytes d r f m n = joined (after (fetched names shelf document.Rows) reads_rows) judges d r (bytes, f, m) n

  pub net_joined : (grid : Grid) (r : Result Work Fault) → grid_read names shelf (Ok grid) → nets grid r → net_work names shelf r
  net_joined grid r = joined (grid_read names shelf) nets grid r

  -- the documents of a run one after another
  abbrev pub past_reductions : Grid → Crac → Settings → Keys → List Reduction → Step RunDocuments
  past_reductions grid crac settings keys reductions = gives (record { grid = grid; crac = crac; settings = settings; keys = keys; reductions = reductions })

  abbrev pub past_keys : Grid → Crac → Settings → Keys → Step RunDocuments
  past_keys grid crac settings keys = after (reductions_read names shelf crac) (past_reductions grid crac settings keys)

  abbrev pub past_settings : Grid → Crac → Settings → Step RunDocuments
  past_settings grid crac settings = after (keys_read names shelf grid settings) (past_keys grid crac settings)

  abbrev pub past_crac : Grid → Crac → Step RunDocuments
  past_crac grid crac = after (settings_read names shelf grid) (past_settings grid crac)

  abbrev pub past_grid : Grid → Step RunDocuments
  past_grid grid = after (crac_read names shelf grid) (past_crac grid)

  pub documents_joined : (d : RunDocuments)
      → grid_read names shelf (Ok d.grid) → crac_read names shelf d.grid (Ok d.crac) → settings_read names shelf d.grid (Ok d.settings) → keys_read names shelf d.grid d.settings (Ok d.keys)
      → reductions_read names shelf d.crac (Ok d.reductions) → run_documents names shelf (Ok d)
  documents_joined d g c s k q =
      joined (grid_read names shelf) past_grid d.grid (Ok d) g
      (joined (crac_read names shelf d.grid) (past_crac d.grid) d.crac (Ok d) c
      (joined (settings_read names shelf d.grid) (past_settings d.grid d.crac) d.settings (Ok d) s
      (joined (keys_read names shelf d.grid d.settings) (past_keys d.grid d.crac d.settings) d.keys (Ok d) k
      (joined (reductions_read names shelf d.crac) (past_reductions d.grid d.crac d.settings d.keys) d.reductions (Ok d) q refl))))

  -- a document that is refused ends the chain
  pub crac_refused : (grid : Grid) (fault : Fault) → grid_read names shelf (Ok grid) → crac_read names shelf grid (Err fault) → run_documents names shelf (Err fault)
  crac_refused grid fault g e = inr (grid, g, inl e)

  pub settings_refused : (grid : Grid) (crac : Crac) (fault : Fault) → grid_read names shelf (Ok grid) → crac_read names shelf grid (Ok crac) → settings_read names shelf grid (Err fault) → run_documents names shelf (Err fault)
  settings_refused grid crac fault g c e = inr (grid, g, inr (crac, c, inl e))

  pub keys_refused : (grid : Grid) (crac : Crac) (settings : Settings) (fault : Fault) → grid_read names shelf (Ok grid) → crac_read names shelf grid (Ok crac) → settings_read names shelf grid (Ok settings)
      → keys_read names shelf grid settings (Err fault) → run_documents names shelf (Err fault)
  keys_refused grid crac settings fault g c s e = inr (grid, g, inr (crac, c, inr (settings, s, inl e)))

  pub reductions_refused : (grid : Grid) (crac : Crac) (settings : Settings) (keys : Keys) (fault : Fault) → grid_read names shelf (Ok grid) → crac_read names shelf grid (Ok crac) → settings_read names shelf grid (Ok settings)
      → keys_read names shelf grid settings (Ok keys) → reductions_read names shelf crac (Err fault) → run_documents names shelf (Err fault)
  reductions_refused grid crac settings keys fault g c s k e = inr (grid, g, inr (crac, c, inr (settings, s, inr (keys, k, inl e))))

  pub certificate_joined : (bytes : List ℕ) (r : Result CertificateFile Fault) → fetched names shelf document.Certificate (Ok bytes) → reads_certificate bytes r → certificate_read names shelf r
  certificate_joined bytes r = joined (fetched names shelf document.Certificate) reads_certificate bytes r

  -- inputs of the documents, and a domain of them
  pub inputs_joined : (d : RunDocuments) (inputs : Inputs) → run_documents names shelf (Ok d) → puts_together d (Ok inputs) → domain_inputs names shelf (Ok inputs)
  inputs_joined d inputs = joined (run_documents names shelf) puts_together d (Ok inputs)

  pub domain_unread : (paper : Paper) (fault : Fault) → run_documents names shelf (Err fault) → domain_work paper names shelf (Err fault)
  domain_unread paper fault e = inl (inl e)

  pub domain_refused : (paper : Paper) (d : RunDocuments) (fault : Fault) → run_documents names shelf (Ok d) → puts_together d (Err fault) → domain_work paper names shelf (Err fault)
  domain_refused paper d fault r e = inl (inr (d, r, e))

  pub domain_joined : (paper : Paper) (d : RunDocuments) (inputs : Inputs) (r : Result Work Fault) → run_documents names shelf (Ok d) → puts_together d (Ok inputs) → computes paper inputs r → domain_work paper names shelf r
  domain_joined paper d inputs r given put = joined (domain_inputs names shelf) (computes paper) inputs r (inputs_joined d inputs given put)

  -- the check of a certificate
  abbrev pub past_file : RunDocuments → CertificateFile → Step Work
  past_file d file = after (puts_together d) (λ inputs. checks inputs file)

  abbrev pub past_documents : RunDocuments → Step Work
  past_documents d = after (certificate_read names shelf) (past_file d)

  pub check_joined : (d : RunDocuments) (file : CertificateFile) (inputs : Inputs) (r : Result Work Fault)
      → run_documents names shelf (Ok d) → certificate_read names shelf (Ok file) → puts_together d (Ok inputs) → checks inputs file r → check_work names shelf r
  check_joined d file inputs r given read put judged =
      joined (run_documents names shelf) past_documents d r given
      (joined (certificate_read names shelf) (past_file d) file r read
      (joined (puts_together d) (λ inputs. checks inputs file) inputs r put judged))

  pub check_unread : (fault : Fault) → run_documents names shelf (Err fault) → check_work names shelf (Err fault)
  check_unread fault e = inl e

  pub file_refused : (d : RunDocuments) (fault : Fault) → run_documents names shelf (Ok d) → certificate_read names shelf (Err fault) → check_work names shelf (Err fault)
  file_refused d fault given e = inr (d, given, inl e)

  pub check_refused : (d : RunDocuments) (file : CertificateFile) (fault : Fault) → run_documents names shelf (Ok d) → certificate_read names shelf (Ok file) → puts_together d (Err fault) → check_work names shelf (Err fault)
  check_refused d file fault given read e = inr (d, given, inr (file, read, inl e))

-- ---- A generated case

pub crac_said_joined : (text : List ℕ) (grid : Grid) (tree : Data) (r : Result Crac Fault) → reads_tree document.Crac text (Ok tree) → reads_crac grid tree r → crac_said text grid r
crac_said_joined text grid tree r = joined (reads_tree document.Crac text) (reads_crac grid) tree r

pub settings_said_joined : (text : List ℕ) (grid : Grid) (tree : Data) (r : Result Settings Fault) → reads_tree document.Settings text (Ok tree) → reads_settings grid tree r → settings_said text grid r
settings_said_joined text grid tree r = joined (reads_tree document.Settings text) (reads_settings grid) tree r

pub keys_said_joined : (text : List ℕ) (grid : Grid) (settings : Settings) (tree : Data) (r : Result Keys Fault) → reads_tree document.Glsk text (Ok tree) → reads_keys grid settings tree r → keys_said text grid settings r
keys_said_joined text grid settings tree r = joined (reads_tree document.Glsk text) (reads_keys grid settings) tree r

module _ (case : Case) where
  abbrev pub past_keys_said : Grid → Crac → Settings → Keys → Step RunDocuments
  past_keys_said grid crac settings keys = gives (record { grid = grid; crac = crac; settings = settings; keys = keys; reductions = [] })

  abbrev pub past_settings_said : Grid → Crac → Settings → Step RunDocuments
  past_settings_said grid crac settings = after (keys_said case.glsk grid settings) (past_keys_said grid crac settings)

  abbrev pub past_crac_said : Grid → Crac → Step RunDocuments
  past_crac_said grid crac = after (settings_said case.settings grid) (past_settings_said grid crac)

  abbrev pub past_grid_said : Grid → Step RunDocuments
  past_grid_said grid = after (crac_said case.crac grid) (past_crac_said grid)

  pub case_joined : (d : RunDocuments) → d.reductions ≡ [] → reads_grid case.grid (Ok d.grid) → crac_said case.crac d.grid (Ok d.crac) → settings_said case.settings d.grid (Ok d.settings)
      → keys_said case.glsk d.grid d.settings (Ok d.keys) → case_documents case (Ok d)
  case_joined d none g c s k =
      joined (reads_grid case.grid) past_grid_said d.grid (Ok d) g
      (joined (crac_said case.crac d.grid) (past_crac_said d.grid) d.crac (Ok d) c
      (joined (settings_said case.settings d.grid) (past_settings_said d.grid d.crac) d.settings (Ok d) s
      (joined (keys_said case.glsk d.grid d.settings) (past_keys_said d.grid d.crac d.settings) d.keys (Ok d) k
      (λ i. record { grid = d.grid; crac = d.crac; settings = d.settings; keys = d.keys; reductions = none i }))))

  pub case_crac_refused : (grid : Grid) (fault : Fault) → reads_grid case.grid (Ok grid) → crac_said case.crac grid (Err fault) → case_documents case (Err fault)
  case_crac_refused grid fault g e = inr (grid, g, inl e)

  pub case_settings_refused : (grid : Grid) (crac : Crac) (fault : Fault) → reads_grid case.grid (Ok grid) → crac_said case.crac grid (Ok crac) → settings_said case.settings grid (Err fault) → case_documents case (Err fault)
  case_settings_refused grid crac fault g c e = inr (grid, g, inr (crac, c, inl e))

  pub case_keys_refused : (grid : Grid) (crac : Crac) (settings : Settings) (fault : Fault) → reads_grid case.grid (Ok grid) → crac_said case.crac grid (Ok crac) → settings_said case.settings grid (Ok settings)
      → keys_said case.glsk grid settings (Err fault) → case_documents case (Err fault)
  case_keys_refused grid crac settings fault g c s e = inr (grid, g, inr (crac, c, inr (settings, s, inl e)))

module _ (number nodes : ℕ) where
  abbrev pub past_case : Case → Step Inputs
  past_case case = after (case_documents case) puts_together

  pub case_inputs_joined : (case : Case) (d : RunDocuments) (r : Result Inputs Fault) → IsCase number nodes case → case_documents case (Ok d) → puts_together d r → case_inputs number nodes r
  case_inputs_joined case d r made given put =
      joined (step (IsCase number nodes) (λ fault. ⊥)) past_case case r made (joined (case_documents case) puts_together d r given put)

  pub case_refused : (case : Case) (fault : Fault) → IsCase number nodes case → case_documents case (Err fault) → case_inputs number nodes (Err fault)
  case_refused case fault made e = inr (case, made, inl e)

  pub selftest_joined : (inputs : Inputs) (r : Result Work Fault) → case_inputs number nodes (Ok inputs) → tests number nodes inputs r → selftest_work number nodes r
  selftest_joined inputs r = joined (case_inputs number nodes) (tests number nodes) inputs r

  pub selftest_refused : (fault : Fault) → case_inputs number nodes (Err fault) → selftest_work number nodes (Err fault)
  selftest_refused fault e = inl e

-- the first step is carried over to another
pub carried_ok : {A B : Type 0} (first other : Step A) (next : A → Step B) → ((a : A) → first (Ok a) → other (Ok a)) → (b : B) → after first next (Ok b) → after other next (Ok b)
carried_ok first other next ok b h = (h.0, ok h.0 h.1, h.2)

pub carried_err : {A B : Type 0} (first other : Step A) (next : A → Step B) → ((a : A) → first (Ok a) → other (Ok a)) → ((fault : Fault) → first (Err fault) → other (Err fault))
    → (fault : Fault) → after first next (Err fault) → after other next (Err fault)
carried_err first other next ok err fault (inl h) = inl (err fault h)
carried_err first other next ok err fault (inr h) = inr (h.0, ok h.0 h.1, h.2)

-- ---- A part of a call

-- the shelf tells the same documents over the part as over the whole
pub record IsPart (part whole : ShelfSeen) : Type 0 where
  pub tells : part.tells ≡ whole.tells
  pub documents : part.documents ≡ whole.documents

-- and the part ends where the whole does
pub record IsEnd (part whole : ShelfSeen) : Type 0 where
  pub is_part : IsPart part whole
  pub faults : whole.faults ≤ part.faults
  pub faults_after : part.faults_after ≡ whole.faults_after
  pub last_failed : part.last_failed ≡ whole.last_failed

-- ---- Between two states of a shelf

-- the shelf still tells and holds what it did, and its count of faults did not fall
pub record IsKeptFrom {S : Type 0} (tells : S → Bool) (held : S → Documents) (faults : S → ℕ) (first then : S) : Type 0 where
  pub still_tells : tells then ≡ tells first
  pub still_held : held then ≡ held first
  pub never_falls : faults first ≤ faults then

pub kept_from : {S : Type 0} (tells : S → Bool) (held : S → Documents) (faults : S → ℕ) (first then : S) → tells then ≡ tells first → held then ≡ held first → faults first ≤ faults then
    → IsKeptFrom tells held faults first then
kept_from tells held faults first then t h f = record { still_tells = t; still_held = h; never_falls = f }

pub kept_on : {S : Type 0} (tells : S → Bool) (held : S → Documents) (faults : S → ℕ) (first then last : S) → IsKeptFrom tells held faults first then
    → tells last ≡ tells then → held last ≡ held then → faults then ≤ faults last → IsKeptFrom tells held faults first last
kept_on tells held faults first then last k t h f = record { still_tells = t ∙ k.still_tells; still_held = h ∙ k.still_held; never_falls = omega (arith, k.never_falls, f) }

pub first_part : {S : Type 0} (tells : S → Bool) (held : S → Documents) (faults : S → ℕ) (failed : S → Option (List ℕ)) (first then last : S)
    → IsPart (shelf_seen tells held faults failed first then) (shelf_seen tells held faults failed first last)
first_part tells held faults failed first then last = record { tells = refl; documents = refl }

pub later_part : {S : Type 0} (tells : S → Bool) (held : S → Documents) (faults : S → ℕ) (failed : S → Option (List ℕ)) (first then next last : S) → IsKeptFrom tells held faults first then
    → IsPart (shelf_seen tells held faults failed then next) (shelf_seen tells held faults failed first last)
later_part tells held faults failed first then next last k = record { tells = k.still_tells; documents = k.still_held }

pub last_part : {S : Type 0} (tells : S → Bool) (held : S → Documents) (faults : S → ℕ) (failed : S → Option (List ℕ)) (first then last : S) → IsKeptFrom tells held faults first then
    → IsEnd (shelf_seen tells held faults failed then last) (shelf_seen tells held faults failed first last)
last_part tells held faults failed first then last k =
    record { is_part = later_part tells held faults failed first then last last k; faults = k.never_falls; faults_after = refl; last_failed = refl }

-- ---- Steps over a part

module _ (names : Names) (part whole : ShelfSeen) (is : IsPart part whole) where
  given_part : (d : Document) (bytes : List ℕ) → IsGiven names part d bytes → IsGiven names whole d bytes
  given_part d bytes g = record {
    name = g.name;
    named = g.named;
    told = λ t. subst (λ (held : Documents). Holds held g.name bytes) is.documents (g.told (subst IsTrue (sym is.tells) t));
    within = g.within;
  }

  pub tree_part : (d : Document) (tree : Data) → tree_read names part d (Ok tree) → tree_read names whole d (Ok tree)
  tree_part d tree = carried_ok (fetched names part d) (fetched names whole d) (reads_tree d) (given_part d) tree

  pub grid_part : (grid : Grid) → grid_read names part (Ok grid) → grid_read names whole (Ok grid)
  grid_part grid = carried_ok (fetched names part document.Grid) (fetched names whole document.Grid) reads_grid (given_part document.Grid) grid

  pub crac_part : (grid : Grid) (crac : Crac) → crac_read names part grid (Ok crac) → crac_read names whole grid (Ok crac)
  crac_part grid crac = carried_ok (tree_read names part document.Crac) (tree_read names whole document.Crac) (reads_crac grid) (tree_part document.Crac) crac

  pub settings_part : (grid : Grid) (settings : Settings) → settings_read names part grid (Ok settings) → settings_read names whole grid (Ok settings)
  settings_part grid settings = carried_ok (tree_read names part document.Settings) (tree_read names whole document.Settings) (reads_settings grid) (tree_part document.Settings) settings

  pub keys_part : (grid : Grid) (settings : Settings) (keys : Keys) → keys_read names part grid settings (Ok keys) → keys_read names whole grid settings (Ok keys)
  keys_part grid settings keys = carried_ok (tree_read names part document.Glsk) (tree_read names whole document.Glsk) (reads_keys grid settings) (tree_part document.Glsk) keys

  pub reductions_part : (crac : Crac) (reductions : List Reduction) → reductions_read names part crac (Ok reductions) → reductions_read names whole crac (Ok reductions)
  reductions_part crac reductions (inl h) = inl h
  reductions_part crac reductions (inr h) =
      inr (carried_ok (fetched names part document.Reductions) (fetched names whole document.Reductions) (reads_reductions crac) (given_part document.Reductions) reductions h)

  pub documents_part : (d : RunDocuments) → run_documents names part (Ok d) → run_documents names whole (Ok d)
  documents_part d h = (
    h.0,
    grid_part h.0 h.1,
    (
      h.2.0,
      crac_part h.0 h.2.0 h.2.1,
      (
        h.2.2.0,
        settings_part h.0 h.2.2.0 h.2.2.1,
        (
          h.2.2.2.0,
          keys_part h.0 h.2.2.0 h.2.2.2.0 h.2.2.2.1,
          (
            h.2.2.2.2.0,
            reductions_part h.2.0 h.2.2.2.2.0 h.2.2.2.2.1,
            h.2.2.2.2.2,
          ),
        ),
      ),
    ),
  )

  pub certificate_part : (file : CertificateFile) → certificate_read names part (Ok file) → certificate_read names whole (Ok file)
  certificate_part file = carried_ok (fetched names part document.Certificate) (fetched names whole document.Certificate) reads_certificate (given_part document.Certificate) file

module _ (names : Names) (part whole : ShelfSeen) (ends : IsEnd part whole) where
  unread_end : (d : Document) (fault : Fault) → IsUnread names part d fault → IsUnread names whole d fault
  unread_end d fault u = record {
    is = u.is;
    name = u.name;
    named = u.named;
    failed = subst (Rose whole.faults) ends.faults_after (Rose-after whole.faults part.faults part.faults_after ends.faults u.failed);
    told = λ t. sym ends.last_failed ∙ u.told (subst IsTrue (sym ends.is_part.tells) t);
  }

  longer_end : (d : Document) (fault : Fault) → IsLonger names part d fault → IsLonger names whole d fault
  longer_end d fault l = record {
    is = l.is;
    name = l.name;
    named = l.named;
    told = λ t. subst (λ (held : Documents). HasMoreThan held l.name (limit_of d)) ends.is_part.documents (l.told (subst IsTrue (sym ends.is_part.tells) t));
  }

  fetched_end : (d : Document) (fault : Fault) → fetched names part d (Err fault) → fetched names whole d (Err fault)
  fetched_end d fault (inl (inl u)) = inl (inl (unread_end d fault u))
  fetched_end d fault (inl (inr l)) = inl (inr (longer_end d fault l))
  fetched_end d fault (inr m) = inr m

  tree_end : (d : Document) (fault : Fault) → tree_read names part d (Err fault) → tree_read names whole d (Err fault)
  tree_end d fault = carried_err (fetched names part d) (fetched names whole d) (reads_tree d) (given_part names part whole ends.is_part d) (fetched_end d) fault

  pub crac_end : (grid : Grid) (fault : Fault) → crac_read names part grid (Err fault) → crac_read names whole grid (Err fault)
  crac_end grid fault = carried_err (tree_read names part document.Crac) (tree_read names whole document.Crac) (reads_crac grid) (tree_part names part whole ends.is_part document.Crac) (tree_end document.Crac) fault

  pub settings_end : (grid : Grid) (fault : Fault) → settings_read names part grid (Err fault) → settings_read names whole grid (Err fault)
  settings_end grid fault =
      carried_err (tree_read names part document.Settings) (tree_read names whole document.Settings) (reads_settings grid) (tree_part names part whole ends.is_part document.Settings) (tree_end document.Settings) fault

  pub keys_end : (grid : Grid) (settings : Settings) (fault : Fault) → keys_read names part grid settings (Err fault) → keys_read names whole grid settings (Err fault)
  keys_end grid settings fault =
      carried_err (tree_read names part document.Glsk) (tree_read names whole document.Glsk) (reads_keys grid settings) (tree_part names part whole ends.is_part document.Glsk) (tree_end document.Glsk) fault

  no_fault : {A : Type 0} (a : A) (fault : Fault) → (let r : Result A Fault = Err fault in r ≡ Ok a) → ⊥
  no_fault a fault e = cc

  pub reductions_end : (crac : Crac) (fault : Fault) → reductions_read names part crac (Err fault) → reductions_read names whole crac (Err fault)
  reductions_end crac fault (inl h) = absurd (no_fault _ fault h.1)
  reductions_end crac fault (inr h) =
      inr (carried_err (fetched names part document.Reductions) (fetched names whole document.Reductions) (reads_reductions crac) (given_part names part whole ends.is_part document.Reductions) (fetched_end document.Reductions) fault h)

  pub certificate_end : (fault : Fault) → certificate_read names part (Err fault) → certificate_read names whole (Err fault)
  certificate_end fault =
      carried_err (fetched names part document.Certificate) (fetched names whole document.Certificate) reads_certificate (given_part names part whole ends.is_part document.Certificate) (fetched_end document.Certificate) fault
