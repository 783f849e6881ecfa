-- The documents of a call: what is fetched, and what it says.
use Rattle.std.specs.Prelude.{◌≡◌, ◌⊎◌, ℕ, ◌≤◌, List, [], length, Some, None, Ok, Err, IsTrue}
use Rattle.serde_json.specs.Data.{Data}
use Rattle.fb_base.specs.Documents.{Holds, HasMoreThan}
use Rattle.fb_types.specs.declared.crac.Crac.{Crac}
use Rattle.fb_types.specs.declared.grid.Grid.{Grid}
use Rattle.fb_json.specs.Tree.{HasTree}
use Rattle.ucte_reader.specs.File.{IsGridOf, IsGridFault}
use Rattle.ucte_reader.specs.declared.kind.GridKind.{GridKind}
use Rattle.crac_model.specs.Crac.{crac_of}
use Rattle.crac_model.specs.declared.fault.CracKind.{CracKind}
use Rattle.run_settings.specs.Settings.{settings_of}
use Rattle.run_settings.specs.Reductions.{IsReductionFault, HasNoReductionFault, reductions_of}
use Rattle.run_settings.specs.Views.{said}
use Rattle.run_settings.specs.declared.model.Settings.{Settings}
use Rattle.run_settings.specs.declared.model.SettingsKind.{SettingsKind}
use Rattle.run_settings.specs.declared.reduction.Reduction.{Reduction}
use Rattle.run_settings.specs.declared.reduction.ReductionKind.{ReductionKind}
use Rattle.glsk_keys.specs.Columns.{keys_of}
use Rattle.glsk_keys.specs.declared.model.Keys.{Keys}
use Rattle.glsk_keys.specs.declared.model.KeyKind.{KeyKind}
use Rattle.certificate_reader.specs.Reading.{IsReading as IsCertificate, IsFirstBadRow}
use Rattle.case_maker.specs.declared.Case.{Case}
use Rattle.csv_rows.specs.Rows.{records_in}
use Rattle.rows_document.specs.Table.{lines_of}
use Rattle.rows_document.specs.Reading.{IsReading, IsFirstBadLine}
use Rattle.rows_document.specs.declared.reader.RowsDocument.{RowsDocument}
use Rattle.fbcc_core.specs.Seen.{ShelfSeen, ShelfFailed}
use Rattle.fbcc_core.specs.Statuses.{limit_of}
use Rattle.fbcc_core.specs.Steps.{Step, step, after, gives}
use Rattle.fbcc_core.specs.Words.{Names}
use Rattle.fbcc_core.specs.declared.documents.CertificateFile.{CertificateFile}
use Rattle.fbcc_core.specs.declared.documents.RunDocuments.{RunDocuments}
use Rattle.fbcc_core.specs.declared.answer.Document.{Document}
use Rattle.fbcc_core.specs.declared.answer.Document.TheVariants as document
use Rattle.fbcc_core.specs.declared.answer.Fault.{Fault}
use Rattle.fbcc_core.specs.declared.answer.Fault.TheVariants.{ReadFault, TooLong, GridFault, JsonFault, CracFault, KeyFault, SettingsFault, ReductionFault, CertificateFault}

-- ---- Fetching

-- these are the bytes of the document under its name. They are within its limit, and where the shelf tells what it holds
-- they are what it holds
pub record IsGiven (names : Names) (shelf : ShelfSeen) (document : Document) (bytes : List ℕ) : Type 0 where
  pub name : List ℕ
  pub named : names document ≡ Some name
  pub told : IsTrue shelf.tells → Holds shelf.documents name bytes
  pub within : length bytes ≤ limit_of document

-- the shelf failed at the document
pub record IsUnread (names : Names) (shelf : ShelfSeen) (document : Document) (fault : Fault) : Type 0 where
  pub is : fault ≡ ReadFault document
  pub name : List ℕ
  pub named : names document ≡ Some name
  pub failed : ShelfFailed shelf
  pub told : IsTrue shelf.tells → shelf.last_failed ≡ Some name

-- the document has more bytes than its limit
pub record IsLonger (names : Names) (shelf : ShelfSeen) (document : Document) (fault : Fault) : Type 0 where
  pub is : fault ≡ TooLong document (limit_of document)
  pub name : List ℕ
  pub named : names document ≡ Some name
  pub told : IsTrue shelf.tells → HasMoreThan shelf.documents name (limit_of document)

abbrev pub fetched : Names → ShelfSeen → Document → Step (List ℕ)
fetched names shelf document = step (IsGiven names shelf document) (λ fault. IsUnread names shelf document fault ⊎ IsLonger names shelf document fault)

-- ---- Understanding

-- a grid, or its first fault
abbrev pub reads_grid : List ℕ → Step Grid
reads_grid bytes = step (IsGridOf bytes) (λ fault. (line : ℕ) × (kind : GridKind) × (fault ≡ GridFault line kind) × IsGridFault bytes line kind)

-- a JSON document, or none
abbrev pub reads_tree : Document → List ℕ → Step Data
reads_tree document bytes = step (HasTree bytes) (λ fault. (fault ≡ JsonFault document) × ((d : Data) → ¬ HasTree bytes d))

-- what a CRAC says of the grid, or its first fault
abbrev pub reads_crac : Grid → Data → Step Crac
reads_crac grid tree =
    step (λ crac. crac_of grid.nodes grid.branches tree ≡ Ok crac)
    (λ fault. (place : List ℕ) × (kind : CracKind) × (fault ≡ CracFault place kind) × (crac_of grid.nodes grid.branches tree ≡ Err (record { place = place; kind = kind })))

-- what settings say, or their first fault
abbrev pub reads_settings : Grid → Data → Step Settings
reads_settings grid tree =
    step (λ settings. settings_of grid.nodes tree ≡ Ok (said settings))
    (λ fault. (place : List ℕ) × (kind : SettingsKind) × (fault ≡ SettingsFault place kind) × (settings_of grid.nodes tree ≡ Err (record { place = place; kind = kind })))

-- what shift keys say, or their first fault
abbrev pub reads_keys : Grid → Settings → Data → Step Keys
reads_keys grid settings tree =
    step (λ keys. keys_of grid.nodes settings.zones settings.moment.nanosecond tree ≡ Ok keys)
    (λ fault. (place : List ℕ) × (kind : KeyKind) × (fault ≡ KeyFault place kind)
    × (keys_of grid.nodes settings.zones settings.moment.nanosecond tree ≡ Err (record { place = place; kind = kind })))

-- what reductions say, or their first fault
abbrev pub reads_reductions : Crac → List ℕ → Step (List Reduction)
reads_reductions crac bytes =
    step (λ reductions. HasNoReductionFault crac.elements bytes × (reductions ≡ reductions_of crac.elements bytes))
    (λ fault. (row : ℕ) × (kind : ReductionKind) × (fault ≡ ReductionFault row kind) × IsReductionFault crac.elements bytes row kind)

-- a rows document, or its first bad line
abbrev pub reads_rows : List ℕ → Step RowsDocument
reads_rows bytes = step (IsReading bytes) (λ fault. (row : ℕ) × (fault ≡ CertificateFault row) × IsFirstBadLine (lines_of bytes) row)

-- the certificate that the bytes are, or their first record that is none
abbrev pub reads_certificate : List ℕ → Step CertificateFile
reads_certificate bytes =
    step (λ file. (file.bytes ≡ bytes) × IsCertificate bytes file.certificate)
    (λ fault. (row : ℕ) × (fault ≡ CertificateFault row) × IsFirstBadRow (records_in bytes) row)

-- ---- Each document of a domain, fetched and then understood

abbrev pub grid_read : Names → ShelfSeen → Step Grid
grid_read names shelf = after (fetched names shelf document.Grid) reads_grid

abbrev pub tree_read : Names → ShelfSeen → Document → Step Data
tree_read names shelf document = after (fetched names shelf document) (reads_tree document)

abbrev pub crac_read : Names → ShelfSeen → Grid → Step Crac
crac_read names shelf grid = after (tree_read names shelf document.Crac) (reads_crac grid)

abbrev pub settings_read : Names → ShelfSeen → Grid → Step Settings
settings_read names shelf grid = after (tree_read names shelf document.Settings) (reads_settings grid)

abbrev pub keys_read : Names → ShelfSeen → Grid → Settings → Step Keys
keys_read names shelf grid settings = after (tree_read names shelf document.Glsk) (reads_keys grid settings)

-- where no document of reductions is named, there are none
abbrev pub reductions_read : Names → ShelfSeen → Crac → Step (List Reduction)
reductions_read names shelf crac result =
    ((names document.Reductions ≡ None) × (result ≡ Ok []))
    ⊎ after (fetched names shelf document.Reductions) (reads_reductions crac) result

abbrev pub certificate_read : Names → ShelfSeen → Step CertificateFile
certificate_read names shelf = after (fetched names shelf document.Certificate) reads_certificate

-- a generated case: what its texts say, without reductions
abbrev pub crac_said : List ℕ → Grid → Step Crac
crac_said text grid = after (reads_tree document.Crac text) (reads_crac grid)

abbrev pub settings_said : List ℕ → Grid → Step Settings
settings_said text grid = after (reads_tree document.Settings text) (reads_settings grid)

abbrev pub keys_said : List ℕ → Grid → Settings → Step Keys
keys_said text grid settings = after (reads_tree document.Glsk text) (reads_keys grid settings)

abbrev pub case_documents : Case → Step RunDocuments
case_documents case =
    after (reads_grid case.grid) (λ grid.
    after (crac_said case.crac grid) (λ crac.
    after (settings_said case.settings grid) (λ settings.
    after (keys_said case.glsk grid settings) (λ keys.
    gives (record { grid = grid; crac = crac; settings = settings; keys = keys; reductions = [] })))))

-- the documents of a run, one after another
abbrev pub run_documents : Names → ShelfSeen → Step RunDocuments
run_documents names shelf =
    after (grid_read names shelf) (λ grid.
    after (crac_read names shelf grid) (λ crac.
    after (settings_read names shelf grid) (λ settings.
    after (keys_read names shelf grid settings) (λ keys.
    after (reductions_read names shelf crac) (λ reductions.
    gives (record { grid = grid; crac = crac; settings = settings; keys = keys; reductions = reductions }))))))
