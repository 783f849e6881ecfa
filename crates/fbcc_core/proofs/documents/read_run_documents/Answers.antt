use Rattle.std.proofs.lemmas.Result.{err_from_is_err_and}
use Rattle.fbcc_core.proofs.Chains.{kept_from, kept_on, first_part, later_part, last_part, documents_joined, crac_refused, settings_refused, keys_refused, reductions_refused, grid_part, crac_part, settings_part, keys_part, reductions_part, crac_end, settings_end, keys_end, reductions_end}
use Rattle.fbcc_core.proofs.documents.read_run_documents.Goals as goal

pub returns-in_err-crac-clause-steps : goal.returns-in_err-crac-clause-steps
returns-in_err-crac-clause-steps g c =
    let k_grid = kept_from g.H.Shelf.tells g.H.Shelf.held g.H.Shelf.faults c.args.shelf.now c.read_grid_document.new.shelf c.in_ok-grid.ensures.still_tells c.in_ok-grid.ensures.still_held c.in_ok-grid.ensures.never_falls in
    let p = err_from_is_err_and c.from_residual-in_err-crac.result c.from_residual-in_err-crac.ensures.1 in
    rw (p.1, p.2) (crac_refused _ _ c.in_ok-grid.grid c.in_err-crac.field-0.0
    (grid_part _ _ _ (first_part g.H.Shelf.tells g.H.Shelf.held g.H.Shelf.faults g.H.Shelf.last_failed c.args.shelf.now c.read_grid_document.new.shelf c.read_crac_document.new.shelf) c.in_ok-grid.grid c.in_ok-grid.ensures.step)
    (crac_end _ _ _ (last_part g.H.Shelf.tells g.H.Shelf.held g.H.Shelf.faults g.H.Shelf.last_failed c.args.shelf.now c.read_grid_document.new.shelf c.read_crac_document.new.shelf k_grid) c.in_ok-grid.grid c.in_err-crac.field-0.0 c.in_err-crac.ensures.step))

pub returns-in_err-settings-clause-steps : goal.returns-in_err-settings-clause-steps
returns-in_err-settings-clause-steps g c =
    let k_grid = kept_from g.H.Shelf.tells g.H.Shelf.held g.H.Shelf.faults c.args.shelf.now c.read_grid_document.new.shelf c.in_ok-grid.ensures.still_tells c.in_ok-grid.ensures.still_held c.in_ok-grid.ensures.never_falls in
    let k_crac = kept_on g.H.Shelf.tells g.H.Shelf.held g.H.Shelf.faults c.args.shelf.now c.read_grid_document.new.shelf c.read_crac_document.new.shelf k_grid c.in_ok-crac.ensures.still_tells c.in_ok-crac.ensures.still_held c.in_ok-crac.ensures.never_falls in
    let p = err_from_is_err_and c.from_residual-in_err-settings.result c.from_residual-in_err-settings.ensures.1 in
    rw (p.1, p.2) (settings_refused _ _ c.in_ok-grid.grid c.in_ok-crac.crac c.in_err-settings.field-0.0
    (grid_part _ _ _ (first_part g.H.Shelf.tells g.H.Shelf.held g.H.Shelf.faults g.H.Shelf.last_failed c.args.shelf.now c.read_grid_document.new.shelf c.read_settings_document.new.shelf) c.in_ok-grid.grid c.in_ok-grid.ensures.step)
    (crac_part _ _ _ (later_part g.H.Shelf.tells g.H.Shelf.held g.H.Shelf.faults g.H.Shelf.last_failed c.args.shelf.now c.read_grid_document.new.shelf c.read_crac_document.new.shelf c.read_settings_document.new.shelf k_grid) c.in_ok-grid.grid c.in_ok-crac.crac c.in_ok-crac.ensures.step)
    (settings_end _ _ _ (last_part g.H.Shelf.tells g.H.Shelf.held g.H.Shelf.faults g.H.Shelf.last_failed c.args.shelf.now c.read_crac_document.new.shelf c.read_settings_document.new.shelf k_crac) c.in_ok-grid.grid c.in_err-settings.field-0.0 c.in_err-settings.ensures.step))

pub returns-in_err-keys-clause-steps : goal.returns-in_err-keys-clause-steps
returns-in_err-keys-clause-steps g c =
    let k_grid = kept_from g.H.Shelf.tells g.H.Shelf.held g.H.Shelf.faults c.args.shelf.now c.read_grid_document.new.shelf c.in_ok-grid.ensures.still_tells c.in_ok-grid.ensures.still_held c.in_ok-grid.ensures.never_falls in
    let k_crac = kept_on g.H.Shelf.tells g.H.Shelf.held g.H.Shelf.faults c.args.shelf.now c.read_grid_document.new.shelf c.read_crac_document.new.shelf k_grid c.in_ok-crac.ensures.still_tells c.in_ok-crac.ensures.still_held c.in_ok-crac.ensures.never_falls in
    let k_settings = kept_on g.H.Shelf.tells g.H.Shelf.held g.H.Shelf.faults c.args.shelf.now c.read_crac_document.new.shelf c.read_settings_document.new.shelf k_crac c.in_ok-settings.ensures.still_tells c.in_ok-settings.ensures.still_held c.in_ok-settings.ensures.never_falls in
    let p = err_from_is_err_and c.from_residual-in_err-keys.result c.from_residual-in_err-keys.ensures.1 in
    rw (p.1, p.2) (keys_refused _ _ c.in_ok-grid.grid c.in_ok-crac.crac c.in_ok-settings.settings c.in_err-keys.field-0.0
    (grid_part _ _ _ (first_part g.H.Shelf.tells g.H.Shelf.held g.H.Shelf.faults g.H.Shelf.last_failed c.args.shelf.now c.read_grid_document.new.shelf c.read_keys_document.new.shelf) c.in_ok-grid.grid c.in_ok-grid.ensures.step)
    (crac_part _ _ _ (later_part g.H.Shelf.tells g.H.Shelf.held g.H.Shelf.faults g.H.Shelf.last_failed c.args.shelf.now c.read_grid_document.new.shelf c.read_crac_document.new.shelf c.read_keys_document.new.shelf k_grid) c.in_ok-grid.grid c.in_ok-crac.crac c.in_ok-crac.ensures.step)
    (settings_part _ _ _ (later_part g.H.Shelf.tells g.H.Shelf.held g.H.Shelf.faults g.H.Shelf.last_failed c.args.shelf.now c.read_crac_document.new.shelf c.read_settings_document.new.shelf c.read_keys_document.new.shelf k_crac) c.in_ok-grid.grid c.in_ok-settings.settings c.in_ok-settings.ensures.step)
    (keys_end _ _ _ (last_part g.H.Shelf.tells g.H.Shelf.held g.H.Shelf.faults g.H.Shelf.last_failed c.args.shelf.now c.read_settings_document.new.shelf c.read_keys_document.new.shelf k_settings) c.in_ok-grid.grid c.in_ok-settings.settings c.in_err-keys.field-0.0 c.in_err-keys.ensures.step))

pub returns-in_err-reductions-clause-steps : goal.returns-in_err-reductions-clause-steps
returns-in_err-reductions-clause-steps g c =
    let k_grid = kept_from g.H.Shelf.tells g.H.Shelf.held g.H.Shelf.faults c.args.shelf.now c.read_grid_document.new.shelf c.in_ok-grid.ensures.still_tells c.in_ok-grid.ensures.still_held c.in_ok-grid.ensures.never_falls in
    let k_crac = kept_on g.H.Shelf.tells g.H.Shelf.held g.H.Shelf.faults c.args.shelf.now c.read_grid_document.new.shelf c.read_crac_document.new.shelf k_grid c.in_ok-crac.ensures.still_tells c.in_ok-crac.ensures.still_held c.in_ok-crac.ensures.never_falls in
    let k_settings = kept_on g.H.Shelf.tells g.H.Shelf.held g.H.Shelf.faults c.args.shelf.now c.read_crac_document.new.shelf c.read_settings_document.new.shelf k_crac c.in_ok-settings.ensures.still_tells c.in_ok-settings.ensures.still_held c.in_ok-settings.ensures.never_falls in
    let k_keys = kept_on g.H.Shelf.tells g.H.Shelf.held g.H.Shelf.faults c.args.shelf.now c.read_settings_document.new.shelf c.read_keys_document.new.shelf k_settings c.in_ok-keys.ensures.still_tells c.in_ok-keys.ensures.still_held c.in_ok-keys.ensures.never_falls in
    let p = err_from_is_err_and c.from_residual-in_err-reductions.result c.from_residual-in_err-reductions.ensures.1 in
    rw (p.1, p.2) (reductions_refused _ _ c.in_ok-grid.grid c.in_ok-crac.crac c.in_ok-settings.settings c.in_ok-keys.keys c.in_err-reductions.field-0.0
    (grid_part _ _ _ (first_part g.H.Shelf.tells g.H.Shelf.held g.H.Shelf.faults g.H.Shelf.last_failed c.args.shelf.now c.read_grid_document.new.shelf c.read_reductions_document.new.shelf) c.in_ok-grid.grid c.in_ok-grid.ensures.step)
    (crac_part _ _ _ (later_part g.H.Shelf.tells g.H.Shelf.held g.H.Shelf.faults g.H.Shelf.last_failed c.args.shelf.now c.read_grid_document.new.shelf c.read_crac_document.new.shelf c.read_reductions_document.new.shelf k_grid) c.in_ok-grid.grid c.in_ok-crac.crac c.in_ok-crac.ensures.step)
    (settings_part _ _ _ (later_part g.H.Shelf.tells g.H.Shelf.held g.H.Shelf.faults g.H.Shelf.last_failed c.args.shelf.now c.read_crac_document.new.shelf c.read_settings_document.new.shelf c.read_reductions_document.new.shelf k_crac) c.in_ok-grid.grid c.in_ok-settings.settings c.in_ok-settings.ensures.step)
    (keys_part _ _ _ (later_part g.H.Shelf.tells g.H.Shelf.held g.H.Shelf.faults g.H.Shelf.last_failed c.args.shelf.now c.read_settings_document.new.shelf c.read_keys_document.new.shelf c.read_reductions_document.new.shelf k_settings) c.in_ok-grid.grid c.in_ok-settings.settings c.in_ok-keys.keys c.in_ok-keys.ensures.step)
    (reductions_end _ _ _ (last_part g.H.Shelf.tells g.H.Shelf.held g.H.Shelf.faults g.H.Shelf.last_failed c.args.shelf.now c.read_keys_document.new.shelf c.read_reductions_document.new.shelf k_keys) c.in_ok-crac.crac c.in_err-reductions.field-0.0 c.in_err-reductions.ensures.step))

pub returns-clause-steps : goal.returns-clause-steps
returns-clause-steps g c =
    let k_grid = kept_from g.H.Shelf.tells g.H.Shelf.held g.H.Shelf.faults c.args.shelf.now c.read_grid_document.new.shelf c.in_ok-grid.ensures.still_tells c.in_ok-grid.ensures.still_held c.in_ok-grid.ensures.never_falls in
    let k_crac = kept_on g.H.Shelf.tells g.H.Shelf.held g.H.Shelf.faults c.args.shelf.now c.read_grid_document.new.shelf c.read_crac_document.new.shelf k_grid c.in_ok-crac.ensures.still_tells c.in_ok-crac.ensures.still_held c.in_ok-crac.ensures.never_falls in
    let k_settings = kept_on g.H.Shelf.tells g.H.Shelf.held g.H.Shelf.faults c.args.shelf.now c.read_crac_document.new.shelf c.read_settings_document.new.shelf k_crac c.in_ok-settings.ensures.still_tells c.in_ok-settings.ensures.still_held c.in_ok-settings.ensures.never_falls in
    let k_keys = kept_on g.H.Shelf.tells g.H.Shelf.held g.H.Shelf.faults c.args.shelf.now c.read_settings_document.new.shelf c.read_keys_document.new.shelf k_settings c.in_ok-keys.ensures.still_tells c.in_ok-keys.ensures.still_held c.in_ok-keys.ensures.never_falls in
    documents_joined _ _ _
    (grid_part _ _ _ (first_part g.H.Shelf.tells g.H.Shelf.held g.H.Shelf.faults g.H.Shelf.last_failed c.args.shelf.now c.read_grid_document.new.shelf c.read_reductions_document.new.shelf) c.in_ok-grid.grid c.in_ok-grid.ensures.step)
    (crac_part _ _ _ (later_part g.H.Shelf.tells g.H.Shelf.held g.H.Shelf.faults g.H.Shelf.last_failed c.args.shelf.now c.read_grid_document.new.shelf c.read_crac_document.new.shelf c.read_reductions_document.new.shelf k_grid) c.in_ok-grid.grid c.in_ok-crac.crac c.in_ok-crac.ensures.step)
    (settings_part _ _ _ (later_part g.H.Shelf.tells g.H.Shelf.held g.H.Shelf.faults g.H.Shelf.last_failed c.args.shelf.now c.read_crac_document.new.shelf c.read_settings_document.new.shelf c.read_reductions_document.new.shelf k_crac) c.in_ok-grid.grid c.in_ok-settings.settings c.in_ok-settings.ensures.step)
    (keys_part _ _ _ (later_part g.H.Shelf.tells g.H.Shelf.held g.H.Shelf.faults g.H.Shelf.last_failed c.args.shelf.now c.read_settings_document.new.shelf c.read_keys_document.new.shelf c.read_reductions_document.new.shelf k_settings) c.in_ok-grid.grid c.in_ok-settings.settings c.in_ok-keys.keys c.in_ok-keys.ensures.step)
    (reductions_part _ _ _ (later_part g.H.Shelf.tells g.H.Shelf.held g.H.Shelf.faults g.H.Shelf.last_failed c.args.shelf.now c.read_keys_document.new.shelf c.read_reductions_document.new.shelf c.read_reductions_document.new.shelf k_keys) c.in_ok-crac.crac c.in_ok-reductions.reductions c.in_ok-reductions.ensures.step)
