use Rattle.std.proofs.Common.{◌≡◌, ℕ, Bool, true, false, List, refl, sym, ap, ◌∙◌}
use Rattle.std.specs.Prelude.{IsUtf8}
use Rattle.std.specs.Str.{is_utf8}
use Rattle.std.proofs.lemmas.Str.{IsUtf8-from_is_utf8, is_utf8-from_IsUtf8}
use Rattle.run_settings.proofs.record.text.Goals as goal

no_text : (bytes : List ℕ) (b : Bool) → is_utf8 bytes ≡ b → (IsUtf8 bytes → ⊥) → is_utf8 bytes ≡ false
no_text bytes true e none = absurd (none (IsUtf8-from_is_utf8 bytes e))
no_text bytes false e none = e

pub returns-in-Ok : goal.returns-in-Ok
returns-in-Ok c =
    let field = c.field.ensures in
    let read = c.in-Ok.ensures.cases in
    (ap is_utf8 (sym field) ∙ is_utf8-from_IsUtf8 c.field.result.now read.1, read.0 ∙ field)

pub returns-in-Err : goal.returns-in-Err
returns-in-Err c = ap is_utf8 (sym c.field.ensures) ∙ no_text c.field.result.now (is_utf8 c.field.result.now) refl c.in-Err.ensures.cases.0
