-- A document has one tree.
use Rattle.std.proofs.Common.{◌≡◌, ℕ, List, sym, ap, ◌∙◌}
use Rattle.std.proofs.lemmas.Option.{same_Some}
use Rattle.serde_json.specs.Data.{Data}
use Rattle.serde_json.specs.Read.{read}
use Rattle.fb_json.specs.Tree.{HasTree}
use Rattle.fb_json.proofs.Markings.{one_marking}

pub same_tree : (bytes : List ℕ) (d e : Data) → HasTree bytes d → HasTree bytes e → d ≡ e
same_tree bytes d e p q = same_Some d e (sym p.is_read ∙ ap read (one_marking bytes p.marked q.marked p.is_marked q.is_marked) ∙ q.is_read)
