use Rattle.std.proofs.Common.{rules}
use Rattle.fb_json.specs.Spots.{doc_tree}
use Rattle.fb_json.specs.Tree.{HasTree}
use Rattle.fb_json.proofs.document.tree.Goals as goal

pub returns-in-Ok-build-clause-refuses : goal.returns-in-Ok-build-clause-refuses
returns-in-Ok-build-clause-refuses c = λ none.
    let here : HasTree c.args.bytes.now (doc_tree c.in-Ok-build.doc) = search rules in
    absurd (none (doc_tree c.in-Ok-build.doc) here)
