use Rattle.std.proofs.Common.{inr}
use Rattle.std.proofs.lemmas.Result.{IfErr-weaker, IfOk-weaker}
use Rattle.std.specs.Prelude.{Ok, Err}
use Rattle.fb_json.specs.Spots.{doc_tree}
use Rattle.fbcc_core.specs.Reading.{reads_tree}
use Rattle.fbcc_core.proofs.documents.read_tree.Goals as goal

pub returns-clause-tree : goal.returns-clause-tree
returns-clause-tree g c = IfOk-weaker c.tree_in.result (λ doc. reads_tree c.args.document c.as_slice.result.now (Ok (doc_tree doc))) _
    (λ doc h. (c.as_slice.result.now, rw c.as_slice.ensures.items c.in_ok-bytes.ensures.step, h)) c.tree_in.ensures.tree

pub returns-clause-fault : goal.returns-clause-fault
returns-clause-fault g c = IfErr-weaker c.tree_in.result (λ fault. reads_tree c.args.document c.as_slice.result.now (Err fault)) _
    (λ fault h. inr (c.as_slice.result.now, rw c.as_slice.ensures.items c.in_ok-bytes.ensures.step, h)) c.tree_in.ensures.fault
