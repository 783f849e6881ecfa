use Rattle.std.proofs.Common.{◌≡◌, ◌+◌, ◌-◌, ◌*◌, ◌∷◌, suc, sym, ◌∙◌, arith}
use Rattle.serde_json.specs.Find.{get_member}
use Rattle.serde_json.specs.Data.{no_members}
use Rattle.fb_json.specs.Kept.{cut, pairs_span, put_all, trees_of}
use Rattle.fb_json.proofs.Looking.{lies_at, member_found, member_further}
use Rattle.fb_json.proofs.document.find_member.Goals as goal

pub name_of-requires : goal.name_of-requires
name_of-requires c =
    let doc = c.args.doc.now in
    rw c.nodes_at-members.ensures (lies_at doc.texts.items doc.nodes.items doc.sound c.args.span c.requires ((c.loop-count.count - 1) * 2) (omega (arith, c.loop-count.invariant.within, c.loop-count-test.true)))

pub returns-then-names-clause-tree : goal.returns-then-names-clause-tree
returns-then-names-clause-tree c =
    let doc = c.args.doc.now in
    let total = get_member (115 ∷ c.args.name.now) (put_all (cut (pairs_span c.args.span) (trees_of doc.texts.items doc.nodes.items)) no_members) in
    let count : c.loop-count.count ≡ suc (c.loop-count.count - 1) = omega (arith, c.loop-count-test.true) in
    let named = rw (c.as_bytes.ensures.value, c.name_of.ensures, c.nodes_at-members.ensures) at (sym c.names.ensures ∙ c.if-names.true) in
    rw c.nodes_at-members.ensures (member_found doc.texts.items doc.nodes.items doc.sound c.args.span c.requires c.loop-count.count (c.loop-count.count - 1) (115 ∷ c.args.name.now) total count c.loop-count.invariant.within named c.loop-count.invariant.same)

pub returns-then-names-clause-lies : goal.returns-then-names-clause-lies
returns-then-names-clause-lies c =
    let doc = c.args.doc.now in
    rw c.nodes_at-members.ensures (lies_at doc.texts.items doc.nodes.items doc.sound c.args.span c.requires ((c.loop-count.count - 1) * 2 + 1) (omega (arith, c.loop-count.invariant.within, c.loop-count-test.true)))

pub loop-count-preserved : goal.loop-count-preserved
loop-count-preserved c =
    let doc = c.args.doc.now in
    let total = get_member (115 ∷ c.args.name.now) (put_all (cut (pairs_span c.args.span) (trees_of doc.texts.items doc.nodes.items)) no_members) in
    let count : c.loop-count.count ≡ suc (c.loop-count.count - 1) = omega (arith, c.loop-count-test.true) in
    let named = rw (c.as_bytes.ensures.value, c.name_of.ensures, c.nodes_at-members.ensures) at (sym c.names.ensures ∙ c.if-names.false) in
    record {
      within = omega (arith, c.loop-count.invariant.within);
      same = member_further doc.texts.items doc.nodes.items doc.sound c.args.span c.requires c.loop-count.count (c.loop-count.count - 1) (115 ∷ c.args.name.now) total count c.loop-count.invariant.within named c.loop-count.invariant.same;
    }
