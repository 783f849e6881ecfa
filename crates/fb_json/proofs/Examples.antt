-- Examples of marked bytes and of a tree.
use Rattle.std.proofs.Common.{◌≡◌, refl, sym, ap, ◌∙◌}
use Rattle.std.specs.Prelude.{codes, Some}
use Rattle.std.proofs.lemmas.Option.{same_Some}
use Rattle.serde_json.specs.Data.{Data, string, object, member, no_members}
use Rattle.serde_json.specs.Read.{read}
use Rattle.serde_json.proofs.OnLiterals.{serde_json_on_literals}
use Rattle.fb_json.specs.Marking.{IsMarked}
use Rattle.fb_json.specs.Tree.{HasTree, member_of}
use Rattle.fb_json.specs.declared.document.Got.TheVariants.{Value}
use Rattle.fb_json.proofs.Markings.{is_marking, one_marking}

pub numbers_and_texts : IsMarked (codes "{\"a\":1.5E3,\"b\":\"x\"}") (codes "{\"sa\":\"n1.5E3\",\"sb\":\"sx\"}")
numbers_and_texts = is_marking (codes "{\"a\":1.5E3,\"b\":\"x\"}")

pub no_numbers : IsMarked (codes "[01,-,1.,e5]") (codes "[!,!,!,e\"n5\"]")
no_numbers = is_marking (codes "[01,-,1.,e5]")

pub escaped_quotation_mark : IsMarked (codes "\"a\\\"1\"2") (codes "\"sa\\\"1\"\"n2\"")
escaped_quotation_mark = is_marking (codes "\"a\\\"1\"2")

equal_members : IsMarked (codes "{\"a\":1,\"a\":2}") (codes "{\"sa\":\"n1\",\"sa\":\"n2\"}")
equal_members = is_marking (codes "{\"a\":1,\"a\":2}")

equal_members_read : read (codes "{\"sa\":\"n1\",\"sa\":\"n2\"}") ≡ Some (object (member (codes "sa") (string (codes "n2")) no_members))
unfolding serde_json_on_literals
equal_members_read = refl

-- of equal members the last one counts
pub last_member : (d : Data) → HasTree (codes "{\"a\":1,\"a\":2}") d → member_of (codes "a") d ≡ Value (string (codes "n2"))
unfolding member_of
last_member d h =
    let e : d ≡ object (member (codes "sa") (string (codes "n2")) no_members) = same_Some _ _ (sym h.is_read ∙ ap read (one_marking (codes "{\"a\":1,\"a\":2}") h.marked _ h.is_marked equal_members) ∙ equal_members_read) in
    rw e refl
