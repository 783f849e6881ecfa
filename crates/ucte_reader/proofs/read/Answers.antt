use Rattle.std.proofs.Common.{◌≡◌, ℕ, List, Err, Result, sym, subst, ◌∙◌, arith}
use Rattle.std.proofs.lemmas.Bool.{eqb-true, eqb-false}
use Rattle.ucte_lines.specs.Lines.{characters_of}
use Rattle.ucte_reader.specs.Blocks.{placed}
use Rattle.ucte_reader.specs.File.{file_of}
use Rattle.ucte_reader.specs.Passes.{IsKnown, Finds, HasTaken}
use Rattle.ucte_reader.specs.declared.passes.Draft.{Draft}
use Rattle.ucte_reader.specs.declared.kind.GridError.{GridError}
use Rattle.ucte_reader.proofs.GridLaws.{Reads-error, ranges_taken, IsGridOf-taken, IsGridFault-taken}
use Rattle.ucte_reader.proofs.read.Goals as goal

pub returns-in-Err : goal.returns-in-Err
returns-in-Err c =
    let bytes = c.args.bytes.now in
    let first : c.deref.result.now ≡ characters_of bytes = c.deref.ensures.value ∙ c.in_ok-text.ensures in
    let second : c.deref-2.result.now ≡ characters_of bytes = c.deref-2.ensures.value ∙ c.in_ok-text.ensures in
    Reads-error c.in_ok-known.known bytes c.in-Err.e
    (subst (λ (t : List ℕ). IsKnown c.in_ok-known.known (placed t)) first c.in_ok-known.ensures)
    (subst (λ (t : List ℕ). let r : Result Draft GridError = Err c.in-Err.e in Finds c.in_ok-known.known (placed t) r) second c.in-Err.ensures)

pub returns-then-is_empty : goal.returns-then-is_empty
returns-then-is_empty c =
    let bytes = c.args.bytes.now in
    let first : c.deref.result.now ≡ characters_of bytes = c.deref.ensures.value ∙ c.in_ok-text.ensures in
    let second : c.deref-2.result.now ≡ characters_of bytes = c.deref-2.ensures.value ∙ c.in_ok-text.ensures in
    let none = eqb-true _ 0 (sym c.is_empty.ensures ∙ c.if-is_empty.true) in
    IsGridFault-taken c.in_ok-known.known bytes c.in-Ok.draft
    (subst (λ (t : List ℕ). IsKnown c.in_ok-known.known (placed t)) first c.in_ok-known.ensures)
    (subst (λ (t : List ℕ). HasTaken c.in_ok-known.known (placed t) c.in-Ok.draft) second c.in-Ok.ensures)
    (omega (arith, none, c.in-Ok.draft.nodes.nodes.ok.0))

pub finish-requires : goal.finish-requires
finish-requires c =
    let bytes = c.args.bytes.now in
    let first : c.deref.result.now ≡ characters_of bytes = c.deref.ensures.value ∙ c.in_ok-text.ensures in
    let second : c.deref-2.result.now ≡ characters_of bytes = c.deref-2.ensures.value ∙ c.in_ok-text.ensures in
    let taken = subst (λ (t : List ℕ). HasTaken c.in_ok-known.known (placed t) c.in-Ok.draft) second c.in-Ok.ensures in
    record {
      kept = taken.kept;
      ranges = ranges_taken c.in_ok-known.known (file_of bytes) c.in-Ok.draft (subst (λ (t : List ℕ). IsKnown c.in_ok-known.known (placed t)) first c.in_ok-known.ensures) taken;
    }

pub returns : goal.returns
returns c =
    let bytes = c.args.bytes.now in
    let first : c.deref.result.now ≡ characters_of bytes = c.deref.ensures.value ∙ c.in_ok-text.ensures in
    let second : c.deref-2.result.now ≡ characters_of bytes = c.deref-2.ensures.value ∙ c.in_ok-text.ensures in
    let some = eqb-false _ 0 (sym c.is_empty.ensures ∙ c.if-is_empty.false) in
    IsGridOf-taken c.in_ok-known.known bytes c.in-Ok.draft c.finish.result
    (subst (λ (t : List ℕ). IsKnown c.in_ok-known.known (placed t)) first c.in_ok-known.ensures)
    (subst (λ (t : List ℕ). HasTaken c.in_ok-known.known (placed t) c.in-Ok.draft) second c.in-Ok.ensures)
    (omega (arith, some, c.in-Ok.draft.nodes.nodes.ok.0)) c.finish.ensures.nodes c.finish.ensures.branches
