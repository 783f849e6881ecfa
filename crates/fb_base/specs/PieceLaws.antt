-- Laws, which are proved: nobody need believe them.
-- What several pieces make that are put one after another. A text that is put in pieces leaves a prefix of the text at each
-- failure, whatever the pieces are.
use Rattle.std.specs.Prelude.{◌≡◌, ℕ, ◌+◌, List, ◌++◌, length, take, drop, min}
use Rattle.std.proofs.Common.{sym, ap, ◌∙◌, subst, append_assoc}
use Rattle.std.proofs.Math.Seq.{take-append-add, take-add}
use Rattle.std.proofs.Math.Nat.{min-le_right}
use Rattle.std.proofs.lemmas.List.{take_min, take-append-le, take-append-drop}
use Rattle.fb_base.specs.Pieces.{AppendsPrefix}

-- a prefix of the first piece
pub AppendsPrefix-longer : (old new piece rest : List ℕ) → AppendsPrefix old new piece → AppendsPrefix old new (piece ++ rest)
AppendsPrefix-longer old new piece rest put =
    let count = min put.count (length piece) in
    let shown = sym (take_min put.count piece) ∙ sym (take-append-le count piece rest (min-le_right put.count (length piece))) in
    record { count = count; is = put.is ∙ ap (λ bytes. old ++ bytes) shown }

-- the first piece whole, and then a prefix of the next
pub AppendsPrefix-next : (old mid new piece next : List ℕ) → mid ≡ old ++ piece → AppendsPrefix mid new next → AppendsPrefix old new (piece ++ next)
AppendsPrefix-next old mid new piece next whole put =
    let shown = append_assoc old piece (take put.count next) ∙ ap (λ bytes. old ++ bytes) (sym (take-append-add piece next put.count)) in
    record { count = length piece + put.count; is = put.is ∙ ap (λ bytes. bytes ++ take put.count next) whole ∙ shown }

-- the first bytes of a text, and then a prefix of the piece that follows them in the text
pub AppendsPrefix-part : (old mid new text : List ℕ) (done count : ℕ) → mid ≡ old ++ take done text → AppendsPrefix mid new (take count (drop done text)) → AppendsPrefix old new text
AppendsPrefix-part old mid new text done count whole put =
    let piece = take count (drop done text) in
    let first = AppendsPrefix-next old mid new (take done text) piece whole put in
    let all = ap (λ bytes. bytes ++ drop (done + count) text) (sym (take-add done count text)) ∙ take-append-drop (done + count) text in
    subst (AppendsPrefix old new) all (AppendsPrefix-longer old new (take done text ++ piece) (drop (done + count) text) first)

-- the laws of a piece and the next
pub ruleset pieces = (AppendsPrefix-longer, AppendsPrefix-next)
