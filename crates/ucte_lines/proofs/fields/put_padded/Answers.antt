use Rattle.std.proofs.Common.{◌≡◌, ℕ, ◌-◌, ◌++◌, ◌∷◌, [], List, length, replicate, ap, ◌∙◌, append_assoc, arith}
use Rattle.std.proofs.lemmas.List.{replicate_more}
use Rattle.ucte_lines.proofs.fields.put_padded.Goals as goal

pub loop-blank-preserved : goal.loop-blank-preserved
loop-blank-preserved c =
    let base = c.extend_from_slice.new.self.items in
    let blanks = c.loop-blank._blank in
    c.in_ok-push.ensures.items ∙ ap (λ (xs : List ℕ). xs ++ 32 ∷ []) c.loop-blank.invariant ∙ append_assoc base (replicate blanks 32) (32 ∷ [])
    ∙ ap (λ (xs : List ℕ). base ++ xs) (replicate_more blanks 32)

pub returns : goal.returns
returns c =
    let old = c.args.out.now.items in
    let text = c.args.text.now in
    let blanks = c.loop-blank._blank in
    let all : blanks ≡ c.args.width - length text = omega arith in
    c.loop-blank.invariant ∙ ap (λ (xs : List ℕ). xs ++ replicate blanks 32) c.in_ok-extend_from_slice.ensures.items
    ∙ append_assoc old text (replicate blanks 32) ∙ ap (λ (n : ℕ). old ++ (text ++ replicate n 32)) all
