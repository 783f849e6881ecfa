use Rattle.std.proofs.Common.{◌≡◌, ℕ, ◌-◌, ◌++◌, ◌∷◌, [], List, length, replicate, ap, ◌∙◌, append_assoc, arith}
use Rattle.std.specs.Str.{chars}
use Rattle.std.proofs.lemmas.List.{replicate_more}
use Rattle.name_tables.proofs.padding.padded.Goals as goal

pub loop-blank-preserved : goal.loop-blank-preserved
unfolding lib.Utf8.encode
loop-blank-preserved c =
    let name = c.args.name.now in
    let blanks = c.loop-blank._blank in
    c.in_ok-push.ensures.bytes ∙ ap (λ (xs : List ℕ). xs ++ 32 ∷ []) c.loop-blank.invariant ∙ append_assoc name (replicate blanks 32) (32 ∷ [])
    ∙ ap (λ (xs : List ℕ). name ++ xs) (replicate_more blanks 32)

pub returns : goal.returns
returns c =
    let name = c.args.name.now in
    let blanks = c.loop-blank._blank in
    let count = ap length c.in_ok-characters.ensures in
    let all : blanks ≡ c.args.width - length (chars name) = omega (arith, count) in
    c.loop-blank.invariant ∙ ap (λ (n : ℕ). name ++ replicate n 32) all
