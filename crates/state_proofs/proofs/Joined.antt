-- Enclosed angles of blocks, one block and one key more at a time.
use Rattle.std.proofs.Common.{◌≡◌, ℕ, ◌+◌, ◌<◌, List, [], ◌∷◌, ◌++◌, length, get_or, take, sym, ap, subst, ◌∙◌, append_assoc}
use Rattle.std.proofs.lemmas.List.{append-nil, take_more}
use Rattle.std.proofs.lemmas.Grind.{flat_map-append}
use Rattle.std.proofs.lemmas.Slice.Zip.{all_zipped_more}
use Rattle.fb_types.specs.declared.keys.Block.{Block}
use Rattle.fb_types.specs.declared.keys.Column.{Column}
use Rattle.fb_types.specs.declared.rows.Angles.{Angles}
use Rattle.grid_state.specs.GridState.{GridState}
use Rattle.grid_laplacian.specs.Enclosures.{EnclosesColumn}
use Rattle.security.specs.Balances.{block_side}
use Rattle.state_proofs.specs.Enclosed.{AreEnclosed, AddsEnclosed}
use Rattle.state_proofs.specs.StateProofs.{all_blocks}

pub none_added : (s : GridState) (old : List Angles) → AddsEnclosed s [] old old
none_added s old = λ before h. subst (λ (bs : List Block). AreEnclosed s bs old) (sym (append-nil before)) h

more_blocks : (before bs : List Block) (i : ℕ) (b : Block) → i < length bs → b ≡ get_or bs i b → (before ++ take i bs) ++ b ∷ [] ≡ before ++ take (i + 1) bs
more_blocks before bs i b h read =
    append_assoc before (take i bs) (b ∷ []) ∙ ap (λ (xs : List Block). before ++ xs) (ap (λ (x : Block). take i bs ++ x ∷ []) read ∙ sym (take_more bs i b h))

pub block_added : (s : GridState) (bs : List Block) (i : ℕ) (b : Block) (old now : List Angles) (a : Angles) → i < length bs → b ≡ get_or bs i b
    → AddsEnclosed s (take i bs) old now → EnclosesColumn s (block_side s b) a → AddsEnclosed s (take (i + 1) bs) old (now ++ a ∷ [])
block_added s bs i b old now a h read so_far one = λ before start.
    subst (λ (xs : List Block). AreEnclosed s xs (now ++ a ∷ [])) (more_blocks before bs i b h read)
    (all_zipped_more (λ x y. EnclosesColumn s (block_side s x) y) (before ++ take i bs) now b a (so_far before start) one)

more_keys : (cs : List Column) (i : ℕ) (c : Column) → i < length cs → c ≡ get_or cs i c → all_blocks (take i cs) ++ c.blocks ≡ all_blocks (take (i + 1) cs)
more_keys cs i c h read =
    ap (λ (bs : List Block). all_blocks (take i cs) ++ bs) (sym (append-nil c.blocks))
    ∙ sym (ap all_blocks (take_more cs i c h ∙ ap (λ (x : Column). take i cs ++ x ∷ []) (sym read)) ∙ flat_map-append (λ (x : Column). x.blocks) (take i cs) (c ∷ []))

pub key_added : (s : GridState) (cs : List Column) (i : ℕ) (c : Column) (now new : List Angles) → i < length cs → c ≡ get_or cs i c
    → AreEnclosed s (all_blocks (take i cs)) now → AddsEnclosed s c.blocks now new → AreEnclosed s (all_blocks (take (i + 1) cs)) new
key_added s cs i c now new h read so_far more = subst (λ (bs : List Block). AreEnclosed s bs new) (more_keys cs i c h read) (more (all_blocks (take i cs)) so_far)
