-- The first line of a text, and the lines after it.
use Rattle.std.proofs.Common.{◌≡◌, ℕ, ◌+◌, ◌-◌, ◌<◌, ◌==◌, false, List, [], ◌∷◌, ◌++◌, length, take, drop, get_or, All, refl, sym, ap, ◌∙◌, arith}
use Rattle.std.specs.List.{slice_split}
use Rattle.std.proofs.lemmas.Bool.Decides.{nat_tests}
use Rattle.std.proofs.lemmas.List.{drop_more, take_more, take-append-drop, take_rest, drop_all}
use Rattle.std.proofs.lemmas.List.Elements.{All-push, All-same}
use Rattle.std.proofs.lemmas.List.Splits.{slice_split_none, slice_split_at, length-slice_split}
use Rattle.rows_document.specs.Table.{lines_of, without_empty_last}

abbrev pub IsInLine : ℕ → Type 0
IsInLine b = (b == 10) ≡ false

pub in_line_more : (xs : List ℕ) (i d : ℕ) → i < length xs → (get_or xs i d == 10) ≡ false → All IsInLine (take i xs) → All IsInLine (take (i + 1) xs)
in_line_more xs i d l e h = All-same IsInLine (take (i + 1) xs) (take i xs ++ get_or xs i d ∷ []) (take_more xs i d l) (All-push IsInLine (take i xs) (get_or xs i d) h e)

-- a part with further parts after it is kept
kept : (x : List ℕ) (parts : List (List ℕ)) → 0 < length parts → without_empty_last (x ∷ parts) ≡ x ∷ without_empty_last parts
kept x [] l = absurd (omega arith)
kept x (y ∷ ys) l = refl

last_kept : (x : List ℕ) → 0 < length x → without_empty_last (x ∷ []) ≡ x ∷ []
last_kept [] l = absurd (omega arith)
last_kept (c ∷ cs) l = grind (arith, nat_tests)

some_parts : (bytes : List ℕ) → 0 < length (slice_split (λ b. b == 10) bytes)
some_parts bytes = omega (arith, length-slice_split (λ b. b == 10) bytes)

-- the first line ends at the first line feed
pub line_ends : (xs : List ℕ) (i d : ℕ) → i < length xs → get_or xs i d ≡ 10 → All IsInLine (take i xs) → lines_of xs ≡ take i xs ∷ lines_of (drop (i + 1) xs)
line_ends xs i d l e h =
    ap lines_of (sym (take-append-drop i xs) ∙ ap (λ zs. take i xs ++ zs) (drop_more xs i d l ∙ ap (λ z. z ∷ drop (i + 1) xs) e))
    ∙ ap without_empty_last (slice_split_at (λ b. b == 10) (take i xs) 10 (drop (i + 1) xs) h refl)
    ∙ kept (take i xs) (slice_split (λ b. b == 10) (drop (i + 1) xs)) (some_parts (drop (i + 1) xs))

-- a text without a line feed is one line
line_alone : (xs : List ℕ) → 0 < length xs → All IsInLine xs → lines_of xs ≡ xs ∷ []
line_alone xs l h = ap without_empty_last (slice_split_none (λ b. b == 10) xs h) ∙ last_kept xs l

-- nothing stands after the end
nothing_left : (xs : List ℕ) → take (length xs - length xs) (drop (length xs) xs) ≡ []
nothing_left xs = rw take_rest (drop_all (length xs) xs (omega arith))

pub line_last : (xs : List ℕ) → 0 < length xs → All IsInLine xs → lines_of xs ≡ xs ∷ lines_of (take (length xs - length xs) (drop (length xs) xs))
line_last xs l h = line_alone xs l h ∙ ap (λ ys. xs ∷ lines_of ys) (sym (nothing_left xs))
