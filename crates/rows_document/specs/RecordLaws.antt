-- Laws, which are proved: nobody need believe them.
-- A line is the line of one record.
use Rattle.std.proofs.Common.{◌≡◌, ℕ, ◌*◌, ◌^◌, ℤ, List, [], ◌∷◌, map, refl, ap, lit<, arith}
use Rattle.std.specs.List.{All}
use Rattle.std.specs.Str.{bytes_eq}
use Rattle.std.proofs.lemmas.Slice.Eq.{bytes_eq-Decides}
use Rattle.std.proofs.Common.{false}
use Rattle.std.specs.Fmt.{signed_decimal}
use Rattle.std.proofs.lemmas.List.Elements.{All-head, All-tail}
use Rattle.whole_laws.specs.Sums.{IsWithin}
use Rattle.fb_types.specs.declared.rows.Half.{Half}
use Rattle.whole_numbers.specs.SpelledLaws.{signed_same, decimal_same, within_same}
use Rattle.rows_document.specs.Records.{IsGood, IsGoodHalf, line_of, numbers_of}
use Rattle.rows_document.specs.declared.record.Record.{Record}
use Rattle.rows_document.specs.declared.record.Record.TheVariants.{Zone, Row, Target, Cite, Balance}

head_same : {X : Type 0} (x y : X) (xs ys : List X) → (x ∷ xs) ≡ (y ∷ ys) → x ≡ y
head_same x y xs ys e = cc

tail_same : {X : Type 0} (x y : X) (xs ys : List X) → (x ∷ xs) ≡ (y ∷ ys) → xs ≡ ys
tail_same x y xs ys e = cc

-- two keywords
apart : (xs ys : List ℕ) → xs ≡ ys → bytes_eq xs ys ≡ false → ⊥
apart xs ys e h = let t = (bytes_eq-Decides xs ys).1 e in cc

list_same : (xs ys : List ℤ) → All (λ a. IsWithin (10 ^ 12) a) xs → All (λ a. IsWithin (10 ^ 12) a) ys → map signed_decimal xs ≡ map signed_decimal ys → xs ≡ ys
list_same [] [] h k e = refl
list_same [] (y ∷ ys) h k e = cc
list_same (x ∷ xs) [] h k e = cc
list_same (x ∷ xs) (y ∷ ys) h k e =
    let first = within_same (10 ^ 12) x y (All-head (IsWithin (10 ^ 12)) x xs h) (All-head (IsWithin (10 ^ 12)) y ys k) (lit< tt) (head_same _ _ _ _ e) in
    let rest = list_same xs ys (All-tail (IsWithin (10 ^ 12)) x xs h) (All-tail (IsWithin (10 ^ 12)) y ys k) (tail_same _ _ _ _ e) in
    cc

half_same : (g h : Half) → IsGoodHalf g → IsGoodHalf h → numbers_of g ≡ numbers_of h → g ≡ h
half_same g h p q e =
    let side = within_same (2 * 10 ^ 13) g.r h.r p.side q.side (lit< tt) (head_same _ _ _ _ e) in
    let a = list_same g.a h.a p.coefficients.small q.coefficients.small (tail_same _ _ _ _ e) in
    λ i. record { a = a i; r = side i }

pub line_same : (r s : Record) → IsGood r → IsGood s → line_of r ≡ line_of s → r ≡ s
line_same (Zone a) (Zone b) p q e =
    let texts = tail_same _ _ _ _ e in
    let low = within_same (10 ^ 11) a.low b.low p.small.low q.small.low (lit< tt) (head_same _ _ _ _ texts) in
    let high = within_same (10 ^ 11) a.high b.high p.small.high q.small.high (lit< tt) (head_same _ _ _ _ (tail_same _ _ _ _ texts)) in
    λ i. Zone (record { low = low i; high = high i })
line_same (Row g) (Row h) p q e = ap Row (half_same g h p q (tail_same _ _ _ _ e))
line_same (Target g) (Target h) p q e = ap Target (half_same g h p q (tail_same _ _ _ _ e))
line_same (Cite m) (Cite n) p q e =
    let texts = tail_same _ _ _ _ e in
    let row = decimal_same m.row n.row (omega (arith, p.row)) (omega (arith, q.row)) (head_same _ _ _ _ texts) in
    let value = signed_same m.value n.value p.value q.value (head_same _ _ _ _ (tail_same _ _ _ _ texts)) in
    λ i. Cite (record { row = row i; value = value i })
line_same (Balance m) (Balance n) p q e = ap Balance (signed_same m n p q (head_same _ _ _ _ (tail_same _ _ _ _ e)))
line_same (Zone a) (Row h) p q e = absurd (apart _ _ (head_same _ _ _ _ e) refl)
line_same (Zone a) (Target h) p q e = absurd (apart _ _ (head_same _ _ _ _ e) refl)
line_same (Zone a) (Cite m) p q e = absurd (apart _ _ (head_same _ _ _ _ e) refl)
line_same (Zone a) (Balance m) p q e = absurd (apart _ _ (head_same _ _ _ _ e) refl)
line_same (Row g) (Zone b) p q e = absurd (apart _ _ (head_same _ _ _ _ e) refl)
line_same (Row g) (Target h) p q e = absurd (apart _ _ (head_same _ _ _ _ e) refl)
line_same (Row g) (Cite m) p q e = absurd (apart _ _ (head_same _ _ _ _ e) refl)
line_same (Row g) (Balance m) p q e = absurd (apart _ _ (head_same _ _ _ _ e) refl)
line_same (Target g) (Zone b) p q e = absurd (apart _ _ (head_same _ _ _ _ e) refl)
line_same (Target g) (Row h) p q e = absurd (apart _ _ (head_same _ _ _ _ e) refl)
line_same (Target g) (Cite m) p q e = absurd (apart _ _ (head_same _ _ _ _ e) refl)
line_same (Target g) (Balance m) p q e = absurd (apart _ _ (head_same _ _ _ _ e) refl)
line_same (Cite m) (Zone b) p q e = absurd (apart _ _ (head_same _ _ _ _ e) refl)
line_same (Cite m) (Row h) p q e = absurd (apart _ _ (head_same _ _ _ _ e) refl)
line_same (Cite m) (Target h) p q e = absurd (apart _ _ (head_same _ _ _ _ e) refl)
line_same (Cite m) (Balance n) p q e = absurd (apart _ _ (head_same _ _ _ _ e) refl)
line_same (Balance m) (Zone b) p q e = absurd (apart _ _ (head_same _ _ _ _ e) refl)
line_same (Balance m) (Row h) p q e = absurd (apart _ _ (head_same _ _ _ _ e) refl)
line_same (Balance m) (Target h) p q e = absurd (apart _ _ (head_same _ _ _ _ e) refl)
line_same (Balance m) (Cite n) p q e = absurd (apart _ _ (head_same _ _ _ _ e) refl)
