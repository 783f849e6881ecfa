-- Laws of words and marks, which are proved: nobody need believe them.
use Rattle.std.proofs.Common.{◌≡◌, ℕ, ◌+◌, ◌<◌, true, false, List, [], ◌∷◌, ◌++◌, length, get_or, take, drop, refl, sym, ap, ◌∙◌, arith}
use Rattle.std.specs.Prelude.{◌==◌}
use Rattle.std.specs.List.{All, join_with_byte}
use Rattle.std.proofs.lemmas.Bool.Decides.{nat_tests}
use Rattle.std.proofs.lemmas.List.Elements.{All-push, All-same}
use Rattle.std.proofs.lemmas.List.{drop_more, take_more, take-append-drop}
use Rattle.std.proofs.lemmas.List.Splits.{slice_split_at, join_with_byte-slice_split, length-slice_split}
use Rattle.number_lists.specs.Words.{parts_of, IsWord, IsHead, HasNoHead}

is_mark : (mark : ℕ) → (mark == mark) ≡ true
is_mark mark = grind (arith, nat_tests)

-- the parts, joined, are the text
pub joined : (mark : ℕ) (bs : List ℕ) (parts : List (List ℕ)) → parts_of mark bs ≡ parts → bs ≡ join_with_byte mark parts
joined mark bs parts e = sym (join_with_byte-slice_split mark bs) ∙ ap (join_with_byte mark) e

-- the first part ends at the first mark
pub parts_read : (mark : ℕ) (xs : List ℕ) (i d : ℕ) → i < length xs → get_or xs i d ≡ mark → IsWord mark (take i xs) → parts_of mark xs ≡ take i xs ∷ parts_of mark (drop (i + 1) xs)
parts_read mark xs i d l e h =
    ap (parts_of mark) (sym (take-append-drop i xs) ∙ ap (λ zs. take i xs ++ zs) (drop_more xs i d l ∙ ap (λ z. z ∷ drop (i + 1) xs) e))
    ∙ slice_split_at (λ b. b == mark) (take i xs) mark (drop (i + 1) xs) h (is_mark mark)

pub more_free : (mark : ℕ) (xs : List ℕ) (i d : ℕ) → i < length xs → (get_or xs i d == mark) ≡ false → IsWord mark (take i xs) → IsWord mark (take (i + 1) xs)
more_free mark xs i d l e h =
    All-same (λ b. (b == mark) ≡ false) (take (i + 1) xs) (take i xs ++ get_or xs i d ∷ []) (take_more xs i d l)
    (All-push (λ b. (b == mark) ≡ false) (take i xs) (get_or xs i d) h e)

parts_some : (mark : ℕ) (text : List ℕ) → 0 < length (parts_of mark text)
parts_some mark text = omega (arith, length-slice_split (λ b. b == mark) text)

joined_head : (mark : ℕ) (first : List ℕ) (parts : List (List ℕ)) → 0 < length parts → join_with_byte mark (first ∷ parts) ≡ first ++ mark ∷ join_with_byte mark parts
joined_head mark first [] l = absurd (omega arith)
joined_head mark first (p ∷ ps) l = refl

pub word_parts : (mark : ℕ) (text word tail : List ℕ) → IsWord mark word → text ≡ word ++ mark ∷ tail → parts_of mark text ≡ word ∷ parts_of mark tail
word_parts mark text word tail w e = ap (parts_of mark) e ∙ slice_split_at (λ b. b == mark) word mark tail w (is_mark mark)

cons_first : (x y : List ℕ) (xs ys : List (List ℕ)) → x ∷ xs ≡ y ∷ ys → x ≡ y
cons_first x y xs ys e = cc

cons_rest : (x y : List ℕ) (xs ys : List (List ℕ)) → x ∷ xs ≡ y ∷ ys → xs ≡ ys
cons_rest x y xs ys e = cc

pub is_head : (mark : ℕ) (text first rest : List ℕ) → parts_of mark text ≡ first ∷ parts_of mark rest → IsHead mark text first rest
is_head mark text first rest e = record {
  whole =
      joined mark text (first ∷ parts_of mark rest) e ∙ joined_head mark first (parts_of mark rest) (parts_some mark rest)
      ∙ ap (λ t. first ++ mark ∷ t) (join_with_byte-slice_split mark rest);
  only_first = λ word tail w t. cons_first first word (parts_of mark rest) (parts_of mark tail) (sym e ∙ word_parts mark text word tail w t);
  only_rest = λ word tail w t.
      sym (join_with_byte-slice_split mark rest)
      ∙ ap (join_with_byte mark) (cons_rest first word (parts_of mark rest) (parts_of mark tail) (sym e ∙ word_parts mark text word tail w t))
      ∙ join_with_byte-slice_split mark tail;
}

pub no_head : (mark : ℕ) (text first : List ℕ) → parts_of mark text ≡ first ∷ [] → HasNoHead mark text
no_head mark text first e = record {
  none = λ word tail w t.
      let k = cons_rest first word [] (parts_of mark tail) (sym e ∙ word_parts mark text word tail w t) in
      let n = parts_some mark tail in
      let z : 0 ≡ length (parts_of mark tail) = ap length k in
      absurd (omega arith);
}

-- a text has one first word and one rest
pub word_same : (mark : ℕ) (w v s t : List ℕ) → IsWord mark w → IsWord mark v → w ++ mark ∷ s ≡ v ++ mark ∷ t → (w ≡ v) × (s ≡ t)
word_same mark w v s t h k e =
    let is = is_head mark (w ++ mark ∷ s) w s (word_parts mark (w ++ mark ∷ s) w s h refl) in
    (is.only_first v t k e, is.only_rest v t k e)
