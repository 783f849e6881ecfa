-- Lists in groups by number, one item more at a time.
use Rattle.std.proofs.Common.{◌≡◌, ℕ, zero, suc, ◌+◌, ◌<◌, ◌≤◌, Bool, true, false, cond, List, [], ◌∷◌, ◌++◌, length, map, take, get_or, set, refl, sym, ap, subst, ◌∙◌, inl, inr, arith, rules, append_assoc, length-append, length-set, get_or-set_same, get_or-set_other}
use Rattle.std.specs.Prelude.{◌==◌, ◌≢◌, ◌⊎◌}
use Rattle.std.specs.List.{filter, zip}
use Rattle.std.proofs.lemmas.Bool.{cases_eq, eq-eqb, ne_eqb}
use Rattle.std.proofs.lemmas.List.{append-nil, take_more, take_all, places, nil_from_length, length-take-le}
use Rattle.number_groups.specs.Groups.{beside, AreGroups}

-- ---- what stands beside a number

pub beside_cons : {A : Type 0} (k n : ℕ) (ns : List ℕ) (x : A) (xs : List A) → beside k (n ∷ ns) (x ∷ xs) ≡ cond (n == k) (x ∷ beside k ns xs) (beside k ns xs)
beside_cons {A} k n ns x xs = by_test (n == k)
  where
    rest : List (ℕ × A)
    rest = filter (λ e. e.0 == k) (zip ns xs)

    by_test : (b : Bool) → map (λ (e : ℕ × A). e.1) (cond b ((n, x) ∷ rest) rest) ≡ cond b (x ∷ map (λ (e : ℕ × A). e.1) rest) (map (λ (e : ℕ × A). e.1) rest)
    by_test true = refl
    by_test false = refl

module _ {A : Type 0} (k : ℕ) where
  pub beside_push : (ns : List ℕ) (n : ℕ) (xs : List A) (x : A) → length ns ≡ length xs → beside k (ns ++ n ∷ []) (xs ++ x ∷ []) ≡ beside k ns xs ++ cond (n == k) (x ∷ []) []
  beside_push [] n [] x e = beside_cons k n [] x []
  beside_push [] n (y ∷ ys) x e = absurd (omega arith)
  beside_push (m ∷ ms) n [] x e = absurd (omega arith)
  beside_push (m ∷ ms) n (y ∷ ys) x e =
      beside_cons k m (ms ++ n ∷ []) y (ys ++ x ∷ [])
      ∙ (ap (λ rest. cond (m == k) (y ∷ rest) rest) (beside_push ms n ys x (omega arith))
      ∙ (by_test (m == k) ∙ sym (ap (λ front. front ++ cond (n == k) (x ∷ []) []) (beside_cons k m ms y ys))))
    where
      by_test : (b : Bool) → cond b (y ∷ (beside k ms ys ++ cond (n == k) (x ∷ []) [])) (beside k ms ys ++ cond (n == k) (x ∷ []) [])
          ≡ cond b (y ∷ beside k ms ys) (beside k ms ys) ++ cond (n == k) (x ∷ []) []
      by_test true = refl
      by_test false = refl

-- as many stand beside a number in lists of the same length
pub beside_length : {A B : Type 0} (k : ℕ) (ns : List ℕ) (xs : List A) (ys : List B) → length ns ≡ length xs → length ns ≡ length ys → length (beside k ns xs) ≡ length (beside k ns ys)
beside_length k [] [] [] d e = refl
beside_length k [] (x ∷ xs) ys d e = absurd (omega arith)
beside_length k [] [] (y ∷ ys) d e = absurd (omega arith)
beside_length k (n ∷ ns) [] ys d e = absurd (omega arith)
beside_length k (n ∷ ns) (x ∷ xs) [] d e = absurd (omega arith)
beside_length {A} {B} k (n ∷ ns) (x ∷ xs) (y ∷ ys) d e =
    ap length (beside_cons k n ns x xs) ∙ (by_test (n == k) (beside_length k ns xs ys (omega arith) (omega arith)) ∙ sym (ap length (beside_cons k n ns y ys)))
  where
    by_test : (b : Bool) → length (beside k ns xs) ≡ length (beside k ns ys) → length (cond b (x ∷ beside k ns xs) (beside k ns xs)) ≡ length (cond b (y ∷ beside k ns ys) (beside k ns ys))
    by_test true h = ap suc h
    by_test false h = h

-- one more stands beside a number where the number stands once more
pub beside_counted : (ns : List ℕ) (i n : ℕ) → i < length ns → n ≡ get_or ns i n → length (beside n (take i ns) (take i ns)) < length (beside n ns ns)
beside_counted [] i n l e = absurd (omega arith)
beside_counted (m ∷ ms) zero n l e = let here = ap length (beside_cons n m ms m ms ∙ ap (λ b. cond b (m ∷ beside n ms ms) (beside n ms ms)) (eq-eqb m n (sym e))) in omega (arith, here)
beside_counted (m ∷ ms) (suc i) n l e =
    by_test (m == n) (ap length (beside_cons n m (take i ms) m (take i ms))) (ap length (beside_cons n m ms m ms)) (beside_counted ms i n (omega arith) e)
  where
    by_test : (b : Bool) → length (beside n (m ∷ take i ms) (m ∷ take i ms)) ≡ length (cond b (m ∷ beside n (take i ms) (take i ms)) (beside n (take i ms) (take i ms)))
        → length (beside n (m ∷ ms) (m ∷ ms)) ≡ length (cond b (m ∷ beside n ms ms) (beside n ms ms))
        → length (beside n (take i ms) (take i ms)) < length (beside n ms ms) → length (beside n (m ∷ take i ms) (m ∷ take i ms)) < length (beside n (m ∷ ms) (m ∷ ms))
    by_test true f g rest = omega (arith, f, g, rest)
    by_test false f g rest = omega (arith, f, g, rest)

-- ---- groups are filled

pub groups_more : {A : Type 0} (count : ℕ) (ns : List ℕ) (xs : List A) (i n : ℕ) (x : A) (groups after : List (List A)) → length ns ≡ length xs → i < length ns → n ≡ get_or ns i n → x ≡ get_or xs i x → n < count
    → AreGroups count (take i ns) (take i xs) groups → after ≡ set groups n (get_or groups n [] ++ x ∷ []) → AreGroups count (take (i + 1) ns) (take (i + 1) xs) after
groups_more {A} count ns xs i n x groups after long l read_n read_x below are added = record {
  as_many = ap length added ∙ (length-set groups n (get_or groups n [] ++ x ∷ []) ∙ are.as_many);
  each = λ k b.
      ap (λ (gs : List (List A)). get_or gs k []) added
      ∙ (at k b (cases_eq n k)
      ∙ sym (more k));
}
  where
    same_long : length (take i ns) ≡ length (take i xs)
    same_long = search (arith, rules, places)

    more : (k : ℕ) → beside k (take (i + 1) ns) (take (i + 1) xs) ≡ beside k (take i ns) (take i xs) ++ cond (n == k) (x ∷ []) []
    more k =
        ap (λ (ms : List ℕ). beside k ms (take (i + 1) xs)) (take_more ns i n l ∙ ap (λ m. take i ns ++ m ∷ []) (sym read_n))
        ∙ (ap (λ (ys : List A). beside k (take i ns ++ n ∷ []) ys) (take_more xs i x (omega arith) ∙ ap (λ y. take i xs ++ y ∷ []) (sym read_x))
        ∙ beside_push k (take i ns) n (take i xs) x same_long)

    at : (k : ℕ) → k < count → (n ≡ k) ⊎ (n ≢ k) → get_or (set groups n (get_or groups n [] ++ x ∷ [])) k [] ≡ beside k (take i ns) (take i xs) ++ cond (n == k) (x ∷ []) []
    at k b (inl e) =
        ap (λ (m : ℕ). get_or (set groups n (get_or groups n [] ++ x ∷ [])) m []) (sym e)
        ∙ (get_or-set_same groups n (get_or groups n [] ++ x ∷ []) [] (let size = are.as_many in omega arith)
        ∙ (ap (λ (m : ℕ). get_or groups m [] ++ x ∷ []) e
        ∙ (ap (λ front. front ++ x ∷ []) (are.each k b)
        ∙ sym (ap (λ t. beside k (take i ns) (take i xs) ++ cond t (x ∷ []) []) (eq-eqb n k e)))))
    at k b (inr d) =
        get_or-set_other groups n k (get_or groups n [] ++ x ∷ []) [] (λ e. d (sym e))
        ∙ (are.each k b
        ∙ (sym (append-nil (beside k (take i ns) (take i xs)))
        ∙ sym (ap (λ t. beside k (take i ns) (take i xs) ++ cond t (x ∷ []) []) (ne_eqb n k d))))

pub groups_filled : {A : Type 0} (count : ℕ) (ns : List ℕ) (xs : List A) (i : ℕ) (groups : List (List A)) → length ns ≡ length xs → length ns ≤ i → AreGroups count (take i ns) (take i xs) groups → AreGroups count ns xs groups
groups_filled {A} count ns xs i groups long l are =
    subst (λ (ms : List ℕ). AreGroups count ms xs groups) (take_all i ns l)
    (subst (λ (ys : List A). AreGroups count (take i ns) ys groups) (take_all i xs (omega arith)) are)

-- ---- groups are dealt

module _ {A : Type 0} (ns : List ℕ) (groups : List (List A)) (i n : ℕ) (items : List A) (queues : List (List A)) (l : i < length ns) (read : n ≡ get_or ns i n) (below : n < length groups)
    (long : length items ≡ i)
    (each : (k : ℕ) → k < length groups → get_or groups k [] ≡ beside k (take i ns) items ++ get_or queues k []) where
  -- the next number's queue has an item
  pub next_left : ((k : ℕ) → k < length groups → length (get_or groups k []) ≡ length (beside k ns ns)) → 0 < length (get_or queues n [])
  next_left counted =
      let taken : length (take i ns) ≡ i = length-take-le i ns (omega (arith, l)) in
      let whole = counted n below in
      let split = ap length (each n below) ∙ length-append (beside n (take i ns) items) (get_or queues n []) in
      let same = beside_length n (take i ns) items (take i ns) (omega (arith, taken, long)) refl in
      let less = beside_counted ns i n l read in
      omega (arith, whole, split, same, less)

  -- one more item is dealt
  pub dealt_more : (x : A) (rest : List A) (items_after : List A) (queues_after : List (List A)) → length queues ≡ length groups → get_or queues n [] ≡ x ∷ rest → queues_after ≡ set queues n rest → items_after ≡ items ++ x ∷ []
      → (k : ℕ) → k < length groups → get_or groups k [] ≡ beside k (take (i + 1) ns) items_after ++ get_or queues_after k []
  dealt_more x rest items_after queues_after size first left added k b =
      each k b
      ∙ (by_case (cases_eq n k)
      ∙ sym (λ j. more j ++ get_or (left j) k []))
    where
      taken : length (take i ns) ≡ length items
      taken = length-take-le i ns (omega (arith, l)) ∙ sym long

      more : beside k (take (i + 1) ns) items_after ≡ beside k (take i ns) items ++ cond (n == k) (x ∷ []) []
      more =
          ap (λ (ms : List ℕ). beside k ms items_after) (take_more ns i n l ∙ ap (λ m. take i ns ++ m ∷ []) (sym read))
          ∙ (ap (λ (ys : List A). beside k (take i ns ++ n ∷ []) ys) added
          ∙ beside_push k (take i ns) n items x taken)

      by_case : (n ≡ k) ⊎ (n ≢ k) → beside k (take i ns) items ++ get_or queues k [] ≡ (beside k (take i ns) items ++ cond (n == k) (x ∷ []) []) ++ get_or (set queues n rest) k []
      by_case (inl e) =
          ap (λ q. beside k (take i ns) items ++ q) (ap (λ (m : ℕ). get_or queues m []) (sym e) ∙ first)
          ∙ (sym (append_assoc (beside k (take i ns) items) (x ∷ []) rest)
          ∙ sym (λ j. (beside k (take i ns) items ++ cond (eq-eqb n k e j) (x ∷ []) []) ++ here j))
        where
          here : get_or (set queues n rest) k [] ≡ rest
          here = ap (λ (m : ℕ). get_or (set queues n rest) m []) (sym e) ∙ get_or-set_same queues n rest [] (omega (arith, size, below))
      by_case (inr d) =
          sym (λ j. same j ++ get_or-set_other queues n k rest [] (λ e. d (sym e)) j)
        where
          same : beside k (take i ns) items ++ cond (n == k) (x ∷ []) [] ≡ beside k (take i ns) items
          same = ap (λ t. beside k (take i ns) items ++ cond t (x ∷ []) []) (ne_eqb n k d) ∙ append-nil (beside k (take i ns) items)

pub dealt_all : {A : Type 0} (ns : List ℕ) (groups : List (List A)) (i : ℕ) (items : List A) (queues : List (List A)) → length ns ≤ i → i ≤ length ns → length items ≡ i
    → ((k : ℕ) → k < length groups → get_or groups k [] ≡ beside k (take i ns) items ++ get_or queues k [])
    → ((k : ℕ) → k < length groups → length (get_or groups k []) ≡ length (beside k ns ns)) → AreGroups (length groups) ns items groups
dealt_all {A} ns groups i items queues past within long each counted = record {
  as_many = refl;
  each = λ k b.
      let split = whole k b in
      let size = ap length split ∙ length-append (beside k ns items) (get_or queues k []) in
      let same = beside_length k ns items ns (omega (arith, past, within, long)) refl in
      let full = counted k b in
      let none : get_or queues k [] ≡ [] = nil_from_length (get_or queues k []) (omega (arith, size, same, full)) in
      split ∙ (ap (λ q. beside k ns items ++ q) none ∙ append-nil (beside k ns items));
}
  where
    whole : (k : ℕ) → k < length groups → get_or groups k [] ≡ beside k ns items ++ get_or queues k []
    whole k b = each k b ∙ ap (λ (ms : List ℕ). beside k ms items ++ get_or queues k []) (take_all i ns past)
