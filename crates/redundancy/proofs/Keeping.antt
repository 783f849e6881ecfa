-- The steps of the two passes.
use Rattle.std.proofs.Common.{◌≡◌, ◌≢◌, ℕ, zero, suc, ◌+◌, ◌<◌, ℤ, Bool, true, false, List, length, set, refl, sym, ap, ◌∙◌, subst, arith, inl, inr, get_or-set_same, get_or-set_other}
use Rattle.std.specs.Prelude.{◌⊎◌}
use Rattle.std.proofs.lemmas.Bool.{false≢true}
use borrow.Author.Count.{below_more}
use Rattle.multiplier_search.specs.Corners.{IsCovered}
use Rattle.fb_types.specs.declared.rows.Bounds.{Bounds}
use Rattle.fb_types.specs.declared.rows.Half.{Half}
use Rattle.multiplier_search.specs.Found.{one_of}
use Rattle.multiplier_search.specs.Tries.{is_kept}
use Rattle.redundancy.specs.Thinned.{row_of}
use Rattle.redundancy.specs.Kept.{IsNotIdle, IsFree, IsExplained, IsForward, IsBackward}
use Rattle.redundancy.proofs.Chains.{free-before}

same_at : (kept : List Bool) (i : ℕ) (b : Bool) → i < length kept → is_kept (set kept i b) i ≡ b
same_at kept i b l = get_or-set_same kept i b false l

same_beside : (kept : List Bool) (i k : ℕ) (b : Bool) → k ≢ i → is_kept (set kept i b) k ≡ is_kept kept k
same_beside kept i k b h = get_or-set_other kept i k b false h

eq_or_not : (k i : ℕ) → (k ≡ i) ⊎ (k ≢ i)
eq_or_not zero zero = inl refl
eq_or_not zero (suc i) = inr (λ e. absurd (omega arith))
eq_or_not (suc k) zero = inr (λ e. absurd (omega arith))
eq_or_not (suc k) (suc i) = elim (eq_or_not k i) [ inl e ↦ inl (ap suc e) | inr h ↦ inr (λ e. h (omega arith)) ]

-- ---- forward
weaker : (rows : List Half) (bounds : List Bounds) (kept : List Bool) (i : ℕ) (b : Bool) (k : ℕ) → IsExplained rows bounds kept i k → IsExplained rows bounds (set kept i b) (i + 1) k
weaker rows bounds kept i b k e =
    record { explained = λ n f. e.explained n (λ j l h. let ne : j ≢ i = omega arith in f j (omega arith) (same_beside kept i j b ne ∙ h)) }

pub forward_step : (rows : List Half) (bounds : List Bounds) (kept : List Bool) (i : ℕ) (b : Bool) → i < length kept → IsForward rows bounds kept i → (b ≡ true → IsNotIdle rows bounds i × ((j : ℕ) → j < i → is_kept kept j ≡ true → IsFree rows bounds i j)) → (b ≡ false → IsExplained rows bounds kept i i) → IsForward rows bounds (set kept i b) (i + 1)
forward_step rows bounds kept i b l s new old =
    let here : is_kept (set kept i b) i ≡ b = same_at kept i b l in
    let E = λ (k : ℕ). (j : ℕ) → j < k → is_kept (set kept i b) j ≡ true → is_kept (set kept i b) k ≡ true → IsFree rows bounds k j in
    let early : (k : ℕ) → k < i + 1 → E k =
    below_more E i
    (λ k m j n p q. let ne : k ≢ i = omega arith in let nf : j ≢ i = omega arith in s.earlier j k n m (sym (same_beside kept i j b nf) ∙ p) (sym (same_beside kept i k b ne) ∙ q))
    (λ j n p q. let nf : j ≢ i = omega arith in (new (sym here ∙ q)).1 j n (sym (same_beside kept i j b nf) ∙ p)) in
    record {
      box = below_more (λ (k : ℕ). is_kept (set kept i b) k ≡ true → IsNotIdle rows bounds k) i
          (λ k m h. let ne : k ≢ i = omega arith in s.box k m (sym (same_beside kept i k b ne) ∙ h))
          (λ h. (new (sym here ∙ h)).0);
      earlier = λ j k n m p q. early k m j n p q;
      others = below_more (λ (k : ℕ). is_kept (set kept i b) k ≡ false → IsExplained rows bounds (set kept i b) (i + 1) k) i
          (λ k m h. let ne : k ≢ i = omega arith in weaker rows bounds kept i b k (s.others k m (sym (same_beside kept i k b ne) ∙ h)))
          (λ h. weaker rows bounds kept i b i (old (sym here ∙ h)));
    }

-- ---- backward
pub backward_begins : (rows : List Half) (bounds : List Bounds) (kept : List Bool) → IsForward rows bounds kept (length rows) → IsBackward rows bounds kept (length rows)
backward_begins rows bounds kept f = record { forward = f; later = λ k j l m n p q. absurd (omega arith) }

pub stays : (rows : List Half) (bounds : List Bounds) (kept : List Bool) (i : ℕ) → IsBackward rows bounds kept (i + 1) → (is_kept kept i ≡ true → (j : ℕ) → i < j → j < length rows → is_kept kept j ≡ true → IsFree rows bounds i j) → IsBackward rows bounds kept i
stays rows bounds kept i s h =
    record {
      forward = s.forward;
      later = λ k j l m n p q. elim (eq_or_not k i) [
        | inl e ↦ subst (λ (x : ℕ). IsFree rows bounds x j) (sym e) (h (subst (λ (x : ℕ). is_kept kept x ≡ true) e p) j (omega arith) n q)
        | inr d ↦ s.later k j (omega arith) m n p q
      ];
    }

kept_before : (kept : List Bool) (i k : ℕ) → i < length kept → is_kept (set kept i false) k ≡ true → (k ≢ i) × (is_kept kept k ≡ true)
kept_before kept i k l h =
    elim (eq_or_not k i) [
      | inl e ↦ absurd (false≢true (sym (same_at kept i false l) ∙ subst (λ (x : ℕ). is_kept (set kept i false) x ≡ true) e h))
      | inr d ↦ (d, sym (same_beside kept i k false d) ∙ h)
    ]

still_kept : (kept : List Bool) (i k : ℕ) → k ≢ i → is_kept kept k ≡ true → is_kept (set kept i false) k ≡ true
still_kept kept i k d h = same_beside kept i k false d ∙ h

pub drops : (rows : List Half) (bounds : List Bounds) (kept : List Bool) (i j : ℕ) (nu : ℤ) → i < length rows → length kept ≡ length rows → i < j → j < length rows → is_kept kept j ≡ true → IsCovered (row_of rows i) rows (one_of (j + 1)) bounds nu → IsBackward rows bounds kept (i + 1) → IsBackward rows bounds (set kept i false) i
drops rows bounds kept i j nu l same m n kept_j c s =
    let li : i < length kept = omega arith in
    let ne : j ≢ i = omega arith in
    let f = s.forward in
    record {
      forward = record {
        box = λ k a h. f.box k a (kept_before kept i k li h).1;
        earlier = λ a k p q x y. f.earlier a k p q (kept_before kept i a li x).1 (kept_before kept i k li y).1;
        others = λ k a h. elim (eq_or_not k i) [
          | inl e ↦ record { explained = λ b g. (g j n (still_kept kept i j ne kept_j)).never nu (subst (λ (x : ℕ). IsCovered (row_of rows x) rows (one_of (j + 1)) bounds nu) (sym e) c) }
          | inr d ↦ record {
            explained = λ b g. (f.others k a (sym (same_beside kept i k false d) ∙ h)).explained b
                (λ x y z. elim (eq_or_not x i) [
                  | inl e ↦ subst (λ (v : ℕ). IsFree rows bounds k v) (sym e) (free-before rows bounds k i j nu l c (g j n (still_kept kept i j ne kept_j)))
                  | inr w ↦ g x y (still_kept kept i x w z)
                ]);
          }
        ];
      };
      later = λ k a p q r x y. let v = kept_before kept i k li x in let d = v.0 in s.later k a (omega arith) q r v.1 (kept_before kept i a li y).1;
    }
