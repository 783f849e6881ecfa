-- The first fault of a list: from item to item, and that there is but one.
use Rattle.std.proofs.Common.{◌≡◌, ℕ, ◌+◌, ◌⊎◌, inl, inr, List, [], ◌∷◌, ◌++◌, length, Option, Some, None, refl, sym, ap, subst, ◌∙◌}
use Rattle.first_fault.specs.FirstFault.{IsFirstFault, HasNoFault}

no_end : {I : Type 0} (front : List I) (item : I) (rest : List I) → (let none : List I = [] in none ≡ front ++ item ∷ rest) → ⊥
no_end [] item rest e = cc
no_end (f ∷ fs) item rest e = cc

split_push : {I : Type 0} (before front : List I) (p q : I) (rest : List I) → before ++ p ∷ [] ≡ front ++ q ∷ rest → ((before ≡ front) × (p ≡ q)) ⊎ ((more : List I) × (before ≡ front ++ q ∷ more))
split_push [] [] p q rest e = inl (refl, cc)
split_push [] (f ∷ fs) p q rest e = absurd (no_end fs q rest cc)
split_push {I} (b ∷ bs) [] p q rest e = let same : b ≡ q = cc in inr (bs, ap (λ (x : I). x ∷ bs) same)
split_push {I} (b ∷ bs) (f ∷ fs) p q rest e =
    let head : b ≡ f = cc in
    elim (split_push bs fs p q rest cc) [
      | inl h ↦ let tail : bs ≡ fs = h.0 in inl (cc, h.1)
      | inr h ↦ let tail : bs ≡ fs ++ q ∷ h.0 = h.1 in inr (h.0, ap (λ (x : I). x ∷ bs) head ∙ ap (λ (xs : List I). f ∷ xs) tail)
    ]

pub HasNoFault-nil : {I K : Type 0} (fault_of : List I → I → Option K) → HasNoFault fault_of []
HasNoFault-nil fault_of = λ front item rest e. absurd (no_end front item rest e)

pub HasNoFault-push : {I K : Type 0} (fault_of : List I → I → Option K) (before : List I) (p : I) → HasNoFault fault_of before → fault_of before p ≡ None → HasNoFault fault_of (before ++ p ∷ [])
HasNoFault-push {I} fault_of before p none here = λ front q rest e.
    elim (split_push before front p q rest e) [
      | inl h ↦ subst (λ (x : List I). fault_of x q ≡ None) h.0 (subst (λ (x : I). fault_of before x ≡ None) h.1 here)
      | inr h ↦ none front q h.0 h.1
    ]

-- ---- there is but one

-- two splits of a list are one, or one is before the other
split_cases : {I : Type 0} (f g : List I) (p q : I) (r s : List I) → f ++ p ∷ r ≡ g ++ q ∷ s
    → ((f ≡ g) × (p ≡ q)) ⊎ (((more : List I) × (g ≡ f ++ p ∷ more)) ⊎ ((more : List I) × (f ≡ g ++ q ∷ more)))
split_cases [] [] p q r s e = inl (refl, cc)
split_cases {I} [] (y ∷ g) p q r s e = let same : y ≡ p = cc in inr (inl (g, ap (λ (x : I). x ∷ g) same))
split_cases {I} (x ∷ f) [] p q r s e = let same : x ≡ q = cc in inr (inr (f, ap (λ (z : I). z ∷ f) same))
split_cases {I} (x ∷ f) (y ∷ g) p q r s e =
    let head : x ≡ y = cc in
    elim (split_cases f g p q r s cc) [
      | inl h ↦ let tail : f ≡ g = h.0 in inl (cc, h.1)
      | inr h ↦ elim h [
        | inl i ↦ let tail : g ≡ f ++ p ∷ i.0 = i.1 in inr (inl (i.0, ap (λ (z : I). z ∷ g) (sym head) ∙ ap (λ (zs : List I). x ∷ zs) tail))
        | inr i ↦ let tail : f ≡ g ++ q ∷ i.0 = i.1 in inr (inr (i.0, ap (λ (z : I). z ∷ f) head ∙ ap (λ (zs : List I). y ∷ zs) tail))
      ]
    ]

pub IsFirstFault-same : {I K : Type 0} (fault_of : List I → I → Option K) (all : List I) (m n : ℕ) (j k : K) → IsFirstFault fault_of all m j → IsFirstFault fault_of all n k → (m ≡ n) × (j ≡ k)
IsFirstFault-same {I} {K} fault_of all m n j k a b =
    elim (split_cases a.before b.before a.here b.here a.after b.after (sym a.split ∙ b.split)) [
      | inl h ↦
          let number : length a.before + 1 ≡ length b.before + 1 = ap (λ (xs : List I). length xs + 1) h.0 in
          let fault : fault_of a.before a.here ≡ fault_of b.before b.here = ap (λ (xs : List I). fault_of xs a.here) h.0 ∙ ap (fault_of b.before) h.1 in
          let kind : Some j ≡ Some k = sym a.fault ∙ fault ∙ b.fault in
          (a.number_is ∙ number ∙ sym b.number_is, cc)
      | inr h ↦ elim h [
        | inl i ↦ let none = b.none_before a.before a.here i.0 i.1 in let some = a.fault in absurd cc
        | inr i ↦ let none = a.none_before b.before b.here i.0 i.1 in let some = b.fault in absurd cc
      ]
    ]

pub IsFirstFault-fault : {I K : Type 0} (fault_of : List I → I → Option K) (all : List I) (n : ℕ) (k : K) → IsFirstFault fault_of all n k → HasNoFault fault_of all → ⊥
IsFirstFault-fault fault_of all n k a none = let h = none a.before a.here a.after a.split in let some = a.fault in cc
