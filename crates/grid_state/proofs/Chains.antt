-- Chains of links: two places are joined exactly where no set that has both ends of each link, or neither, tells them apart.
use Rattle.std.proofs.Common.{◌≡◌, ℕ, zero, suc, ◌<◌, inl, inr, Bool, true, false, eqb, ◌&&◌, ◌||◌, List, [], ◌∷◌, length, get_or, arith, refl, sym, ap, ap₂, subst, ◌∙◌}
use Rattle.std.specs.List.{Any}
use Rattle.std.proofs.lemmas.Bool.{eq-eqb, eqb-true, or_cases, or_left, and_parts}
use Rattle.std.proofs.lemmas.List.Elements.{All-cons}
use Rattle.grid_state.specs.declared.links.Link.{Link}
use Rattle.grid_state.specs.Links.{HasEnds, IsJoined}
use Rattle.grid_state.specs.Unions.{Respects}

-- a set does not tell joined places apart
step_same : (links : List Link) (s : ℕ → Bool) → Respects links s → (i j : ℕ) → Any (HasEnds i j) links → s i ≡ s j
step_same links s r i j a =
    let both : s a.1.one ≡ s a.1.other = subst (λ (l : Link). s l.one ≡ s l.other) a.3 (r.both a.0 a.1 a.2) in
    elim a.4 [
      | inl e ↦ ap s (sym e.0) ∙ both ∙ ap s e.1
      | inr e ↦ ap s (sym e.1) ∙ sym both ∙ ap s e.0
    ]

pub same_side : (links : List Link) (s : ℕ → Bool) → Respects links s → (i j : ℕ) → IsJoined links i j → s i ≡ s j
same_side links s r i j (IsJoined.itself _) = refl
same_side links s r i j (IsJoined.along _ k _ a rest) = step_same links s r i k a ∙ same_side links s r k j rest

-- ---- chains of chains
pub joined_trans : (links : List Link) (i j k : ℕ) → IsJoined links i j → IsJoined links j k → IsJoined links i k
joined_trans links i j k (IsJoined.itself _) c = c
joined_trans links i j k (IsJoined.along _ m _ a rest) c = IsJoined.along i m k a (joined_trans links m j k rest c)

turned : (links : List Link) (i j : ℕ) → Any (HasEnds i j) links → Any (HasEnds j i) links
turned links i j a = (a.0, a.1, a.2, a.3, elim a.4 [ inl e ↦ inr e | inr e ↦ inl e ])

pub joined_sym : (links : List Link) (i j : ℕ) → IsJoined links i j → IsJoined links j i
joined_sym links i j (IsJoined.itself _) = IsJoined.itself i
joined_sym links i j (IsJoined.along _ m _ a rest) = joined_trans links j m i (joined_sym links m j rest) (IsJoined.along m i i (turned links i m a) (IsJoined.itself i))

any_later : (l : Link) (links : List Link) (i j : ℕ) → Any (HasEnds i j) links → Any (HasEnds i j) (l ∷ links)
any_later l links i j a = (suc a.0, a.1, (let lt : a.0 < length links = a.2 in omega arith), a.3, a.4)

joined_later : (l : Link) (links : List Link) (i j : ℕ) → IsJoined links i j → IsJoined (l ∷ links) i j
joined_later l links i j (IsJoined.itself _) = IsJoined.itself i
joined_later l links i j (IsJoined.along _ m _ a rest) = IsJoined.along i m j (any_later l links i m a) (joined_later l links m j rest)

joined_first : (l : Link) (links : List Link) → IsJoined (l ∷ links) l.one l.other
joined_first l links = IsJoined.along l.one l.other l.other (zero, l, (omega arith), refl, inl (refl, refl)) (IsJoined.itself l.other)

-- ---- which places a chain reaches, as a test
abbrev reaches : List Link → ℕ → ℕ → Bool
reaches [] i j = eqb i j
reaches (l ∷ ls) i j = reaches ls i j || ((reaches ls i l.one && reaches ls l.other j) || (reaches ls i l.other && reaches ls l.one j))

reaches-itself : (links : List Link) (i : ℕ) → reaches links i i ≡ true
reaches-itself [] i = eq-eqb i i refl
reaches-itself (l ∷ ls) i = or_left (reaches ls i i) _ (reaches-itself ls i)

reached_joined : (links : List Link) (i j : ℕ) → reaches links i j ≡ true → IsJoined links i j
reached_joined [] i j e = subst (λ (k : ℕ). IsJoined [] i k) (eqb-true i j e) (IsJoined.itself i)
reached_joined (l ∷ ls) i j e =
    elim (or_cases (reaches ls i j) _ e) [
      | inl old ↦ joined_later l ls i j (reached_joined ls i j old)
      | inr new ↦ elim (or_cases (reaches ls i l.one && reaches ls l.other j) _ new) [
        | inl there ↦
            let p = and_parts (reaches ls i l.one) (reaches ls l.other j) there in
            joined_trans (l ∷ ls) i l.one j (joined_later l ls i l.one (reached_joined ls i l.one p.0))
            (joined_trans (l ∷ ls) l.one l.other j (joined_first l ls) (joined_later l ls l.other j (reached_joined ls l.other j p.1)))
        | inr back ↦
            let p = and_parts (reaches ls i l.other) (reaches ls l.one j) back in
            joined_trans (l ∷ ls) i l.other j (joined_later l ls i l.other (reached_joined ls i l.other p.0))
            (joined_trans (l ∷ ls) l.other l.one j (joined_sym (l ∷ ls) l.one l.other (joined_first l ls)) (joined_later l ls l.one j (reached_joined ls l.one j p.1)))
      ]
    ]

-- the new link's ends are reached together
ends_together : (a b x y : Bool) → (a || ((a && x) || (b && true))) ≡ (b || ((a && true) || (b && y)))
ends_together true true x y = refl
ends_together true false x y = refl
ends_together false true x y = refl
ends_together false false x y = refl

pub reaches-respects : (links : List Link) (i : ℕ) → Respects links (reaches links i)
reaches-respects [] i = record { both = λ k d h. absurd (omega arith) }
reaches-respects (l ∷ ls) i = record { both = All-cons (λ (m : Link). reaches (l ∷ ls) i m.one ≡ reaches (l ∷ ls) i m.other) l ls here (λ k d h. there (get_or ls k d) ((reaches-respects ls i).both k d h) ((reaches-respects ls l.other).both k d h) ((reaches-respects ls l.one).both k d h)) }
  where
    here : reaches (l ∷ ls) i l.one ≡ reaches (l ∷ ls) i l.other
    here =
        ap (λ (t : Bool). reaches ls i l.one || ((reaches ls i l.one && reaches ls l.other l.one) || (reaches ls i l.other && t))) (reaches-itself ls l.one)
        ∙ ends_together (reaches ls i l.one) (reaches ls i l.other) (reaches ls l.other l.one) (reaches ls l.one l.other)
        ∙ sym (ap (λ (t : Bool). reaches ls i l.other || ((reaches ls i l.one && t) || (reaches ls i l.other && reaches ls l.one l.other))) (reaches-itself ls l.other))

    there : (m : Link) → reaches ls i m.one ≡ reaches ls i m.other → reaches ls l.other m.one ≡ reaches ls l.other m.other → reaches ls l.one m.one ≡ reaches ls l.one m.other
        → reaches (l ∷ ls) i m.one ≡ reaches (l ∷ ls) i m.other
    there m e e' e'' = ap₂ ◌||◌ e (ap₂ ◌||◌ (ap (λ (t : Bool). reaches ls i l.one && t) e') (ap (λ (t : Bool). reaches ls i l.other && t) e''))

-- places that no set tells apart are joined
pub joined_from_sets : (links : List Link) (i j : ℕ) → ((s : ℕ → Bool) → Respects links s → s i ≡ s j) → IsJoined links i j
joined_from_sets links i j same = reached_joined links i j (sym (same (reaches links i) (reaches-respects links i)) ∙ reaches-itself links i)
