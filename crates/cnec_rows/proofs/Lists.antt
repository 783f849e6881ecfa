-- The factors of the Core zones, as a list.
use Rattle.std.proofs.Common.{◌≡◌, ℕ, zero, suc, ◌+◌, ◌<◌, ◌≤◌, Bool, true, false, ℤ, List, [], ◌∷◌, ◌++◌, length, take, get_or, All, refl, sym, ap, ap₂, ◌∙◌, arith, add-one, append_assoc, take_all}
use Rattle.std.specs.List.{filter}
use Rattle.std.proofs.lemmas.List.{append-nil}
use Rattle.std.proofs.lemmas.List.Elements.{All-head, All-tail, All-cons, All-nil}
use Rattle.cnec_rows.specs.RowNumbers.{of_core}

-- the first of two lists, where it is a factor of a Core zone
abbrev pub kept : Bool → ℤ × ℤ → List (ℤ × ℤ)
kept true s = s ∷ []
kept false s = []

-- one more zone
core_cons : (c : Bool) (s : ℤ × ℤ) (cs : List Bool) (ss : List (ℤ × ℤ)) → of_core (c ∷ cs) (s ∷ ss) ≡ kept c s ++ of_core cs ss
core_cons true s cs ss = refl
core_cons false s cs ss = refl

core_suc : (cs : List Bool) (ss : List (ℤ × ℤ)) (i : ℕ) (c : Bool) (s : ℤ × ℤ) → i < length cs → i < length ss
    → of_core (take (suc i) cs) (take (suc i) ss) ≡ of_core (take i cs) (take i ss) ++ kept (get_or cs i c) (get_or ss i s)
core_suc [] ss i c s h k = absurd (omega arith)
core_suc (x ∷ cs) [] i c s h k = absurd (omega arith)
core_suc (x ∷ cs) (y ∷ ss) zero c s h k = core_cons x y [] [] ∙ append-nil (kept x y)
core_suc (x ∷ cs) (y ∷ ss) (suc i) c s h k =
    core_cons x y (take (suc i) cs) (take (suc i) ss) ∙ ap (λ v. kept x y ++ v) (core_suc cs ss i c s (omega arith) (omega arith))
    ∙ sym (append_assoc (kept x y) (of_core (take i cs) (take i ss)) (kept (get_or cs i c) (get_or ss i s))) ∙ ap (λ v. v ++ kept (get_or cs i c) (get_or ss i s)) (sym (core_cons x y (take i cs) (take i ss)))

-- a zone that is not of Core
pub core_same : (cs : List Bool) (ss found : List (ℤ × ℤ)) (i : ℕ) (c : Bool) (s : ℤ × ℤ) → i < length cs → i < length ss → get_or cs i c ≡ false → found ≡ of_core (take i cs) (take i ss)
    → found ≡ of_core (take (i + 1) cs) (take (i + 1) ss)
core_same cs ss found i c s h k is e =
    e ∙ sym (append-nil (of_core (take i cs) (take i ss))) ∙ ap (λ b. of_core (take i cs) (take i ss) ++ kept b (get_or ss i s)) (sym is)
    ∙ sym (rw add-one (core_suc cs ss i c s h k))

-- a zone of Core
pub core_more : (cs : List Bool) (ss found more : List (ℤ × ℤ)) (i : ℕ) (c : Bool) (s : ℤ × ℤ) → i < length cs → i < length ss → get_or cs i c ≡ true → s ≡ get_or ss i s → found ≡ of_core (take i cs) (take i ss)
    → more ≡ found ++ s ∷ [] → more ≡ of_core (take (i + 1) cs) (take (i + 1) ss)
core_more cs ss found more i c s h k is at e pushed =
    pushed ∙ ap₂ (λ u v. u ++ v ∷ []) e at ∙ ap (λ b. of_core (take i cs) (take i ss) ++ kept b (get_or ss i s)) (sym is)
    ∙ sym (rw add-one (core_suc cs ss i c s h k))

-- ---- how many they are, and what holds of them

pub core_length : (cs : List Bool) (ss : List (ℤ × ℤ)) → length cs ≡ length ss → length (of_core cs ss) ≡ length (filter (λ c. c) cs)
core_length [] ss h = refl
core_length (c ∷ cs) [] h = absurd (omega arith)
core_length (true ∷ cs) (s ∷ ss) h = ap suc (core_length cs ss (omega arith))
core_length (false ∷ cs) (s ∷ ss) h = core_length cs ss (omega arith)

pub core_all : (P : ℤ × ℤ → Type 0) (cs : List Bool) (ss : List (ℤ × ℤ)) → All P ss → All P (of_core cs ss)
core_all P [] ss h = All-nil P
core_all P (c ∷ cs) [] h = All-nil P
core_all P (true ∷ cs) (s ∷ ss) h = All-cons P s (of_core cs ss) (All-head P s ss h) (core_all P cs ss (All-tail P s ss h))
core_all P (false ∷ cs) (s ∷ ss) h = core_all P cs ss (All-tail P s ss h)

-- ---- the list as it is found

pub core_found : (cs flags : List Bool) (ss factors found : List (ℤ × ℤ)) (i : ℕ) → cs ≡ flags → ss ≡ factors → length flags ≡ length factors → length ss ≤ i → found ≡ of_core (take i cs) (take i ss) → found ≡ of_core flags factors
core_found cs flags ss factors found i p q as_many h e =
    let same = ap length p in
    let long = ap length q in
    e ∙ ap₂ of_core (take_all i cs (omega arith) ∙ p) (take_all i ss h ∙ q)
