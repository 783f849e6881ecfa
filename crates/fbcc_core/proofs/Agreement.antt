-- Two steps that cannot come to different results, unless memory runs out.
use Rattle.std.proofs.Common.{◌≡◌, ◌⊎◌, inl, inr, subst}
use Rattle.std.specs.Prelude.{Ok, Err}
use Rattle.fbcc_core.specs.Steps.{Step, step, after, IsMemory}
use Rattle.fbcc_core.specs.declared.answer.Fault.{Fault}

-- R holds of what the two steps give; both refuse with the same fault, or memory ran out where they differ
pub record Agrees {A : Type 0} (R : A → A → Type 0) (one other : Step A) : Type 0 where
  pub both : (a b : A) → one (Ok a) → other (Ok b) → R a b
  pub given : (a : A) (g : Fault) → one (Ok a) → other (Err g) → IsMemory g
  pub refused : (f : Fault) (b : A) → one (Err f) → other (Ok b) → IsMemory f
  pub neither : (f g : Fault) → one (Err f) → other (Err g) → (f ≡ g) ⊎ (IsMemory f ⊎ IsMemory g)

-- each after another
pub after_agrees : {A B : Type 0} (R : A → A → Type 0) (Q : B → B → Type 0) (one other : Step A) (next more : A → Step B)
    → Agrees R one other → ((a b : A) → R a b → Agrees Q (next a) (more b)) → Agrees Q (after one next) (after other more)
after_agrees R Q one other next more p q = record {
  both = λ x y s t. (q s.0 t.0 (p.both s.0 t.0 s.1 t.1)).both x y s.2 t.2;
  given = λ x g s t. elim t [
    | inl e ↦ p.given s.0 g s.1 e
    | inr u ↦ (q s.0 u.0 (p.both s.0 u.0 s.1 u.1)).given x g s.2 u.2
  ];
  refused = λ f y s t. elim s [
    | inl e ↦ p.refused f t.0 e t.1
    | inr u ↦ (q u.0 t.0 (p.both u.0 t.0 u.1 t.1)).refused f y u.2 t.2
  ];
  neither = λ f g s t. elim s [
    | inl e ↦ elim t [ inl d ↦ p.neither f g e d | inr v ↦ inr (inl (p.refused f v.0 e v.1)) ]
    | inr u ↦ elim t [ inl d ↦ inr (inr (p.given u.0 g u.1 d)) | inr v ↦ (q u.0 v.0 (p.both u.0 v.0 u.1 v.1)).neither f g u.2 v.2 ]
  ];
}

-- one step each
pub step_agrees : {A : Type 0} (R : A → A → Type 0) (gives gives' : A → Type 0) (refuses refuses' : Fault → Type 0)
    → ((a b : A) → gives a → gives' b → R a b) → ((a : A) (g : Fault) → gives a → refuses' g → IsMemory g) → ((f : Fault) (b : A) → refuses f → gives' b → IsMemory f)
    → ((f g : Fault) → refuses f → refuses' g → (f ≡ g) ⊎ (IsMemory f ⊎ IsMemory g)) → Agrees R (step gives refuses) (step gives' refuses')
step_agrees R gives gives' refuses refuses' p q r n = record {
  both = p;
  given = λ a g s t. elim t [ inl u ↦ q a g s u | inr m ↦ m ];
  refused = λ f b s t. elim s [ inl u ↦ r f b u t | inr m ↦ m ];
  neither = λ f g s t. elim s [ inl u ↦ elim t [ inl v ↦ n f g u v | inr m ↦ inr (inr m) ] | inr m ↦ inr (inl m) ];
}

-- what follows where equals give the same step
pub from_same : {A B : Type 0} (Q : B → B → Type 0) (next : A → Step B) → ((a : A) → Agrees Q (next a) (next a)) → (a b : A) → a ≡ b → Agrees Q (next a) (next b)
from_same {A} Q next h a b e = subst (λ (x : A). Agrees Q (next a) (next x)) e (h a)
