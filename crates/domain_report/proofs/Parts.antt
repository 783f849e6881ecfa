-- Lists that are appended one after another.
use Rattle.std.proofs.Common.{◌≡◌, List, ◌++◌, ap, ◌∙◌, append_assoc}

pub two_parts : {A : Type 0} (a b f₀ f₁ f₂ : List A) → f₁ ≡ f₀ ++ a → f₂ ≡ f₁ ++ b → f₂ ≡ f₀ ++ (a ++ b)
two_parts a b f₀ f₁ f₂ e₁ e₂ = e₂ ∙ ap (λ f. f ++ b) e₁ ∙ append_assoc f₀ a b

pub three_parts : {A : Type 0} (a b c f₀ f₁ f₂ f₃ : List A) → f₁ ≡ f₀ ++ a → f₂ ≡ f₁ ++ b → f₃ ≡ f₂ ++ c → f₃ ≡ f₀ ++ (a ++ (b ++ c))
three_parts a b c f₀ f₁ f₂ f₃ e₁ e₂ e₃ = two_parts a (b ++ c) f₀ f₁ f₃ e₁ (two_parts b c f₁ f₂ f₃ e₂ e₃)

pub four_parts : {A : Type 0} (a b c d f₀ f₁ f₂ f₃ f₄ : List A) → f₁ ≡ f₀ ++ a → f₂ ≡ f₁ ++ b → f₃ ≡ f₂ ++ c → f₄ ≡ f₃ ++ d → f₄ ≡ f₀ ++ (a ++ (b ++ (c ++ d)))
four_parts a b c d f₀ f₁ f₂ f₃ f₄ e₁ e₂ e₃ e₄ = two_parts a (b ++ (c ++ d)) f₀ f₁ f₄ e₁ (three_parts b c d f₁ f₂ f₃ f₄ e₂ e₃ e₄)
