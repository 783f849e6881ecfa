-- The sink over a writer as a value.
use Rattle.std.specs.Prelude.{ℕ, refl}
use Rattle.std.specs.Coded.{Coded, code_by, coded×, coded_ℕ}

pub record WriterState (W : Type 0) : Type 0 where
  -- the writer
  pub writer : W
  -- how many puts failed
  pub failures : ℕ

-- a state is stored as the pair of its fields
abbrev pub state_code : {W : Type 0} → Coded W → Coded (WriterState W)
state_code {W} writer = code_by (W × ℕ) (coded× writer coded_ℕ) (λ s. (s.writer, s.failures)) (λ p. record { writer = p.0; failures = p.1 }) (λ _. refl)
