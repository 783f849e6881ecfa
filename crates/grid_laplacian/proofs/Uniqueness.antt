-- Two solutions for one right side are one fraction.
use Rattle.std.proofs.Common.{◌≡◌, ℕ, zero, suc, ◌<◌, Bool, ℤ, pos, ◌+ℤ◌, ◌-ℤ◌, ◌*ℤ◌, neg_ℤ, ◌≤ℤ◌, arith, refl, sym, subst, ◌∙◌}
use Rattle.std.proofs.lemmas.Int.{ints}
use Rattle.whole_laws.specs.Sums.{sum_below}
use Rattle.grid_laplacian.specs.Tables.{laplacian, IsGrounded, SolvesTable}
use Rattle.whole_laws.specs.Ring.{*ℤ-add, *ℤ-sub, *ℤ_left_comm, neg-*ℤ, *ℤ_comm}
use Rattle.grid_laplacian.proofs.Maximum.{maximum}

-- a weight times the difference of two combinations
term : (w a b x x' y y' : ℤ) → w *ℤ ((a *ℤ x +ℤ b *ℤ y) -ℤ (a *ℤ x' +ℤ b *ℤ y')) ≡ a *ℤ (w *ℤ (x -ℤ x')) +ℤ b *ℤ (w *ℤ (y -ℤ y'))
term w a b x x' y y' =
    let e₁ : (a *ℤ x +ℤ b *ℤ y) -ℤ (a *ℤ x' +ℤ b *ℤ y') ≡ a *ℤ (x -ℤ x') +ℤ b *ℤ (y -ℤ y') =
    rw (*ℤ-sub a x x', *ℤ-sub b y y') (omega (arith, ints)) in
    rw (e₁, *ℤ-add w (a *ℤ (x -ℤ x')) (b *ℤ (y -ℤ y')), *ℤ_left_comm w a (x -ℤ x'), *ℤ_left_comm w b (y -ℤ y')) refl

-- the Laplacian of a combination
pub laplacian-combine : (n : ℕ) (w : ℕ → ℕ → ℕ) (a b : ℤ) (f g : ℕ → ℤ) (i : ℕ)
    → laplacian n w (λ j. a *ℤ f j +ℤ b *ℤ g j) i ≡ a *ℤ laplacian n w f i +ℤ b *ℤ laplacian n w g i
laplacian-combine n w a b f g i = go n
  where
    go : (m : ℕ) → sum_below m (λ j. pos (w i j) *ℤ ((a *ℤ f i +ℤ b *ℤ g i) -ℤ (a *ℤ f j +ℤ b *ℤ g j))) ≡ a *ℤ sum_below m (λ j. pos (w i j) *ℤ (f i -ℤ f j)) +ℤ b *ℤ sum_below m (λ j. pos (w i j) *ℤ (g i -ℤ g j))
    go zero = omega (arith, ints)
    go (suc m) =
        let x = pos (w i m) *ℤ (f i -ℤ f m) in
        let y = pos (w i m) *ℤ (g i -ℤ g m) in
        let s = sum_below m (λ j. pos (w i j) *ℤ (f i -ℤ f j)) in
        let u = sum_below m (λ j. pos (w i j) *ℤ (g i -ℤ g j)) in
        rw (go m, term (pos (w i m)) a b (f i) (f m) (g i) (g m), *ℤ-add a s x, *ℤ-add b u y) (omega (arith, ints))

-- ---- two solutions
-- what one solution over the other's denominator has more than the other
abbrev gap : (ℕ → ℤ) → ℕ → (ℕ → ℤ) → ℕ → ℕ → ℤ
gap t d t' d' j = pos d' *ℤ t j +ℤ neg_ℤ (pos d) *ℤ t' j

opposite : (x : ℤ) → pos 0 ≤ℤ (x +ℤ neg_ℤ x)
opposite x = omega (arith, ints)

gap_balanced : (a b : ℕ) (x y p : ℤ) → x ≡ pos a *ℤ p → y ≡ pos b *ℤ p → pos 0 ≤ℤ (pos b *ℤ x +ℤ neg_ℤ (pos a) *ℤ y)
gap_balanced a b x y p e e' = rw (e, e', neg-*ℤ (pos a) (pos b *ℤ p), *ℤ_left_comm (pos b) (pos a) p) (opposite (pos a *ℤ (pos b *ℤ p)))

gap_high : (n : ℕ) (w : ℕ → ℕ → ℕ) (free : ℕ → Bool) → IsGrounded n w free → (p t t' : ℕ → ℤ) (d d' : ℕ) → SolvesTable n w free p t d → SolvesTable n w free p t' d'
    → (i : ℕ) → i < n → pos 0 ≤ℤ gap t d t' d' i
gap_high n w free grounded p t t' d d' s s' i h =
    maximum n w free grounded (gap t d t' d')
    (λ j b is. subst (λ (z : ℤ). pos 0 ≤ℤ z) (sym (laplacian-combine n w (pos d') (neg_ℤ (pos d)) t t' j))
    (gap_balanced d d' (laplacian n w t j) (laplacian n w t' j) (p j) (s.balanced j b is) (s'.balanced j b is)))
    (λ j b u. let e = s.fixed j b u in let e' = s'.fixed j b u in rw (e, e', neg-*ℤ (pos d) (pos 0)) (omega (arith, ints)))
    i h

same_fraction : (x y : ℤ) (d d' : ℕ) → pos 0 ≤ℤ (pos d' *ℤ x +ℤ neg_ℤ (pos d) *ℤ y) → pos 0 ≤ℤ (pos d *ℤ y +ℤ neg_ℤ (pos d') *ℤ x) → x *ℤ pos d' ≡ y *ℤ pos d
same_fraction x y d d' one two =
    let one' : pos 0 ≤ℤ (pos d' *ℤ x +ℤ neg_ℤ (pos d *ℤ y)) = rw neg-*ℤ at one in
    let two' : pos 0 ≤ℤ (pos d *ℤ y +ℤ neg_ℤ (pos d' *ℤ x)) = rw neg-*ℤ at two in
    let e : pos d' *ℤ x ≡ pos d *ℤ y = omega (arith, ints) in
    *ℤ_comm x (pos d') ∙ e ∙ *ℤ_comm (pos d) y

pub uniqueness : (n : ℕ) (w : ℕ → ℕ → ℕ) (free : ℕ → Bool) → IsGrounded n w free → (p t t' : ℕ → ℤ) (d d' : ℕ) → SolvesTable n w free p t d → SolvesTable n w free p t' d'
    → (i : ℕ) → i < n → t i *ℤ pos d' ≡ t' i *ℤ pos d
uniqueness n w free grounded p t t' d d' s s' i h =
    let one = gap_high n w free grounded p t t' d d' s s' i h in
    let two = gap_high n w free grounded p t' t d' d s' s i h in
    same_fraction (t i) (t' i) d d' one two
