-- Solutions of right sides that are fractions: how they are joined, stretched and narrowed, that they are one, and that flows
-- go along.
use Rattle.std.proofs.Common.{◌≡◌, ℕ, ◌<◌, true, false, ℤ, pos, ◌+ℤ◌, ◌-ℤ◌, ◌*ℤ◌, ◌<ℤ◌, List, [], ◌∷◌, refl, sym, ap, ap₂, ◌∙◌, arith}
use Rattle.std.specs.Prelude.{All}
use Rattle.std.proofs.lemmas.List.Elements.{All-head, All-tail}
use Rattle.whole_laws.specs.Ring.{ring, linear, mul-positive}
use Rattle.whole_laws.specs.Sums.{at}
use Rattle.fractions.specs.Fractions.{Fraction, Same, whole, plus, times, over, total}
use Rattle.fractions.specs.FractionLaws.{Same_refl, Same_sym, Same_trans, Same-plus, Same-times, Same-over}
use Rattle.grid_state.specs.GridState.{GridState, classes_of, is_free, IsSound}
use Rattle.grid_laplacian.specs.Laws.{Solves}
use Rattle.grid_laplacian.proofs.LawProofs.{uniqueness_holds}
use Rattle.security.specs.Balances.{for_classes}
use Rattle.exact_flows.proofs.Listed.{table, table_linear, at_classes, length_classes, listed_table}

-- angles of the classes over one positive denominator
pub record Solution : Type 0 where
  pub angle : ℕ → ℤ
  pub scale : ℤ
  pub positive : pos 0 <ℤ scale

-- a number over the denominator
abbrev pub ratio : ℤ → Solution → Fraction
ratio z e = over (whole z) e.scale e.positive

-- they solve the right side r
pub record Meets (s : GridState) (r : ℕ → Fraction) (e : Solution) : Type 0 where
  pub held : (i : ℕ) → i < classes_of s → is_free s i ≡ false → e.angle i ≡ pos 0
  pub balanced : (i : ℕ) → i < classes_of s → is_free s i ≡ true → Same (ratio (table s e.angle i) e) (r i)

-- the flow b·(θi − θj)
abbrev pub flow : ℤ → ℕ → ℕ → Solution → Fraction
flow b i j e = ratio (b *ℤ (e.angle i -ℤ e.angle j)) e

abbrev pub join : Solution → Solution → Solution
join e f = record {
  angle = λ k. f.scale *ℤ e.angle k +ℤ e.scale *ℤ f.angle k;
  scale = e.scale *ℤ f.scale;
  positive = mul-positive e.scale f.scale e.positive f.positive;
}

abbrev pub stretch : ℤ → Solution → Solution
stretch a e = record { angle = λ k. a *ℤ e.angle k +ℤ pos 0 *ℤ e.angle k; scale = e.scale; positive = e.positive }

abbrev pub narrow : (a : ℤ) → pos 0 <ℤ a → Solution → Solution
narrow a h e = record { angle = e.angle; scale = e.scale *ℤ a; positive = mul-positive e.scale a e.positive h }

abbrev pub still : Solution
still = record { angle = λ k. pos 0 *ℤ pos 0 +ℤ pos 0 *ℤ pos 0; scale = pos 1; positive = record { lt = tt } }

pub Meets-join : (s : GridState) (r q : ℕ → Fraction) (e f : Solution) → Meets s r e → Meets s q f → Meets s (λ i. plus (r i) (q i)) (join e f)
Meets-join s r q e f h k = record {
  held = λ i l free. ap₂ (λ x y. f.scale *ℤ x +ℤ e.scale *ℤ y) (h.held i l free) (k.held i l free) ∙ none f.scale e.scale;
  balanced = λ i l free. Same_trans
      (record { same = ap (λ v. v *ℤ (((pos 1) *ℤ e.scale) *ℤ ((pos 1) *ℤ f.scale))) (table_linear s f.scale e.scale e.angle f.angle i) ∙ step (table s e.angle i) e.scale (table s f.angle i) f.scale })
      (Same-plus (h.balanced i l free) (k.balanced i l free));
}
  where
    none : (a b : ℤ) → a *ℤ pos 0 +ℤ b *ℤ pos 0 ≡ pos 0
    none a b = simp ring

    step : (a b c d : ℤ) → (d *ℤ a +ℤ b *ℤ c) *ℤ ((pos 1 *ℤ b) *ℤ (pos 1 *ℤ d)) ≡ (a *ℤ (pos 1 *ℤ d) +ℤ c *ℤ (pos 1 *ℤ b)) *ℤ (pos 1 *ℤ (b *ℤ d))
    step a b c d = simp ring

pub Meets-stretch : (s : GridState) (a : ℤ) (r : ℕ → Fraction) (e : Solution) → Meets s r e → Meets s (λ i. times a (r i)) (stretch a e)
Meets-stretch s a r e h = record {
  held = λ i l free. ap (λ x. a *ℤ x +ℤ pos 0 *ℤ x) (h.held i l free) ∙ none a;
  balanced = λ i l free. Same_trans
      (record { same = ap (λ v. v *ℤ (pos 1 *ℤ e.scale)) (table_linear s a (pos 0) e.angle e.angle i) ∙ step (table s e.angle i) e.scale })
      (Same-times a (h.balanced i l free));
}
  where
    none : (a : ℤ) → a *ℤ pos 0 +ℤ pos 0 *ℤ pos 0 ≡ pos 0
    none a = simp ring

    step : (l d : ℤ) → (a *ℤ l +ℤ pos 0 *ℤ l) *ℤ (pos 1 *ℤ d) ≡ (a *ℤ l) *ℤ (pos 1 *ℤ d)
    step l d = simp ring

pub Meets-narrow : (s : GridState) (a : ℤ) (p : pos 0 <ℤ a) (r : ℕ → Fraction) (e : Solution) → Meets s r e → Meets s (λ i. over (r i) a p) (narrow a p e)
Meets-narrow s a p r e h = record {
  held = h.held;
  balanced = λ i l free. Same_trans (record { same = step (table s e.angle i) e.scale }) (Same-over a p (h.balanced i l free));
}
  where
    step : (l d : ℤ) → l *ℤ ((pos 1 *ℤ d) *ℤ a) ≡ l *ℤ (pos 1 *ℤ (d *ℤ a))
    step l d = simp ring

pub Meets-still : (s : GridState) → Meets s (λ i. whole (pos 0)) still
Meets-still s = record {
  held = λ i l free. refl;
  balanced = λ i l free. record { same = ap (λ v. v *ℤ pos 1) (table_linear s (pos 0) (pos 0) (λ k. pos 0) (λ k. pos 0) i) ∙ step (table s (λ k. pos 0) i) };
}
  where
    step : (l : ℤ) → (pos 0 *ℤ l +ℤ pos 0 *ℤ l) *ℤ pos 1 ≡ pos 0 *ℤ (pos 1 *ℤ pos 1)
    step l = simp ring

pub Meets-same : (s : GridState) (r q : ℕ → Fraction) (e : Solution) → ((i : ℕ) → i < classes_of s → Same (r i) (q i)) → Meets s r e → Meets s q e
Meets-same s r q e same h = record { held = h.held; balanced = λ i l free. Same_trans (h.balanced i l free) (same i l) }

-- ---- there is but one

-- the numbers of a solution, times k, as a list that solves k times its Laplacian
abbrev multiple : GridState → ℤ → Solution → List ℤ
multiple s k e = for_classes s (λ j. k *ℤ e.angle j +ℤ pos 0 *ℤ e.angle j)

solves_multiple : (s : GridState) → IsSound s → (k : ℤ) (r : ℕ → Fraction) (e : Solution) (p : List ℤ) → Meets s r e
    → ((i : ℕ) → i < classes_of s → is_free s i ≡ true → k *ℤ table s e.angle i ≡ at p i) → Solves s p (multiple s k e) 1
solves_multiple s sound k r e p h same = record {
  each_class = length_classes s (λ j. k *ℤ e.angle j +ℤ pos 0 *ℤ e.angle j);
  positive = omega arith;
  fixed = λ i l free. at_classes s (λ j. k *ℤ e.angle j +ℤ pos 0 *ℤ e.angle j) i l ∙ ap (λ x. k *ℤ x +ℤ pos 0 *ℤ x) (h.held i l free) ∙ none;
  balanced = λ i l free. listed_table s sound (λ j. k *ℤ e.angle j +ℤ pos 0 *ℤ e.angle j) i l ∙ table_linear s k (pos 0) e.angle e.angle i
      ∙ step (table s e.angle i) ∙ ap (λ v. pos 1 *ℤ v) (same i l free);
}
  where
    none : k *ℤ pos 0 +ℤ pos 0 *ℤ pos 0 ≡ pos 0
    none = simp ring

    step : (l : ℤ) → k *ℤ l +ℤ pos 0 *ℤ l ≡ pos 1 *ℤ (k *ℤ l)
    step l = simp ring

-- two solutions of one right side have the same angles
pub Meets_unique : (s : GridState) → IsSound s → (r : ℕ → Fraction) (e f : Solution) → Meets s r e → Meets s r f → (i : ℕ) → i < classes_of s → e.angle i *ℤ f.scale ≡ f.angle i *ℤ e.scale
Meets_unique s sound r e f h k i l =
    let p = for_classes s (λ j. f.scale *ℤ table s e.angle j) in
    let one = solves_multiple s sound f.scale r e p h (λ j lj free. sym (at_classes s (λ m. f.scale *ℤ table s e.angle m) j lj)) in
    let other = solves_multiple s sound e.scale r f p k (λ j lj free. meet (table s e.angle j) (table s f.angle j) (Same_trans (h.balanced j lj free) (Same_sym (k.balanced j lj free))).same
    ∙ sym (at_classes s (λ m. f.scale *ℤ table s e.angle m) j lj)) in
    step (sym (ap (λ v. v *ℤ pos 1) (at_classes s (λ j. f.scale *ℤ e.angle j +ℤ pos 0 *ℤ e.angle j) i l))
    ∙ uniqueness_holds s sound p (multiple s f.scale e) (multiple s e.scale f) 1 1 one other i l
    ∙ ap (λ v. v *ℤ pos 1) (at_classes s (λ j. e.scale *ℤ f.angle j +ℤ pos 0 *ℤ f.angle j) i l))
  where
    meet : (a b : ℤ) → a *ℤ (pos 1 *ℤ f.scale) ≡ b *ℤ (pos 1 *ℤ e.scale) → e.scale *ℤ b ≡ f.scale *ℤ a
    meet a b same =
        let x : e.scale *ℤ b ≡ b *ℤ (pos 1 *ℤ e.scale) = simp ring in
        let y : a *ℤ (pos 1 *ℤ f.scale) ≡ f.scale *ℤ a = simp ring in
        x ∙ sym same ∙ y

    step : (f.scale *ℤ e.angle i +ℤ pos 0 *ℤ e.angle i) *ℤ pos 1 ≡ (e.scale *ℤ f.angle i +ℤ pos 0 *ℤ f.angle i) *ℤ pos 1 → e.angle i *ℤ f.scale ≡ f.angle i *ℤ e.scale
    step same =
        let x : e.angle i *ℤ f.scale ≡ (f.scale *ℤ e.angle i +ℤ pos 0 *ℤ e.angle i) *ℤ pos 1 = simp ring in
        let y : (e.scale *ℤ f.angle i +ℤ pos 0 *ℤ f.angle i) *ℤ pos 1 ≡ f.angle i *ℤ e.scale = simp ring in
        x ∙ same ∙ y

-- ---- flows go along

pub flow-join : (b : ℤ) (i j : ℕ) (e f : Solution) → Same (flow b i j (join e f)) (plus (flow b i j e) (flow b i j f))
flow-join b i j e f = record { same = step (e.angle i) (e.angle j) e.scale (f.angle i) (f.angle j) f.scale }
  where
    step : (x y d u v g : ℤ) → (b *ℤ ((g *ℤ x +ℤ d *ℤ u) -ℤ (g *ℤ y +ℤ d *ℤ v))) *ℤ ((pos 1 *ℤ d) *ℤ (pos 1 *ℤ g))
        ≡ ((b *ℤ (x -ℤ y)) *ℤ (pos 1 *ℤ g) +ℤ (b *ℤ (u -ℤ v)) *ℤ (pos 1 *ℤ d)) *ℤ (pos 1 *ℤ (d *ℤ g))
    step x y d u v g = simp ring (omega (arith, linear))

pub flow-stretch : (b : ℤ) (i j : ℕ) (a : ℤ) (e : Solution) → Same (flow b i j (stretch a e)) (times a (flow b i j e))
flow-stretch b i j a e = record { same = step (e.angle i) (e.angle j) e.scale }
  where
    step : (x y d : ℤ) → (b *ℤ ((a *ℤ x +ℤ pos 0 *ℤ x) -ℤ (a *ℤ y +ℤ pos 0 *ℤ y))) *ℤ (pos 1 *ℤ d) ≡ (a *ℤ (b *ℤ (x -ℤ y))) *ℤ (pos 1 *ℤ d)
    step x y d = simp ring (omega (arith, linear))

pub flow-narrow : (b : ℤ) (i j : ℕ) (a : ℤ) (h : pos 0 <ℤ a) (e : Solution) → Same (flow b i j (narrow a h e)) (over (flow b i j e) a h)
flow-narrow b i j a h e = record { same = step (b *ℤ (e.angle i -ℤ e.angle j)) e.scale }
  where
    step : (x d : ℤ) → x *ℤ ((pos 1 *ℤ d) *ℤ a) ≡ x *ℤ (pos 1 *ℤ (d *ℤ a))
    step x d = simp ring

pub flow-still : (b : ℤ) (i j : ℕ) → Same (flow b i j still) (whole (pos 0))
flow-still b i j = record { same = simp ring }

pub flow_unique : (b : ℤ) (i j : ℕ) (e f : Solution) → e.angle i *ℤ f.scale ≡ f.angle i *ℤ e.scale → e.angle j *ℤ f.scale ≡ f.angle j *ℤ e.scale → Same (flow b i j e) (flow b i j f)
flow_unique b i j e f p q = record { same = step (e.angle i) (e.angle j) e.scale (f.angle i) (f.angle j) f.scale p q }
  where
    step : (x y d u v g : ℤ) → x *ℤ g ≡ u *ℤ d → y *ℤ g ≡ v *ℤ d → (b *ℤ (x -ℤ y)) *ℤ (pos 1 *ℤ g) ≡ (b *ℤ (u -ℤ v)) *ℤ (pos 1 *ℤ d)
    step x y d u v g p q =
        let l : (b *ℤ (x -ℤ y)) *ℤ (pos 1 *ℤ g) ≡ b *ℤ (x *ℤ g -ℤ y *ℤ g) = simp ring (omega (arith, linear)) in
        let m : b *ℤ (u *ℤ d -ℤ v *ℤ d) ≡ (b *ℤ (u -ℤ v)) *ℤ (pos 1 *ℤ d) = simp ring (omega (arith, linear)) in
        l ∙ ap₂ (λ w z. b *ℤ (w -ℤ z)) p q ∙ m

-- ---- lists of solutions

abbrev pub joined : {A : Type 0} → (A → Solution) → List A → Solution
joined e [] = still
joined e (x ∷ xs) = join (e x) (joined e xs)

pub Meets-joined : {A : Type 0} (s : GridState) (r : A → ℕ → Fraction) (e : A → Solution) (xs : List A) → All (λ x. Meets s (r x) (e x)) xs → Meets s (λ i. total (λ x. r x i) xs) (joined e xs)
Meets-joined s r e [] h = Meets-still s
Meets-joined s r e (x ∷ xs) h =
    Meets-join s (r x) (λ i. total (λ y. r y i) xs) (e x) (joined e xs) (All-head (λ y. Meets s (r y) (e y)) x xs h) (Meets-joined s r e xs (All-tail (λ y. Meets s (r y) (e y)) x xs h))

pub flow-joined : {A : Type 0} (b : ℤ) (i j : ℕ) (e : A → Solution) (xs : List A) → Same (flow b i j (joined e xs)) (total (λ x. flow b i j (e x)) xs)
flow-joined b i j e [] = flow-still b i j
flow-joined b i j e (x ∷ xs) = Same_trans (flow-join b i j (e x) (joined e xs)) (Same-plus (Same_refl _) (flow-joined b i j e xs))
