-- Sizes of a state, one class or branch more at a time.
use Rattle.std.proofs.Common.{◌≡◌, ℕ, zero, suc, ◌+◌, ◌-◌, ◌*◌, ◌/◌, ◌^◌, ◌<◌, ◌≤◌, min, max, false, cond, List, [], ◌∷◌, length, get_or, take, All, pos, to_z, arith, add-one, mul-le-mul, ap}
use Rattle.std.proofs.lemmas.Bool.{cond_both}
use Rattle.std.proofs.lemmas.Int.{to_z_pos}
use Rattle.std.proofs.Math.Nat.{div-le_self}
use mir.Syntax.{w128}
use Rattle.std.proofs.lemmas.List.Elements.{All-head, All-tail, All-get_or}
use Rattle.whole_laws.specs.Sums.{total_below}
use Rattle.grid_state.specs.declared.types.Edge.{Edge}
use Rattle.grid_state.specs.GridState.{GridState, row_of, classes_of, is_live, is_free, live_count, susceptance_of, IsEdge, IsSound}
use Rattle.grid_laplacian.specs.Sizes.{greatest_below, least_over, least_below, free_susceptance_of}
use Rattle.grid_laplacian.proofs.PartialSums.{susceptance_small}
use Rattle.grid_laplacian.proofs.LawProofs.{total_of_list}

pub total_below-more : (n : ℕ) (f : ℕ → ℕ) → total_below (n + 1) f ≡ total_below n f + f n
total_below-more n f = ap (λ (k : ℕ). total_below k f) (add-one n)

greatest_below-more : (n : ℕ) (f : ℕ → ℕ) → greatest_below (n + 1) f ≡ max (greatest_below n f) (f n)
greatest_below-more n f = ap (λ (k : ℕ). greatest_below k f) (add-one n)

least_below-more : (n : ℕ) (f : ℕ → ℕ) → least_below (n + 1) f ≡ min (least_below n f) (f n)
least_below-more n f = ap (λ (k : ℕ). least_below k f) (add-one n)

-- what a turn of each loop makes of the size so far
pub greatest_rises : (n : ℕ) (f : ℕ → ℕ) (g x : ℕ) → g ≡ greatest_below n f → x ≡ f n → g < x → x ≡ greatest_below (n + 1) f
greatest_rises n f g x e e' h = let more = greatest_below-more n f in omega arith

pub greatest_stays : (n : ℕ) (f : ℕ → ℕ) (g x : ℕ) → g ≡ greatest_below n f → x ≡ f n → x ≤ g → g ≡ greatest_below (n + 1) f
greatest_stays n f g x e e' h = let more = greatest_below-more n f in omega arith

pub least_falls : (n : ℕ) (f : ℕ → ℕ) (l x : ℕ) → l ≡ least_below n f → x ≡ f n → x < l → x ≡ least_below (n + 1) f
least_falls n f l x e e' h = let more = least_below-more n f in omega arith

pub least_stays : (n : ℕ) (f : ℕ → ℕ) (l x : ℕ) → l ≡ least_below n f → x ≡ f n → l ≤ x → l ≡ least_below (n + 1) f
least_stays n f l x e e' h = let more = least_below-more n f in omega arith

pub least_over-more : (es : List Edge) (k : ℕ) (d : Edge) → k < length es → least_over (take (k + 1) es) ≡ min (least_over (take k es)) (get_or es k d).b
least_over-more [] k d h = absurd (omega arith)
least_over-more (e ∷ es) zero d h = omega arith
least_over-more (e ∷ es) (suc k) d h =
    let rest = least_over-more es k d (omega arith) in
    rw (add-one (suc k)) (let rest' = rw (add-one k) at rest in omega arith)

pub live_total : (s : GridState) → total_below (classes_of s) (λ i. cond (is_live s i) 1 0) ≡ live_count s
live_total s = total_of_list (λ l. cond l 1 0) s.live false

-- ---- how large they are
pub free_small : (s : GridState) → IsSound s → (i : ℕ) → i < classes_of s → free_susceptance_of s i ≤ 16384 * 100000000000
free_small s sound i h = cond_both (is_free s i) (susceptance_of s i) 0 (λ k. k ≤ 16384 * 100000000000) (λ e. susceptance_small s i sound h) (λ e. omega arith)

over_positive : (n : ℕ) (es : List Edge) → All (λ e. IsEdge n e) es → 0 < least_over es
over_positive n [] all = omega arith
over_positive n (e ∷ es) all =
    let here = (All-head (λ x. IsEdge n x) e es all).some in
    let rest = over_positive n es (All-tail (λ x. IsEdge n x) e es all) in
    omega arith

below_positive : (n : ℕ) (f : ℕ → ℕ) → ((i : ℕ) → i < n → 0 < f i) → 0 < least_below n f
below_positive zero f each = omega arith
below_positive (suc n) f each = let rest = below_positive n f (λ i h. each i (omega arith)) in let here = each n (omega arith) in omega arith

pub least_positive : (s : GridState) → IsSound s → 0 < least_below (classes_of s) (λ i. least_over (row_of s i))
least_positive s sound =
    below_positive (classes_of s) (λ i. least_over (row_of s i)) (λ i h. over_positive (classes_of s) (row_of s i)
    (All-get_or (λ row. All (λ e. IsEdge (classes_of s) e) row) s.rows i [] (omega (arith, sound.same_length)) sound.edges))

pub least_below-small : (n : ℕ) (f : ℕ → ℕ) → least_below n f ≤ 100000000000
least_below-small zero f = omega arith
least_below-small (suc n) f = let rest = least_below-small n f in omega arith

-- the reach fits, and is read as it is
pub reach_value : (n s b : ℕ) → n ≤ 4096 → s ≤ 2 ^ 63 → b ≤ 100000000000 → to_z w128 (n * ((s + b - 1) / b)) ≡ pos (n * ((s + b - 1) / b))
reach_value n s b hn hs hb =
    let less = div-le_self (s + b - 1) b in
    let quotient : (s + b - 1) / b ≤ 2 ^ 64 = omega arith in
    let whole : n * ((s + b - 1) / b) ≤ 4096 * 2 ^ 64 = mul-le-mul hn quotient in
    to_z_pos w128 (n * ((s + b - 1) / b)) (omega arith)
