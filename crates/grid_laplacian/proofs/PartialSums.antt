-- The partial sums of a residual, and their size.
use Rattle.std.proofs.Common.{◌≡◌, ℕ, zero, suc, ◌+◌, ◌*◌, ◌<◌, ◌≤◌, List, [], ◌∷◌, length, get_or, take, All, ℤ, pos, ◌+ℤ◌, ◌-ℤ◌, ◌*ℤ◌, nat_abs, arith, add-one, mul-le-mul_left, mul-le-mul_right, le_of_mul-le-mul_right, ap, sym, subst, ◌^◌, FitsSigned, true, inl, inr}
use Rattle.std.proofs.lemmas.Int.{ints, unsigned_abs-mul, fits_signed_from_abs}
use mir.Syntax.{w128}
use Rattle.std.proofs.lemmas.List.Elements.{All-head, All-tail, All-take, All-weaker, All-get_or}
use Rattle.grid_state.specs.declared.types.Edge.{Edge}
use Rattle.grid_state.specs.GridState.{GridState, row_of, classes_of, is_free, susceptance_over, susceptance_of, IsEdge, IsSound}
use Rattle.whole_laws.specs.Sums.{at, IsWithin}
use Rattle.std.proofs.lemmas.Bool.{cases_eq, cond-true, cond_both}
use Rattle.std.proofs.Math.Nat.{le-max_left, le-max_right, max-le}
use Rattle.whole_laws.specs.SumLaws.{within_times}
use Rattle.grid_laplacian.specs.Laws.{drop_over}
use Rattle.grid_laplacian.specs.Sizes.{greatest_below, free_susceptance_of, greatest_susceptance_of}
use Rattle.grid_laplacian.specs.Rooms.{HasRoom}

pub drop_over-more : (es : List Edge) (f : ℕ → ℤ) (x : ℤ) (k : ℕ) (d : Edge) → k < length es
    → drop_over (take (k + 1) es) f x ≡ drop_over (take k es) f x +ℤ pos (get_or es k d).b *ℤ (x -ℤ f (get_or es k d).to)
drop_over-more [] f x k d h = absurd (omega arith)
drop_over-more (e ∷ es) f x zero d h = omega (arith, ints)
drop_over-more (e ∷ es) f x (suc k) d h =
    let rest = drop_over-more es f x k d (omega arith) in
    rw (add-one (suc k)) (let rest' = rw (add-one k) at rest in omega (arith, ints))

susceptance_over-take : (es : List Edge) (k : ℕ) → susceptance_over (take k es) ≤ susceptance_over es
susceptance_over-take es zero = omega arith
susceptance_over-take [] (suc k) = omega arith
susceptance_over-take (e ∷ es) (suc k) = let rest = susceptance_over-take es k in omega arith

abs-mul : (b : ℕ) (z : ℤ) → nat_abs (pos b *ℤ z) ≡ b * nat_abs z
abs-mul b z = unsigned_abs-mul (pos b) z

abs-add : (x y : ℤ) → nat_abs (x +ℤ y) ≤ nat_abs x + nat_abs y
abs-add x y = omega (arith, ints)

abs-sub : (x y : ℤ) → nat_abs (x -ℤ y) ≤ nat_abs x + nat_abs y
abs-sub x y = omega (arith, ints)

one_more : (s m b total : ℕ) (x y r : ℤ) → s * nat_abs x ≤ m → s * nat_abs y ≤ m → s * nat_abs r ≤ total * (2 * m)
    → s * nat_abs (pos b *ℤ (x -ℤ y) +ℤ r) ≤ (b + total) * (2 * m)
one_more s m b total x y r hx hy hr =
    let whole = mul-le-mul_left s (abs-add (pos b *ℤ (x -ℤ y)) r) in
    let size = ap (λ k. s * k) (abs-mul b (x -ℤ y)) in
    let apart = mul-le-mul_left (s * b) (abs-sub x y) in
    let both : s * nat_abs x + s * nat_abs y ≤ 2 * m = omega arith in
    let times = mul-le-mul_left b both in
    omega arith

-- with each number within m over s, s times the sum is within the susceptances times 2 m
scaled : (s m : ℕ) (es : List Edge) (f : ℕ → ℤ) (x : ℤ) → s * nat_abs x ≤ m → All (λ e. s * nat_abs (f e.to) ≤ m) es
    → s * nat_abs (drop_over es f x) ≤ susceptance_over es * (2 * m)
scaled s m [] f x hx hf = omega arith
scaled s m (e ∷ es) f x hx hf =
    let rest = scaled s m es f x hx (All-tail (λ e. s * nat_abs (f e.to) ≤ m) e es hf) in
    let here = All-head (λ e. s * nat_abs (f e.to) ≤ m) e es hf in
    one_more s m e.b (susceptance_over es) x (f e.to) (drop_over es f x) hx here rest

-- the same, at a part of the row whose sum is s
pub part_small : (m : ℕ) (es : List Edge) (f : ℕ → ℤ) (x : ℤ) (k : ℕ) → 0 < susceptance_over es → susceptance_over es * nat_abs x ≤ m → All (λ e. susceptance_over es * nat_abs (f e.to) ≤ m) es
    → nat_abs (drop_over (take k es) f x) ≤ 2 * m
part_small m es f x k some hx hf =
    let most = scaled (susceptance_over es) m (take k es) f x hx (All-take (λ e. susceptance_over es * nat_abs (f e.to) ≤ m) k es hf) in
    let more = mul-le-mul_right (2 * m) (susceptance_over-take es k) in
    let e : nat_abs (drop_over (take k es) f x) * susceptance_over es ≤ 2 * m * susceptance_over es = omega arith in
    le_of_mul-le-mul_right e some

pub part_of_total : (es : List Edge) (k : ℕ) (d : Edge) → k < length es → (get_or es k d).b ≤ susceptance_over es
part_of_total [] k d h = absurd (omega arith)
part_of_total (e ∷ es) zero d h = omega arith
part_of_total (e ∷ es) (suc k) d h = let rest = part_of_total es k d (omega arith) in omega arith

-- ---- sizes that fit
pub difference_fits : (b : ℕ) (x y : ℤ) → 0 < b → b * nat_abs x ≤ 2 ^ 121 → b * nat_abs y ≤ 2 ^ 121 → FitsSigned w128 (x -ℤ y)
difference_fits b x y some hx hy =
    let one = mul-le-mul_right (nat_abs x) some in
    let two = mul-le-mul_right (nat_abs y) some in
    let size = abs-sub x y in
    let small : nat_abs (x -ℤ y) ≤ 2 ^ 122 = omega arith in
    fits_signed_from_abs w128 (x -ℤ y) (omega arith)

pub drop_size : (b : ℕ) (x y : ℤ) → b * nat_abs x ≤ 2 ^ 121 → b * nat_abs y ≤ 2 ^ 121 → nat_abs (pos b *ℤ (x -ℤ y)) ≤ 2 ^ 122
drop_size b x y hx hy =
    let size = abs-mul b (x -ℤ y) in
    let parts = mul-le-mul_left b (abs-sub x y) in
    omega arith

pub drop_fits : (b : ℕ) (x y : ℤ) → b * nat_abs x ≤ 2 ^ 121 → b * nat_abs y ≤ 2 ^ 121 → FitsSigned w128 (pos b *ℤ (x -ℤ y))
drop_fits b x y hx hy = let size = drop_size b x y hx hy in fits_signed_from_abs w128 (pos b *ℤ (x -ℤ y)) (omega arith)

pub left_fits : (p r z : ℤ) → nat_abs p ≤ 2 ^ 121 → nat_abs r ≤ 2 ^ 122 → nat_abs z ≤ 2 ^ 122 → FitsSigned w128 ((p -ℤ r) -ℤ z)
left_fits p r z hp hr hz =
    let one = abs-sub p r in
    let two = abs-sub (p -ℤ r) z in
    fits_signed_from_abs w128 ((p -ℤ r) -ℤ z) (omega arith)

-- ---- a row of a state
pub item_fits : (b : ℕ) (z : ℤ) → 0 < b → b * nat_abs z ≤ 2 ^ 121 → FitsSigned w128 z
item_fits b z some h = let one = mul-le-mul_right (nat_abs z) some in fits_signed_from_abs w128 z (omega arith)

less_times : (b s m : ℕ) (z : ℤ) → b ≤ s → s * nat_abs z ≤ m → b * nat_abs z ≤ m
less_times b s m z le h = let more = mul-le-mul_right (nat_abs z) le in omega arith

-- what a turn of the loop over a row knows
pub record Turn (row : List Edge) (w : List ℤ) (start here : ℤ) (k : ℕ) (e : Edge) : Type 0 where
  pub some : 0 < e.b
  pub here_small : e.b * nat_abs here ≤ 2 ^ 121
  pub there_small : e.b * nat_abs (at w e.to) ≤ 2 ^ 121
  pub here_fits : FitsSigned w128 here
  pub there_fits : FitsSigned w128 (at w e.to)
  pub step_fits : FitsSigned w128 ((start -ℤ drop_over (take k row) (at w) here) -ℤ pos e.b *ℤ (here -ℤ at w e.to))

all_there : (s : ℕ) (w : List ℤ) (es : List Edge) → All (λ z. s * nat_abs z ≤ 2 ^ 121) w → All (λ e. IsEdge (length w) e) es → All (λ e. s * nat_abs (at w e.to) ≤ 2 ^ 121) es
all_there s w es small edges =
    All-weaker (λ e. IsEdge (length w) e) (λ e. s * nat_abs (at w e.to) ≤ 2 ^ 121) (λ e is. let below = is.leads in All-get_or (λ z. s * nat_abs z ≤ 2 ^ 121) w e.to (pos 0) (omega arith) small) es edges

pub turn : (row : List Edge) (w : List ℤ) (start here : ℤ) → HasRoom row w start here → (k : ℕ) (d : Edge) → k < length row → Turn row w start here k (get_or row k d)
turn row w start here room k d lt =
    let e = get_or row k d in
    let s = susceptance_over row in
    let is = room.edges k d lt in
    let leads = is.leads in
    let part = part_of_total row k d lt in
    let at_there : s * nat_abs (at w e.to) ≤ 2 ^ 121 = All-get_or (λ z. s * nat_abs z ≤ 2 ^ 121) w e.to (pos 0) (omega arith) room.there_small in
    let here_small = less_times e.b s (2 ^ 121) here part room.here_small in
    let there_small = less_times e.b s (2 ^ 121) (at w e.to) part at_there in
    let some = is.some in
    let partial = part_small (2 ^ 121) row (at w) here k (omega arith) room.here_small (all_there s w row room.there_small room.edges) in
    record {
      some = some;
      here_small = here_small;
      there_small = there_small;
      here_fits = item_fits e.b here some here_small;
      there_fits = item_fits e.b (at w e.to) some there_small;
      step_fits = left_fits start (drop_over (take k row) (at w) here) (pos e.b *ℤ (here -ℤ at w e.to)) room.start_small (omega arith) (drop_size e.b here (at w e.to) here_small there_small);
    }

-- ---- a row of a state has room
size_within : (m : ℕ) (z : ℤ) → IsWithin m z → nat_abs z ≤ m
size_within m z h = let low = h.low in let high = h.high in omega (arith, ints)

size_scaled : (s g m : ℕ) (z : ℤ) → s ≤ g → IsWithin m (pos g *ℤ z) → s * nat_abs z ≤ m
size_scaled s g m z le h =
    let size = size_within m (pos g *ℤ z) h in
    let e = abs-mul g z in
    less_times s g m z le (omega arith)

pub le_greatest : (n : ℕ) (f : ℕ → ℕ) (k : ℕ) → k < n → f k ≤ greatest_below n f
le_greatest zero f k h = absurd (omega arith)
le_greatest (suc n) f k h =
    let one = le-max_left (greatest_below n f) (f n) in
    let other = le-max_right (greatest_below n f) (f n) in
    elim (cases_eq k n) [
      | inl e ↦ let same = ap f e in omega arith
      | inr ne ↦ let rest = le_greatest n f k (omega arith) in omega arith
    ]

pub row_room : (s : GridState) (p w : List ℤ) (class : ℕ) → IsSound s → class < classes_of s → is_free s class ≡ true → length p ≡ classes_of s → length w ≡ classes_of s
    → All (λ z. IsWithin (2 ^ 121) z) p → All (λ z. IsWithin (2 ^ 121) (pos (greatest_susceptance_of s) *ℤ z)) w → HasRoom (row_of s class) w (at p class) (at w class)
row_room s p w class sound h free p_len w_len p_small w_small =
    let here = susceptance_of s class in
    let most : here ≤ greatest_susceptance_of s =
    let whole = le_greatest (classes_of s) (free_susceptance_of s) class h in let e = cond-true {A = ℕ} (is_free s class) here 0 free in omega arith in
    let edges : All (λ x. IsEdge (classes_of s) x) (row_of s class) = All-get_or (λ r. All (λ x. IsEdge (classes_of s) x) r) s.rows class [] (omega (arith, sound.same_length)) sound.edges in
    let each : All (λ z. here * nat_abs z ≤ 2 ^ 121) w = All-weaker (λ z. IsWithin (2 ^ 121) (pos (greatest_susceptance_of s) *ℤ z)) (λ z. here * nat_abs z ≤ 2 ^ 121) (λ z is. size_scaled here (greatest_susceptance_of s) (2 ^ 121) z most is) w w_small in
    record {
      edges = subst (λ (n : ℕ). All (λ x. IsEdge n x) (row_of s class)) (sym w_len) edges;
      start_small = size_within (2 ^ 121) (at p class) (All-get_or (λ z. IsWithin (2 ^ 121) z) p class (pos 0) (omega arith) p_small);
      here_small = All-get_or (λ z. here * nat_abs z ≤ 2 ^ 121) w class (pos 0) (omega arith) each;
      there_small = each;
    }

-- ---- how large a susceptance can be
row_small : (n : ℕ) (es : List Edge) → All (λ e. IsEdge n e) es → susceptance_over es ≤ length es * 100000000000
row_small n [] all = omega arith
row_small n (e ∷ es) all =
    let here = (All-head (λ x. IsEdge n x) e es all).small in
    let rest = row_small n es (All-tail (λ x. IsEdge n x) e es all) in
    omega arith

pub susceptance_small : (s : GridState) (class : ℕ) → IsSound s → class < classes_of s → susceptance_of s class ≤ 16384 * 100000000000
susceptance_small s class sound h =
    let edges : All (λ x. IsEdge (classes_of s) x) (row_of s class) = All-get_or (λ r. All (λ x. IsEdge (classes_of s) x) r) s.rows class [] (omega (arith, sound.same_length)) sound.edges in
    let few : length (row_of s class) ≤ 16384 = All-get_or (λ r. length r ≤ 16384) s.rows class [] (omega (arith, sound.same_length)) sound.few_edges in
    let most = row_small (classes_of s) (row_of s class) edges in
    omega arith

greatest_le : (n : ℕ) (f : ℕ → ℕ) (m : ℕ) → ((i : ℕ) → i < n → f i ≤ m) → greatest_below n f ≤ m
greatest_le zero f m each = omega arith
greatest_le (suc n) f m each = max-le (greatest_le n f m (λ i h. each i (omega arith))) (each n (omega arith))

pub greatest_small : (s : GridState) → IsSound s → greatest_susceptance_of s ≤ 16384 * 100000000000
greatest_small s sound =
    greatest_le (classes_of s) (free_susceptance_of s) (16384 * 100000000000) (λ i h. cond_both (is_free s i) (susceptance_of s i) 0 (λ k. k ≤ 16384 * 100000000000) (λ e. susceptance_small s i sound h) (λ e. omega arith))

-- so numbers of 64 bits have room
pub narrow_times : (g : ℕ) (z : ℤ) → g ≤ 16384 * 100000000000 → IsWithin (2 ^ 63) z → IsWithin (2 ^ 121) (pos g *ℤ z)
narrow_times g z le h =
    let size : IsWithin g (pos g) = record { low = omega (arith, ints); high = omega (arith, ints) } in
    let times = within_times g (2 ^ 63) (pos g) z size h in
    let low = times.low in
    let high = times.high in
    let more : g * 2 ^ 63 ≤ 2 ^ 121 = omega arith in
    record { low = omega (arith, ints); high = omega (arith, ints) }
