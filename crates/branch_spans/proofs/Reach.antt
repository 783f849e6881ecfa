-- Within the range rule the angles of a state do not reach far.
use Rattle.std.proofs.Common.{◌≡◌, ℕ, zero, suc, ◌+◌, ◌-◌, ◌*◌, ◌/◌, ◌^◌, ◌<◌, ◌≤◌, max, Bool, true, false, cond, arith, mul-le-mul, mul-le-mul_left, mul-le-mul_right, le_of_mul-le-mul_right, div-mul-le_self, refl, ap}
use Rattle.std.proofs.lemmas.List.Sums.{count_by-le-length}
use Rattle.whole_laws.specs.Sums.{total_below}
use Rattle.grid_state.specs.GridState.{GridState, classes_of, is_free, live_count, susceptance_of, IsSound}
use Rattle.grid_laplacian.specs.Sizes.{greatest_susceptance_of, total_susceptance_of, least_susceptance_of, free_susceptance_of}
use Rattle.grid_laplacian.specs.Ranges.{HasRoomFor, greater_total_of, reach_of}
use Rattle.grid_laplacian.proofs.LawProofs.{fewer_free}
use Rattle.grid_laplacian.proofs.PartialSums.{le_greatest}
use Rattle.grid_laplacian.proofs.SizeLoops.{least_positive}
use Rattle.grid_laplacian.proofs.Crossings.{positive_crosses}

-- a sum of numbers that are at most g where they are counted
counted_sum : (n : ℕ) (free : ℕ → Bool) (f : ℕ → ℕ) (g : ℕ) → ((i : ℕ) → i < n → f i ≤ cond (free i) 1 0 * g) → total_below n f ≤ total_below n (λ i. cond (free i) 1 0) * g
counted_sum zero free f g h = omega arith
counted_sum (suc n) free f g h =
    let before = counted_sum n free f g (λ i l. h i (omega arith)) in
    let here = h n (omega arith) in
    split (total_below n (λ i. cond (free i) 1 0)) (cond (free n) 1 0) before here
  where
    split : (x y : ℕ) → total_below n f ≤ x * g → f n ≤ y * g → total_below n f + f n ≤ (x + y) * g
    split x y p q = grind arith

total-le-greatest : (s : GridState) → total_susceptance_of s ≤ live_count s * greatest_susceptance_of s
total-le-greatest s =
    let sum = counted_sum (classes_of s) (is_free s) (free_susceptance_of s) (greatest_susceptance_of s) (λ i l. one (is_free s i) (susceptance_of s i) (le_greatest (classes_of s) (free_susceptance_of s) i l)) in
    let fewer = mul-le-mul_right (greatest_susceptance_of s) (fewer_free s) in
    omega arith
  where
    one : (b : Bool) (x : ℕ) → cond b x 0 ≤ greatest_susceptance_of s → cond b x 0 ≤ cond b 1 0 * greatest_susceptance_of s
    one true x h = omega arith
    one false x h = omega arith

-- where no class has a susceptance, the angles do not reach at all
no_reach : (s : GridState) → 1 ≤ least_susceptance_of s → total_susceptance_of s ≡ 0 → reach_of s ≤ 0
no_reach s some none =
    let b = least_susceptance_of s in
    let quotient : (total_susceptance_of s + b - 1) / b ≡ 0 = small (total_susceptance_of s + b - 1) b (omega arith) in
    let times : live_count s * ((total_susceptance_of s + b - 1) / b) ≡ live_count s * 0 = ap (λ q. live_count s * q) quotient in
    omega arith
  where
    small : (x b : ℕ) → x < b → x / b ≡ 0
    small x b h =
        let back : x / b * b ≤ x = div-mul-le_self x b in
        none_of (x / b) back
      where
        none_of : (q : ℕ) → q * b ≤ x → q ≡ 0
        none_of zero le = refl
        none_of (suc q) le = absurd (let more : q * b + b ≤ x = omega arith in omega arith)

-- n·2·10^25·g ≤ 2^120·b, for the numbers of the size condition
scaled : (n g b : ℕ) (most : ℕ) → 2 * 10 ^ 25 ≤ most → n * most ≤ 2 ^ 120 / g * b → (n * g) * (2 * 10 ^ 25) ≤ 2 ^ 120 * b
scaled n g b most le h =
    let back : 2 ^ 120 / g * g ≤ 2 ^ 120 = div-mul-le_self (2 ^ 120) g in
    let one = mul-le-mul_left n le in
    let two = mul-le-mul_right g h in
    let three = mul-le-mul_right g one in
    let four = mul-le-mul_right b back in
    let e1 : (n * (2 * 10 ^ 25)) * g ≡ (n * g) * (2 * 10 ^ 25) = grind arith in
    let e2 : (2 ^ 120 / g * b) * g ≡ (2 ^ 120 / g * g) * b = grind arith in
    omega arith

rounded : (t b q : ℕ) → 1 ≤ b → q * b ≤ t + b - 1 → t * (2 * 10 ^ 25) ≤ 2 ^ 120 * b → q ≤ 66461399790
rounded t b q some quotient h =
    let up : q * b * (2 * 10 ^ 25) ≤ (t + b) * (2 * 10 ^ 25) = mul-le-mul_right (2 * 10 ^ 25) (let le : q * b ≤ t + b = omega arith in le) in
    let sum : (t + b) * (2 * 10 ^ 25) ≡ t * (2 * 10 ^ 25) + b * (2 * 10 ^ 25) = omega arith in
    let e : q * b * (2 * 10 ^ 25) ≡ (q * (2 * 10 ^ 25)) * b = grind arith in
    let all : (q * (2 * 10 ^ 25)) * b ≤ (2 ^ 120 + 2 * 10 ^ 25) * b = omega arith in
    let last : q * (2 * 10 ^ 25) ≤ 2 ^ 120 + 2 * 10 ^ 25 = le_of_mul-le-mul_right all some in
    omega arith

pub reach_small : (s : GridState) → IsSound s → HasRoomFor s (2 * 10 ^ 25) → reach_of s ≤ 3 * 10 ^ 14
reach_small s sound room = by_greatest (greatest_susceptance_of s) refl
  where
    most : (x y : ℕ) → x ≤ max x y
    most x y = omega arith

    by_greatest : (g : ℕ) → greatest_susceptance_of s ≡ g → reach_of s ≤ 3 * 10 ^ 14
    by_greatest zero e =
        let total = total-le-greatest s in
        let zero_total : live_count s * greatest_susceptance_of s ≡ live_count s * 0 = ap (λ g. live_count s * g) e in
        let none = no_reach s (least_positive s sound) (omega arith) in
        omega arith
    by_greatest (suc g) e =
        let cross = positive_crosses s (omega arith) in
        let b = least_susceptance_of s in
        let up_to = scaled (live_count s) (greatest_susceptance_of s) b (greater_total_of s (2 * 10 ^ 25)) (most (2 * 10 ^ 25) (2 * total_susceptance_of s)) (room cross) in
        let total = mul-le-mul_right (2 * 10 ^ 25) (total-le-greatest s) in
        let quotient : (total_susceptance_of s + b - 1) / b * b ≤ total_susceptance_of s + b - 1 = div-mul-le_self (total_susceptance_of s + b - 1) b in
        let q = rounded (total_susceptance_of s) b ((total_susceptance_of s + b - 1) / b) (least_positive s sound) quotient (omega arith) in
        let few : live_count s ≤ 4096 = let one = count_by-le-length (λ l. l) s.live in let two = sound.few_classes in omega arith in
        let product = mul-le-mul few q in
        omega arith
