-- No total of a grid is larger than all its loads and generations together.
use Rattle.std.proofs.Common.{◌≡◌, ℕ, ◌+◌, ◌^◌, ◌≤◌, ℤ, Bool, true, false, cond, List, [], ◌∷◌, zero, suc, ◌<◌, length, get_or, map, filter, take, arith, subst, sym}
use Rattle.std.specs.Prelude.{sum_by}
use Rattle.std.specs.Str.{bytes_eq}
use Rattle.std.proofs.lemmas.Int.{ints}
use Rattle.std.proofs.lemmas.List.Elements.{All-cons, All-nil}
use Rattle.std.proofs.lemmas.List.Sums.{sum_by-take-le, sum_by-cons}
use Rattle.whole_laws.specs.Sums.{IsWithin, sum_over}
use Rattle.whole_laws.specs.SumLaws.{within_sum}
use Rattle.fb_types.specs.GridRanges.{exchange_of, AreInjections}
use Rattle.fb_types.specs.declared.grid.Node.{Node}
use Rattle.net_table.specs.NetTexts.{injection_of, net_of, nets_of, codes_of}
use Rattle.net_table.specs.Totals.{AreWithin}

wider : (m n : ℕ) (z : ℤ) → m ≤ n → IsWithin m z → IsWithin n z
wider m n z l h = record { low = omega (arith, ints, h.low); high = omega (arith, ints, h.high) }

choose : {X : Type 0} (P : X → Type 0) (b : Bool) (x y : X) → P x → P y → P (cond b x y)
choose P true x y p q = p
choose P false x y p q = q

injection_within : (node : Node) → IsWithin (exchange_of node) (injection_of node)
injection_within node = record { low = omega (arith, ints); high = omega (arith, ints) }

-- the sum over some of the nodes is at most the size of all
sum_within : (test : Node → Bool) (nodes : List Node) → IsWithin (sum_by exchange_of nodes) (sum_over injection_of (filter test nodes))
sum_within test [] = record { low = omega (arith, ints); high = omega (arith, ints) }
sum_within test (node ∷ nodes) =
    let rest = sum_within test nodes in
    let all : exchange_of node + sum_by exchange_of nodes ≡ sum_by exchange_of (node ∷ nodes) = sym (sum_by-cons exchange_of node nodes) in
    subst (λ n. IsWithin n (sum_over injection_of (filter test (node ∷ nodes)))) all
    (choose (λ xs. IsWithin (exchange_of node + sum_by exchange_of nodes) (sum_over injection_of xs)) (test node) (node ∷ filter test nodes) (filter test nodes)
    (within_sum (exchange_of node) (sum_by exchange_of nodes) (injection_of node) (sum_over injection_of (filter test nodes)) (injection_within node) rest)
    (wider (sum_by exchange_of nodes) (exchange_of node + sum_by exchange_of nodes) (sum_over injection_of (filter test nodes)) (omega arith) rest))

all_codes : (m : ℕ) (nodes : List Node) (cs : List (List ℕ)) → sum_by exchange_of nodes ≤ m → AreWithin m (map (λ code. (code, net_of code nodes)) cs)
all_codes m nodes [] l = All-nil _
all_codes m nodes (c ∷ cs) l =
    All-cons (λ (t : List ℕ × ℤ). IsWithin m t.1) (c, net_of c nodes) (map (λ code. (code, net_of code nodes)) cs)
    (wider (sum_by exchange_of nodes) m (net_of c nodes) l (sum_within (λ node. bytes_eq node.zone c) nodes)) (all_codes m nodes cs l)

pub nets_within : (nodes : List Node) (k : ℕ) → AreInjections nodes → AreWithin (10 ^ 12) (nets_of (take k nodes))
nets_within nodes k h =
    let few = sum_by-take-le exchange_of nodes k in
    all_codes (10 ^ 12) (take k nodes) (codes_of (take k nodes)) (omega (arith, few, h.small))

-- each load and each generation is at most all of them
part_of_all : (nodes : List Node) (k : ℕ) (d : Node) → k < length nodes → exchange_of (get_or nodes k d) ≤ sum_by exchange_of nodes
part_of_all [] k d l = absurd (omega arith)
part_of_all (node ∷ nodes) zero d l = let all : exchange_of node + sum_by exchange_of nodes ≡ sum_by exchange_of (node ∷ nodes) = sym (sum_by-cons exchange_of node nodes) in omega arith
part_of_all (node ∷ nodes) (suc k) d l =
    let all : exchange_of node + sum_by exchange_of nodes ≡ sum_by exchange_of (node ∷ nodes) = sym (sum_by-cons exchange_of node nodes) in
    omega (arith, part_of_all nodes k d (omega arith))

pub parts_within : (nodes : List Node) (k : ℕ) (d : Node) → k < length nodes → AreInjections nodes → IsWithin (10 ^ 12) (get_or nodes k d).load × IsWithin (10 ^ 12) (get_or nodes k d).generation
parts_within nodes k d l h =
    let part = part_of_all nodes k d l in
    (record { low = omega (arith, ints, h.small); high = omega (arith, ints, h.small) }, record { low = omega (arith, ints, h.small); high = omega (arith, ints, h.small) })

pub injection_small : (nodes : List Node) (k : ℕ) (d : Node) → k < length nodes → AreInjections nodes → IsWithin (10 ^ 12) (injection_of (get_or nodes k d))
injection_small nodes k d l h = wider (exchange_of (get_or nodes k d)) (10 ^ 12) (injection_of (get_or nodes k d)) (omega (arith, part_of_all nodes k d l, h.small)) (injection_within (get_or nodes k d))
