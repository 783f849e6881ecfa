-- The ranges of the links that a grid gives.
use Rattle.std.proofs.Common.{◌≡◌, ℕ, suc, ◌+◌, ◌<◌, ◌≤◌, ◌^◌, Bool, true, false, not, cond, ◌&&◌, ℤ, pos, ◌≤ℤ◌, List, [], ◌∷◌, length, get_or, map, filter, All, arith, ap}
use Rattle.std.specs.Prelude.{unsigned_abs}
use Rattle.std.specs.List.{enumerate_from}
use Rattle.std.proofs.lemmas.Int.{ints}
use Rattle.std.proofs.lemmas.Bool.{both_ways, and_parts, not-true}
use Rattle.std.proofs.lemmas.List.{length-map}
use Rattle.std.proofs.lemmas.List.FromFn.{length-enumerate_from}
use Rattle.std.proofs.lemmas.List.Elements.{All-head, All-tail, All-cons, All-nil, All-map, All-filter, All-weaker, All-get_or, filter_passes}
use Rattle.fb_types.specs.declared.grid.Branch.{Branch}
use Rattle.fb_types.specs.declared.grid.BranchKind.{BranchKind}
use Rattle.fb_types.specs.declared.grid.BranchKind.TheVariants.{Coupler}
use Rattle.fb_types.specs.GridRanges.{IsBranch, IsRunning, AreBranches}
use Rattle.grid_state.specs.declared.links.Link.{Link}
use Rattle.grid_state.specs.Links.{is_coupler_kind, is_chosen, link_of, links_of, between}
use Rattle.grid_state.specs.Unions.{AreLinksBelow, IsLineBelow, is_wanted}

-- what holds of each branch holds with its number
numbered : (P : Branch → Type 0) (k : ℕ) (branches : List Branch) → All P branches → All (λ (p : ℕ × Branch). P p.1) (enumerate_from k branches)
numbered P k [] all = All-nil (λ (p : ℕ × Branch). P p.1)
numbered P k (b ∷ bs) all = All-cons (λ (p : ℕ × Branch). P p.1) (k, b) (enumerate_from (k + 1) bs) (All-head P b bs all) (numbered P (k + 1) bs (All-tail P b bs all))

fewer : (p : ℕ × Branch → Bool) (xs : List (ℕ × Branch)) → length (filter p xs) ≤ length xs
fewer p [] = omega arith
fewer p (x ∷ xs) = let rest = fewer p xs in by_test (p x) (filter p xs) rest
  where
    by_test : (t : Bool) (ys : List (ℕ × Branch)) → length ys ≤ length xs → length (cond t (x ∷ ys) ys) ≤ suc (length xs)
    by_test true ys le = omega arith
    by_test false ys le = omega arith

-- no more links than branches
pub few_links : (kind : Branch → Bool) (out : ℕ → Bool) (branches : List Branch) → length (links_of kind out branches) ≤ length branches
few_links kind out branches =
    let size = length-enumerate_from 0 branches in
    let part = fewer (is_chosen kind out) (enumerate_from 0 branches) in
    let same = length-map (filter (is_chosen kind out) (enumerate_from 0 branches)) (λ (p : ℕ × Branch). link_of p.1) in
    omega arith

-- what holds of each branch that is chosen
chosen : (kind : Branch → Bool) (out : ℕ → Bool) (branches : List Branch) (P : Branch → Type 0) (Q : Link → Type 0) → All P branches
    → ((b : Branch) → P b → kind b ≡ true → b.in_operation ≡ true → Q (link_of b)) → All Q (links_of kind out branches)
chosen kind out branches P Q all gives =
    All-map Q (λ (p : ℕ × Branch). link_of p.1) (filter (is_chosen kind out) (enumerate_from 0 branches))
    (λ k d h.
    let p = get_or (filter (is_chosen kind out) (enumerate_from 0 branches)) k d in
    let passes : is_chosen kind out p ≡ true = filter_passes (is_chosen kind out) (enumerate_from 0 branches) k d h in
    let parts = and_parts (kind p.1) (p.1.in_operation && not (out p.0)) passes in
    gives p.1 (All-filter (is_chosen kind out) (λ (q : ℕ × Branch). P q.1) (enumerate_from 0 branches) (numbered P 0 branches all) k d h) parts.0 (and_parts p.1.in_operation (not (out p.0)) parts.1).0)

pub links_below : (n : ℕ) (kind : Branch → Bool) (out : ℕ → Bool) (branches : List Branch) → AreBranches n branches → AreLinksBelow n (links_of kind out branches)
links_below n kind out branches are = record {
  ones = chosen kind out branches (IsBranch n) (λ (l : Link). l.one < n) are.each (λ b is k o. is.from);
  others = chosen kind out branches (IsBranch n) (λ (l : Link). l.other < n) are.each (λ b is k o. is.to);
}

no_coupler : (k : BranchKind) → not (is_coupler_kind k) ≡ true → k ≡ Coupler → ⊥
no_coupler k line same = both_ways (is_coupler_kind k) (not-true (is_coupler_kind k) line) (ap is_coupler_kind same)

size_positive : (z : ℤ) → pos 1 ≤ℤ z → 0 < unsigned_abs z
size_positive z h = omega (arith, ints)

size_small : (z : ℤ) (m : ℕ) → pos 1 ≤ℤ z → z ≤ℤ pos m → unsigned_abs z ≤ m
size_small z m h k = omega (arith, ints)

pub lines_below : (n : ℕ) (out : ℕ → Bool) (branches : List Branch) → AreBranches n branches → All (IsLineBelow n) (links_of (is_wanted false) out branches)
lines_below n out branches are =
    chosen (is_wanted false) out branches (IsBranch n) (IsLineBelow n) are.each (λ b is line on.
    let running : IsRunning b = record { in_operation = on; no_coupler = no_coupler b.kind line } in
    record { one = is.from; other = is.to; some = size_positive b.b (is.some running); small = size_small b.b (10 ^ 11) (is.some running) (is.small running) })

-- the same between classes
class_below : (classes : ℕ) (class_of : List ℕ) (i : ℕ) → All (λ c. c < classes) class_of → i < length class_of → get_or class_of i 0 < classes
class_below classes class_of i all h = All-get_or (λ c. c < classes) class_of i 0 h all

pub class_lines_below : (classes : ℕ) (class_of : List ℕ) (lines : List Link) → All (λ c. c < classes) class_of → All (IsLineBelow (length class_of)) lines → All (IsLineBelow classes) (map (between class_of) lines)
class_lines_below classes class_of lines below all =
    All-map (IsLineBelow classes) (between class_of) lines
    (All-weaker (IsLineBelow (length class_of)) (λ l. IsLineBelow classes (between class_of l)) (λ l is. record {
      one = class_below classes class_of l.one below is.one;
      other = class_below classes class_of l.other below is.other;
      some = is.some;
      small = is.small;
    }) lines all)

pub links_from_lines : (n : ℕ) (lines : List Link) → All (IsLineBelow n) lines → AreLinksBelow n lines
links_from_lines n lines all = record {
  ones = All-weaker (IsLineBelow n) (λ l. l.one < n) (λ l is. is.one) lines all;
  others = All-weaker (IsLineBelow n) (λ l. l.other < n) (λ l is. is.other) lines all;
}
