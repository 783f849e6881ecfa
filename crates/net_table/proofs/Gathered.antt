-- The net positions of the codes, node by node.
use Rattle.std.proofs.Common.{◌≡◌, ℕ, ℤ, pos, ◌+ℤ◌, Bool, true, false, cond, List, [], ◌∷◌, ◌++◌, map, filter, refl, sym, ap, ◌∙◌, subst, arith, inl, inr}
use Rattle.std.specs.Prelude.{All}
use Rattle.std.specs.Str.{bytes_eq}
use Rattle.std.proofs.lemmas.Int.{ints}
use Rattle.std.proofs.lemmas.Bool.{cases_Bool}
use Rattle.std.proofs.lemmas.Slice.Eq.{bytes_eq-Decides}
use Rattle.std.proofs.lemmas.List.Elements.{All-head, All-tail, All-cons, All-nil}
use Rattle.whole_laws.specs.Sums.{sum_over}
use Rattle.fb_types.specs.declared.grid.Node.{Node}
use Rattle.net_table.specs.NetTexts.{with_code, with_codes, codes_of, injection_of, net_of, nets_of}
use Rattle.net_table.specs.Totals.{with_amount}

-- ---- codes that differ
abbrev Differs : List ℕ → List ℕ → Type 0
Differs x y = bytes_eq x y ≡ false

same_of : (x y : List ℕ) → bytes_eq x y ≡ true → x ≡ y
same_of x y e = (bytes_eq-Decides x y).0 e

differs_turned : (x y : List ℕ) → Differs x y → Differs y x
differs_turned x y h = elim (cases_Bool (bytes_eq y x)) [
  | inl e ↦ let s = (bytes_eq-Decides x y).1 (sym (same_of y x e)) in cc
  | inr e ↦ e
]

abbrev AreDistinct : List (List ℕ) → Type 0
AreDistinct [] = Unit {0}
AreDistinct (c ∷ cs) = All (Differs c) cs × AreDistinct cs

choose : {X : Type 0} (P : X → Type 0) (b : Bool) (x y : X) → (b ≡ true → P x) → (b ≡ false → P y) → P (cond b x y)
choose P true x y p q = p refl
choose P false x y p q = q refl

-- what differs from the codes and from a further one
all_with : (d code : List ℕ) (cs : List (List ℕ)) → All (Differs d) cs → Differs d code → All (Differs d) (with_code cs code)
all_with d code [] h e = All-cons (Differs d) code [] e (All-nil (Differs d))
all_with d code (c ∷ cs) h e =
    choose (All (Differs d)) (bytes_eq code c) (c ∷ cs) (c ∷ with_code cs code) (λ t. h)
    (λ t. All-cons (Differs d) c (with_code cs code) (All-head (Differs d) c cs h) (all_with d code cs (All-tail (Differs d) c cs h) e))

distinct_with : (code : List ℕ) (cs : List (List ℕ)) → AreDistinct cs → AreDistinct (with_code cs code)
distinct_with code [] h = (All-nil (Differs code), tt)
distinct_with code (c ∷ cs) h =
    choose AreDistinct (bytes_eq code c) (c ∷ cs) (c ∷ with_code cs code) (λ t. h)
    (λ t. (all_with c code cs h.0 (differs_turned code c t), distinct_with code cs h.1))

distinct_codes : (cs : List (List ℕ)) (nodes : List Node) → AreDistinct cs → AreDistinct (with_codes cs nodes)
distinct_codes cs [] h = h
distinct_codes cs (node ∷ nodes) h = distinct_codes (with_code cs node.zone) nodes (distinct_with node.zone cs h)

-- ---- a code that is not among the codes of nodes
new_with : (d code : List ℕ) (cs : List (List ℕ)) → All (Differs d) (with_code cs code) → Differs d code × All (Differs d) cs
new_with d code [] h = (All-head (Differs d) code [] h, All-nil (Differs d))
new_with d code (c ∷ cs) h = elim (cases_Bool (bytes_eq code c)) [
  | inl e ↦
      let all : All (Differs d) (c ∷ cs) = subst (λ b. All (Differs d) (cond b (c ∷ cs) (c ∷ with_code cs code))) e h in
      (subst (Differs d) (sym (same_of code c e)) (All-head (Differs d) c cs all), all)
  | inr e ↦
      let all : All (Differs d) (c ∷ with_code cs code) = subst (λ b. All (Differs d) (cond b (c ∷ cs) (c ∷ with_code cs code))) e h in
      let rest = new_with d code cs (All-tail (Differs d) c (with_code cs code) all) in
      (rest.0, All-cons (Differs d) c cs (All-head (Differs d) c (with_code cs code) all) rest.1)
]

without : (b : Bool) (node : Node) (rest : List Node) → b ≡ false → cond b (node ∷ rest) rest ≡ rest
without true node rest e = cc
without false node rest e = refl

within : (b : Bool) (node : Node) (rest : List Node) → b ≡ true → cond b (node ∷ rest) rest ≡ node ∷ rest
within true node rest e = refl
within false node rest e = cc

nothing_new : (d : List ℕ) (cs : List (List ℕ)) (nodes : List Node) → All (Differs d) (with_codes cs nodes) → (net_of d nodes ≡ pos 0) × All (Differs d) cs
nothing_new d cs [] h = (refl, h)
nothing_new d cs (node ∷ nodes) h =
    let rest = nothing_new d (with_code cs node.zone) nodes h in
    let here = new_with d node.zone cs rest.1 in
    (ap (sum_over injection_of) (without (bytes_eq node.zone d) node (filter (λ n. bytes_eq n.zone d) nodes) (differs_turned d node.zone here.0)) ∙ rest.0, here.1)

-- ---- one node more
with_codes_last : (cs : List (List ℕ)) (nodes : List Node) (node : Node) → with_codes cs (nodes ++ node ∷ []) ≡ with_code (with_codes cs nodes) node.zone
with_codes_last cs [] node = refl
with_codes_last cs (n ∷ ns) node = with_codes_last (with_code cs n.zone) ns node

cond_sum : (b : Bool) (node : Node) (rest : List Node) → sum_over injection_of (cond b (node ∷ rest) rest) ≡ cond b (injection_of node +ℤ sum_over injection_of rest) (sum_over injection_of rest)
cond_sum true node rest = refl
cond_sum false node rest = refl

sum_there : (code : List ℕ) (nodes : List Node) (node : Node) → bytes_eq node.zone code ≡ true → net_of code (nodes ++ node ∷ []) ≡ net_of code nodes +ℤ injection_of node
sum_there code [] node e = ap (sum_over injection_of) (within (bytes_eq node.zone code) node [] e) ∙ omega (arith, ints)
sum_there code (n ∷ ns) node e = elim (cases_Bool (bytes_eq n.zone code)) [
  | inl is ↦
      let more = sum_there code ns node e in
      let one = ap (sum_over injection_of) (within (bytes_eq n.zone code) n (filter (λ m. bytes_eq m.zone code) (ns ++ node ∷ [])) is) in
      let two = ap (sum_over injection_of) (within (bytes_eq n.zone code) n (filter (λ m. bytes_eq m.zone code) ns) is) in
      one ∙ ap (λ z. injection_of n +ℤ z) more ∙ regroup (injection_of n) (net_of code ns) (injection_of node) ∙ ap (λ z. z +ℤ injection_of node) (sym two)
  | inr other ↦
      let more = sum_there code ns node e in
      let one = ap (sum_over injection_of) (without (bytes_eq n.zone code) n (filter (λ m. bytes_eq m.zone code) (ns ++ node ∷ [])) other) in
      let two = ap (sum_over injection_of) (without (bytes_eq n.zone code) n (filter (λ m. bytes_eq m.zone code) ns) other) in
      one ∙ more ∙ ap (λ z. z +ℤ injection_of node) (sym two)
]
  where
    regroup : (a b c : ℤ) → a +ℤ (b +ℤ c) ≡ (a +ℤ b) +ℤ c
    regroup a b c = omega (arith, ints)

sum_elsewhere : (code : List ℕ) (nodes : List Node) (node : Node) → Differs node.zone code → net_of code (nodes ++ node ∷ []) ≡ net_of code nodes
sum_elsewhere code [] node e = ap (sum_over injection_of) (without (bytes_eq node.zone code) node [] e)
sum_elsewhere code (n ∷ ns) node e = elim (cases_Bool (bytes_eq n.zone code)) [
  | inl is ↦
      ap (sum_over injection_of) (within (bytes_eq n.zone code) n (filter (λ m. bytes_eq m.zone code) (ns ++ node ∷ [])) is)
      ∙ ap (λ z. injection_of n +ℤ z) (sum_elsewhere code ns node e)
      ∙ sym (ap (sum_over injection_of) (within (bytes_eq n.zone code) n (filter (λ m. bytes_eq m.zone code) ns) is))
  | inr other ↦
      ap (sum_over injection_of) (without (bytes_eq n.zone code) n (filter (λ m. bytes_eq m.zone code) (ns ++ node ∷ [])) other)
      ∙ sum_elsewhere code ns node e
      ∙ sym (ap (sum_over injection_of) (without (bytes_eq n.zone code) n (filter (λ m. bytes_eq m.zone code) ns) other))
]

abbrev Pairs : (List ℕ → ℤ) → List (List ℕ) → List (List ℕ × ℤ)
Pairs f cs = map (λ c. (c, f c)) cs

-- totals that change at one code
record Changes (f g : List ℕ → ℤ) (code : List ℕ) (amount : ℤ) : Type 0 where
  pub there : (c : List ℕ) → bytes_eq code c ≡ true → g c ≡ f c +ℤ amount
  pub elsewhere : (c : List ℕ) → Differs code c → g c ≡ f c

same_pairs : (f g : List ℕ → ℤ) (code : List ℕ) (amount : ℤ) (cs : List (List ℕ)) → Changes f g code amount → All (Differs code) cs → Pairs f cs ≡ Pairs g cs
same_pairs f g code amount [] h d = refl
same_pairs f g code amount (c ∷ cs) h d =
    let here = sym (h.elsewhere c (All-head (Differs code) c cs d)) in
    let rest = same_pairs f g code amount cs h (All-tail (Differs code) c cs d) in
    λ i. (c, here i) ∷ rest i

cond_both : (b : Bool) (xs ys : List (List ℕ × ℤ)) (us vs : List (List ℕ)) (g : List ℕ → ℤ) → (b ≡ true → xs ≡ Pairs g us) → (b ≡ false → ys ≡ Pairs g vs) → cond b xs ys ≡ Pairs g (cond b us vs)
cond_both true xs ys us vs g p q = p refl
cond_both false xs ys us vs g p q = q refl

changed : (f g : List ℕ → ℤ) (code : List ℕ) (amount : ℤ) (cs : List (List ℕ)) → Changes f g code amount → AreDistinct cs → (All (Differs code) cs → f code ≡ pos 0) → with_amount (Pairs f cs) code amount ≡ Pairs g (with_code cs code)
changed f g code amount [] h d none =
    let self : bytes_eq code code ≡ true = (bytes_eq-Decides code code).1 refl in
    let value : amount ≡ g code = omega (arith, ints, h.there code self, none (All-nil (Differs code))) in
    λ i. (code, value i) ∷ []
changed f g code amount (c ∷ cs) h d none =
    cond_both (bytes_eq code c) ((c, f c +ℤ amount) ∷ Pairs f cs) ((c, f c) ∷ with_amount (Pairs f cs) code amount) (c ∷ cs) (c ∷ with_code cs code) g
    (λ is.
    let here = sym (h.there c is) in
    let others : All (Differs code) cs = subst (λ x. All (Differs x) cs) (sym (same_of code c is)) d.0 in
    let rest = same_pairs f g code amount cs h others in
    λ i. (c, here i) ∷ rest i)
    (λ other.
    let here = sym (h.elsewhere c other) in
    let rest = changed f g code amount cs h d.1 (λ fresh. none (All-cons (Differs code) c cs other fresh)) in
    λ i. (c, here i) ∷ rest i)

-- the net positions with one node more
pub nets_more : (nodes : List Node) (node : Node) → with_amount (nets_of nodes) node.zone (injection_of node) ≡ nets_of (nodes ++ node ∷ [])
nets_more nodes node =
    let f = λ (c : List ℕ). net_of c nodes in
    let g = λ (c : List ℕ). net_of c (nodes ++ node ∷ []) in
    let change : Changes f g node.zone (injection_of node) = record { there = λ c e. sum_there c nodes node e; elsewhere = λ c e. sum_elsewhere c nodes node e } in
    changed f g node.zone (injection_of node) (codes_of nodes) change (distinct_codes [] nodes tt) (λ fresh. (nothing_new node.zone [] nodes fresh).0)
    ∙ ap (Pairs g) (sym (with_codes_last [] nodes node))
