-- An amount added to the total of a code in a map by text.
use Rattle.std.proofs.Common.{◌≡◌, ℕ, ℤ, pos, ◌+ℤ◌, Bool, true, false, cond, List, [], ◌∷◌, refl, sym, ap, ◌∙◌, subst, arith, inl, inr}
use Rattle.std.specs.Prelude.{Option, Some, unwrap_or, string_bytes}
use Rattle.std.specs.String.{string_eq}
use Rattle.std.specs.Str.{bytes_eq}
use Rattle.std.specs.Map.{lookup}
use Rattle.std.specs.declared.alloc.Global.{Global}
use Rattle.std.specs.declared.string.String.{String}
use Rattle.std.proofs.lemmas.Int.{ints}
use Rattle.std.proofs.lemmas.Bool.{cases_Bool}
use Rattle.std.proofs.lemmas.List.Elements.{All-head, All-tail}
use Rattle.indexmap.specs.IndexMap.{insert_entry}
use Rattle.whole_laws.specs.Sums.{IsWithin}
use Rattle.net_table.specs.Totals.{with_amount, totals_in, AreWithin}

abbrev Entry : Type 0
Entry = String Global × ℤ

-- whether a stored key is the code
abbrev is_code : List ℕ → String Global → Bool
is_code code k = bytes_eq code (string_bytes k)

-- the total of a code so far
abbrev pub before_of : List ℕ → List Entry → ℤ
before_of code entries = unwrap_or (lookup (is_code code) entries) (pos 0)

at_head : (b : Bool) (x : ℤ) (o : Option ℤ) → b ≡ true → unwrap_or (cond b (Some x) o) (pos 0) ≡ x
at_head true x o e = refl
at_head false x o e = cc

past_head : (b : Bool) (x : ℤ) (o : Option ℤ) → b ≡ false → unwrap_or (cond b (Some x) o) (pos 0) ≡ unwrap_or o (pos 0)
past_head true x o e = cc
past_head false x o e = refl

cond_true : {X : Type 0} (b : Bool) (x y : X) → b ≡ true → cond b x y ≡ x
cond_true true x y e = refl
cond_true false x y e = cc

cond_false : {X : Type 0} (b : Bool) (x y : X) → b ≡ false → cond b x y ≡ y
cond_false true x y e = cc
cond_false false x y e = refl

inserted : (entries : List Entry) (key : String Global) (amount v : ℤ) → v ≡ before_of (string_bytes key) entries +ℤ amount → totals_in (insert_entry string_eq entries key v) ≡ with_amount (totals_in entries) (string_bytes key) amount
inserted [] key amount v e = let sum : v ≡ amount = omega (arith, ints, e) in ap (λ z. (string_bytes key, z) ∷ []) sum
inserted (p ∷ es) key amount v e = elim (cases_Bool (is_code (string_bytes key) p.0)) [
  | inl is ↦
      let sum : v ≡ p.1 +ℤ amount = e ∙ ap (λ b. b +ℤ amount) (at_head (is_code (string_bytes key) p.0) p.1 (lookup (is_code (string_bytes key)) es) is) in
      ap totals_in (cond_true (is_code (string_bytes key) p.0) ((p.0, v) ∷ es) (p ∷ insert_entry string_eq es key v) is)
      ∙ ap (λ z. (string_bytes p.0, z) ∷ totals_in es) sum
      ∙ sym (cond_true (is_code (string_bytes key) p.0) ((string_bytes p.0, p.1 +ℤ amount) ∷ totals_in es) ((string_bytes p.0, p.1) ∷ with_amount (totals_in es) (string_bytes key) amount) is)
  | inr other ↦
      let sum : v ≡ before_of (string_bytes key) es +ℤ amount = e ∙ ap (λ b. b +ℤ amount) (past_head (is_code (string_bytes key) p.0) p.1 (lookup (is_code (string_bytes key)) es) other) in
      ap totals_in (cond_false (is_code (string_bytes key) p.0) ((p.0, v) ∷ es) (p ∷ insert_entry string_eq es key v) other)
      ∙ ap (λ ts. (string_bytes p.0, p.1) ∷ ts) (inserted es key amount v sum)
      ∙ sym (cond_false (is_code (string_bytes key) p.0) ((string_bytes p.0, p.1 +ℤ amount) ∷ totals_in es) ((string_bytes p.0, p.1) ∷ with_amount (totals_in es) (string_bytes key) amount) other)
]

-- the same, by the code
pub added : (entries : List Entry) (key : String Global) (code : List ℕ) (amount v : ℤ) → string_bytes key ≡ code → v ≡ before_of code entries +ℤ amount → totals_in (insert_entry string_eq entries key v) ≡ with_amount (totals_in entries) code amount
added entries key code amount v same e =
    inserted entries key amount v (e ∙ ap (λ c. before_of c entries +ℤ amount) (sym same)) ∙ ap (λ c. with_amount (totals_in entries) c amount) same

-- the total so far is one of the totals, or 0
pub before_within : (m : ℕ) (entries : List Entry) (code : List ℕ) → AreWithin m (totals_in entries) → IsWithin m (before_of code entries)
before_within m [] code h = record { low = omega (arith, ints); high = omega (arith, ints) }
before_within m (p ∷ es) code h = elim (cases_Bool (is_code code p.0)) [
  | inl is ↦ subst (IsWithin m) (sym (at_head (is_code code p.0) p.1 (lookup (is_code code) es) is)) (All-head (λ (t : List ℕ × ℤ). IsWithin m t.1) (string_bytes p.0, p.1) (totals_in es) h)
  | inr other ↦ subst (IsWithin m) (sym (past_head (is_code code p.0) p.1 (lookup (is_code code) es) other)) (before_within m es code (All-tail (λ (t : List ℕ × ℤ). IsWithin m t.1) (string_bytes p.0, p.1) (totals_in es) h))
]
