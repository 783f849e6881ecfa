-- The items and the members of a tree, as lists.
use Rattle.std.proofs.Common.{◌≡◌, ℕ, Bool, true, false, List, [], ◌∷◌, Some, None, refl, sym, ap, length, zero, suc, ◌<◌, ◌≤◌, get_or, slice_get, arith, cond, eqb, ◌≢◌}
use Rattle.serde_json.specs.Data.{Data}
use Rattle.serde_json.specs.View.{items_of}
use Rattle.std.proofs.lemmas.Bool.{eqb-true}
use Rattle.fb_json.specs.declared.document.Got.{Got}
use Rattle.fb_json.specs.declared.document.Got.TheVariants.{Wrong}
use Rattle.fb_json.specs.declared.document.Got.TheVariants as got
use Rattle.fb_json.specs.Tree.{listed, behind}

pub listed-items_of : (ds : List Data) → listed (items_of ds) ≡ ds
listed-items_of [] = refl
listed-items_of (d ∷ ds) = ap (λ (l : List Data). d ∷ l) (listed-items_of ds)

-- an element by its index
pub got_at : {A : Type 0} (xs : List A) (k : ℕ) (x : A) → k < length xs → x ≡ get_or xs k x → slice_get xs k ≡ Some x
got_at [] k x lt e = absurd (omega arith)
got_at (y ∷ ys) zero x lt e = ap (λ z. Some z) (sym e)
got_at (y ∷ ys) (suc k) x lt e = got_at ys k x (omega arith) e

pub got_none : {A : Type 0} (xs : List A) (k : ℕ) → length xs ≤ k → slice_get xs k ≡ None
got_none [] k le = refl
got_none (y ∷ ys) zero le = absurd (omega arith)
got_none (y ∷ ys) (suc k) le = got_none ys k (omega arith)

-- a text that does not begin with its mark
abbrev pub wrong : Got (List ℕ)
wrong = Wrong

pick : (m c : ℕ) (cs : List ℕ) (b : Bool) → eqb m c ≡ b → ((rest : List ℕ) → c ∷ cs ≢ m ∷ rest) → wrong ≡ cond b (got.Value cs) Wrong
pick m c cs true e h = absurd (h cs (ap (λ (n : ℕ). n ∷ cs) (sym (eqb-true m c e))))
pick m c cs false e h = refl

pub no_front : (m : ℕ) (text : List ℕ) → ((rest : List ℕ) → text ≢ m ∷ rest) → wrong ≡ behind m text
no_front m [] h = refl
no_front m (c ∷ cs) h = pick m c cs (eqb m c) refl h
