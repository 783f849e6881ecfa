-- Values that are there.
use Rattle.std.proofs.Common.{◌≡◌, true, false, Option, Some, None, Result, Ok, refl, subst}
use Rattle.std.specs.Prelude.{◌&&◌, ◌||◌, is_none, is_some, IfSome}

pub one_is_there : {A B : Type 0} (a : Option A) (b : Option B) → (is_none a && is_none b) ≡ false → (is_some a || is_some b) ≡ true
one_is_there None None e = absurd cc
one_is_there None (Some y) e = refl
one_is_there (Some x) b e = refl

pub is_there : {A : Type 0} (P : A → Type 0) (o : Option A) (x : A) → o ≡ Some x → IfSome o P → P x
is_there {A} P o x e h = subst (λ (t : Option A). IfSome t P) e h

pub same_value : {A K : Type 0} (x y : A) → (let r : Result A K = Ok x in r) ≡ Ok y → x ≡ y
same_value x y e = cc
