-- A label beside the fields of a record.
use Rattle.std.proofs.Common.{◌≡◌, ◌≢◌, ℕ, zero, suc, Bool, true, false, List, [], ◌∷◌, length, take, refl, sym, ap, ◌∙◌}
use Rattle.std.specs.Bool.{Decides}
use Rattle.std.specs.Prelude.{Option, Some, None, slice_get, not, IsTrue, ◌↔◌}
use Rattle.csv.specs.Records.{field_at}
use Rattle.certificate_labels.specs.Kinds.{with_id}
use Rattle.certificate_labels.specs.Labels.{IsMislabelled}

field_at_is : (fs : List (List ℕ)) (k : ℕ) → field_at fs k ≡ slice_get fs k
unfolding field_at
field_at_is [] k = refl
field_at_is (f ∷ fs) zero = refl
field_at_is (f ∷ fs) (suc k) = field_at_is fs k

first_two : (fs : List (List ℕ)) (a b : List ℕ) → slice_get fs 0 ≡ Some a → slice_get fs 1 ≡ Some b → take 2 fs ≡ a ∷ b ∷ []
first_two [] a b p q = cc
first_two (x ∷ []) a b p q = cc
first_two (x ∷ y ∷ fs) a b p q = cc

first_three : (fs : List (List ℕ)) (a b c : List ℕ) → slice_get fs 0 ≡ Some a → slice_get fs 1 ≡ Some b → slice_get fs 2 ≡ Some c → take 3 fs ≡ a ∷ b ∷ c ∷ []
first_three [] a b c p q r = cc
first_three (x ∷ []) a b c p q r = cc
first_three (x ∷ y ∷ []) a b c p q r = cc
first_three (x ∷ y ∷ z ∷ fs) a b c p q r = cc

-- fields that begin with a list have its items
begun_field : (xs fs : List (List ℕ)) (k : ℕ) (x : List ℕ) → take (length xs) fs ≡ xs → slice_get xs k ≡ Some x → slice_get fs k ≡ Some x
begun_field [] fs k x e s = cc
begun_field (y ∷ ys) [] k x e s = cc
begun_field (y ∷ ys) (f ∷ fs) zero x e s = cc
begun_field (y ∷ ys) (f ∷ fs) (suc k) x e s = let t : take (length ys) fs ≡ ys = cc in begun_field ys fs k x t s

-- ---- What a test of a field says

pub no_field : (fs : List (List ℕ)) (k : ℕ) (text : List ℕ) → field_at fs k ≡ None → IsTrue false ↔ (slice_get fs k ≡ Some text)
no_field fs k text e = let f : slice_get fs k ≡ None = sym (field_at_is fs k) ∙ e in (λ h. cc, λ s. cc)

pub tested_field : (r : Bool) (fs : List (List ℕ)) (k : ℕ) (x y text : List ℕ) → field_at fs k ≡ Some x → Decides r (x ≡ y) → y ≡ text → IsTrue r ↔ (slice_get fs k ≡ Some text)
tested_field r fs k x y text e d same =
    let f : slice_get fs k ≡ Some x = sym (field_at_is fs k) ∙ e in
    (λ t. let is : x ≡ y = d.0 t in cc, λ s. let is : x ≡ y = cc in d.1 is)

is_there : (r : Bool) (fs : List (List ℕ)) (k : ℕ) (x : List ℕ) → IsTrue r ↔ (slice_get fs k ≡ Some x) → r ≡ true → slice_get fs k ≡ Some x
is_there r fs k x t e = t.0 e

is_not_there : (r : Bool) (fs : List (List ℕ)) (k : ℕ) (x : List ℕ) → IsTrue r ↔ (slice_get fs k ≡ Some x) → r ≡ false → slice_get fs k ≢ Some x
is_not_there r fs k x t e s = let h : r ≡ true = t.1 s in cc

-- ---- What a label's tests say

pub other_kind : (r : Bool) (kind key : List ℕ) (id : Option (List ℕ)) (fs : List (List ℕ)) → IsTrue r ↔ (slice_get fs 0 ≡ Some kind) → r ≡ false → IsTrue false ↔ IsMislabelled (with_id kind key id) fs
other_kind r kind key None fs t e = (λ h. cc, λ m. absurd (is_not_there r fs 0 kind t e m.kind))
other_kind r kind key (Some id) fs t e = (λ h. cc, λ m. absurd (is_not_there r fs 0 kind t e m.kind))

pub other_key : (r s : Bool) (kind key : List ℕ) (id : Option (List ℕ)) (fs : List (List ℕ)) → IsTrue r ↔ (slice_get fs 0 ≡ Some kind) → r ≡ true → IsTrue s ↔ (slice_get fs 1 ≡ Some key) → s ≡ false → IsTrue true ↔ IsMislabelled (with_id kind key id) fs
other_key r s kind key None fs t e u f = (
  λ h. record {
    kind = is_there r fs 0 kind t e;
    other = λ b. is_not_there s fs 1 key u f (begun_field (kind ∷ key ∷ []) fs 1 key b refl);
  },
  λ m. refl,
)
other_key r s kind key (Some id) fs t e u f = (
  λ h. record {
    kind = is_there r fs 0 kind t e;
    other = λ b. is_not_there s fs 1 key u f (begun_field (kind ∷ key ∷ id ∷ []) fs 1 key b refl);
  },
  λ m. refl,
)

pub same_key : (r s : Bool) (kind key : List ℕ) (fs : List (List ℕ)) → IsTrue r ↔ (slice_get fs 0 ≡ Some kind) → r ≡ true → IsTrue s ↔ (slice_get fs 1 ≡ Some key) → s ≡ true → IsTrue false ↔ IsMislabelled (with_id kind key None) fs
same_key r s kind key fs t e u f = (λ h. cc, λ m. absurd (m.other (first_two fs kind key (is_there r fs 0 kind t e) (is_there s fs 1 key u f))))

pub id_tested : (r s q : Bool) (kind key id : List ℕ) (fs : List (List ℕ)) → IsTrue r ↔ (slice_get fs 0 ≡ Some kind) → r ≡ true → IsTrue s ↔ (slice_get fs 1 ≡ Some key) → s ≡ true → IsTrue q ↔ (slice_get fs 2 ≡ Some id) → IsTrue (not q) ↔ IsMislabelled (with_id kind key (Some id)) fs
id_tested r s true kind key id fs t e u f v =
    (λ y. cc, λ m. absurd (m.other (first_three fs kind key id (is_there r fs 0 kind t e) (is_there s fs 1 key u f) (is_there true fs 2 id v refl))))
id_tested r s false kind key id fs t e u f v = (
  λ y. record {
    kind = is_there r fs 0 kind t e;
    other = λ b. is_not_there false fs 2 id v refl (begun_field (kind ∷ key ∷ id ∷ []) fs 2 id b refl);
  },
  λ m. refl,
)
