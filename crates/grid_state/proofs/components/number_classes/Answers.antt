use Rattle.std.proofs.Common.{Result, Ok, Err, IfOk}
use Rattle.grid_state.proofs.Classes.{classes_of_labels}
use Rattle.grid_state.proofs.components.number_classes.Goals as goal

both : {A E : Type 0} (P Q R : A → Type 0) → ((a : A) → P a → Q a → R a) → (r : Result A E) → IfOk r P → IfOk r Q → IfOk r R
both P Q R f (Ok a) p q = f a p q
both P Q R f (Err e) p q = tt

pub returns : goal.returns
returns c =
    let t = c.in_ok-up.ensures in
    both _ _ _ (λ a labels each. classes_of_labels c.args.places c.args.links.now c.deref.result.now a.class_of.items a.count (rw c.deref.ensures.value t.trees) labels (rw c.deref.ensures.value t.each_place) each)
    c.labelled.result c.labelled.ensures.labels c.labelled.ensures.each_place
