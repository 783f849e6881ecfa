use Rattle.std.proofs.Common.{◌<◌, ℕ, Option, length, subst, ◌∙◌, arith}
use Rattle.std.specs.Prelude.{IfSome}
use Rattle.fb_certificate.proofs.IndexLaws.{entry, first_within, table_long, state_some, state_none}
use Rattle.fb_certificate.proofs.WholeLaws.{few_outages}
use Rattle.fb_certificate.proofs.indices.Indices.state_of.Goals as goal

pub index-requires : goal.index-requires
index-requires c =
    let inputs = c.args.inputs.now in
    let below = subst (λ (o : Option ℕ). IfSome o (λ k. k < length inputs.crac.contingencies)) c.in-Some.is c.requires.known in
    let long = table_long (length inputs.crac.contingencies) inputs.outages c.args.self.now.states.items c.requires.are.states in
    omega (arith, below, long)

pub overflow_cast-result : goal.overflow_cast-result
overflow_cast-result c =
    let inputs = c.args.inputs.now in
    let below = subst (λ (o : Option ℕ). IfSome o (λ k. k < length inputs.crac.contingencies)) c.in-Some.is c.requires.known in
    let within = first_within inputs.outages c.in-Some.contingency c.in-Some-index.place
    (entry (length inputs.crac.contingencies) inputs.outages c.args.self.now.states.items c.in-Some.contingency c.index.result.now c.requires.are.states below c.index.ensures ∙ c.in-Some-index.is) in
    let few = few_outages inputs c.requires.whole in
    omega (arith, within, few)

pub overflow_add-result : goal.overflow_add-result
overflow_add-result c =
    let inputs = c.args.inputs.now in
    let below = subst (λ (o : Option ℕ). IfSome o (λ k. k < length inputs.crac.contingencies)) c.in-Some.is c.requires.known in
    let within = first_within inputs.outages c.in-Some.contingency c.in-Some-index.place
    (entry (length inputs.crac.contingencies) inputs.outages c.args.self.now.states.items c.in-Some.contingency c.index.result.now c.requires.are.states below c.index.ensures ∙ c.in-Some-index.is) in
    let few = few_outages inputs c.requires.whole in
    omega (arith, within, few)

pub returns-in-Some-index : goal.returns-in-Some-index
returns-in-Some-index c =
    let inputs = c.args.inputs.now in
    let below = subst (λ (o : Option ℕ). IfSome o (λ k. k < length inputs.crac.contingencies)) c.in-Some.is c.requires.known in
    state_some inputs.outages c.args.contingency c.in-Some.contingency c.in-Some-index.place c.in-Some.is
    (entry (length inputs.crac.contingencies) inputs.outages c.args.self.now.states.items c.in-Some.contingency c.index.result.now c.requires.are.states below c.index.ensures ∙ c.in-Some-index.is)

pub returns-in-None : goal.returns-in-None
returns-in-None c =
    let inputs = c.args.inputs.now in
    let below = subst (λ (o : Option ℕ). IfSome o (λ k. k < length inputs.crac.contingencies)) c.in-Some.is c.requires.known in
    state_none inputs.outages c.args.contingency c.in-Some.contingency c.in-Some.is
    (entry (length inputs.crac.contingencies) inputs.outages c.args.self.now.states.items c.in-Some.contingency c.index.result.now c.requires.are.states below c.index.ensures ∙ c.in-None.is)
