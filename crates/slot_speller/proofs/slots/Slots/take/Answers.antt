use Rattle.std.proofs.Common.{Result, Ok, Err, OnOk, ap, sym, subst, ◌∙◌}
use Rattle.std.specs.Option.{option_and_then}
use Rattle.plan_model.specs.declared.schemas.MethodPlan.{MethodPlan}
use Rattle.slot_speller.specs.Slots.{Plants}
use Rattle.slot_speller.proofs.Settings.{takes_childless, takes_planted}
use Rattle.slot_speller.proofs.slots.Slots.take.Goals as goal

on_ok : {A E : Type 0} (r : Result A E) (P Q : Type 0) → OnOk r P → (P → Q) → OnOk r Q
on_ok (Ok a) P Q h f = f h
on_ok (Err e) P Q h f = h

pub returns-in-Some-heir : goal.returns-in-Some-heir
returns-in-Some-heir c =
    on_ok c.plant.result _ _ c.plant.ensures
    (λ planted. takes_planted c.args.c.now c.args.tree.now c.args.node c.args.self.now c.at-slot.result c.at-slot.ensures c.plant.new.self
    c.in-Some.plan.now c.in-Some-heir.heir (sym c.in-Some.ensures.plan) c.in-Some-heir.is
    (subst (λ n. Plants c.args.tree.now c.args.node c.at-slot.result c.in-Some-heir.heir n c.args.self.now c.plant.new.self)
    c.len.ensures.length planted))

pub returns-in-None-heir : goal.returns-in-None-heir
returns-in-None-heir c =
    on_ok c.give.result _ _ c.give.ensures
    (λ given. takes_childless c.args.c.now c.args.tree.now c.args.node c.args.self.now c.at-slot.result c.at-slot.ensures c.give.new.self
    (ap (option_and_then (λ (plan : MethodPlan). plan.heir)) (sym c.in-Some.ensures.plan) ∙ c.in-None-heir.is) given)

pub returns-in-None : goal.returns-in-None
returns-in-None c =
    on_ok c.give-in-None.result _ _ c.give-in-None.ensures
    (λ given. takes_childless c.args.c.now c.args.tree.now c.args.node c.args.self.now c.at-slot.result c.at-slot.ensures
    c.give-in-None.new.self (ap (option_and_then (λ (plan : MethodPlan). plan.heir)) (sym c.in-None.ensures.plan)) given)
