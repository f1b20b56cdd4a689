use Rattle.std.proofs.Common.{rules, ◌≡◌, ◌+◌, ◌-◌, ◌∷◌, ◌++◌, [], map, IfOk, ap, subst, ◌∙◌, arith}
use Rattle.order_encoder.proofs.NextSlot.{put_is, put_next}
use Rattle.plan_model.specs.declared.formulas.Formula.TheVariants.{Holds}
use Rattle.plan_model.specs.declared.terms.Term.TheVariants.{Var}
use Rattle.plan_model.specs.task_networks.Spelling.{numbers}
use Rattle.slot_encoder.specs.Made as slots
use Rattle.stack_encoder.specs.Made as made
use Rattle.stack_encoder.proofs.MethodParts.{condition-are, first_parts}
use Rattle.stack_encoder.proofs.methods.climbing_condition.Goals as goal

pub loop-k-preserved : goal.loop-k-preserved
loop-k-preserved c =
    let f = c.args.frame.now in
    let from : c.loop-k.k ≡ 0 + c.loop-k.k = omega arith in
    let is : IfOk c.map-in-loop-k.result (λ x. x ≡ Holds (made.up f c.loop-k.k)) = search rules in
    put_next (λ v. Holds (made.up f v)) 0 c.loop-k.k c.put-2.new.self c.loop-k.into c.put-in-loop-k.new.self c.map-in-loop-k.result c.loop-k.invariant
    (subst (λ k. IfOk c.map-in-loop-k.result (λ x. x ≡ Holds (made.up f k))) from is) c.in_ok-put-3.ensures.put

pub returns : goal.returns
returns c =
    let f = c.args.frame.now in
    let plan = c.args.plan.now in
    let count = c.args.count in
    let all : c.loop-k.k ≡ count - 1 = omega arith in
    let task = Holds (made.task f count 0 plan) in
    let tip = Holds (made.tip f (Var 0)) in
    let one = put_is c.new-into.result c.put.new.self c.map.result task (search rules) c.in_ok-put.ensures.put in
    let two = put_is c.put.new.self c.put-2.new.self c.map-2.result tip (search rules) c.in_ok-put-2.ensures.put in
    let first : c.put-2.new.self ≡ first_parts f plan count = two ∙ ap (λ z. z ++ tip ∷ []) (one ∙ ap (λ z. z ++ task ∷ []) c.new-into.ensures.empty) in
    c.in_ok-push_behind.ensures
    ∙ ap (λ z. z ++ slots.method_behind f count plan) (c.loop-k.invariant ∙ (λ i. first i ++ map (λ v. Holds (made.up f v)) (numbers 0 (all i))))
    ∙ condition-are f plan count c.requires.some
