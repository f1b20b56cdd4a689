use Rattle.std.proofs.Common.{◌≡◌, ◌+◌, ◌∷◌, ◌++◌, [], map, ap, ◌∙◌, arith}
use Rattle.order_encoder.proofs.NextSlot.{push_next}
use Rattle.plan_model.specs.declared.terms.Term.TheVariants as T
use Rattle.plan_model.specs.task_networks.Spelling.{numbers}
use Rattle.stack_encoder.proofs.works.held_at_tip.Goals as goal

pub loop-k-preserved : goal.loop-k-preserved
loop-k-preserved c =
    let e : c.in_ok-plus.field-0 ≡ 2 + c.loop-k.k = omega (arith, c.in_ok-plus.ensures) in
    push_next (T.Var) 2 c.loop-k.k c.push.new.self c.loop-k.args c.push-in-loop-k.new.self (T.Var c.in_ok-plus.field-0) c.loop-k.invariant (ap (T.Var) e) c.in_ok-push-2.ensures.pushed

pub returns : goal.returns
returns c =
    let all : c.loop-k.k ≡ c.args.count = omega arith in
    let first : c.push.new.self ≡ T.Var 1 ∷ [] = c.in_ok-push.ensures.pushed ∙ ap (λ z. z ++ T.Var 1 ∷ []) c.new-args.ensures.empty in
    λ i. record { predicate = c.args.predicate; args = (c.loop-k.invariant ∙ (λ j. first j ++ map (T.Var) (numbers 2 (all j)))) i }
