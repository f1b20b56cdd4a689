use Rattle.std.proofs.Common.{◌≡◌, ◌-◌, ◌∷◌, ◌++◌, [], map, ap, ◌∙◌, arith}
use Rattle.htn_base.specs.declared.name.Name.{Name}
use Rattle.order_encoder.proofs.NextSlot.{push_next}
use Rattle.plan_model.specs.declared.terms.Param.{Param}
use Rattle.plan_model.specs.task_networks.Spelling.{numbers}
use Rattle.slot_encoding.specs.EncodedNames.{slot_type}
use Rattle.slot_encoding.specs.slot_declarations.Made as declarations
use Rattle.slot_encoder.specs.Made as slots
use Rattle.stack_encoder.proofs.MethodParts.{params-are, first_param, own_params}
use Rattle.stack_encoder.proofs.methods.climbing_params.Goals as goal

pub loop-k-preserved : goal.loop-k-preserved
loop-k-preserved c = push_next (slots.new_slot c.args.frame.now) 1 c.loop-k.k c.push.new.self c.loop-k.into c.push-in-loop-k.new.self c.slot_param-in-loop-k.result c.loop-k.invariant (c.slot_param-in-loop-k.ensures ∙ ap (λ (n : Name). record { name = n; ty = slot_type }) c.in_ok-numbered.ensures) c.in_ok-push-2.ensures.pushed

pub returns : goal.returns
returns c =
    let f = c.args.frame.now in
    let plan = c.args.plan.now in
    let all : c.loop-k.k ≡ c.args.count - 1 = omega arith in
    let first : c.push.new.self ≡ first_param f plan ∷ [] = c.in_ok-push.ensures.pushed ∙ ap (λ z. z ++ c.slot_param.result ∷ []) c.new-into.ensures.empty ∙ ap (λ (p : Param). p ∷ []) (c.slot_param.ensures ∙ ap (λ (n : Name). record { name = n; ty = slot_type }) c.named.ensures) in
    c.in_ok-push_params.ensures ∙ ap (λ ps. c.loop-k.into ++ map (declarations.param f) ps) c.as_slice.ensures.items
    ∙ ap (λ z. z ++ own_params f plan) (c.loop-k.invariant ∙ (λ i. first i ++ map (slots.new_slot f) (numbers 1 (all i))))
    ∙ params-are f plan c.args.count c.requires.some
