use Rattle.std.proofs.Common.{rules, ◌≡◌, ◌++◌, ◌∷◌, [], ap, ◌∙◌, append_assoc, arith}
use Rattle.order_encoder.proofs.NextSlot.{put_is, put_next}
use Rattle.plan_model.specs.declared.formulas.Formula.TheVariants as F
use Rattle.slot_encoder.specs.Made as made
use Rattle.slot_encoder.proofs.Splits.{method_before-is}
use Rattle.slot_encoder.proofs.methods.push_before.Goals as goal

pub loop-k-preserved : goal.loop-k-preserved
loop-k-preserved c = put_next (λ v. F.Holds (made.is_free c.args.frame.now v)) 1 c.loop-k.k c.push_waits.new.into c.loop-k.into c.put-in-loop-k.new.self c.free.result c.loop-k.invariant c.free.ensures c.in_ok-put-2.ensures.put

pub returns : goal.returns
returns c =
    let f = c.args.frame.now in
    let plan = c.args.plan.now in
    let v = c.args.variables.now in
    let r = c.requires.variables in
    let old = c.args.into.now in
    let task = F.Holds (made.method_task f v.front plan) in
    let waits = made.waiting f v.depth in
    let free = made.new_slots_free f v.spare in
    let put = put_is old c.put.new.self c.map.result task (search rules) c.in_ok-put.ensures.put in
    let both = c.in_ok-push_waits.ensures ∙ ap (λ z. z ++ waits) put ∙ append_assoc old (task ∷ []) waits in
    let all : c.loop-k.k ≡ v.spare = omega (arith, c.loop-k.auto.k-end, c.loop-k-test.false) in
    c.loop-k.invariant ∙ ap (λ k. c.push_waits.new.into ++ made.new_slots_free f k) all ∙ ap (λ z. z ++ free) both
    ∙ append_assoc old (task ∷ waits) free ∙ ap (λ z. old ++ z) (method_before-is f plan v.front v.depth v.spare r.front r.depth r.spare)
