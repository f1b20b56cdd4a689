use Rattle.std.proofs.Common.{ℕ, ◌≡◌, ◌++◌, map, take, true, ap, ◌∙◌, arith}
use Rattle.std.proofs.lemmas.List.{take_all}
use Rattle.htn_base.specs.declared.name.Name.{Name}
use Rattle.plan_model.specs.task_networks.Spelling.{numbers}
use Rattle.order_encoder.proofs.NextSlot.{push_next}
use Rattle.slot_encoding.specs.EncodedNames.{slot_type}
use Rattle.slot_encoding.specs.slot_declarations.Made as made
use Rattle.slot_encoding.proofs.slot_declarations.Appended.{map_next}
use Rattle.slot_encoding.proofs.slot_declarations.objects.encoded_objects.Goals as goal

pub loop-object-preserved : goal.loop-object-preserved
loop-object-preserved c =
    map_next (made.object c.args.frame.now) _ c.loop-object.object-index _ _ c.loop-object.into _ _ c.loop-object-test.true c.loop-object.invariant
    (λ j. record { name = c.renamed.ensures j; ty = c.in_ok-retyped.ensures j; constant = true }) c.in_ok-push.ensures.pushed

pub loop-k-preserved : goal.loop-k-preserved
loop-k-preserved c =
    push_next (made.slot c.args.frame.now) 1 c.loop-k.k _ c.loop-k.into _ _ c.loop-k.invariant
    (ap (λ (n : Name). record { name = n; ty = slot_type; constant = true }) c.in_ok-name_of_slot.ensures) c.in_ok-push-2.ensures.pushed

pub returns : goal.returns
returns c =
    let f = c.args.frame.now in
    let slots = λ (k : ℕ). map (made.slot f) (numbers 1 k) in
    let objects : c.loop-object.into ≡ map (made.object f) f.compiled.now.hddl.objects =
    c.loop-object.invariant ∙ ap (λ old. old ++ map (made.object f) (take c.loop-object.object-index c.as_slice-objects.result.now)) c.new-into.ensures.empty
    ∙ ap (map (made.object f)) (take_all c.loop-object.object-index c.as_slice-objects.result.now c.loop-object-test.false ∙ c.as_slice-objects.ensures.items) in
    c.loop-k.invariant ∙ ap (λ z. z ++ slots c.loop-k.k) objects ∙ ap (λ k. map (made.object f) f.compiled.now.hddl.objects ++ slots k) (let e : c.loop-k.k ≡ f.slots = omega arith in e)
