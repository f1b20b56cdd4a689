use Rattle.std.proofs.Common.{rules, ◌≡◌, ◌+◌, ◌∷◌, ◌++◌, [], true, false, cond, ap, sym, ◌∙◌}
use Rattle.plan_model.specs.task_networks.Spelling.{is_heir}
use Rattle.slot_encoding.specs.EncodedActions.{slot_vars}
use Rattle.slot_encoder.proofs.Numbered.{slots_next}
use Rattle.slot_encoder.proofs.variables.slots_of.Goals as goal
use Rattle.slot_encoder.proofs.variables.slots_of.Goals.{then-eq+in_ok-push, else-eq+in_ok-push-2+in_ok-new}

pub loop-i-preserved : goal.loop-i-preserved
loop-i-preserved c =
    let heir = c.args.heir in
    let i = c.loop-i.i in
    let new = c.loop-i.new in
    let count = c.args.count in
    let next = slots_next heir i new count (slot_vars heir 0 1 count) c.loop-i.slots c.if-eq.slots c.if-eq.new c.loop-i-test.true c.loop-i.invariant in
    elim c.if-eq.branch [
      | then-eq+in_ok-push w ↦
          let is : is_heir heir i ≡ true = search rules in
          next (w.slots-is ∙ w.in_ok-push.ensures.pushed ∙ ap (λ b. c.loop-i.slots ++ cond b 0 new ∷ []) (sym is)) (w.new-is ∙ ap (λ b. cond b new (new + 1)) (sym is))
      | else-eq+in_ok-push-2+in_ok-new w ↦
          let is : is_heir heir i ≡ false = search rules in
          next (w.slots-is ∙ w.in_ok-push-2.ensures.pushed ∙ ap (λ b. c.loop-i.slots ++ cond b 0 new ∷ []) (sym is)) (w.new-is ∙ w.in_ok-new.ensures ∙ ap (λ b. cond b new (new + 1)) (sym is))
    ]
