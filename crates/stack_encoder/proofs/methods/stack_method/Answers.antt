use Rattle.std.proofs.Common.{List, get_or, Some, length, ◌≡◌, ◌<◌, ap, sym, ◌∙◌, arith}
use Rattle.std.proofs.lemmas.Result.{IfOk-weaker}
use Rattle.plan_model.specs.declared.schemas.ActionSchema.{ActionSchema}
use Rattle.plan_model.specs.declared.schemas.MethodPlan.{MethodPlan}
use Rattle.slot_encoding.specs.SourceParts as parts
use Rattle.stack_encoding.specs.StackActions as actions
use Rattle.stack_encoder.specs.Made as made
use Rattle.stack_encoder.proofs.ActionPlaces.{method-at}
use Rattle.stack_encoder.proofs.MethodActions.{falling-is, climbing-is, method_name, word_first, word_later}
use Rattle.stack_encoder.proofs.methods.stack_method.Goals as goal
use Rattle.stack_encoder.proofs.methods.stack_method.Goals.{in-0, in_default+in_ok-name-in_default}

pub returns-then-count-eq0 : goal.returns-then-count-eq0
returns-then-count-eq0 c =
    let f = c.args.frame.now in
    let m = c.args.m in
    let plan = c.index-as_slice-m.result in
    let named : c.match-m.name ≡ method_name f m plan = elim c.match-m.branch [
      | in-0 w ↦ w.name-is ∙ w.named-name.ensures ∙ ap (parts.name f.printed.now) (sym (word_first f m plan m w.in-0.is))
      | in_default+in_ok-name-in_default w ↦ w.name-is ∙ w.in_ok-name-in_default.ensures ∙ ap (parts.name f.printed.now) (sym (word_later f m plan m (let other = w.in_default in omega arith)))
    ] in
    let at = method-at f.compiled.now f.printed.now f.slots m plan c.requires.some
    ∙ ap (λ (q : MethodPlan). Some (actions.stack_method f.compiled.now f.printed.now f.slots m q)) (ap (λ (xs : List MethodPlan). get_or xs m plan) (sym c.as_slice.ensures.items) ∙ sym c.index-as_slice-m.is) in
    let none : length plan.schema.children ≡ 0 = omega (arith, c.len.ensures.length, c.in_ok-count.ensures.same, c.if-count-eq0.true) in
    IfOk-weaker c.falling_method.result (λ (a : ActionSchema). a ≡ made.falling_method f c.match-m.name plan) (made.IsMethod f m) (λ a e. at ∙ ap Some (sym (e ∙ falling-is f m plan c.match-m.name named none))) c.falling_method.ensures

pub returns-else-count-eq0 : goal.returns-else-count-eq0
returns-else-count-eq0 c =
    let f = c.args.frame.now in
    let m = c.args.m in
    let plan = c.index-as_slice-m.result in
    let check = c.in_ok-check.check in
    let count = c.in_ok-count.count in
    let named : c.match-m.name ≡ method_name f m plan = elim c.match-m.branch [
      | in-0 w ↦ w.name-is ∙ w.named-name.ensures ∙ ap (parts.name f.printed.now) (sym (word_first f m plan m w.in-0.is))
      | in_default+in_ok-name-in_default w ↦ w.name-is ∙ w.in_ok-name-in_default.ensures ∙ ap (parts.name f.printed.now) (sym (word_later f m plan m (let other = w.in_default in omega arith)))
    ] in
    let at = method-at f.compiled.now f.printed.now f.slots m plan c.requires.some
    ∙ ap (λ (q : MethodPlan). Some (actions.stack_method f.compiled.now f.printed.now f.slots m q)) (ap (λ (xs : List MethodPlan). get_or xs m plan) (sym c.as_slice.ensures.items) ∙ sym c.index-as_slice-m.is) in
    let some : 0 < count = omega (arith, c.if-count-eq0.false) in
    let all : count ≡ length plan.schema.children = omega (arith, c.len.ensures.length, c.in_ok-count.ensures.same) in
    IfOk-weaker c.climbing_method.result (λ (a : ActionSchema). a ≡ made.climbing_method f c.match-m.name check count plan) (made.IsMethod f m)
    (λ a e. at ∙ ap Some (sym (e ∙ climbing-is f m plan c.match-m.name check count named c.in_ok-check.ensures some all))) c.climbing_method.ensures
