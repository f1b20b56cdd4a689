use Rattle.std.proofs.Common.{rules, ◌≡◌, ◌++◌, ◌∷◌, ◌<◌, [], length, ap, ◌∙◌, append_assoc, arith}
use Rattle.std.proofs.lemmas.Result.{on_ok_weaker}
use Rattle.order_encoder.proofs.NextSlot.{put_is}
use Rattle.plan_model.specs.declared.effects.Effect.TheVariants as E
use Rattle.slot_encoder.specs.Made as made
use Rattle.slot_encoder.proofs.Splits.{change-freed, change-split}
use Rattle.slot_encoder.proofs.splitting.push_method_effects.Goals as goal

pub returns-then-len-eq0 : goal.returns-then-len-eq0
returns-then-len-eq0 c =
    let f = c.args.frame.now in
    let plan = c.args.plan.now in
    let v = c.args.variables.now in
    let old = c.args.into.now in
    let gone = E.Delete (made.method_task f v.front plan) in
    let freed = E.Add (made.is_free f 0) ∷ made.cleared f v.depth in
    let put = put_is old c.put.new.self c.map.result gone (search rules) c.in_ok-put.ensures.put in
    let none : length plan.schema.children ≡ 0 = omega (arith, c.len.ensures.length, c.if-len-eq0.true) in
    on_ok_weaker {P = c.push_freed.new.into ≡ c.put.new.self ++ freed} {Q = c.push_freed.new.into ≡ old ++ made.method_eff f c.args.check plan} c.push_freed.result
    (λ k. k ∙ ap (λ z. z ++ freed) put ∙ append_assoc old (gone ∷ []) freed ∙ ap (λ z. old ++ z) (change-freed f c.args.check plan v.front v.depth c.requires.variables.front c.requires.variables.depth none))
    c.push_freed.ensures

pub returns-else-len-eq0 : goal.returns-else-len-eq0
returns-else-len-eq0 c =
    let f = c.args.frame.now in
    let plan = c.args.plan.now in
    let v = c.args.variables.now in
    let old = c.args.into.now in
    let gone = E.Delete (made.method_task f v.front plan) in
    let children = made.children_put f c.args.check plan in
    let put = put_is old c.put.new.self c.map.result gone (search rules) c.in_ok-put.ensures.put in
    let some : 0 < length plan.schema.children = omega (arith, c.len.ensures.length, c.if-len-eq0.false) in
    on_ok_weaker {P = c.push_split.new.into ≡ c.put.new.self ++ children} {Q = c.push_split.new.into ≡ old ++ made.method_eff f c.args.check plan} c.push_split.result
    (λ k. k ∙ ap (λ z. z ++ children) put ∙ append_assoc old (gone ∷ []) children ∙ ap (λ z. old ++ z) (change-split f c.args.check plan v.front c.requires.variables.front some))
    c.push_split.ensures
