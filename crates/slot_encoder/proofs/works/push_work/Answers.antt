use Rattle.std.proofs.Common.{rules, suc, ◌≡◌, ◌∷◌, ◌++◌, [], length, ap, ◌∙◌, append_assoc, arith}
use Rattle.std.proofs.lemmas.Result.{on_ok_weaker}
use Rattle.order_encoder.proofs.NextSlot.{put_is}
use Rattle.plan_model.specs.declared.formulas.Formula.TheVariants as F
use Rattle.plan_model.specs.declared.effects.Effect.TheVariants as E
use Rattle.slot_encoder.specs.Pieces.{held_in_first}
use Rattle.slot_encoder.specs.Made as made
use Rattle.slot_encoder.proofs.works.push_work.Goals as goal

pub returns-clause-before : goal.returns-clause-before
returns-clause-before c =
    let f = c.args.frame.now in
    let p = c.args.predicate in
    let count = length c.args.params.now in
    let old = c.args.into.now.before in
    let depth = c.in_ok-depth.depth in
    let all : depth ≡ suc count = omega (arith, c.in_ok-depth.ensures, c.in_ok-number.ensures.same) in
    let held = F.Holds (held_in_first p depth) in
    let waits = made.waiting f depth in
    let own = made.condition f 1 c.args.pre.now in
    let put = put_is old c.put.new.self c.map.result held (search rules) c.in_ok-put.ensures.put in
    let is = c.in_ok-push_condition.ensures ∙ ap (λ z. z ++ own) (c.in_ok-push_waits.ensures ∙ ap (λ z. z ++ waits) put ∙ append_assoc old (held ∷ []) waits)
    ∙ append_assoc old (held ∷ waits) own ∙ ap (λ d. old ++ ((F.Holds (held_in_first p d) ∷ made.waiting f d) ++ own)) all in
    on_ok_weaker {P = c.push_freed.new.into ≡ c.put-2.new.self ++ E.Add (made.is_free f 0) ∷ made.cleared f depth} {Q = c.push_condition.new.into ≡ old ++ made.work_pre f p count c.args.pre.now} c.push_freed.result (λ k. is) c.push_freed.ensures

pub returns-clause-effects : goal.returns-clause-effects
returns-clause-effects c =
    let f = c.args.frame.now in
    let p = c.args.predicate in
    let count = length c.args.params.now in
    let old = c.args.into.now.effects in
    let depth = c.in_ok-depth.depth in
    let all : depth ≡ suc count = omega (arith, c.in_ok-depth.ensures, c.in_ok-number.ensures.same) in
    let gone = E.Delete (held_in_first p depth) in
    let freed = E.Add (made.is_free f 0) ∷ made.cleared f depth in
    let put = put_is old c.put-2.new.self c.map-2.result gone (search rules) c.in_ok-put-2.ensures.put in
    on_ok_weaker {P = c.push_freed.new.into ≡ c.put-2.new.self ++ freed} {Q = c.push_freed.new.into ≡ old ++ made.work_eff f p count} c.push_freed.result
    (λ k. k ∙ ap (λ z. z ++ freed) put ∙ append_assoc old (gone ∷ []) freed ∙ ap (λ d. old ++ made.freeing f (held_in_first p d) d) all)
    c.push_freed.ensures
