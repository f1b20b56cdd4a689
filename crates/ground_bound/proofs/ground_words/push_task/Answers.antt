use Rattle.std.proofs.Common.{◌≡◌, ◌++◌, codes, map, take_all, ap, ◌∙◌}
use Rattle.plan_model.specs.declared.terms.Term.TheVariants.{Var}
use Rattle.plan_model.specs.plan_meaning.Truth.{values_of}
use Rattle.bound_calc.specs.NoBound.{spaced}
use Rattle.ground_bound.specs.GroundCycleWords.{object_word}
use Rattle.ground_bound.proofs.CycleTexts.{object_more, task_whole, on_ok_then}
use Rattle.ground_bound.proofs.ground_words.push_task.Goals as goal

pub loop-term-preserved : goal.loop-term-preserved
loop-term-preserved c =
    let word = c.object_name.ensures ∙ ap (object_word c.args.c.now) c.object_at.ensures in
    object_more c.args.c.now c.args.values.now c.args.terms.now c.loop-term.term-index (Var 0) c.push_all-3.new.self c.loop-term.text c.push_all-in-loop-term-2.new.self c.object_name.result.now c.loop-term-test.true
    c.loop-term.invariant word (c.in_ok-push_all-5.ensures.pushed ∙ ap (λ z. z ++ c.object_name.result.now) c.in_ok-push_all-4.ensures.pushed)

pub returns : goal.returns
returns c =
    let objects = spaced (map (object_word c.args.c.now) (values_of c.args.values.now c.args.terms.now)) in
    let text : c.loop-term.text ≡ c.push_all-3.new.self ++ objects = c.loop-term.invariant ∙ ap (λ ts. c.push_all-3.new.self ++ spaced (map (object_word c.args.c.now) (values_of c.args.values.now ts))) (take_all c.loop-term.term-index c.args.terms.now c.loop-term-test.false) in
    let opened : c.push_all-2.new.self ≡ (c.args.text.now ++ codes " ") ++ codes "(" = c.in_ok-push_all-2.ensures.pushed ∙ ap (λ z. z ++ codes "(") c.in_ok-push_all.ensures.pushed in
    let named = c.in_ok-push_all-3.ensures.pushed ∙ ap (λ z. c.push_all-2.new.self ++ z) c.task_name.ensures in
    record {
      pushed = on_ok_then c.push_all-4.result (task_whole c.args.c.now c.args.text.now c.push_all-2.new.self c.push_all-3.new.self _ c.loop-term.text c.push_all-4.new.self objects opened named text) c.push_all-4.ensures.pushed;
    }
