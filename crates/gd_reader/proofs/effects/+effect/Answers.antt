use Rattle.std.proofs.Common.{Ok, ap, arith}
use Rattle.std.proofs.lemmas.Result.{err_from_is_err_and}
use Rattle.text_forms.specs.Placed.{parts_at}
use Rattle.gd_reader.specs.Answers.{list_or_end}
use Rattle.gd_reader.specs.declared.effects.RawEffect.TheVariants as raw
use Rattle.gd_reader.specs.Effects.{effects, effect_headed, anded}
use Rattle.gd_reader.proofs.EffectSteps.{effect_met, effects_is, bound_effect_is, effect_inside_is, deleted_is, guarded_is, one_effect_is}
use Rattle.gd_reader.proofs.Adding.{bare_plain_effect}
use Rattle.gd_reader.proofs.Keeping.{keeps_then, keeps_same}
use Rattle.gd_reader.proofs.Steps.{pair_behind, fails_bind, all_end, all_stuck, all_stop, all_next, is_none}
use Rattle.gd_reader.proofs.effects.+effect.Goals as goal

pub effects_of-returns-in_err-inside-clause-gives : goal.effects_of-returns-in_err-inside-clause-gives
effects_of-returns-in_err-inside-clause-gives t c =
    let p = err_from_is_err_and c.from_residual.result c.from_residual.ensures.1 in
    rw (p.1, p.2) (fails_bind c.in_err-inside.field-0.0 (effects c.args.names.now (parts_at c.args.s.now c.args.i)) (λ es. Ok (raw.And es.0, es.1)) (all_stuck list_or_end pair_behind effect_met effects effects_is c.loop-parts.parts c.loop-parts.names (parts_at c.args.s.now c.loop-parts.i) (effects c.args.names.now (parts_at c.args.s.now c.args.i)) c.loop-parts.invariant.rest c.in_err-inside.field-0.0 c.in_err-inside.ensures.gives))

pub effects_of-returns-in_err-part-clause-gives : goal.effects_of-returns-in_err-part-clause-gives
effects_of-returns-in_err-part-clause-gives t c =
    let p = err_from_is_err_and c.from_residual-in_err-part.result c.from_residual-in_err-part.ensures.1 in
    let is = c.in-Some.is in
    let gives = c.in_ok-inside.ensures.gives in
    rw (p.1, p.2) (fails_bind c.in_err-part.field-0.0 (effects c.args.names.now (parts_at c.args.s.now c.args.i)) (λ es. Ok (raw.And es.0, es.1)) (all_stop list_or_end pair_behind effect_met effects effects_is c.loop-parts.parts c.loop-parts.names (parts_at c.args.s.now c.loop-parts.i) (effects c.args.names.now (parts_at c.args.s.now c.args.i)) c.loop-parts.invariant.rest c.in_err-part.field-0.0 (parts_at c.args.s.now c.in-Some.inside, parts_at c.args.s.now c.in-Some.behind) (rw is at gives) c.in_err-part.ensures.gives))

pub effects_of-loop-parts-preserved : goal.effects_of-loop-parts-preserved
effects_of-loop-parts-preserved t c =
    let is = c.in-Some.is in
    let gives = c.in_ok-inside.ensures.gives in
    let later = c.in_ok-inside.ensures.later in
    let after = rw is at later in
    let pushed = c.in_ok-push.ensures.pushed in
    record {
      adds = λ all h old. c.in_ok-part.ensures.adds all h (c.loop-parts.invariant.adds all h old);
      rest = rw pushed (all_next list_or_end pair_behind effect_met effects effects_is c.loop-parts.parts c.loop-parts.names (parts_at c.args.s.now c.loop-parts.i) (effects c.args.names.now (parts_at c.args.s.now c.args.i)) c.loop-parts.invariant.rest (parts_at c.args.s.now c.in-Some.inside, parts_at c.args.s.now c.in-Some.behind) c.in_ok-part.part c.effect_inside_of.new.names (rw is at gives) c.in_ok-part.ensures.gives);
      keeps = keeps_then c.args.names.now c.loop-parts.names c.effect_inside_of.new.names c.loop-parts.invariant.keeps c.in_ok-part.ensures.keeps;
      later = let start = c.loop-parts.invariant.later in omega (arith, after.2);
    }

pub effects_of-returns-clause-gives : goal.effects_of-returns-clause-gives
effects_of-returns-clause-gives t c =
    let gives = c.in_ok-inside.ensures.gives in
    let never = c.in_default.not-Some in
    ap anded (all_end list_or_end pair_behind effect_met effects effects_is c.loop-parts.parts c.loop-parts.names (parts_at c.args.s.now c.loop-parts.i) (effects c.args.names.now (parts_at c.args.s.now c.args.i)) c.loop-parts.invariant.rest (rw (is_none c.in_ok-inside.field-0 never) at gives))

pub effects_of-returns-in_err-inside-clause-keeps : goal.effects_of-returns-in_err-inside-clause-keeps
effects_of-returns-in_err-inside-clause-keeps t c = grind (arith, keeps_same, keeps_then)

pub effects_of-returns-in_err-inside-clause-adds : goal.effects_of-returns-in_err-inside-clause-adds
effects_of-returns-in_err-inside-clause-adds t c = grind (arith, keeps_same, keeps_then)

pub effects_of-returns-in_err-part-clause-keeps : goal.effects_of-returns-in_err-part-clause-keeps
effects_of-returns-in_err-part-clause-keeps t c = grind (arith, keeps_same, keeps_then)

pub effects_of-returns-in_err-part-clause-adds : goal.effects_of-returns-in_err-part-clause-adds
effects_of-returns-in_err-part-clause-adds t c = grind (arith, keeps_same, keeps_then)

pub effects_of-returns-in_err-push-clause-keeps : goal.effects_of-returns-in_err-push-clause-keeps
effects_of-returns-in_err-push-clause-keeps t c = grind (arith, keeps_same, keeps_then)

pub effects_of-returns-in_err-push-clause-adds : goal.effects_of-returns-in_err-push-clause-adds
effects_of-returns-in_err-push-clause-adds t c = grind (arith, keeps_same, keeps_then)

pub effects_of-returns-in_err-push-clause-gives : goal.effects_of-returns-in_err-push-clause-gives
effects_of-returns-in_err-push-clause-gives t c = grind (arith, keeps_same, keeps_then)

pub effects_of-returns-clause-keeps : goal.effects_of-returns-clause-keeps
effects_of-returns-clause-keeps t c = grind (arith, keeps_same, keeps_then)

pub effects_of-returns-clause-adds : goal.effects_of-returns-clause-adds
effects_of-returns-clause-adds t c = grind (arith, keeps_same, keeps_then)

pub one_effect_of-returns-in_err-inside-clause-keeps : goal.one_effect_of-returns-in_err-inside-clause-keeps
one_effect_of-returns-in_err-inside-clause-keeps t c = grind (arith, keeps_same, keeps_then, one_effect_is)

pub one_effect_of-returns-in_err-inside-clause-adds : goal.one_effect_of-returns-in_err-inside-clause-adds
one_effect_of-returns-in_err-inside-clause-adds t c = grind (arith, keeps_same, keeps_then, one_effect_is)

pub one_effect_of-returns-in_err-inside-clause-gives : goal.one_effect_of-returns-in_err-inside-clause-gives
one_effect_of-returns-in_err-inside-clause-gives t c = grind (arith, keeps_same, keeps_then, one_effect_is)

pub one_effect_of-returns-in_err-effect_inside_of-clause-keeps : goal.one_effect_of-returns-in_err-effect_inside_of-clause-keeps
one_effect_of-returns-in_err-effect_inside_of-clause-keeps t c = grind (arith, keeps_same, keeps_then, one_effect_is)

pub one_effect_of-returns-in_err-effect_inside_of-clause-adds : goal.one_effect_of-returns-in_err-effect_inside_of-clause-adds
one_effect_of-returns-in_err-effect_inside_of-clause-adds t c = grind (arith, keeps_same, keeps_then, one_effect_is)

pub one_effect_of-returns-in_err-effect_inside_of-clause-gives : goal.one_effect_of-returns-in_err-effect_inside_of-clause-gives
one_effect_of-returns-in_err-effect_inside_of-clause-gives t c = grind (arith, keeps_same, keeps_then, one_effect_is)

pub one_effect_of-returns-in_err-end_due-clause-keeps : goal.one_effect_of-returns-in_err-end_due-clause-keeps
one_effect_of-returns-in_err-end_due-clause-keeps t c = grind (arith, keeps_same, keeps_then, one_effect_is)

pub one_effect_of-returns-in_err-end_due-clause-adds : goal.one_effect_of-returns-in_err-end_due-clause-adds
one_effect_of-returns-in_err-end_due-clause-adds t c = grind (arith, keeps_same, keeps_then, one_effect_is)

pub one_effect_of-returns-in_err-end_due-clause-gives : goal.one_effect_of-returns-in_err-end_due-clause-gives
one_effect_of-returns-in_err-end_due-clause-gives t c = grind (arith, keeps_same, keeps_then, one_effect_is)

pub one_effect_of-returns-in_err-part-clause-keeps : goal.one_effect_of-returns-in_err-part-clause-keeps
one_effect_of-returns-in_err-part-clause-keeps t c = grind (arith, keeps_same, keeps_then, one_effect_is)

pub one_effect_of-returns-in_err-part-clause-adds : goal.one_effect_of-returns-in_err-part-clause-adds
one_effect_of-returns-in_err-part-clause-adds t c = grind (arith, keeps_same, keeps_then, one_effect_is)

pub one_effect_of-returns-in_err-part-clause-gives : goal.one_effect_of-returns-in_err-part-clause-gives
one_effect_of-returns-in_err-part-clause-gives t c = grind (arith, keeps_same, keeps_then, one_effect_is)

pub one_effect_of-returns-clause-keeps : goal.one_effect_of-returns-clause-keeps
one_effect_of-returns-clause-keeps t c = grind (arith, keeps_same, keeps_then, one_effect_is)

pub one_effect_of-returns-clause-adds : goal.one_effect_of-returns-clause-adds
one_effect_of-returns-clause-adds t c = grind (arith, keeps_same, keeps_then, one_effect_is)

pub one_effect_of-returns-clause-gives : goal.one_effect_of-returns-clause-gives
one_effect_of-returns-clause-gives t c = grind (arith, keeps_same, keeps_then, one_effect_is)

pub effect_inside_of-returns-in-And-clause-adds : goal.effect_inside_of-returns-in-And-clause-adds
effect_inside_of-returns-in-And-clause-adds t c = grind (arith, keeps_same, keeps_then)

pub effect_inside_of-returns-in-And-clause-gives : goal.effect_inside_of-returns-in-And-clause-gives
unfolding effect_headed
effect_inside_of-returns-in-And-clause-gives t c = grind (arith, keeps_same, keeps_then, effect_inside_is)

pub effect_inside_of-returns-in-And-clause-keeps : goal.effect_inside_of-returns-in-And-clause-keeps
effect_inside_of-returns-in-And-clause-keeps t c = grind (arith, keeps_same, keeps_then)

pub effect_inside_of-returns-in-Wrong-clause-adds : goal.effect_inside_of-returns-in-Wrong-clause-adds
effect_inside_of-returns-in-Wrong-clause-adds t c = grind (arith, keeps_same, keeps_then)

pub effect_inside_of-returns-in-Wrong-clause-gives : goal.effect_inside_of-returns-in-Wrong-clause-gives
unfolding effect_headed
effect_inside_of-returns-in-Wrong-clause-gives t c = grind (arith, keeps_same, keeps_then, effect_inside_is)

pub effect_inside_of-returns-in-Wrong-clause-keeps : goal.effect_inside_of-returns-in-Wrong-clause-keeps
effect_inside_of-returns-in-Wrong-clause-keeps t c = grind (arith, keeps_same, keeps_then)

pub effect_inside_of-returns-in_default-clause-adds : goal.effect_inside_of-returns-in_default-clause-adds
effect_inside_of-returns-in_default-clause-adds t c = grind (arith, keeps_same, keeps_then)

pub effect_inside_of-returns-in_default-clause-gives : goal.effect_inside_of-returns-in_default-clause-gives
unfolding effect_headed
effect_inside_of-returns-in_default-clause-gives t c = grind (arith, keeps_same, keeps_then, effect_inside_is)

pub effect_inside_of-returns-in_default-clause-keeps : goal.effect_inside_of-returns-in_default-clause-keeps
effect_inside_of-returns-in_default-clause-keeps t c = grind (arith, keeps_same, keeps_then)

pub effect_inside_of-returns-in_err-at-clause-adds : goal.effect_inside_of-returns-in_err-at-clause-adds
effect_inside_of-returns-in_err-at-clause-adds t c = grind (arith, keeps_same, keeps_then)

pub effect_inside_of-returns-in_err-at-clause-gives : goal.effect_inside_of-returns-in_err-at-clause-gives
unfolding effect_headed
effect_inside_of-returns-in_err-at-clause-gives t c = grind (arith, keeps_same, keeps_then, effect_inside_is)

pub effect_inside_of-returns-in_err-at-clause-keeps : goal.effect_inside_of-returns-in_err-at-clause-keeps
effect_inside_of-returns-in_err-at-clause-keeps t c = grind (arith, keeps_same, keeps_then)

pub effect_inside_of-returns-in_err-atom-in-Not-clause-adds : goal.effect_inside_of-returns-in_err-atom-in-Not-clause-adds
effect_inside_of-returns-in_err-atom-in-Not-clause-adds t c = grind (arith, keeps_same, keeps_then)

pub effect_inside_of-returns-in_err-atom-in-Not-clause-gives : goal.effect_inside_of-returns-in_err-atom-in-Not-clause-gives
unfolding effect_headed
effect_inside_of-returns-in_err-atom-in-Not-clause-gives t c = grind (arith, keeps_same, keeps_then, effect_inside_is, deleted_is)

pub effect_inside_of-returns-in_err-atom-in-Not-clause-keeps : goal.effect_inside_of-returns-in_err-atom-in-Not-clause-keeps
effect_inside_of-returns-in_err-atom-in-Not-clause-keeps t c = grind (arith, keeps_same, keeps_then)

pub effect_inside_of-returns-in_err-atom-in-Plain-clause-adds : goal.effect_inside_of-returns-in_err-atom-in-Plain-clause-adds
effect_inside_of-returns-in_err-atom-in-Plain-clause-adds t c = grind (arith, keeps_same, keeps_then, bare_plain_effect)

pub effect_inside_of-returns-in_err-atom-in-Plain-clause-gives : goal.effect_inside_of-returns-in_err-atom-in-Plain-clause-gives
unfolding effect_headed
effect_inside_of-returns-in_err-atom-in-Plain-clause-gives t c = grind (arith, keeps_same, keeps_then, effect_inside_is)

pub effect_inside_of-returns-in_err-atom-in-Plain-clause-keeps : goal.effect_inside_of-returns-in_err-atom-in-Plain-clause-keeps
effect_inside_of-returns-in_err-atom-in-Plain-clause-keeps t c = grind (arith, keeps_same, keeps_then)

pub effect_inside_of-returns-in_err-condition-in-When-clause-adds : goal.effect_inside_of-returns-in_err-condition-in-When-clause-adds
effect_inside_of-returns-in_err-condition-in-When-clause-adds t c = grind (arith, keeps_same, keeps_then)

pub effect_inside_of-returns-in_err-condition-in-When-clause-gives : goal.effect_inside_of-returns-in_err-condition-in-When-clause-gives
unfolding effect_headed
effect_inside_of-returns-in_err-condition-in-When-clause-gives t c = grind (arith, keeps_same, keeps_then, effect_inside_is, guarded_is)

pub effect_inside_of-returns-in_err-condition-in-When-clause-keeps : goal.effect_inside_of-returns-in_err-condition-in-When-clause-keeps
effect_inside_of-returns-in_err-condition-in-When-clause-keeps t c = grind (arith, keeps_same, keeps_then)

pub effect_inside_of-returns-in_err-end_due-in-Not-clause-adds : goal.effect_inside_of-returns-in_err-end_due-in-Not-clause-adds
effect_inside_of-returns-in_err-end_due-in-Not-clause-adds t c = grind (arith, keeps_same, keeps_then)

pub effect_inside_of-returns-in_err-end_due-in-Not-clause-gives : goal.effect_inside_of-returns-in_err-end_due-in-Not-clause-gives
unfolding effect_headed
effect_inside_of-returns-in_err-end_due-in-Not-clause-gives t c = grind (arith, keeps_same, keeps_then, effect_inside_is, deleted_is)

pub effect_inside_of-returns-in_err-end_due-in-Not-clause-keeps : goal.effect_inside_of-returns-in_err-end_due-in-Not-clause-keeps
effect_inside_of-returns-in_err-end_due-in-Not-clause-keeps t c = grind (arith, keeps_same, keeps_then)

pub effect_inside_of-returns-in_err-inside-in-Forall-clause-adds : goal.effect_inside_of-returns-in_err-inside-in-Forall-clause-adds
effect_inside_of-returns-in_err-inside-in-Forall-clause-adds t c = grind (arith, keeps_same, keeps_then)

pub effect_inside_of-returns-in_err-inside-in-Forall-clause-gives : goal.effect_inside_of-returns-in_err-inside-in-Forall-clause-gives
unfolding effect_headed
effect_inside_of-returns-in_err-inside-in-Forall-clause-gives t c = grind (arith, keeps_same, keeps_then, effect_inside_is, bound_effect_is)

pub effect_inside_of-returns-in_err-inside-in-Forall-clause-keeps : goal.effect_inside_of-returns-in_err-inside-in-Forall-clause-keeps
effect_inside_of-returns-in_err-inside-in-Forall-clause-keeps t c = grind (arith, keeps_same, keeps_then)

pub effect_inside_of-returns-in_err-inside-in-Not-clause-adds : goal.effect_inside_of-returns-in_err-inside-in-Not-clause-adds
effect_inside_of-returns-in_err-inside-in-Not-clause-adds t c = grind (arith, keeps_same, keeps_then)

pub effect_inside_of-returns-in_err-inside-in-Not-clause-gives : goal.effect_inside_of-returns-in_err-inside-in-Not-clause-gives
unfolding effect_headed
effect_inside_of-returns-in_err-inside-in-Not-clause-gives t c = grind (arith, keeps_same, keeps_then, effect_inside_is, deleted_is)

pub effect_inside_of-returns-in_err-inside-in-Not-clause-keeps : goal.effect_inside_of-returns-in_err-inside-in-Not-clause-keeps
effect_inside_of-returns-in_err-inside-in-Not-clause-keeps t c = grind (arith, keeps_same, keeps_then)

pub effect_inside_of-returns-in_err-inside-in-When-clause-adds : goal.effect_inside_of-returns-in_err-inside-in-When-clause-adds
effect_inside_of-returns-in_err-inside-in-When-clause-adds t c = grind (arith, keeps_same, keeps_then)

pub effect_inside_of-returns-in_err-inside-in-When-clause-gives : goal.effect_inside_of-returns-in_err-inside-in-When-clause-gives
unfolding effect_headed
effect_inside_of-returns-in_err-inside-in-When-clause-gives t c = grind (arith, keeps_same, keeps_then, effect_inside_is, guarded_is)

pub effect_inside_of-returns-in_err-inside-in-When-clause-keeps : goal.effect_inside_of-returns-in_err-inside-in-When-clause-keeps
effect_inside_of-returns-in_err-inside-in-When-clause-keeps t c = grind (arith, keeps_same, keeps_then)

pub effect_inside_of-returns-in_err-part-in-Forall-clause-adds : goal.effect_inside_of-returns-in_err-part-in-Forall-clause-adds
effect_inside_of-returns-in_err-part-in-Forall-clause-adds t c = grind (arith, keeps_same, keeps_then)

pub effect_inside_of-returns-in_err-part-in-Forall-clause-gives : goal.effect_inside_of-returns-in_err-part-in-Forall-clause-gives
unfolding effect_headed
effect_inside_of-returns-in_err-part-in-Forall-clause-gives t c = grind (arith, keeps_same, keeps_then, effect_inside_is, bound_effect_is)

pub effect_inside_of-returns-in_err-part-in-Forall-clause-keeps : goal.effect_inside_of-returns-in_err-part-in-Forall-clause-keeps
effect_inside_of-returns-in_err-part-in-Forall-clause-keeps t c = grind (arith, keeps_same, keeps_then)

pub effect_inside_of-returns-in_err-part-in-When-clause-adds : goal.effect_inside_of-returns-in_err-part-in-When-clause-adds
effect_inside_of-returns-in_err-part-in-When-clause-adds t c = grind (arith, keeps_same, keeps_then)

pub effect_inside_of-returns-in_err-part-in-When-clause-gives : goal.effect_inside_of-returns-in_err-part-in-When-clause-gives
unfolding effect_headed
effect_inside_of-returns-in_err-part-in-When-clause-gives t c = grind (arith, keeps_same, keeps_then, effect_inside_is, guarded_is)

pub effect_inside_of-returns-in_err-part-in-When-clause-keeps : goal.effect_inside_of-returns-in_err-part-in-When-clause-keeps
effect_inside_of-returns-in_err-part-in-When-clause-keeps t c = grind (arith, keeps_same, keeps_then)

pub effect_inside_of-returns-in_err-pass-in-Increase-clause-adds : goal.effect_inside_of-returns-in_err-pass-in-Increase-clause-adds
effect_inside_of-returns-in_err-pass-in-Increase-clause-adds t c = grind (arith, keeps_same, keeps_then)

pub effect_inside_of-returns-in_err-pass-in-Increase-clause-gives : goal.effect_inside_of-returns-in_err-pass-in-Increase-clause-gives
unfolding effect_headed
effect_inside_of-returns-in_err-pass-in-Increase-clause-gives t c = grind (arith, keeps_same, keeps_then, effect_inside_is)

pub effect_inside_of-returns-in_err-pass-in-Increase-clause-keeps : goal.effect_inside_of-returns-in_err-pass-in-Increase-clause-keeps
effect_inside_of-returns-in_err-pass-in-Increase-clause-keeps t c = grind (arith, keeps_same, keeps_then)

pub effect_inside_of-returns-in_err-vars-in-Forall-clause-adds : goal.effect_inside_of-returns-in_err-vars-in-Forall-clause-adds
effect_inside_of-returns-in_err-vars-in-Forall-clause-adds t c = grind (arith, keeps_same, keeps_then)

pub effect_inside_of-returns-in_err-vars-in-Forall-clause-gives : goal.effect_inside_of-returns-in_err-vars-in-Forall-clause-gives
unfolding effect_headed
effect_inside_of-returns-in_err-vars-in-Forall-clause-gives t c = grind (arith, keeps_same, keeps_then, effect_inside_is, bound_effect_is)

pub effect_inside_of-returns-in_err-vars-in-Forall-clause-keeps : goal.effect_inside_of-returns-in_err-vars-in-Forall-clause-keeps
effect_inside_of-returns-in_err-vars-in-Forall-clause-keeps t c = grind (arith, keeps_same, keeps_then)

pub effect_inside_of-returns-in_ok-atom-in-Plain-clause-adds : goal.effect_inside_of-returns-in_ok-atom-in-Plain-clause-adds
effect_inside_of-returns-in_ok-atom-in-Plain-clause-adds t c = grind (arith, keeps_same, keeps_then, bare_plain_effect)

pub effect_inside_of-returns-in_ok-atom-in-Plain-clause-gives : goal.effect_inside_of-returns-in_ok-atom-in-Plain-clause-gives
unfolding effect_headed
effect_inside_of-returns-in_ok-atom-in-Plain-clause-gives t c = grind (arith, keeps_same, keeps_then, effect_inside_is)

pub effect_inside_of-returns-in_ok-atom-in-Plain-clause-keeps : goal.effect_inside_of-returns-in_ok-atom-in-Plain-clause-keeps
effect_inside_of-returns-in_ok-atom-in-Plain-clause-keeps t c = grind (arith, keeps_same, keeps_then)

pub effect_inside_of-returns-in_ok-end_due-in-Not-clause-adds : goal.effect_inside_of-returns-in_ok-end_due-in-Not-clause-adds
effect_inside_of-returns-in_ok-end_due-in-Not-clause-adds t c = grind (arith, keeps_same, keeps_then)

pub effect_inside_of-returns-in_ok-end_due-in-Not-clause-gives : goal.effect_inside_of-returns-in_ok-end_due-in-Not-clause-gives
unfolding effect_headed
effect_inside_of-returns-in_ok-end_due-in-Not-clause-gives t c = grind (arith, keeps_same, keeps_then, effect_inside_is, deleted_is)

pub effect_inside_of-returns-in_ok-end_due-in-Not-clause-keeps : goal.effect_inside_of-returns-in_ok-end_due-in-Not-clause-keeps
effect_inside_of-returns-in_ok-end_due-in-Not-clause-keeps t c = grind (arith, keeps_same, keeps_then)

pub effect_inside_of-returns-in_ok-part-in-Forall-clause-adds : goal.effect_inside_of-returns-in_ok-part-in-Forall-clause-adds
effect_inside_of-returns-in_ok-part-in-Forall-clause-adds t c = grind (arith, keeps_same, keeps_then)

pub effect_inside_of-returns-in_ok-part-in-Forall-clause-gives : goal.effect_inside_of-returns-in_ok-part-in-Forall-clause-gives
unfolding effect_headed
effect_inside_of-returns-in_ok-part-in-Forall-clause-gives t c = grind (arith, keeps_same, keeps_then, effect_inside_is, bound_effect_is)

pub effect_inside_of-returns-in_ok-part-in-Forall-clause-keeps : goal.effect_inside_of-returns-in_ok-part-in-Forall-clause-keeps
effect_inside_of-returns-in_ok-part-in-Forall-clause-keeps t c = grind (arith, keeps_same, keeps_then)

pub effect_inside_of-returns-in_ok-part-in-When-clause-adds : goal.effect_inside_of-returns-in_ok-part-in-When-clause-adds
effect_inside_of-returns-in_ok-part-in-When-clause-adds t c = grind (arith, keeps_same, keeps_then)

pub effect_inside_of-returns-in_ok-part-in-When-clause-gives : goal.effect_inside_of-returns-in_ok-part-in-When-clause-gives
unfolding effect_headed
effect_inside_of-returns-in_ok-part-in-When-clause-gives t c = grind (arith, keeps_same, keeps_then, effect_inside_is, guarded_is)

pub effect_inside_of-returns-in_ok-part-in-When-clause-keeps : goal.effect_inside_of-returns-in_ok-part-in-When-clause-keeps
effect_inside_of-returns-in_ok-part-in-When-clause-keeps t c = grind (arith, keeps_same, keeps_then)

pub effect_inside_of-returns-in_ok-pass-in-Increase-clause-adds : goal.effect_inside_of-returns-in_ok-pass-in-Increase-clause-adds
effect_inside_of-returns-in_ok-pass-in-Increase-clause-adds t c = grind (arith, keeps_same, keeps_then)

pub effect_inside_of-returns-in_ok-pass-in-Increase-clause-gives : goal.effect_inside_of-returns-in_ok-pass-in-Increase-clause-gives
unfolding effect_headed
effect_inside_of-returns-in_ok-pass-in-Increase-clause-gives t c = grind (arith, keeps_same, keeps_then, effect_inside_is)

pub effect_inside_of-returns-in_ok-pass-in-Increase-clause-keeps : goal.effect_inside_of-returns-in_ok-pass-in-Increase-clause-keeps
effect_inside_of-returns-in_ok-pass-in-Increase-clause-keeps t c = grind (arith, keeps_same, keeps_then)
