use Rattle.std.proofs.Common.{◌≡◌, [], ◌∷◌, ◌++◌, sym, ap, ◌∙◌, arith}
use Rattle.std.proofs.lemmas.Grind.{common_steps}
use Rattle.plan_model.specs.declared.effects.Effect.TheVariants as effect
use Rattle.name_binding.specs.Entered.{variables_of}
use Rattle.name_binding.specs.Spots.{noted}
use Rattle.name_binding.specs.Typed.{params_faults}
use Rattle.name_binding.specs.Formulas.{formula_faults}
use Rattle.name_binding.specs.Effects.{effect_bound, effect_faults}
use Rattle.name_binding.proofs.Steps.{put_is, noted_both, bound_more, faults_more}
use Rattle.name_binding.proofs.Parts.{effect-And, effect_faults-And, effect_faults-When}
use Rattle.name_binding.proofs.effects.+effect.Goals as goal

pub effect_of-returns-in_ok-parts_of-in-And-clause-bound : goal.effect_of-returns-in_ok-parts_of-in-And-clause-bound
effect_of-returns-in_ok-parts_of-in-And-clause-bound t c =
    ap effect.And c.in_ok-parts_of-in-And.ensures.bound ∙ (sym (effect-And c.args.known.now c.args.scope.now c.in-And.parts) ∙ ap (effect_bound c.args.known.now c.args.scope.now) (sym c.in-And.is))

pub effect_of-returns-in_ok-parts_of-in-And-clause-faults : goal.effect_of-returns-in_ok-parts_of-in-And-clause-faults
effect_of-returns-in_ok-parts_of-in-And-clause-faults t c =
    c.in_ok-parts_of-in-And.ensures.faults ∙ ap (noted c.args.faults.now.least) (sym (effect_faults-And c.args.known.now c.args.scope.now c.in-And.parts) ∙ ap (effect_faults c.args.known.now c.args.scope.now) (sym c.in-And.is))

pub effect_of-returns-in_ok-part-in-When-clause-faults : goal.effect_of-returns-in_ok-part-in-When-clause-faults
effect_of-returns-in_ok-part-in-When-clause-faults t c =
    let known = c.args.known.now in
    let scope = c.args.scope.now in
    let least = c.args.faults.now.least in
    let mid = c.formula_of.new.faults.least in
    let condition = c.in-When.condition in
    let part = c.in-When.part in
    let second = c.in_ok-part-in-When.ensures.faults ∙ ap (λ s. noted mid (effect_faults known s part)) c.in_ok-condition-in-When.ensures.kept in
    noted_both least mid c.part_of.new.faults.least (formula_faults known scope condition) (effect_faults known scope part) c.in_ok-condition-in-When.ensures.faults second
    ∙ ap (noted least) (sym (effect_faults-When known scope condition part) ∙ ap (effect_faults known scope) (sym c.in-When.is))

pub parts_of-loop-part-preserved : goal.parts_of-loop-part-preserved
parts_of-loop-part-preserved t c =
    let known = c.args.known.now in
    let scope = c.args.scope.now in
    let parts = c.as_slice-parts.result.now in
    let i = c.loop-part.part-index in
    let part = c.part-item.result in
    let kept = c.loop-part.invariant.kept in
    let made = put_is c.effect_of.result (λ x. c.put.new.self ≡ c.loop-part.bound ++ x ∷ []) (λ x. x ≡ effect_bound known c.loop-part.scope part) (c.effect_of.new.faults.least ≡ noted c.loop-part.faults.least (effect_faults known c.loop-part.scope part)) c.in_ok-put.ensures.put c.effect_of.ensures.bound c.effect_of.ensures.faults in
    record {
      bound = bound_more parts i part c.loop-part-test.true c.part-item.is (effect_bound known scope) c.loop-part.bound c.put.new.self made.0 c.loop-part.invariant.bound (made.2 ∙ ap (λ s. effect_bound known s part) kept) made.1;
      faults = faults_more parts i part c.loop-part-test.true c.part-item.is (effect_faults known scope) c.args.faults.now.least c.loop-part.faults.least c.effect_of.new.faults.least c.loop-part.invariant.faults (made.3 ∙ ap (λ s. noted c.loop-part.faults.least (effect_faults known s part)) kept);
      kept = c.effect_of.ensures.kept ∙ kept;
    }

pub quantified_of-returns-clause-faults : goal.quantified_of-returns-clause-faults
quantified_of-returns-clause-faults t c =
    let known = c.args.known.now in
    let vars = c.args.vars.now in
    let part = c.args.part.now in
    let mid = c.params_of.new.faults.least in
    let scope = c.in_ok-enter_all.ensures.entered ∙ ap (λ xs. c.args.scope.now ++ variables_of xs) c.as_slice.ensures.words in
    noted_both c.args.faults.now.least mid c.part_of-bound.new.faults.least (params_faults known.types vars) (effect_faults known (c.args.scope.now ++ variables_of vars) part) c.in_ok-params.ensures.faults (c.in_ok-bound.ensures.faults ∙ ap (λ s. noted mid (effect_faults known s part)) scope)

pub parts_of-returns-clause-bound : goal.parts_of-returns-clause-bound
parts_of-returns-clause-bound t c = grind (arith, common_steps)

pub parts_of-returns-clause-faults : goal.parts_of-returns-clause-faults
parts_of-returns-clause-faults t c = grind (arith, common_steps)

pub quantified_of-returns-in_err-bound-clause-kept : goal.quantified_of-returns-in_err-bound-clause-kept
quantified_of-returns-in_err-bound-clause-kept t c = grind (arith, common_steps)

pub quantified_of-returns-clause-kept : goal.quantified_of-returns-clause-kept
quantified_of-returns-clause-kept t c = grind (arith, common_steps)
