use Rattle.std.proofs.Common.{◌≡◌, [], ◌∷◌, ◌++◌, sym, ap, ◌∙◌, arith}
use Rattle.std.proofs.lemmas.Grind.{common_steps}
use Rattle.plan_model.specs.declared.formulas.Formula.TheVariants as formula
use Rattle.name_binding.specs.Entered.{variables_of}
use Rattle.name_binding.specs.Spots.{noted}
use Rattle.name_binding.specs.Typed.{params_faults}
use Rattle.name_binding.specs.Formulas.{formula_bound, formula_faults}
use Rattle.name_binding.proofs.Steps.{put_is, noted_both, bound_more, faults_more}
use Rattle.name_binding.proofs.Parts.{bound-And, bound-Or, faults-And, faults-Or, faults-Imply}
use Rattle.name_binding.proofs.formulas.+formula.Goals as goal

pub formula_of-returns-in_ok-parts_of-in-And-clause-bound : goal.formula_of-returns-in_ok-parts_of-in-And-clause-bound
formula_of-returns-in_ok-parts_of-in-And-clause-bound t c =
    ap formula.And c.in_ok-parts_of-in-And.ensures.bound ∙ (sym (bound-And c.args.known.now c.args.scope.now c.in-And.parts) ∙ ap (formula_bound c.args.known.now c.args.scope.now) (sym c.in-And.is))

pub formula_of-returns-in_ok-parts_of-in-And-clause-faults : goal.formula_of-returns-in_ok-parts_of-in-And-clause-faults
formula_of-returns-in_ok-parts_of-in-And-clause-faults t c =
    c.in_ok-parts_of-in-And.ensures.faults ∙ ap (noted c.args.faults.now.least) (sym (faults-And c.args.known.now c.args.scope.now c.in-And.parts) ∙ ap (formula_faults c.args.known.now c.args.scope.now) (sym c.in-And.is))

pub formula_of-returns-in_ok-parts_of-in-Or-clause-bound : goal.formula_of-returns-in_ok-parts_of-in-Or-clause-bound
formula_of-returns-in_ok-parts_of-in-Or-clause-bound t c =
    ap formula.Or c.in_ok-parts_of-in-Or.ensures.bound ∙ (sym (bound-Or c.args.known.now c.args.scope.now c.in-Or.parts) ∙ ap (formula_bound c.args.known.now c.args.scope.now) (sym c.in-Or.is))

pub formula_of-returns-in_ok-parts_of-in-Or-clause-faults : goal.formula_of-returns-in_ok-parts_of-in-Or-clause-faults
formula_of-returns-in_ok-parts_of-in-Or-clause-faults t c =
    c.in_ok-parts_of-in-Or.ensures.faults ∙ ap (noted c.args.faults.now.least) (sym (faults-Or c.args.known.now c.args.scope.now c.in-Or.parts) ∙ ap (formula_faults c.args.known.now c.args.scope.now) (sym c.in-Or.is))

pub formula_of-returns-in_ok-conclusion-in-Imply-clause-faults : goal.formula_of-returns-in_ok-conclusion-in-Imply-clause-faults
formula_of-returns-in_ok-conclusion-in-Imply-clause-faults t c =
    let known = c.args.known.now in
    let scope = c.args.scope.now in
    let least = c.args.faults.now.least in
    let mid = c.part_of-in-Imply.new.faults.least in
    let premise = c.in-Imply.premise in
    let conclusion = c.in-Imply.conclusion in
    let second = c.in_ok-conclusion-in-Imply.ensures.faults ∙ ap (λ s. noted mid (formula_faults known s conclusion)) c.in_ok-premise-in-Imply.ensures.kept in
    noted_both least mid c.part_of-in-Imply-2.new.faults.least (formula_faults known scope premise) (formula_faults known scope conclusion) c.in_ok-premise-in-Imply.ensures.faults second
    ∙ ap (noted least) (sym (faults-Imply known scope premise conclusion) ∙ ap (formula_faults known scope) (sym c.in-Imply.is))

pub parts_of-loop-part-preserved : goal.parts_of-loop-part-preserved
parts_of-loop-part-preserved t c =
    let known = c.args.known.now in
    let scope = c.args.scope.now in
    let parts = c.as_slice-parts.result.now in
    let i = c.loop-part.part-index in
    let part = c.part-item.result in
    let kept = c.loop-part.invariant.kept in
    let made = put_is c.formula_of.result (λ x. c.put.new.self ≡ c.loop-part.bound ++ x ∷ []) (λ x. x ≡ formula_bound known c.loop-part.scope part) (c.formula_of.new.faults.least ≡ noted c.loop-part.faults.least (formula_faults known c.loop-part.scope part)) c.in_ok-put.ensures.put c.formula_of.ensures.bound c.formula_of.ensures.faults in
    record {
      bound = bound_more parts i part c.loop-part-test.true c.part-item.is (formula_bound known scope) c.loop-part.bound c.put.new.self made.0 c.loop-part.invariant.bound (made.2 ∙ ap (λ s. formula_bound known s part) kept) made.1;
      faults = faults_more parts i part c.loop-part-test.true c.part-item.is (formula_faults known scope) c.args.faults.now.least c.loop-part.faults.least c.formula_of.new.faults.least c.loop-part.invariant.faults (made.3 ∙ ap (λ s. noted c.loop-part.faults.least (formula_faults known s part)) kept);
      kept = c.formula_of.ensures.kept ∙ kept;
    }

pub quantified_of-returns-clause-faults : goal.quantified_of-returns-clause-faults
quantified_of-returns-clause-faults t c =
    let known = c.args.known.now in
    let vars = c.args.vars.now in
    let part = c.args.part.now in
    let mid = c.params_of.new.faults.least in
    let scope = c.in_ok-enter_all.ensures.entered ∙ ap (λ xs. c.args.scope.now ++ variables_of xs) c.as_slice.ensures.words in
    noted_both c.args.faults.now.least mid c.part_of-bound.new.faults.least (params_faults known.types vars) (formula_faults known (c.args.scope.now ++ variables_of vars) part) c.in_ok-params.ensures.faults (c.in_ok-bound.ensures.faults ∙ ap (λ s. noted mid (formula_faults known s part)) scope)

pub parts_of-returns-clause-bound : goal.parts_of-returns-clause-bound
parts_of-returns-clause-bound t c = grind (arith, common_steps)

pub parts_of-returns-clause-faults : goal.parts_of-returns-clause-faults
parts_of-returns-clause-faults t c = grind (arith, common_steps)

pub quantified_of-returns-in_err-bound-clause-kept : goal.quantified_of-returns-in_err-bound-clause-kept
quantified_of-returns-in_err-bound-clause-kept t c = grind (arith, common_steps)

pub quantified_of-returns-clause-kept : goal.quantified_of-returns-clause-kept
quantified_of-returns-clause-kept t c = grind (arith, common_steps)
