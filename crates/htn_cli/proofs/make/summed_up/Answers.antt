use Rattle.std.proofs.Common.{ap, ◌∙◌, subst, inr}
use Rattle.step_texts.specs.StepTexts.{IsStepCount}
use Rattle.htn_cli.specs.Lines.{summary}
use Rattle.htn_cli.proofs.Results.{if_ok_both, if_err_too}
use Rattle.htn_cli.proofs.make.summed_up.Goals as goal

pub returns-in-Ok-Counted-clause-output : goal.returns-in-Ok-Counted-clause-output
returns-in-Ok-Counted-clause-output c =
    if_ok_both c.output_with.result
    (λ made written told. (
      c.actions_of.result,
      c.in-Ok-Counted.width,
      c.in-Ok-Counted.steps,
      c.actions_of.ensures,
      (subst (IsStepCount c.args.compiled.now c.args.plan.now) c.in-Ok-Counted.field-0-is c.in-Ok-Counted.ensures.count),
      written,
      told ∙ ap (λ k. summary k c.actions_of.result c.args.bound c.in-Ok-Counted.width c.in-Ok-Counted.steps) c.count_of.ensures,
    ))
    c.output_with.ensures.written c.output_with.ensures.told

pub returns-in-Ok-Counted-clause-refused : goal.returns-in-Ok-Counted-clause-refused
returns-in-Ok-Counted-clause-refused c =
    if_err_too c.output_with.result (λ refusal stops. inr (c.in-Ok-Counted.width, c.in-Ok-Counted.steps, (subst (IsStepCount c.args.compiled.now c.args.plan.now) c.in-Ok-Counted.field-0-is c.in-Ok-Counted.ensures.count), stops)) c.output_with.ensures.refused
