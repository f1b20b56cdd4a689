use Rattle.std.proofs.Common.{IfOk, sym, subst}
use Rattle.htn_base.specs.Limits.{longest_output}
use Rattle.htn_cli.specs.SpelledForms.{IsStepTextAs}
use Rattle.htn_cli.proofs.EncodedByForm.{step_text_is, stack_text_is}
use Rattle.htn_cli.proofs.Results.{if_ok_too}
use Rattle.htn_cli.proofs.encode.step_text_as.Goals as goal

pub returns-in-Slots : goal.returns-in-Slots
returns-in-Slots c =
    record {
      text =
          subst (λ z. IfOk c.step_text.result (IsStepTextAs z c.args.compiled.now c.args.plan.now c.args.given longest_output)) (sym c.in-Slots.is)
          (if_ok_too c.step_text.result (step_text_is c.args.compiled.now c.args.plan.now c.args.given longest_output) c.step_text.ensures.text);
    }

pub returns-in-Stack : goal.returns-in-Stack
returns-in-Stack c =
    record {
      text =
          subst (λ z. IfOk c.stack_text.result (IsStepTextAs z c.args.compiled.now c.args.plan.now c.args.given longest_output)) (sym c.in-Stack.is)
          (if_ok_too c.stack_text.result (stack_text_is c.args.compiled.now c.args.plan.now c.args.given longest_output) c.stack_text.ensures.text);
    }
