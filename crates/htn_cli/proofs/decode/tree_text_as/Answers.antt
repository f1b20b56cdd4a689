use Rattle.std.proofs.Common.{IfOk, sym, subst}
use Rattle.htn_base.specs.Limits.{longest_output}
use Rattle.htn_cli.specs.PrintedForms.{IsOrderedFor}
use Rattle.htn_cli.specs.ShownForms.{IsTreeTextAs}
use Rattle.htn_cli.proofs.DecodedByForm.{soundly_total, tree_text_is, stack_text_is}
use Rattle.htn_cli.proofs.Results.{if_ok_too}
use Rattle.htn_cli.proofs.decode.tree_text_as.Goals as goal

pub stack_text-requires-clause-total : goal.stack_text-requires-clause-total
stack_text-requires-clause-total c =
    soundly_total c.args.compiled.now c.requires.soundly (subst (λ z. IsOrderedFor z c.args.compiled.now) c.in-Stack.is c.requires.ordered)

pub returns-in-Slots : goal.returns-in-Slots
returns-in-Slots c = record {
  text =
      subst (λ z. IfOk c.tree_text.result (IsTreeTextAs z c.args.compiled.now c.args.slots c.args.plan.now longest_output)) (sym c.in-Slots.is)
      (if_ok_too c.tree_text.result (tree_text_is c.args.compiled.now c.args.slots c.args.plan.now longest_output) c.tree_text.ensures.text);
}

pub returns-in-Stack : goal.returns-in-Stack
returns-in-Stack c = record {
  text =
      subst (λ z. IfOk c.stack_text.result (IsTreeTextAs z c.args.compiled.now c.args.slots c.args.plan.now longest_output)) (sym c.in-Stack.is)
      (if_ok_too c.stack_text.result (stack_text_is c.args.compiled.now c.args.slots c.args.plan.now longest_output) c.stack_text.ensures.text);
}
