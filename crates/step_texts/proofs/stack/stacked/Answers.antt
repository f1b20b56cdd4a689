use Rattle.std.proofs.Common.{subst}
use Rattle.stack_speller.specs.StackSpelled.{IsSpelled, steps_of}
use Rattle.step_texts.proofs.StackTexts.{is_run_text}
use Rattle.step_texts.proofs.stack.stacked.Goals as goal

pub returns-in-Ok : goal.returns-in-Ok
returns-in-Ok c =
    let steps = steps_of c.args.c.now c.args.run.now in
    let spelled = subst (λ n. IsSpelled c.args.c.now c.args.run.now n c.in-Ok.width steps) c.unwrap_or.ensures c.in-Ok.ensures.spelled in
    record {
      text =
          is_run_text c.args.c.now c.args.run.now c.args.given c.in-Ok.width steps spelled c.args.most c.printed_stack.result
          c.printed_stack.ensures.text;
    }
