use Rattle.std.proofs.Common.{subst, arith, rules}
use Rattle.text_forms.specs.sheets.Sheets.{IsFresh}
use Rattle.text_forms.proofs.sheets.Written.{wrote-then}
use Rattle.plan_text.proofs.PutTexts.{is_put}
use Rattle.stack_speller.specs.StackSpelled.{steps_of}
use Rattle.step_texts.specs.StepTexts.{steps_text}
use Rattle.step_texts.proofs.stack.put_stack.Goals as goal

pub returns : goal.returns
returns c =
    let fresh = subst (λ t. IsFresh t c.args.most c.new-sheet.result) c.requires.empty c.new-sheet.ensures.fresh in
    let one = c.new-sheet.ensures.same_text in
    let wrote = wrote-then c.put_width.ensures c.in_ok-put_steps.ensures.steps in
    let other = wrote.same_text in
    record {
      ended =
          is_put (steps_text c.args.width (steps_of c.args.c.now c.args.run.now)) fresh wrote _
          (search rules)
          (let e = c.len.ensures.length in omega (arith, e)) c.answer-ended.result
          (λ n e. (let counted = rw e at c.answer-ended.type_inv in omega (arith, counted))) c.answer-ended.ensures.ended;
    }
