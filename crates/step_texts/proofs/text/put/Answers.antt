use Rattle.std.proofs.Common.{ap, subst, arith, rules}
use Rattle.text_forms.specs.sheets.Sheets.{IsFresh}
use Rattle.text_forms.proofs.sheets.Written.{wrote-as, wrote-then}
use Rattle.plan_text.proofs.PutTexts.{is_put}
use Rattle.slot_speller.specs.Spelled.{width_of, steps_of}
use Rattle.step_texts.specs.StepTexts.{steps_text, width_line}
use Rattle.step_texts.proofs.text.put.Goals as goal

pub returns : goal.returns
returns c =
    let fresh = subst (λ t. IsFresh t c.args.most c.new-sheet.result) c.requires.empty c.new-sheet.ensures.fresh in
    let one = c.new-sheet.ensures.same_text in
    let wrote = wrote-then (wrote-as (ap width_line c.width.ensures.width) c.put_width.ensures) c.in_ok-put_steps.ensures.steps in
    let other = wrote.same_text in
    record {
      ended =
          is_put (steps_text (width_of c.args.spelling.now) (steps_of c.args.c.now c.args.run.now c.args.spelling.now)) fresh wrote _
          (search rules)
          (let e = c.len.ensures.length in omega (arith, e)) c.answer-ended.result
          (λ n e. (let counted = rw e at c.answer-ended.type_inv in omega (arith, counted))) c.answer-ended.ensures.ended;
    }
