use Rattle.std.proofs.Common.{subst}
use Rattle.slot_speller.specs.Spelled.{IsSpelled, width_of, steps_of}
use Rattle.step_texts.proofs.Texts.{is_run_text}
use Rattle.step_texts.proofs.text.text_of.Goals as goal

pub returns-in-Ok : goal.returns-in-Ok
returns-in-Ok c =
    let width = width_of c.in-Ok.spelling in
    let steps = steps_of c.args.c.now c.args.run.now c.in-Ok.spelling in
    let spelled = subst (λ n. IsSpelled c.args.c.now c.args.run.now n width steps) c.unwrap_or.ensures c.in-Ok.ensures.spelled in
    record {
      text =
          is_run_text c.args.c.now c.args.run.now c.args.given width steps spelled c.args.most c.printed.result c.printed.ensures.text;
    }
