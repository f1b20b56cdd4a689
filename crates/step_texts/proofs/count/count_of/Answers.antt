use Rattle.std.proofs.Common.{sym, subst, ◌∙◌}
use Rattle.std.proofs.lemmas.List.{length-map}
use Rattle.slot_speller.specs.Spelled.{IsSpelled, steps_of}
use Rattle.slot_speller.specs.Steps.{step_at}
use Rattle.step_texts.proofs.count.count_of.Goals as goal

pub returns-in-Ok : goal.returns-in-Ok
returns-in-Ok c =
    let run = c.args.run.now in
    let steps = steps_of c.args.c.now run c.in-Ok.spelling in
    record {
      count = (
        steps,
        subst (λ w. IsSpelled c.args.c.now run _ w steps) (sym c.width.ensures.width) c.in-Ok.ensures.spelled,
        c.size.ensures.size ∙ sym c.requires.each_once
            ∙ sym (length-map run.order (step_at c.args.c.now run.tree c.in-Ok.spelling.slots.by_node.items)),
      );
    }
