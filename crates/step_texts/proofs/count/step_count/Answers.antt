use Rattle.step_texts.proofs.Texts.{each_once, is_step_count}
use Rattle.step_texts.proofs.count.step_count.Goals as goal

pub count_of-requires : goal.count_of-requires
count_of-requires c = record {
  soundly = c.requires.soundly;
  each_once = each_once c.args.c.now c.requires.soundly c.args.plan.now c.in-Ok.run' c.in-Ok.ensures.placed;
}

pub returns-in-Ok : goal.returns-in-Ok
returns-in-Ok c = record {
  count =
      is_step_count c.args.c.now c.requires.soundly c.args.plan.now c.in-Ok.run' c.in-Ok.ensures.placed c.count_of.result
      c.count_of.ensures.count;
}
