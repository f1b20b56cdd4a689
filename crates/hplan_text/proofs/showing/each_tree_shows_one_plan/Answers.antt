use Rattle.hplan_text.proofs.ShownOnce.{each_is_shown_once}
use Rattle.hplan_text.proofs.showing.each_tree_shows_one_plan.Goals as goal

pub returns : goal.returns
returns c = each_is_shown_once c.args.compiled.now
