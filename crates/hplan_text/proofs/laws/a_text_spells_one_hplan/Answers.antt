use Rattle.hplan_text.proofs.OneHPlan.{one-hplan}
use Rattle.hplan_text.proofs.laws.a_text_spells_one_hplan.Goals as goal

pub returns : goal.returns
returns c = one-hplan c.args.text.now
