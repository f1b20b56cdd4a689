use Rattle.std.proofs.Common.{false, refl, sym, ◌∙◌}
use Rattle.std.proofs.lemmas.List.{get_or_read}
use Rattle.bound_calc.proofs.stratifier.Entering.{entered_one}
use Rattle.bound_calc.proofs.stratifier.reach.Walk.enter.Goals as goal

pub returns-in_ok-push : goal.returns-in_ok-push
returns-in_ok-push c = record { entered = entered_one c.args.task c.args.self.now _ c.requires (sym (get_or_read c.args.self.now.marks.items c.args.task c.index.result.now c.requires c.index.ensures false) ∙ c.if-not-index.true) refl c.in_ok-push.ensures.items }
