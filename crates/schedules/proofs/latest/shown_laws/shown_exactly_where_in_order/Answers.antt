use Rattle.schedules.proofs.latest.ShownTheorem.{in_order, steps}
use Rattle.schedules.proofs.latest.shown_laws.shown_exactly_where_in_order.Goals as goal

pub returns-clause-shown : goal.returns-clause-shown
returns-clause-shown g c = in_order g.P.Telling.net g.P.Telling.words g.P.Telling.top

pub returns-clause-plan : goal.returns-clause-plan
returns-clause-plan g c = steps g.P.Telling.net g.P.Telling.words g.P.Telling.top
