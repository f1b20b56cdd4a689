use Rattle.schedules.proofs.latest.ShownTheorem.{alike_trees}
use Rattle.schedules.proofs.latest.shown_laws.trees_are_alike.Goals as goal

pub returns : goal.returns
returns g c = alike_trees g.P.Telling.net g.P.Telling.words g.P.Telling.top c.requires.told
