use Rattle.schedules.proofs.latest.ShownTheorem.{shown_latest, latest_shown}
use Rattle.schedules.proofs.latest.shown_laws.shown_exactly_where_latest.Goals as goal

pub returns-clause-exactly : goal.returns-clause-exactly
returns-clause-exactly g c = shown_latest g.P.Telling.net g.P.Telling.words g.P.Telling.top g.P.Telling.allowed c.requires.told c.requires.decided

pub returns-clause-latest : goal.returns-clause-latest
returns-clause-latest g c = latest_shown g.P.Telling.net g.P.Telling.words g.P.Telling.top g.P.Telling.allowed
