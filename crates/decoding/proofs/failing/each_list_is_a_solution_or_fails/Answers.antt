use Rattle.decoding.proofs.FailingSteps.{each_is_solution_or_fails}
use Rattle.decoding.proofs.Searched.{each_is_decided}
use Rattle.decoding.proofs.failing.each_list_is_a_solution_or_fails.Goals as goal

pub returns-clause-one : goal.returns-clause-one
returns-clause-one g c = each_is_solution_or_fails g.R.Reading.net c.requires.lawful (g.R.Reading.atom → Type 0) g.R.Reading.allows g.R.Reading.next g.R.Reading.first g.R.Reading.goal g.R.Reading.step g.R.Reading.named g.R.Reading.reads

pub returns-clause-decided : goal.returns-clause-decided
returns-clause-decided g c = each_is_decided g.R.Reading.net c.requires.lawful (g.R.Reading.atom → Type 0) g.R.Reading.allows g.R.Reading.next g.R.Reading.first g.R.Reading.goal g.R.Reading.step g.R.Reading.named g.R.Reading.reads
