use Rattle.decoding.proofs.Tests.{tests_tell_causes}
use Rattle.decoding.proofs.failing.tests_tell_causes.Goals as goal

pub returns : goal.returns
returns g c = tests_tell_causes g.R.Reading.net (g.R.Reading.atom → Type 0) g.R.Reading.allows g.R.Reading.next g.R.Reading.first g.R.Reading.goal g.R.Reading.step g.R.Reading.named g.R.Reading.reads
