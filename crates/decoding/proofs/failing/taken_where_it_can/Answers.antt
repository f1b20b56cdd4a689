use Rattle.decoding.proofs.Taken.{taken_where_it_can}
use Rattle.decoding.proofs.failing.taken_where_it_can.Goals as goal

pub returns : goal.returns
returns g c = taken_where_it_can g.R.Reading.net c.requires.lawful (g.R.Reading.atom → Type 0) g.R.Reading.allows g.R.Reading.next g.R.Reading.first g.R.Reading.goal
