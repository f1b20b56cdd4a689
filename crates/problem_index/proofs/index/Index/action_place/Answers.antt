use Rattle.problem_index.proofs.IndexLaws.{action_found}
use Rattle.problem_index.proofs.index.Index.action_place.Goals as goal

pub returns : goal.returns
returns c p is = action_found p c.args.self.now c.args.word.now c.find.result is c.find.ensures
