use Rattle.slot_encoding.proofs.encoded_texts.SaidTexts.{domain-same, problem-same}
use Rattle.slot_encoding.proofs.encoded_texts.laws.texts_are_what_is_said.Goals as goal

pub returns-clause-domain : goal.returns-clause-domain
returns-clause-domain c = domain-same c.args.one.now c.args.other.now c.requires

pub returns-clause-problem : goal.returns-clause-problem
returns-clause-problem c = problem-same c.args.one.now c.args.other.now c.requires
