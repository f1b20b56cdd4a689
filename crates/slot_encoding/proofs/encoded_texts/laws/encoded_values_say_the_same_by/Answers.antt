use Rattle.slot_encoding.proofs.first_free.FirstSame.{encoded-same-by, encoded_texts-same-by}
use Rattle.slot_encoding.proofs.encoded_texts.laws.encoded_values_say_the_same_by.Goals as goal

pub returns-clause-said : goal.returns-clause-said
returns-clause-said c = encoded-same-by c.args.rule.now c.args.compiled.now c.args.slots c.args.style.now c.args.one.now c.args.other.now c.requires.one c.requires.other

pub returns-clause-domain : goal.returns-clause-domain
returns-clause-domain c = (encoded_texts-same-by c.args.rule.now c.args.compiled.now c.args.slots c.args.style.now c.args.one.now c.args.other.now c.requires.one c.requires.other).0

pub returns-clause-problem : goal.returns-clause-problem
returns-clause-problem c = (encoded_texts-same-by c.args.rule.now c.args.compiled.now c.args.slots c.args.style.now c.args.one.now c.args.other.now c.requires.one c.requires.other).1
