use Rattle.slot_encoding.proofs.encoded_texts.SameTexts.{encoded-same, encoded_texts-same}
use Rattle.slot_encoding.proofs.encoded_texts.laws.encoded_values_say_the_same.Goals as goal

pub returns-clause-said : goal.returns-clause-said
returns-clause-said c = encoded-same c.args.compiled.now c.args.slots c.args.style.now c.args.one.now c.args.other.now c.requires.one c.requires.other

pub returns-clause-domain : goal.returns-clause-domain
returns-clause-domain c = (encoded_texts-same c.args.compiled.now c.args.slots c.args.style.now c.args.one.now c.args.other.now c.requires.one c.requires.other).0

pub returns-clause-problem : goal.returns-clause-problem
returns-clause-problem c = (encoded_texts-same c.args.compiled.now c.args.slots c.args.style.now c.args.one.now c.args.other.now c.requires.one c.requires.other).1
