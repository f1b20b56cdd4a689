use Rattle.command_words.proofs.Said.{has_told}
use Rattle.command_words.proofs.forms.has.Goals as goal

pub returns : goal.returns
returns c = has_told c.args.options.now c.args.name.now c.is_among.result c.is_among.ensures
