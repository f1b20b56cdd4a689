use Rattle.std.proofs.Common.{rules, ◌<◌, length, ◌∙◌}
use Rattle.command_words.proofs.Said.{said_nothing}
use Rattle.command_words.proofs.forms.said.Goals as goal

pub returns : goal.returns
returns c =
    let short : length c.loop-rest.rest.now < 2 = search rules in
    said_nothing c.args.option.now c.loop-rest.rest.now short ∙ c.loop-rest.invariant
