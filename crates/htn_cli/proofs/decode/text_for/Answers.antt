use Rattle.htn_cli.proofs.Decodings.{chosen_in_range}
use Rattle.htn_cli.proofs.decode.text_for.Goals as goal

pub text_with-requires-clause-range : goal.text_with-requires-clause-range
text_with-requires-clause-range c =
    chosen_in_range c.args.asked.now.level c.args.compiled.now c.args.given c.requires.given c.in_ok-slots.slots c.in_ok-slots.ensures.slots
