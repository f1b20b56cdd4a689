use Rattle.std.proofs.Common.{◌≡◌, length}
use Rattle.command_words.specs.Names.{words_of}
use Rattle.command_words.specs.Forms.{said as value_said}
use Rattle.command_words.proofs.forms.said.Given as goal

abbrev pub invariant-loop-rest : goal.invariant-loop-rest
invariant-loop-rest l = value_said l.option (words_of l.rest) ≡ value_said l.option (words_of l.words)

abbrev pub decreases-loop-rest : goal.decreases-loop-rest
decreases-loop-rest l = length l.rest
