use Rattle.std.proofs.Common.{◌≡◌, take}
use Rattle.ground_state.specs.Runs.{texts}
use Rattle.tree_decoder.proofs.decoder.Decoder.take_action.Given as goal

abbrev pub invariant-loop-word : goal.invariant-loop-word
invariant-loop-word l = texts l.words.items ≡ take l.word-index l.word-items
