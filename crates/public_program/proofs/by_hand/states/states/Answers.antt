use Rattle.ground_state.specs.Frames.{frame}
use Rattle.public_program.proofs.by_hand.states.states.Goals as goal

pub holds-requires-clause-room : goal.holds-requires-clause-room
holds-requires-clause-room g c = c.same.ensures (frame c.in_ok-env.env)
