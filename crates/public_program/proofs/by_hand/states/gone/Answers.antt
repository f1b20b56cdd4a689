use Rattle.ground_state.proofs.RoomEquations.{fits-Delete}
use Rattle.public_program.proofs.by_hand.states.gone.Goals as goal

pub returns : goal.returns
returns c env = fits-Delete env (record { predicate = 0; args = c.push.new.self })
