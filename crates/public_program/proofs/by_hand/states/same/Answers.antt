use Rattle.plan_model.specs.declared.terms.Term.TheVariants.{Var, Obj}
use Rattle.ground_state.proofs.RoomEquations.{fits-Equal}
use Rattle.public_program.proofs.by_hand.states.same.Goals as goal

pub returns : goal.returns
returns c env = fits-Equal env (Var 0) (Obj 0)
