use Rattle.std.proofs.Common.{◌≡◌, take, length}
use Rattle.plan_model.specs.declared.values.Pddl.{Pddl}
use Rattle.problem_index.specs.Index.{AreOf}
use Rattle.ground_state.specs.Frames.{frame}
use Rattle.ground_state.specs.Runs.{texts, IsAsRoomy, AreArguments}
use Rattle.ground_state.proofs.arguments.fill.Given as goal

-- the objects of the words so far are in force
abbrev pub invariant-loop-i : goal.invariant-loop-i
invariant-loop-i l =
    IsAsRoomy (frame l.fn.env) (frame l.env) × (length l.env.values.items ≡ l.i)
    × ((p : Pddl) → AreOf p l.index l.world → AreArguments p (take l.i l.params) (take l.i (texts l.words)) l.env.values.items)
