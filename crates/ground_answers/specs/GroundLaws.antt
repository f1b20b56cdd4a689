-- That what is reached of a problem, its ground bound and its named cycle are the same, whichever value of two texts is taken.
-- Source: this project's.
use Rattle.std.specs.Prelude.{ℕ, ◌≡◌, List}
use Rattle.plan_model.specs.declared.options.Checks.{Checks}
use Rattle.plan_model.specs.declared.terms.GroundAtom.{GroundAtom}
use Rattle.plan_model.specs.declared.values.Hddl.{Hddl}
use Rattle.plan_model.specs.declared.values.Compiled.{Compiled}
use Rattle.plan_model.specs.plan_meaning.Compilation.{IsCompiled}
use Rattle.plan_model.specs.plan_meaning.Network.{GroundMethod}
use Rattle.plan_texts.specs.FirstSeen.{IsHddlOf}
use Rattle.plan_texts.specs.SoundProblem.{IsSoundProblem}
use Rattle.slot_machine.specs.bound_laws.NetworkEdges.{Edge}
use Rattle.reached_parts.specs.Reached.{AreReached, IsSize}
use Rattle.ground_bound.specs.GroundBound.{IsGroundBound, IsGroundCycle}
use Rattle.ground_bound.specs.GroundCycleWords.{ground_cycle_words}

-- what is reached of the one, its size, its ground bound and its named cycle are those of the other, and the words of cycles too
pub record AreGroundAlike (c k : Compiled) : Type 0 where
  pub reached : (methods : List GroundMethod) (atoms : List GroundAtom) → AreReached c methods atoms → AreReached k methods atoms
  pub size : (n : ℕ) → IsSize c n → IsSize k n
  pub bound : (n : ℕ) → IsGroundBound c n → IsGroundBound k n
  pub cycle : (e : Edge GroundMethod) (walk : List (Edge GroundMethod)) → IsGroundCycle c e walk → IsGroundCycle k e walk
  pub words : (edges : List (Edge GroundMethod)) → ground_cycle_words c edges ≡ ground_cycle_words k edges

-- of each two values of two texts
abbrev pub ValuesHaveOneGroundBound : Type 0
ValuesHaveOneGroundBound = (domain problem : List ℕ) (h i : Hddl) (checks : Checks) (c k : Compiled)
    → IsHddlOf domain problem h → IsHddlOf domain problem i → IsSoundProblem h → IsCompiled h checks c → IsCompiled i checks k
    → AreGroundAlike c k
