-- A list of steps shows a plan, or fails: what is asked of each step and of the end is decided, and a finished tree shows a plan.
use Rattle.std.proofs.Common.{ℕ, ◌≤◌, inl, inr, List, arith}
use Rattle.plan_model.specs.declared.steps.GroundAction.{GroundAction}
use Rattle.plan_model.specs.declared.values.Compiled.{Compiled}
use Rattle.plan_model.specs.task_networks.Lawful.{IsLawful}
use Rattle.plan_model.specs.plan_meaning.Truth.{State}
use Rattle.plan_model.specs.plan_meaning.Network.{network}
use Rattle.plan_model.specs.plan_meaning.Solution.{top_work, Allows, next, initial, IsGoal}
use Rattle.plan_model.proofs.task_networks.ScheduleLaws.{prepared_is_lawful}
use Rattle.plan_model.proofs.plan_meaning.CompiledNetworks.{prepared}
use Rattle.decoding.specs.FailingAct as General
use Rattle.decoding.specs.FailingLaws.{AreDecided}
use Rattle.decoding.specs.PrintedSteps.{IsNamed, IsReadAs, HasSoundSteps}
use Rattle.decoding.proofs.Searched.{each_is_decided}
use Rattle.decoding.proofs.ReadSteps.{reading, steps_are}
use Rattle.decoding.proofs.SoundCompiled.{compiled_are_read_in_one_way}
use Rattle.hplan_text.specs.declared.values.HPlan.{HPlan}
use Rattle.hplan_text.specs.ShownSolutions.{SpellShown}
use Rattle.hplan_text.specs.ShownLaws.{IsShownOnce}
use Rattle.hplan_text.proofs.ShownOnce.{each_is_shown_once}
use Rattle.decode_answers.specs.DecodeLaws.{IsDecodedSomehow, EachIsDecodedSomehow}
use Rattle.decode_answers.proofs.SomehowStates.{same_work, precedes_told, ground_told, goal_told, allows_told}
use Rattle.decode_answers.proofs.SomehowRead.{named_told, read_told}

module _ (c : Compiled) where
  are_decided : AreDecided (network c) State (Allows c) (next c) (initial c) (IsGoal c) GroundAction (IsNamed c) (IsReadAs c)
  are_decided = record {
    named = named_told c;
    reads = λ b s. read_told c s b;
    works = same_work;
    precedes = precedes_told c;
    ground = ground_told c;
    allows = allows_told c;
    goal = goal_told c;
  }

  -- a spelled solution shows a plan
  shown_of : (b : ℕ) (steps : List GroundAction)
      → General.SpellsSolution (network c) State (Allows c) (next c) GroundAction (IsNamed c) (IsReadAs c)
      (top_work c) (initial c) (IsGoal c) b steps
      → (shown : HPlan) × SpellShown c b steps shown
  shown_of b steps (acts, tree, order, slot, read, spells, solution) =
      (once.plan, shown)
    where
      once : IsShownOnce c tree order
      once = each_is_shown_once c tree order solution.finished

      shown : SpellShown c b steps once.plan
      shown = record {
        tree = tree;
        order = order;
        slot = slot;
        spelled = (acts, spells, steps_are c b steps acts read);
        solution = solution;
        shows = once.shows;
      }

  decided : (b : ℕ) (steps : List GroundAction) → 1 ≤ b → IsLawful (network c) → HasSoundSteps c b → IsDecodedSomehow c b steps
  decided b steps positive law sound =
      elim (each_is_decided (network c) law State (Allows c) (next c) (initial c) (IsGoal c) GroundAction (IsNamed c) (IsReadAs c)
      b (top_work c) steps positive (reading c b sound) are_decided) [ inl x ↦ inl (shown_of b steps x) | inr f ↦ inr f ]

pub each_is_decoded_somehow : EachIsDecodedSomehow
each_is_decoded_somehow h checks c b steps d =
    decided c b steps d.some_slot (prepared_is_lawful (network c) (prepared h checks c d.ordered d.compiled))
    ((compiled_are_read_in_one_way c h checks d.sound d.compiled).steps b (let l = d.few_slots in omega arith))
