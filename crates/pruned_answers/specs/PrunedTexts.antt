-- What the two texts that are printed of a pruned problem spell, and that they have the plans of the problem.
-- Source: this project's.
use Rattle.std.specs.Prelude.{ℕ, ◌↔◌, List}
use Rattle.plan_model.specs.declared.options.Checks.{Checks}
use Rattle.plan_model.specs.declared.options.Style.{Style}
use Rattle.plan_model.specs.declared.steps.GroundAction.{GroundAction}
use Rattle.plan_model.specs.declared.values.Hddl.{Hddl}
use Rattle.plan_model.specs.declared.values.Compiled.{Compiled}
use Rattle.plan_model.specs.declared.values.Pddl.{Pddl}
use Rattle.plan_model.specs.task_networks.Tree.{Tree, Address}
use Rattle.plan_model.specs.plan_meaning.Compilation.{IsCompiled}
use Rattle.plan_model.specs.plan_meaning.Laws.{AreOrdered}
use Rattle.plan_model.specs.plan_meaning.Network.{network}
use Rattle.plan_model.specs.plan_meaning.Solution.{IsSolution}
use Rattle.plan_texts.specs.Alike.{AreAlikeHddl}
use Rattle.plan_texts.specs.FirstSeen.{IsHddlOf}
use Rattle.plan_texts.specs.PrintedTexts.{domain_text, problem_text}
use Rattle.plan_texts.specs.SoundProblem.{IsSoundProblem}
use Rattle.plan_texts.specs.SpellsHddl.{SpellsHddl}
use Rattle.hddl_prune.specs.Pruning.{IsPruned, CannotBeSolved}
use Rattle.hddl_texts.specs.PrintedHddl.{hddl_domain_text, hddl_problem_text}
use Rattle.hddl_texts.specs.Ids.{with_ids, IsOfTwoTexts}
use Rattle.slot_encoding.specs.Printed.{IsPrinted}
use Rattle.plan_proof.specs.Headline.{SpellsSolution}
use Rattle.plan_proof.specs.Plans.{HaveNoPlan}
use Rattle.plan_proof.specs.TextPlans.{IsPlanOf}

-- Two printed texts spell the value, but for the ids of subtasks, and whatever they are read as is alike and has no cycle. With
-- what is said of the value, so is what is asked of one whose texts are to be read again.
pub record AreItsTexts (value : Hddl) : Type 0 where
  pub sound : IsSoundProblem value
  pub ordered : AreOrdered value
  pub apart : IsOfTwoTexts value
  pub spelled : SpellsHddl (hddl_domain_text value) (hddl_problem_text value) (with_ids value)
  pub alike : (read : Hddl) → SpellsHddl (hddl_domain_text value) (hddl_problem_text value) read → AreAlikeHddl (with_ids value) read
  pub read_ordered : (read : Hddl) → SpellsHddl (hddl_domain_text value) (hddl_problem_text value) read → AreOrdered read

-- the value is printed of what the two texts spell
pub record IsPrintedOf (domain problem : List ℕ) (checks : Checks) (b : ℕ) (style : Style) (p : Pddl) : Type 0 where
  pub read : Hddl
  pub spelled : IsHddlOf domain problem read
  pub compiled : Compiled
  pub is : IsPrinted read checks compiled b style p

-- two pairs of texts have the same plans
abbrev pub HaveSamePlans : (domain problem other_domain other_problem : List ℕ) → Type 0
HaveSamePlans domain problem other_domain other_problem = (steps : List GroundAction)
    → IsPlanOf domain problem steps ↔ IsPlanOf other_domain other_problem steps

-- In each mode of checks, and for each number of slots: the same lists of steps spell a solution of what the one pair of HDDL texts spells and
-- of what the other does, so that what is printed of both has the same plans, in each style.
pub record KeepPlans (domain problem other_domain other_problem : List ℕ) : Type 0 where
  pub solutions : (checks : Checks) (h i : Hddl) (c k : Compiled) → IsHddlOf domain problem h → IsHddlOf other_domain other_problem i
      → IsCompiled h checks c → IsCompiled i checks k
      → (b : ℕ) (steps : List GroundAction) → SpellsSolution c b steps ↔ SpellsSolution k b steps
  pub plans : (checks : Checks) (b : ℕ) (style other_style : Style) (p q : Pddl)
      → IsPrintedOf domain problem checks b style p → IsPrintedOf other_domain other_problem checks b other_style q
      → HaveSamePlans (domain_text p) (problem_text p) (domain_text q) (problem_text q)

-- in neither mode what the texts spell has a solution, so what is printed of it has no plan
pub record HaveNoSolution (domain problem : List ℕ) : Type 0 where
  pub solutions : (checks : Checks) (h : Hddl) (c : Compiled) → IsHddlOf domain problem h → IsCompiled h checks c
      → (tree : Tree (network c)) (order : List Address) → IsSolution c tree order → ⊥
  pub plans : (checks : Checks) (b : ℕ) (style : Style) (p : Pddl) → IsPrintedOf domain problem checks b style p
      → HaveNoPlan (domain_text p) (problem_text p)

module _ (h : Hddl) where
  -- the texts of what is kept of the problem
  abbrev pub PrunedTextsSpell : Type 0
  PrunedTextsSpell = (value : Hddl) → IsPruned h value → AreItsTexts value

  module _ (domain problem : List ℕ) where
    -- they have the plans of the problem that these two texts spell
    abbrev pub PrunedTextsKeepPlans : Type 0
    PrunedTextsKeepPlans = (value : Hddl) → IsPruned h value → KeepPlans domain problem (hddl_domain_text value) (hddl_problem_text value)

    -- where nothing is pruned since there is no solution, that is so
    abbrev pub RefusedHaveNoSolution : Type 0
    RefusedHaveNoSolution = CannotBeSolved h → HaveNoSolution domain problem
