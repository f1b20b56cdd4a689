-- That each solution tree has one plan.
-- Source: this project's.
use Rattle.std.specs.Prelude.{ℕ, ◌≡◌, List}
use Rattle.plan_model.specs.declared.options.Checks.{Checks}
use Rattle.plan_model.specs.declared.steps.GroundAction.{GroundAction}
use Rattle.plan_model.specs.declared.values.Hddl.{Hddl}
use Rattle.plan_model.specs.declared.values.Compiled.{Compiled}
use Rattle.plan_model.specs.declared.values.Pddl.{Pddl}
use Rattle.plan_model.specs.task_networks.Tree.{Tree, Address}
use Rattle.plan_model.specs.task_networks.Pending.{IsWithin}
use Rattle.plan_model.specs.plan_meaning.Network.{network}
use Rattle.plan_model.specs.plan_meaning.Compilation.{IsCompiled}
use Rattle.plan_model.specs.plan_meaning.Solution.{IsSolution}
use Rattle.plan_texts.specs.FirstSeen.{IsHddlOf}
use Rattle.plan_texts.specs.PrintedTexts.{domain_text, problem_text}
use Rattle.plan_proof.specs.Headline.{SpellingForm}
use Rattle.plan_proof.specs.TextPlans.{IsPlanOf}

module _ (Spelling : SpellingForm) (c : Compiled) (b : ℕ) where
  -- one list at most spells a tree, and in one order
  abbrev pub EachTreeHasOneSpelling : Type 0
  EachTreeHasOneSpelling = (tree : Tree (network c)) (order order' : List Address) (steps others : List GroundAction) (cell cell' : Address → ℕ)
      → Spelling c b steps tree order cell → Spelling c b others tree order' cell' → (others ≡ steps) × (order' ≡ order)

  -- each solution tree with never more than b tasks pending has exactly one plan, whatever order and cells it is spelled with
  abbrev pub EachTreeHasOnePlan : List ℕ → List ℕ → Type 0
  EachTreeHasOnePlan domain problem = (tree : Tree (network c)) (order : List Address) → IsSolution c tree order → IsWithin (network c) b tree order
      → (steps : List GroundAction) × (cell : Address → ℕ) × Spelling c b steps tree order cell × IsPlanOf domain problem steps
      × ((others : List GroundAction) (order' : List Address) (cell' : Address → ℕ) → Spelling c b others tree order' cell' → others ≡ steps)

module _ (Spelling : SpellingForm) where
  -- for each problem that the two HDDL texts spell, by the two printed PDDL texts
  abbrev pub OnePlanForEachTree : (source_domain source_problem : List ℕ) (checks : Checks) (b : ℕ) (domain problem : List ℕ) → Type 0
  OnePlanForEachTree source_domain source_problem checks b domain problem = (h : Hddl) (c : Compiled)
      → IsHddlOf source_domain source_problem h → IsCompiled h checks c → EachTreeHasOnePlan Spelling c b domain problem

  -- the same of the two texts that are printed of a value
  abbrev pub PrintedOnePlanForEachTree : (source_domain source_problem : List ℕ) → Checks → ℕ → Pddl → Type 0
  PrintedOnePlanForEachTree source_domain source_problem checks b p = OnePlanForEachTree source_domain source_problem checks b (domain_text p) (problem_text p)
