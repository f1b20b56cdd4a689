-- What the printed problem, as a value, is to the compiled one.
-- Source: this project's, after the translation of Alford et al., "Bound to Plan", ICAPS 2016.
use Rattle.std.specs.Prelude.{ℕ, ◌≤◌, ◌↔◌, List}
use Rattle.plan_model.specs.declared.steps.GroundAction.{GroundAction}
use Rattle.plan_model.specs.declared.values.Compiled.{Compiled}
use Rattle.plan_model.specs.declared.values.Pddl.{Pddl}
use Rattle.plan_model.specs.task_networks.Tree.{Tree, Address}
use Rattle.plan_model.specs.task_networks.Pending.{IsWithin}
use Rattle.plan_model.specs.task_networks.Front.{IsFront}
use Rattle.plan_texts.specs.PrintedTexts.{domain_text, problem_text}
use Rattle.plan_model.specs.plan_meaning.ClassicalPlan.{IsExecutable, IsPlan}
use Rattle.plan_model.specs.plan_meaning.Network.{network}
use Rattle.plan_model.specs.plan_meaning.Solution.{top_work}
use Rattle.plan_model.specs.plan_meaning.SpelledPlan.{IsSpelling}
use Rattle.plan_model.specs.plan_meaning.Bound.{IsBound}
use Rattle.plan_proof.specs.Headline.{SpellingForm, SpellsExecutableFrontBy, SpellsSolutionBy, SpellsOneBy, LosesNothingBy}

-- by one form of spelling
module _ (Spelling : SpellingForm) where
  module _ (c : Compiled) (b : ℕ) where
    -- never more than b tasks are pending in what is spelled
    abbrev pub SpellingsAreWithinBy : Type 0
    SpellingsAreWithinBy = (steps : List GroundAction) (tree : Tree (network c)) (order : List Address) (slot : Address → ℕ) → Spelling c b steps tree order slot → IsWithin (network c) b tree order

    -- and each front of which that is true is spelled
    abbrev pub FrontsWithinAreSpelledBy : Type 0
    FrontsWithinAreSpelledBy = (tree : Tree (network c)) (order : List Address) → IsFront (network c) (top_work c) tree order → IsWithin (network c) b tree order
        → (steps : List GroundAction) × (slot : Address → ℕ) × Spelling c b steps tree order slot

    -- a list spells one front, with one slot for each node
    abbrev pub EachSpellsOneBy : Type 0
    EachSpellsOneBy = (steps : List GroundAction) → SpellsOneBy Spelling c b steps

    module _ (p : Pddl) where
      abbrev pub ExecutablesSpellFrontsBy : Type 0
      ExecutablesSpellFrontsBy = (steps : List GroundAction) → IsExecutable p steps ↔ SpellsExecutableFrontBy Spelling c b steps

      abbrev pub PlansSpellSolutionsBy : Type 0
      PlansSpellSolutionsBy = (steps : List GroundAction) → IsPlan p steps ↔ SpellsSolutionBy Spelling c b steps

    pub record IsFaithfulValueBy (p : Pddl) : Type 0 where
      pub executable : ExecutablesSpellFrontsBy p
      pub plans : PlansSpellSolutionsBy p
      pub only_one : EachSpellsOneBy
      pub within : SpellingsAreWithinBy
      pub spelled : FrontsWithinAreSpelledBy

  -- where there are as many slots as the bound, or more, no schedule of any solution is lost
  abbrev pub LosesNothingFromTheBoundOnBy : Compiled → ℕ → (domain problem : List ℕ) → Type 0
  LosesNothingFromTheBoundOnBy c b domain problem = (n : ℕ) → IsBound c n → n ≤ b → LosesNothingBy Spelling c b domain problem

  -- the same of the two texts that are printed of a value
  abbrev pub PrintedLosesNothingBy : Compiled → ℕ → Pddl → Type 0
  PrintedLosesNothingBy c b p = LosesNothingFromTheBoundOnBy c b (domain_text p) (problem_text p)

-- with any free slots
abbrev pub SpellingsAreWithin : Compiled → ℕ → Type 0
SpellingsAreWithin = SpellingsAreWithinBy IsSpelling

abbrev pub FrontsWithinAreSpelled : Compiled → ℕ → Type 0
FrontsWithinAreSpelled = FrontsWithinAreSpelledBy IsSpelling

abbrev pub EachSpellsOne : Compiled → ℕ → Type 0
EachSpellsOne = EachSpellsOneBy IsSpelling

abbrev pub ExecutablesSpellFronts : Compiled → ℕ → Pddl → Type 0
ExecutablesSpellFronts = ExecutablesSpellFrontsBy IsSpelling

abbrev pub PlansSpellSolutions : Compiled → ℕ → Pddl → Type 0
PlansSpellSolutions = PlansSpellSolutionsBy IsSpelling

abbrev pub IsFaithfulValue : Compiled → ℕ → Pddl → Type 0
IsFaithfulValue = IsFaithfulValueBy IsSpelling

abbrev pub LosesNothingFromTheBoundOn : Compiled → ℕ → (domain problem : List ℕ) → Type 0
LosesNothingFromTheBoundOn = LosesNothingFromTheBoundOnBy IsSpelling

abbrev pub PrintedLosesNothing : Compiled → ℕ → Pddl → Type 0
PrintedLosesNothing = PrintedLosesNothingBy IsSpelling
