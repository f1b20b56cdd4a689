-- The headline: what a list of ground actions is to the printed texts, and what it is to the hierarchical problem.
-- Source: this project's, after the translation of Alford et al., "Bound to Plan", ICAPS 2016.
use Rattle.std.specs.Prelude.{ℕ, ◌≡◌, ◌≤◌, ◌↔◌, List}
use Rattle.plan_model.specs.declared.options.Checks.{Checks}
use Rattle.plan_model.specs.declared.steps.GroundAction.{GroundAction}
use Rattle.plan_model.specs.declared.values.Hddl.{Hddl}
use Rattle.plan_model.specs.declared.values.Compiled.{Compiled}
use Rattle.plan_model.specs.declared.values.Pddl.{Pddl}
use Rattle.plan_model.specs.task_networks.Tree.{Tree, Address, IsAddress}
use Rattle.plan_model.specs.task_networks.Pending.{IsWithin}
use Rattle.plan_model.specs.task_networks.Front.{IsFront}
use Rattle.plan_texts.specs.PrintedTexts.{domain_text, problem_text}
use Rattle.plan_texts.specs.SpellsPddl.{SpellsPddl}
use Rattle.plan_texts.specs.FirstSeen.{IsHddlOf}
use Rattle.plan_model.specs.plan_meaning.ClassicalPlan.{IsExecutable}
use Rattle.plan_model.specs.plan_meaning.Network.{network}
use Rattle.plan_model.specs.plan_meaning.Compilation.{IsCompiled}
use Rattle.plan_model.specs.plan_meaning.Solution.{top_work, IsExecutableFront, IsSolution}
use Rattle.plan_model.specs.plan_meaning.SpelledPlan.{IsSpelling}
use Rattle.plan_model.specs.plan_meaning.Strata.{IsTailRecursive}
use Rattle.plan_model.specs.plan_meaning.Bound.{IsBound}
use Rattle.plan_proof.specs.TextPlans.{IsPlanOf}

-- executable in a value that the two texts spell
abbrev pub IsExecutableOf : List ℕ → List ℕ → List GroundAction → Type 0
IsExecutableOf domain problem steps = (p : Pddl) × SpellsPddl domain problem p × IsExecutable p steps

-- the two texts have the executable lists of the value
abbrev pub HaveExecutablesOf : (domain problem : List ℕ) → Pddl → Type 0
HaveExecutablesOf domain problem p = (steps : List GroundAction) → IsExecutableOf domain problem steps ↔ IsExecutable p steps

-- what a list of ground actions spells: a tree, an order of its nodes, and a slot for each
abbrev pub SpellingForm : Type 1
SpellingForm = (c : Compiled) → ℕ → List GroundAction → Tree (network c) → List Address → (Address → ℕ) → Type 0

-- by one form of spelling
module _ (Spelling : SpellingForm) (c : Compiled) (b : ℕ) where
  -- the list spells, with b slots, an executable front
  abbrev pub SpellsExecutableFrontBy : List GroundAction → Type 0
  SpellsExecutableFrontBy steps = (tree : Tree (network c)) × (order : List Address) × (slot : Address → ℕ) × Spelling c b steps tree order slot × IsExecutableFront c tree order

  -- the list spells, with b slots, a schedule of a solution tree
  abbrev pub SpellsSolutionBy : List GroundAction → Type 0
  SpellsSolutionBy steps = (tree : Tree (network c)) × (order : List Address) × (slot : Address → ℕ) × Spelling c b steps tree order slot × IsSolution c tree order

  -- two spellings of one list: the same tree, the same schedule, and the same slot for each node
  abbrev pub SpellsOneBy : List GroundAction → Type 0
  SpellsOneBy steps = (tree tree' : Tree (network c)) (order order' : List Address) (slot slot' : Address → ℕ)
      → Spelling c b steps tree order slot → Spelling c b steps tree' order' slot'
      → (tree' ≡ tree) × (order' ≡ order) × ((p : Address) → IsAddress (network c) tree p → slot' p ≡ slot p)

  -- what two printed texts are to the compiled problem
  pub record IsFaithfulBy (domain problem : List ℕ) : Type 0 where
    pub executable : (steps : List GroundAction) → IsExecutableOf domain problem steps ↔ SpellsExecutableFrontBy steps
    pub plans : (steps : List GroundAction) → IsPlanOf domain problem steps ↔ SpellsSolutionBy steps
    pub only_one : (steps : List GroundAction) → SpellsOneBy steps
    -- never more than b tasks are pending in what is spelled, and each schedule of which that is true is spelled
    pub within : (steps : List GroundAction) (tree : Tree (network c)) (order : List Address) (slot : Address → ℕ) → Spelling c b steps tree order slot → IsWithin (network c) b tree order
    pub spelled : (tree : Tree (network c)) (order : List Address) → IsFront (network c) (top_work c) tree order → IsWithin (network c) b tree order
        → (steps : List GroundAction) × (slot : Address → ℕ) × Spelling c b steps tree order slot

  -- no schedule of any solution is lost
  abbrev pub LosesNothingBy : List ℕ → List ℕ → Type 0
  LosesNothingBy domain problem = (tree : Tree (network c)) (order : List Address) → IsSolution c tree order
      → (steps : List GroundAction) × (slot : Address → ℕ) × Spelling c b steps tree order slot × IsPlanOf domain problem steps

  -- one list at most spells a tree and an order
  abbrev pub EachHasOneSpelling : Type 0
  EachHasOneSpelling = (tree : Tree (network c)) (order : List Address) (steps others : List GroundAction) (slot slot' : Address → ℕ)
      → Spelling c b steps tree order slot → Spelling c b others tree order slot' → others ≡ steps

  -- each schedule of a solution with never more than b tasks pending has exactly one plan
  abbrev pub EachHasOnePlan : List ℕ → List ℕ → Type 0
  EachHasOnePlan domain problem = (tree : Tree (network c)) (order : List Address) → IsSolution c tree order → IsWithin (network c) b tree order
      → (steps : List GroundAction) × (slot : Address → ℕ) × Spelling c b steps tree order slot × IsPlanOf domain problem steps
      × ((others : List GroundAction) (slot' : Address → ℕ) → Spelling c b others tree order slot' → others ≡ steps)

module _ (Spelling : SpellingForm) where
  -- for each problem that the two HDDL texts spell: a list is a plan of the two printed PDDL texts exactly where it spells a schedule of a
  -- solution tree with never more than b tasks pending
  abbrev pub HeadlineBy : (source_domain source_problem : List ℕ) (checks : Checks) (b : ℕ) (domain problem : List ℕ) → Type 0
  HeadlineBy source_domain source_problem checks b domain problem = (h : Hddl) (c : Compiled)
      → IsHddlOf source_domain source_problem h → IsCompiled h checks c → IsFaithfulBy Spelling c b domain problem

  -- and at or above the bound of a tail-recursive problem no schedule of any solution is lost
  abbrev pub HeadlineAtBoundBy : (source_domain source_problem : List ℕ) (checks : Checks) (b : ℕ) (domain problem : List ℕ) → Type 0
  HeadlineAtBoundBy source_domain source_problem checks b domain problem = (h : Hddl) (c : Compiled) (n : ℕ)
      → IsHddlOf source_domain source_problem h → IsCompiled h checks c → IsTailRecursive c → IsBound c n → n ≤ b → LosesNothingBy Spelling c b domain problem

  -- and, where a form of spelling has one list for each schedule, each has one plan
  abbrev pub OnePlanForEach : (source_domain source_problem : List ℕ) (checks : Checks) (b : ℕ) (domain problem : List ℕ) → Type 0
  OnePlanForEach source_domain source_problem checks b domain problem = (h : Hddl) (c : Compiled)
      → IsHddlOf source_domain source_problem h → IsCompiled h checks c → EachHasOnePlan Spelling c b domain problem

  -- all three, of the two texts that are printed of a value
  abbrev pub PrintedHeadlineBy : (source_domain source_problem : List ℕ) → Checks → ℕ → Pddl → Type 0
  PrintedHeadlineBy source_domain source_problem checks b p = HeadlineBy source_domain source_problem checks b (domain_text p) (problem_text p)

  abbrev pub PrintedHeadlineAtBoundBy : (source_domain source_problem : List ℕ) → Checks → ℕ → Pddl → Type 0
  PrintedHeadlineAtBoundBy source_domain source_problem checks b p = HeadlineAtBoundBy source_domain source_problem checks b (domain_text p) (problem_text p)

  abbrev pub PrintedOnePlanForEach : (source_domain source_problem : List ℕ) → Checks → ℕ → Pddl → Type 0
  PrintedOnePlanForEach source_domain source_problem checks b p = OnePlanForEach source_domain source_problem checks b (domain_text p) (problem_text p)

-- with any free slots
abbrev pub SpellsExecutableFront : (c : Compiled) → ℕ → List GroundAction → Type 0
SpellsExecutableFront = SpellsExecutableFrontBy IsSpelling

abbrev pub SpellsSolution : (c : Compiled) → ℕ → List GroundAction → Type 0
SpellsSolution = SpellsSolutionBy IsSpelling

abbrev pub SpellsOne : (c : Compiled) → ℕ → List GroundAction → Type 0
SpellsOne = SpellsOneBy IsSpelling

abbrev pub IsFaithful : (c : Compiled) → ℕ → (domain problem : List ℕ) → Type 0
IsFaithful = IsFaithfulBy IsSpelling

abbrev pub LosesNothing : (c : Compiled) → ℕ → (domain problem : List ℕ) → Type 0
LosesNothing = LosesNothingBy IsSpelling

abbrev pub Headline : (source_domain source_problem : List ℕ) (checks : Checks) (b : ℕ) (domain problem : List ℕ) → Type 0
Headline = HeadlineBy IsSpelling

abbrev pub HeadlineAtBound : (source_domain source_problem : List ℕ) (checks : Checks) (b : ℕ) (domain problem : List ℕ) → Type 0
HeadlineAtBound = HeadlineAtBoundBy IsSpelling

abbrev pub PrintedHeadline : (source_domain source_problem : List ℕ) → Checks → ℕ → Pddl → Type 0
PrintedHeadline = PrintedHeadlineBy IsSpelling

abbrev pub PrintedHeadlineAtBound : (source_domain source_problem : List ℕ) → Checks → ℕ → Pddl → Type 0
PrintedHeadlineAtBound = PrintedHeadlineAtBoundBy IsSpelling
