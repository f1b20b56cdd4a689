-- The two texts that are printed with a stack, of two source texts whose methods are totally ordered.
-- Source: this project's.
use Rattle.std.specs.Prelude.{ℕ, ◌≡◌, List}
use Rattle.plan_model.specs.declared.options.Checks.{Checks}
use Rattle.plan_model.specs.declared.values.Hddl.{Hddl}
use Rattle.plan_model.specs.declared.values.Compiled.{Compiled}
use Rattle.plan_model.specs.declared.values.Pddl.{Pddl}
use Rattle.plan_model.specs.plan_meaning.Compilation.{IsCompiled}
use Rattle.plan_texts.specs.FirstSeen.{IsHddlOf}
use Rattle.plan_texts.specs.SoundValue.{IsSoundHddl}
use Rattle.plan_texts.specs.PrintedTexts.{domain_text, problem_text}
use Rattle.stack_encoding.specs.TotalOrder.{IsTotallyOrdered}
use Rattle.stack_encoding.specs.StackPrinted.{IsFullyStackEncoded}

-- The two printed texts of two source texts: of some sound value that they spell, whose methods are totally ordered, with preconditions
-- checked in this mode and cells 0 to b, over a name table that lacks no word.
pub record AreStackTexts (domain problem : List ℕ) (mode : Checks) (b : ℕ) (printed_domain printed_problem : List ℕ) : Type 0 where
  pub read : Hddl
  pub spelled : IsHddlOf domain problem read
  pub sound : IsSoundHddl read
  pub compiled : Compiled
  pub is_compiled : IsCompiled read mode compiled
  pub ordered : IsTotallyOrdered compiled
  pub value : Pddl
  pub is_encoded : IsFullyStackEncoded compiled b value
  pub domain_is : printed_domain ≡ domain_text value
  pub problem_is : printed_problem ≡ problem_text value

module _ (domain problem : List ℕ) (mode : Checks) (b : ℕ) where
  -- some pair of texts is theirs
  abbrev pub HaveStackTexts : Type 0
  HaveStackTexts = (od op : List ℕ) × AreStackTexts domain problem mode b od op

  -- one pair at most is theirs
  abbrev pub HaveOnePairOfStackTexts : Type 0
  HaveOnePairOfStackTexts = (od op od' op' : List ℕ) → AreStackTexts domain problem mode b od op → AreStackTexts domain problem mode b od' op' → (od ≡ od') × (op ≡ op')

  -- those that are printed for a value
  abbrev pub PrintedAreStackTexts : Pddl → Type 0
  PrintedAreStackTexts p = AreStackTexts domain problem mode b (domain_text p) (problem_text p)
