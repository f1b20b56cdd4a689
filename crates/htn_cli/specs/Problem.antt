-- What the texts of a domain and of a problem in HDDL come to, where they have no fault.
-- Source: this project's.
use Rattle.std.specs.Prelude.{ℕ, List}
use Rattle.plan_model.specs.declared.options.Checks.{Checks}
use Rattle.plan_model.specs.declared.values.Hddl.{Hddl}
use Rattle.plan_model.specs.declared.values.Compiled.{Compiled}
use Rattle.plan_model.specs.plan_meaning.Compilation.{IsCompiled}
use Rattle.text_values.specs.Values.{IsValueOf}
use Rattle.htn_cli.specs.PrintedForms.{IsOrderedFor, NamesUnordered}
use Rattle.htn_cli.specs.Levels.{IsBoundAt, NamesCycleAt, IsPastCount}
use Rattle.command_words.specs.declared.form.PrintedForm.{PrintedForm}
use Rattle.command_words.specs.declared.level.Level.{Level}

module _ (domain problem : List ℕ) (checks : Checks) where
  -- they spell a problem: this is its compiled value
  pub record SpellProblem (compiled : Compiled) : Type 0 where
    pub value : Hddl
    pub read : IsValueOf domain problem value
    pub compiled_is : IsCompiled value checks compiled

  -- they spell a problem that is printed in this form
  abbrev pub AreFor : PrintedForm → Type 0
  AreFor form = (compiled : Compiled) × SpellProblem compiled × IsOrderedFor form compiled

  -- they spell a problem whose first method that is not totally ordered has this word
  abbrev pub HaveUnordered : List ℕ → Type 0
  HaveUnordered word = (compiled : Compiled) × SpellProblem compiled × NamesUnordered compiled word

  -- at a level
  module _ (level : Level) where
    -- they spell a problem with this bound
    abbrev pub HaveBound : ℕ → Type 0
    HaveBound n = (compiled : Compiled) × SpellProblem compiled × IsBoundAt level compiled n

    -- they spell a problem whose bad cycle that is named has these words
    abbrev pub HaveCycle : List ℕ → Type 0
    HaveCycle words = (compiled : Compiled) × SpellProblem compiled × NamesCycleAt level compiled words

    -- they spell a problem of which more is reached than is counted
    abbrev pub HaveTooMuch : Type 0
    HaveTooMuch = (compiled : Compiled) × SpellProblem compiled × IsPastCount level compiled
