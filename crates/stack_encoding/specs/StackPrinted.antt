-- What the printed problem of a stack, as a value, is to the problem that was read.
-- Source: this project's encoding.
use Rattle.std.specs.Prelude.{ℕ}
use Rattle.htn_base.specs.Different.{AreDifferent}
use Rattle.plan_model.specs.declared.options.Checks.{Checks}
use Rattle.plan_model.specs.declared.values.Hddl.{Hddl}
use Rattle.plan_model.specs.declared.values.Compiled.{Compiled}
use Rattle.plan_model.specs.declared.values.Pddl.{Pddl}
use Rattle.plan_texts.specs.PrintableValue.{IsPrintable}
use Rattle.plan_texts.specs.SoundValue.{IsSoundHddl}
use Rattle.plan_model.specs.plan_meaning.Compilation.{IsCompiled}
use Rattle.stack_encoding.specs.TotalOrder.{IsTotallyOrdered}
use Rattle.stack_encoding.specs.StackValue.{IsStackEncoded}
use Rattle.stack_encoding.specs.StackWords.{HasStackWords}

-- p is printed for the compiled value c of the totally ordered problem h, and can be printed
pub record IsPrintedStack (h : Hddl) (mode : Checks) (c : Compiled) (b : ℕ) (p : Pddl) : Type 0 where
  pub sound : IsSoundHddl h
  pub compiled : IsCompiled h mode c
  pub ordered : IsTotallyOrdered c
  pub printable : IsPrintable p
  pub encoded : IsStackEncoded c b p

-- with cells 0 to b, over words that differ and that have all words of it; how many they are is not bounded
pub record HasStackValue (c : Compiled) (b : ℕ) : Type 0 where
  pub value : Pddl
  pub encoded : IsStackEncoded c b value
  pub words : HasStackWords c b value.names
  pub differ : AreDifferent value.names

-- what is encoded of the compiled value over a table with all its words
pub record IsFullyStackEncoded (c : Compiled) (b : ℕ) (p : Pddl) : Type 0 where
  pub encoded : IsStackEncoded c b p
  pub words : HasStackWords c b p.names
