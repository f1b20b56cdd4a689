-- What the printed problem, as a value, is to the problem that was read.
-- Source: this project's encoding, after Alford et al., "Bound to Plan", ICAPS 2016.
use Rattle.std.specs.Prelude.{ℕ}
use Rattle.plan_model.specs.declared.options.Slots.{Slots}
use Rattle.plan_model.specs.declared.options.Slots.TheVariants.{Any, First}
use Rattle.plan_model.specs.declared.options.Style.{Style}
use Rattle.plan_model.specs.declared.options.Checks.{Checks}
use Rattle.plan_model.specs.declared.values.Hddl.{Hddl}
use Rattle.plan_model.specs.declared.values.Compiled.{Compiled}
use Rattle.plan_model.specs.declared.values.Pddl.{Pddl}
use Rattle.plan_texts.specs.PrintableValue.{IsPrintable}
use Rattle.plan_texts.specs.SoundValue.{IsSoundHddl}
use Rattle.plan_model.specs.plan_meaning.Compilation.{IsCompiled}
use Rattle.slot_encoding.specs.EncodedValue.{IsEncoded}
use Rattle.slot_encoding.specs.FirstFree.{IsFirstEncoded}

-- p is printed for the compiled value c of the problem h, and can be printed
pub record IsPrinted (h : Hddl) (mode : Checks) (c : Compiled) (b : ℕ) (style : Style) (p : Pddl) : Type 0 where
  pub sound : IsSoundHddl h
  pub compiled : IsCompiled h mode c
  pub printable : IsPrintable p
  pub encoded : IsEncoded c b style p

-- the same where a method takes the lowest free slots
pub record IsPrintedFirst (h : Hddl) (mode : Checks) (c : Compiled) (b : ℕ) (style : Style) (p : Pddl) : Type 0 where
  pub sound : IsSoundHddl h
  pub compiled : IsCompiled h mode c
  pub printable : IsPrintable p
  pub encoded : IsFirstEncoded c b style p

-- the same by which free slots a method takes
abbrev pub IsPrintedBy : Slots → Hddl → Checks → Compiled → ℕ → Style → Pddl → Type 0
IsPrintedBy Any = IsPrinted
IsPrintedBy First = IsPrintedFirst
