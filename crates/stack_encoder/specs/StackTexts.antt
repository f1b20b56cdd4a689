-- What two printed texts of a compiled problem are, with a stack, how long they are, and what is printed of them within a limit.
-- Source: this project's encoding.
use Rattle.std.specs.Prelude.{ℕ, ◌<◌, ◌^◌, length}
use Rattle.plan_model.specs.declared.values.Compiled.{Compiled}
use Rattle.plan_model.specs.declared.values.Pddl.{Pddl}
use Rattle.slot_encoder.specs.Encodings.{IsPrintableWhereSound}
use Rattle.stack_encoding.specs.StackValue.{IsStackEncoded}
use Rattle.stack_encoding.specs.StackWords.{HasStackWords}
use Rattle.problem_texts.specs.Pages.{AreTextsWithin, AreLengthsOf}
use Rattle.problem_texts.specs.declared.printing.Printed.{Printed}
use Rattle.problem_texts.specs.declared.printing.Sizes.{Sizes}

-- an encoded value with cells 0 to b, over a table that has all its words
pub record IsStackOf (c : Compiled) (b : ℕ) (p : Pddl) : Type 0 where
  pub encoded : IsStackEncoded c b p
  pub words : HasStackWords c b p.names
  pub short : length p.names < 2 ^ 32
  pub printable : IsPrintableWhereSound c b p

-- both texts of such a value, neither longer than the limit; or the length of its first that is
pub record AreStackTextsWithin (c : Compiled) (b limit : ℕ) (printed : Printed) : Type 0 where
  pub value : Pddl
  pub is : IsStackOf c b value
  pub texts : AreTextsWithin value limit printed

-- the lengths of the texts of such a value, as far as 64 bits go
pub record AreStackSizes (c : Compiled) (b : ℕ) (sizes : Sizes) : Type 0 where
  pub value : Pddl
  pub is : IsStackOf c b value
  pub lengths : AreLengthsOf value sizes
