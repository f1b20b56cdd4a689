-- What two printed texts of a compiled problem are.
-- Source: this project's encoding, after Alford et al., "Bound to Plan", ICAPS 2016.
use Rattle.std.specs.Prelude.{ℕ, ◌≡◌, List}
use Rattle.plan_model.specs.declared.options.Checks.{Checks}
use Rattle.plan_model.specs.declared.options.Slots.{Slots}
use Rattle.plan_model.specs.declared.options.Style.{Style}
use Rattle.plan_model.specs.declared.values.Hddl.{Hddl}
use Rattle.plan_model.specs.declared.values.Compiled.{Compiled}
use Rattle.plan_model.specs.declared.values.Pddl.{Pddl}
use Rattle.plan_texts.specs.PrintedTexts.{domain_text, problem_text}
use Rattle.plan_model.specs.plan_meaning.Compilation.{IsCompiled}
use Rattle.slot_encoding.specs.FirstFree.{IsEncodedBy, HasWordsBy}
use Rattle.slot_encoder.specs.Encodings.{IsPrintableWhereSound}

-- it is compiled of some problem, in either mode of preconditions
abbrev pub IsCompiledProblem : Compiled → Type 0
IsCompiledProblem c = (h : Hddl) × (mode : Checks) × IsCompiled h mode c

-- the two texts are those of an encoded value with all its words; rule: which free slots a method takes
pub record ArePrinted (rule : Slots) (c : Compiled) (slots : ℕ) (style : Style) (domain problem : List ℕ) : Type 0 where
  pub value : Pddl
  pub encoded : IsEncodedBy rule c slots style value
  pub words : HasWordsBy rule c slots value.names
  pub printable : IsPrintableWhereSound c slots value
  pub domain_is : domain ≡ domain_text value
  pub problem_is : problem ≡ problem_text value
