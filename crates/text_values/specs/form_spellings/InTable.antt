-- Each name of what was read has its word in a name table.
-- Source: this project's.
use Rattle.std.specs.Prelude.{◌<◌, ℕ, Bool, false, List, length}
use Rattle.htn_base.specs.declared.name.Name.{Name as Numbered}
use Rattle.text_forms.specs.Words.{Word}
use Rattle.gd_reader.specs.declared.typed_lists.RawParam.{RawParam}
use Rattle.gd_reader.specs.declared.formulas.RawFormula.{RawFormula}
use Rattle.gd_reader.specs.declared.effects.RawEffect.{RawEffect}
use Rattle.gd_reader.specs.Terms.{Names}
use Rattle.hddl_reader.specs.declared.sections.RawDomain.{RawDomain}
use Rattle.hddl_reader.specs.declared.sections.RawProblem.{RawProblem}
use Rattle.text_values.specs.form_spellings.EachName.{OfParams, OfFormula, OfEffect}
use Rattle.text_values.specs.form_spellings.EachPart.{OfDomain, OfProblem}

-- a parenthesis may stand wherever it does
abbrev pub Anywhere : ℕ → ℕ → Word → Type 0
Anywhere place at w = Unit {0}

module _ (table : Names) where
  abbrev pub IsIn : Numbered → Type 0
  IsIn n = n.number < length table

  -- a name, whether it is a variable's, and wherever it is
  abbrev pub IsNameIn : Bool → ℕ → Numbered → Type 0
  IsNameIn variable at n = IsIn n

  abbrev pub AreParamsIn : List RawParam → Type 0
  AreParamsIn = OfParams IsNameIn false

  abbrev pub IsFormulaIn : RawFormula → Type 0
  IsFormulaIn = OfFormula IsNameIn

  abbrev pub IsEffectIn : RawEffect → Type 0
  IsEffectIn = OfEffect IsNameIn

  abbrev pub IsDomainIn : RawDomain → Type 0
  IsDomainIn = OfDomain IsNameIn Anywhere

  abbrev pub IsProblemIn : RawProblem → Type 0
  IsProblemIn = OfProblem IsNameIn Anywhere
