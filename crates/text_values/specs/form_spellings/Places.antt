-- What the offsets of what was read mean: each is that of a token of the text.
-- Source: this project's.
use Rattle.std.specs.Prelude.{◌≡◌, ℕ, ◌+◌, Bool, true, false, List, ◌∷◌, Some, Contains, slice_get}
use Rattle.htn_base.specs.declared.name.Name.{Name as Numbered}
use Rattle.text_forms.specs.Tokens.{opens, spells, lexemes}
use Rattle.text_forms.specs.Words.{Word}
use Rattle.plan_texts.specs.Declared.{named}
use Rattle.gd_reader.specs.declared.typed_lists.ListKind.{ListKind}
use Rattle.gd_reader.specs.declared.typed_lists.RawParam.{RawParam}
use Rattle.gd_reader.specs.declared.formulas.RawFormula.{RawFormula}
use Rattle.gd_reader.specs.declared.effects.RawEffect.{RawEffect}
use Rattle.gd_reader.specs.Terms.{Names}
use Rattle.gd_reader.specs.TypedLists.{are_variables}
use Rattle.hddl_reader.specs.declared.sections.RawDomain.{RawDomain}
use Rattle.hddl_reader.specs.declared.sections.RawProblem.{RawProblem}
use Rattle.text_values.specs.form_spellings.EachPart.{OfDomain, OfProblem}
use Rattle.text_values.specs.form_spellings.EachName.{OfParams, OfFormula, OfEffect}
use Rattle.text_values.specs.form_spellings.InTable.{IsIn}

-- a variable is written with its question mark
abbrev pub as_written : Bool → Word → Word
as_written true w = 63 ∷ w
as_written false w = w

module _ (text : List ℕ) where
  -- a token of the text is this word, at this offset
  abbrev pub IsWordAt : ℕ → Word → Type 0
  IsWordAt at w = Contains (lexemes text) (spells at w)

  -- a token of the text is an opening parenthesis at the first offset, and the next is this word, at the second
  abbrev pub OpensWith : ℕ → ℕ → Word → Type 0
  OpensWith place at w = (i : ℕ) × (slice_get (lexemes text) i ≡ Some (opens place)) × (slice_get (lexemes text) (i + 1) ≡ Some (spells at w))

  module _ (table : Names) where
    -- the name has a word in the table, which is written at this offset
    abbrev pub IsNameAt : Bool → ℕ → Numbered → Type 0
    IsNameAt variable at n = IsIn table n × IsWordAt at (as_written variable (named table n))

    abbrev pub IsFormulaAt : RawFormula → Type 0
    IsFormulaAt = OfFormula IsNameAt

    abbrev pub IsEffectAt : RawEffect → Type 0
    IsEffectAt = OfEffect IsNameAt

    -- with the parenthesis in front of each subtask and each ordering
    abbrev pub IsDomainAt : RawDomain → Type 0
    IsDomainAt = OfDomain IsNameAt OpensWith

    abbrev pub IsProblemAt : RawProblem → Type 0
    IsProblemAt = OfProblem IsNameAt OpensWith

-- of a list whose words are variables or not, by its kind
abbrev pub AreParamsAt : ListKind → List ℕ → Names → List RawParam → Type 0
AreParamsAt kind text table = OfParams (IsNameAt text table) (are_variables kind)
