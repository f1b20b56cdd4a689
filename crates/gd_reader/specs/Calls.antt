-- What each call answers: of a formula, of an effect, or of a typed list, with the words of the table in front of it.
use Rattle.std.specs.Prelude.{ℕ, List, []}
use Rattle.text_forms.specs.declared.sexpr_text.read_error.ReadError.{ReadError}
use Rattle.gd_reader.specs.declared.effects.RawEffect.{RawEffect}
use Rattle.gd_reader.specs.declared.formulas.RawFormula.{RawFormula}
use Rattle.gd_reader.specs.declared.typed_lists.ListKind.{ListKind}
use Rattle.gd_reader.specs.declared.typed_lists.RawParam.{RawParam}
use Rattle.gd_reader.specs.Effects.{effect_read}
use Rattle.gd_reader.specs.Formulas.{formula_read}
use Rattle.gd_reader.specs.Grammar.{formula_form, effect_form}
use Rattle.gd_reader.specs.ListGrammar.{params_form}
use Rattle.gd_reader.specs.Reading.{IsRead, Refuses}
use Rattle.gd_reader.specs.Terms.{Names}
use Rattle.gd_reader.specs.TypedLists.{listed}

-- a whole formula at token i, its value, and the words of the table behind it
abbrev pub IsFormulaRead : Names → List ℕ → ℕ → RawFormula × Names → Type 0
IsFormulaRead names = IsRead formula_form (formula_read names)

-- no formula at token i, and the fault of the first token that departs, or want of memory
abbrev pub RefusesFormula : Names → List ℕ → ℕ → ℕ → ReadError → Type 0
RefusesFormula names = Refuses formula_form (formula_read names)

abbrev pub IsEffectRead : Names → List ℕ → ℕ → RawEffect × Names → Type 0
IsEffectRead names = IsRead effect_form (effect_read names)

abbrev pub RefusesEffect : Names → List ℕ → ℕ → ℕ → ReadError → Type 0
RefusesEffect names = Refuses effect_form (effect_read names)

-- the same of the typed list from token i on, up to the end of the list in which the token stands
abbrev pub IsListRead : ListKind → Names → List ℕ → ℕ → List RawParam × Names → Type 0
IsListRead kind names = IsRead (params_form kind []) (listed kind names)

abbrev pub RefusesList : ListKind → Names → List ℕ → ℕ → ℕ → ReadError → Type 0
RefusesList kind names = Refuses (params_form kind []) (listed kind names)
