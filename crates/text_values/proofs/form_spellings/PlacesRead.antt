-- The places of formulas, effects and lists are those of tokens.
use Rattle.std.proofs.Common.{◌≡◌, ℕ, List, Ok}
use Rattle.text_forms.specs.Placed.{parts_at}
use Rattle.gd_reader.specs.declared.effects.RawEffect.{RawEffect}
use Rattle.gd_reader.specs.declared.formulas.RawFormula.{RawFormula}
use Rattle.gd_reader.specs.declared.typed_lists.ListKind.{ListKind}
use Rattle.gd_reader.specs.declared.typed_lists.RawParam.{RawParam}
use Rattle.gd_reader.specs.Effects.{effect_read}
use Rattle.gd_reader.specs.Formulas.{formula_read}
use Rattle.gd_reader.specs.Terms.{Names, Keeps}
use Rattle.gd_reader.specs.TypedLists.{are_variables, listed}
use Rattle.text_values.specs.form_spellings.Places.{AreParamsAt, IsFormulaAt, IsEffectAt}
use Rattle.text_values.proofs.form_spellings.EffectsIn.{EffectIn, effect_in}
use Rattle.text_values.proofs.form_spellings.FormulasIn.{FormulaIn, formula_in}
use Rattle.text_values.proofs.form_spellings.ListsIn.{ParamsIn, listed_in}
use Rattle.text_values.proofs.form_spellings.NamesIn.{stands}
use Rattle.text_values.proofs.form_spellings.PlacesSeen.{of_text, text_seen}

pub formulas_placed : (text : List ℕ) (i : ℕ) (names left later : Names) (f : RawFormula) → formula_read names (parts_at text i) ≡ Ok (f, left) → Keeps left later → IsFormulaAt text later f
formulas_placed text i names left later f e k = stands (FormulaIn (of_text text)) names left (formula_read names (parts_at text i)) f e (formula_in (of_text text) (parts_at text i) names (text_seen text i)) later k

pub effects_placed : (text : List ℕ) (i : ℕ) (names left later : Names) (x : RawEffect) → effect_read names (parts_at text i) ≡ Ok (x, left) → Keeps left later → IsEffectAt text later x
effects_placed text i names left later x e k = stands (EffectIn (of_text text)) names left (effect_read names (parts_at text i)) x e (effect_in (of_text text) (parts_at text i) names (text_seen text i)) later k

pub lists_placed : (kind : ListKind) (text : List ℕ) (i : ℕ) (names left later : Names) (xs : List RawParam) → listed kind names (parts_at text i) ≡ Ok (xs, left) → Keeps left later → AreParamsAt kind text later xs
lists_placed kind text i names left later xs e k = stands (ParamsIn (of_text text) (are_variables kind)) names left (listed kind names (parts_at text i)) xs e (listed_in (of_text text) (parts_at text i) kind names (text_seen text i)) later k
