-- The names of what was read stand in the table that is left.
use Rattle.std.proofs.Common.{◌≡◌, Ok, Result, List, subst}
use Rattle.text_forms.specs.Placed.{Placed, cut, close, word, list}
use Rattle.gd_reader.specs.declared.effects.RawEffect.{RawEffect}
use Rattle.gd_reader.specs.declared.formulas.RawFormula.{RawFormula}
use Rattle.gd_reader.specs.declared.stop.Stop.{Stop}
use Rattle.gd_reader.specs.declared.typed_lists.ListKind.{ListKind}
use Rattle.gd_reader.specs.declared.typed_lists.RawParam.{RawParam}
use Rattle.gd_reader.specs.Effects.{effect_read}
use Rattle.gd_reader.specs.Formulas.{formula_read}
use Rattle.gd_reader.specs.Terms.{Names, Keeps}
use Rattle.gd_reader.specs.TypedLists.{are_variables, listed}
use Rattle.text_values.specs.form_spellings.InTable.{IsNameIn, AreParamsIn, IsFormulaIn, IsEffectIn}
use Rattle.text_values.proofs.form_spellings.EffectsIn.{EffectIn, effect_in}
use Rattle.text_values.proofs.form_spellings.Facts.{Facts, Fronted, AllSeen}
use Rattle.text_values.proofs.form_spellings.FormulasIn.{FormulaIn, formula_in}
use Rattle.text_values.proofs.form_spellings.KeptWords.{Reads, name_stands}
use Rattle.text_values.proofs.form_spellings.ListsIn.{ParamsIn, listed_in}

pub stands : {X : Type 0} (P : X → Names → Type 0) (names now : Names) (r : Result (X × Names) Stop) (x : X) → r ≡ Ok (x, now) → Reads names r P → (later : Names) → Keeps now later → P x later
stands P names now r x e h = (subst (λ r. Reads names r P) e h).1

-- wherever they are
abbrev pub anywhere : Facts
anywhere = record { Seen = λ at w. Unit {0}; Opens = λ place at w. Unit {0}; Is = IsNameIn; holds = λ names table variable at w k s. name_stands names w table k }

pub all_seen : (p : Placed) → AllSeen anywhere p
all_seen cut = tt
all_seen (close at) = tt
all_seen (word at w p) = (tt, all_seen p)
all_seen (list at p q) = (fronted p, all_seen p, all_seen q)
  where
    fronted : (p : Placed) → Fronted anywhere at p
    fronted cut = tt
    fronted (close at) = tt
    fronted (word at w p) = tt
    fronted (list at p q) = tt

pub formulas_stand : (names now later : Names) (p : Placed) (f : RawFormula) → formula_read names p ≡ Ok (f, now) → Keeps now later → IsFormulaIn later f
formulas_stand names now later p f e k = stands (FormulaIn anywhere) names now (formula_read names p) f e (formula_in anywhere p names (all_seen p)) later k

pub effects_stand : (names now later : Names) (p : Placed) (f : RawEffect) → effect_read names p ≡ Ok (f, now) → Keeps now later → IsEffectIn later f
effects_stand names now later p f e k = stands (EffectIn anywhere) names now (effect_read names p) f e (effect_in anywhere p names (all_seen p)) later k

pub lists_stand : (kind : ListKind) (names now later : Names) (p : Placed) (xs : List RawParam) → listed kind names p ≡ Ok (xs, now) → Keeps now later → AreParamsIn later xs
lists_stand kind names now later p xs e k = stands (ParamsIn anywhere (are_variables kind)) names now (listed kind names p) xs e (listed_in anywhere p kind names (all_seen p)) later k
