-- What the parts spell is what is read of them, once bound, and conversely.
use Rattle.std.proofs.Common.{◌≡◌, Ok, List, sym, subst}
use Rattle.text_forms.specs.Placed.{Placed, cut, close, word, list, parts_of}
use Rattle.plan_texts.specs.Formulas.{IsParam}
use Rattle.plan_texts.specs.Schemas.{IsObject}
use Rattle.plan_texts.specs.Types.{IsTypeItem}
use Rattle.gd_reader.specs.declared.effects.RawEffect.{RawEffect}
use Rattle.gd_reader.specs.declared.formulas.RawFormula.{RawFormula}
use Rattle.gd_reader.specs.declared.typed_lists.ListKind.{ListKind}
use Rattle.gd_reader.specs.declared.typed_lists.ListKind.TheVariants.{Parameters, Predicate, Objects, Types}
use Rattle.gd_reader.specs.declared.typed_lists.RawParam.{RawParam}
use Rattle.gd_reader.specs.Effects.{effect_read}
use Rattle.gd_reader.specs.Formulas.{formula_read}
use Rattle.gd_reader.specs.Terms.{Names, Keeps}
use Rattle.gd_reader.specs.TypedLists.{listed}
use Rattle.text_values.specs.form_spellings.Bound.{IsBoundParam, IsBoundObject, IsBoundType}
use Rattle.text_values.specs.form_spellings.SpellsBound.{BindsFormula, BindsEffect, BindsList}
use Rattle.text_values.proofs.form_spellings.BoundForms.{formula_inside, effect_within}
use Rattle.text_values.proofs.form_spellings.EffectsSaid.{EffectSaid, effect_inside_said}
use Rattle.text_values.proofs.form_spellings.FormulasSaid.{FormulaSaid, inside_said}
use Rattle.text_values.proofs.form_spellings.KeptWords.{Reads}
use Rattle.text_values.proofs.form_spellings.ListsSaid.{ListSaid, listed_said, parameter_binds, variable_binds, object_binds, type_binds}
use Rattle.text_values.proofs.form_spellings.NamesIn.{stands}

pub formulas_bind : (names now later : Names) (p : Placed) (r : RawFormula) → formula_read names p ≡ Ok (r, now) → Keeps now later → BindsFormula later r p
formulas_bind names now later cut r e k v scope f s = absurd s
formulas_bind names now later (close at) r e k v scope f s = absurd s
formulas_bind names now later (word at w p) r e k v scope f s = absurd s
formulas_bind names now later (list at p q) r e k v scope f s =
    stands (FormulaSaid (parts_of p)) names now (formula_read names (list at p q)) r e (subst (λ z. Reads names z (FormulaSaid (parts_of p))) (sym (formula_inside names at p q)) (inside_said p names)) later k v scope f s.1

pub effects_bind : (names now later : Names) (p : Placed) (r : RawEffect) → effect_read names p ≡ Ok (r, now) → Keeps now later → BindsEffect later r p
effects_bind names now later cut r e k v scope f s = absurd s
effects_bind names now later (close at) r e k v scope f s = absurd s
effects_bind names now later (word at w p) r e k v scope f s = absurd s
effects_bind names now later (list at p q) r e k v scope f s =
    stands (EffectSaid (parts_of p)) names now (effect_read names (list at p q)) r e (subst (λ z. Reads names z (EffectSaid (parts_of p))) (sym (effect_within names at p q)) (effect_inside_said p names)) later k v scope f s.1

pub lists_bind : (kind : ListKind) (names now later : Names) (p : Placed) (rs : List RawParam) → listed kind names p ≡ Ok (rs, now) → Keeps now later → BindsList kind later rs p
lists_bind Parameters names now later p rs e k = λ v xs s. stands (ListSaid IsParam IsBoundParam Parameters parameter_binds p) names now (listed Parameters names p) rs e (listed_said IsParam IsBoundParam Parameters parameter_binds p names) later k v xs s.1
lists_bind Predicate names now later p rs e k = λ v xs s. stands (ListSaid IsParam IsBoundParam Predicate variable_binds p) names now (listed Predicate names p) rs e (listed_said IsParam IsBoundParam Predicate variable_binds p names) later k v xs s.1
lists_bind Objects names now later p rs e k = λ v c xs s.
    stands (ListSaid (λ v. IsObject v c) (λ v table. IsBoundObject v table c) Objects (object_binds c) p) names now (listed Objects names p) rs e (listed_said (λ v. IsObject v c) (λ v table. IsBoundObject v table c) Objects (object_binds c) p names) later k v xs s.1
lists_bind Types names now later p rs e k = λ v xs s. stands (ListSaid (λ v. IsTypeItem) IsBoundType Types type_binds p) names now (listed Types names p) rs e (listed_said (λ v. IsTypeItem) IsBoundType Types type_binds p names) later k v xs s.1
