-- What was read, once bound, is spelled by the parts from which it was read.
use Rattle.std.proofs.Common.{◌≡◌, Ok, Result, List, [], sym, subst}
use Rattle.gd_reader.specs.Forms.{Form}
use Rattle.text_forms.specs.Placed.{Placed, cut, close, word, list, parts_of}
use Rattle.plan_texts.specs.Formulas.{IsParam, IsFormula, IsEffect}
use Rattle.plan_texts.specs.Schemas.{IsObject}
use Rattle.plan_texts.specs.Types.{IsTypeItem}
use Rattle.gd_reader.specs.declared.effects.RawEffect.{RawEffect}
use Rattle.gd_reader.specs.declared.formulas.RawFormula.{RawFormula}
use Rattle.gd_reader.specs.declared.stop.Stop.{Stop}
use Rattle.gd_reader.specs.declared.typed_lists.ListKind.{ListKind}
use Rattle.gd_reader.specs.declared.typed_lists.ListKind.TheVariants.{Parameters, Predicate, Objects, Types}
use Rattle.gd_reader.specs.declared.typed_lists.RawParam.{RawParam}
use Rattle.gd_reader.specs.Answers.{list_due}
use Rattle.gd_reader.specs.Effects.{effect_inside, effect_read}
use Rattle.gd_reader.specs.Formulas.{inside, formula_read}
use Rattle.gd_reader.specs.Grammar.{formula_form, effect_form}
use Rattle.gd_reader.specs.ListGrammar.{params_form}
use Rattle.gd_reader.specs.Terms.{Names, Keeps}
use Rattle.gd_reader.specs.TypedLists.{listed}
use Rattle.gd_reader.proofs.EffectExact.{effect_exact}
use Rattle.gd_reader.proofs.Exact.{Tells}
use Rattle.gd_reader.proofs.FormulaExact.{formula_exact}
use Rattle.gd_reader.proofs.ListExact.{listed_exact}
use Rattle.text_values.specs.form_spellings.Bound.{IsBoundParam, IsBoundObject, IsBoundType}
use Rattle.text_values.specs.form_spellings.SpellsBound.{SpellsFormula, SpellsEffect, SpellsList}
use Rattle.text_values.specs.form_spellings.SpellsSome.{StandsInFront}
use Rattle.text_values.proofs.form_spellings.EffectsBound.{EffectBound, effect_inside_bound}
use Rattle.text_values.proofs.form_spellings.FormulasBound.{FormulaBound, inside_bound}
use Rattle.text_values.proofs.form_spellings.KeptWords.{Reads}
use Rattle.text_values.proofs.form_spellings.ListsBound.{ListBound, listed_bound, parameter_fits, variable_fits, object_fits, type_fits}
use Rattle.text_values.proofs.form_spellings.NamesIn.{stands}
use Rattle.text_values.proofs.form_spellings.WholeForms.{whole_formulas, whole_effects, whole_lists}

whole_read : {X : Type 0} (form : Form) (r : Result X Stop) (x : X) → r ≡ Ok x → Tells form r → form.Whole
whole_read form r x e t = (subst (Tells form) e t).0

pub formula_inside : (names : Names) (at : _) (p q : Placed) → formula_read names (list at p q) ≡ inside names p
unfolding formula_read list_due
formula_inside names at p q = λ i. inside names p

pub effect_within : (names : Names) (at : _) (p q : Placed) → effect_read names (list at p q) ≡ effect_inside names p
unfolding effect_read list_due
effect_within names at p q = λ i. effect_inside names p

pub formulas_spell : (names now later : Names) (p : Placed) (r : RawFormula) → formula_read names p ≡ Ok (r, now) → Keeps now later → SpellsFormula later r p
formulas_spell names now later p r e k v scope f b = go p e (whole_read (formula_form p) (formula_read names p) (r, now) e (formula_exact p names).tells)
  where
    go : (p : Placed) → formula_read names p ≡ Ok (r, now) → (formula_form p).Whole → StandsInFront (IsFormula v f scope) p
    go cut e w = absurd w
    go (close at) e w = absurd w
    go (word at u p) e w = absurd w
    go (list at p q) e w = (((whole_formulas (list at p q)).0 w).5.0, stands (FormulaBound (parts_of p)) names now (formula_read names (list at p q)) r e (subst (λ z. Reads names z (FormulaBound (parts_of p))) (sym (formula_inside names at p q)) (inside_bound p names)) later k v scope f b)

pub effects_spell : (names now later : Names) (p : Placed) (r : RawEffect) → effect_read names p ≡ Ok (r, now) → Keeps now later → SpellsEffect later r p
effects_spell names now later p r e k v scope f b = go p e (whole_read (effect_form p) (effect_read names p) (r, now) e (effect_exact p names).tells)
  where
    go : (p : Placed) → effect_read names p ≡ Ok (r, now) → (effect_form p).Whole → StandsInFront (IsEffect v f scope) p
    go cut e w = absurd w
    go (close at) e w = absurd w
    go (word at u p) e w = absurd w
    go (list at p q) e w = (((whole_effects (list at p q)).0 w).5.0, stands (EffectBound (parts_of p)) names now (effect_read names (list at p q)) r e (subst (λ z. Reads names z (EffectBound (parts_of p))) (sym (effect_within names at p q)) (effect_inside_bound p names)) later k v scope f b)

pub lists_spell : (kind : ListKind) (names now later : Names) (p : Placed) (rs : List RawParam) → listed kind names p ≡ Ok (rs, now) → Keeps now later → SpellsList kind later rs p
lists_spell kind names now later p rs e k = go kind e (whole_read (params_form kind [] p) (listed kind names p) (rs, now) e (listed_exact p kind names).tells)
  where
    go : (kind : ListKind) → listed kind names p ≡ Ok (rs, now) → (params_form kind [] p).Whole → SpellsList kind later rs p
    go Parameters e w = λ v xs b. (((whole_lists Parameters p).0 w).3.0, stands (ListBound IsParam IsBoundParam Parameters parameter_fits p) names now (listed Parameters names p) rs e (listed_bound IsParam IsBoundParam Parameters parameter_fits p names) later k v xs b)
    go Predicate e w = λ v xs b. (((whole_lists Predicate p).0 w).2.0, stands (ListBound IsParam IsBoundParam Predicate variable_fits p) names now (listed Predicate names p) rs e (listed_bound IsParam IsBoundParam Predicate variable_fits p names) later k v xs b)
    go Objects e w = λ v c xs b. (
      ((whole_lists Objects p).0 w).3.0,
      stands (ListBound (λ v. IsObject v c) (λ v table. IsBoundObject v table c) Objects (object_fits c) p) names now (listed Objects names p) rs e (listed_bound (λ v. IsObject v c) (λ v table. IsBoundObject v table c) Objects (object_fits c) p names) later k v xs b,
    )
    go Types e w = λ v xs b. (((whole_lists Types p).0 w).1.0, stands (ListBound (λ v. IsTypeItem) IsBoundType Types type_fits p) names now (listed Types names p) rs e (listed_bound (λ v. IsTypeItem) IsBoundType Types type_fits p names) later k v xs b)
