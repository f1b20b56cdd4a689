-- The two grammars are one.
use Rattle.std.proofs.Common.{true, [], refl}
use Rattle.std.specs.Prelude.{◌↔◌}
use Rattle.text_forms.specs.Lists.{group}
use Rattle.text_forms.specs.Placed.{Placed, cut, close, word, list, parts_of}
use Rattle.plan_texts.specs.Declared.{named, variable}
use Rattle.plan_texts.specs.Formulas.{IsParam}
use Rattle.plan_texts.specs.Schemas.{IsObject}
use Rattle.plan_texts.specs.Types.{TypeItem, IsTypeItem}
use Rattle.plan_model.specs.declared.types.Object.{Object}
use Rattle.gd_reader.specs.declared.typed_lists.ListKind.{ListKind}
use Rattle.gd_reader.specs.declared.typed_lists.ListKind.TheVariants.{Parameters, Predicate, Objects, Types}
use Rattle.gd_reader.specs.Grammar.{formula_form, effect_form}
use Rattle.gd_reader.specs.ListGrammar.{params_form}
use Rattle.text_values.specs.form_spellings.SpellsSome.{SpellsSomeFormula, SpellsSomeEffect, SpellsSomeList}
use Rattle.text_values.proofs.form_spellings.EffectSpelled.{effect_written}
use Rattle.text_values.proofs.form_spellings.EffectWhole.{effect_good}
use Rattle.text_values.proofs.form_spellings.FormulaSpelled.{inside_written}
use Rattle.text_values.proofs.form_spellings.FormulaWhole.{formula_good}
use Rattle.text_values.proofs.form_spellings.Freshness.{all_new}
use Rattle.text_values.proofs.form_spellings.Known.{declared_by, all_variables, have_letters, knows_all, knows_object}
use Rattle.text_values.proofs.form_spellings.ListsSpelled.{params_listed}
use Rattle.text_values.proofs.form_spellings.ListsWhole.{params_whole, parameter_declares, variable_of_declares, object_declares, type_declares}
use Rattle.text_values.proofs.form_spellings.ListValues.{make_parameter, make_variable, make_object, make_type}

formula_to : (p : Placed) → (formula_form p).Whole → SpellsSomeFormula p
formula_to cut h = absurd h
formula_to (close at) h = absurd h
formula_to (word at w p) h = absurd h
formula_to (list at p q) h =
    let g = inside_written (declared_by p) (knows_object p) p (all_variables p) (knows_all p) h in
    (declared_by p, all_variables p, g.1.0, have_letters p, g.1.1, (g.0, g.1.2))

formula_from : (p : Placed) → SpellsSomeFormula p → (formula_form p).Whole
formula_from cut s = absurd s.5
formula_from (close at) s = absurd s.5
formula_from (word at w p) s = absurd s.5
formula_from (list at p q) s = formula_good s.0 s.2 s.1 (group (parts_of p)) s.3 s.5.1 s.4 p s.5.0 refl

pub whole_formulas : (p : Placed) → (formula_form p).Whole ↔ SpellsSomeFormula p
whole_formulas p = (formula_to p, formula_from p)

effect_to : (p : Placed) → (effect_form p).Whole → SpellsSomeEffect p
effect_to cut h = absurd h
effect_to (close at) h = absurd h
effect_to (word at w p) h = absurd h
effect_to (list at p q) h =
    let g = effect_written (declared_by p) (knows_object p) p (all_variables p) (knows_all p) h in
    (declared_by p, all_variables p, g.1.0, have_letters p, g.1.1, (g.0, g.1.2))

effect_from : (p : Placed) → SpellsSomeEffect p → (effect_form p).Whole
effect_from cut s = absurd s.5
effect_from (close at) s = absurd s.5
effect_from (word at w p) s = absurd s.5
effect_from (list at p q) s = effect_good s.0 s.2 s.1 (group (parts_of p)) s.3 s.5.1 s.4 p s.5.0 refl

pub whole_effects : (p : Placed) → (effect_form p).Whole ↔ SpellsSomeEffect p
whole_effects p = (effect_to p, effect_from p)

list_to : (kind : ListKind) (p : Placed) → (params_form kind [] p).Whole → SpellsSomeList kind p
list_to Parameters p h =
    let v = declared_by p in let scope = all_variables p in
    let g = params_listed v scope (IsParam v) Parameters (variable v) (make_parameter v scope) (knows_object p) p [] (knows_all p) h in
    (v, g.1.0, g.1.2.1, (g.0, g.1.1))
list_to Predicate p h =
    let v = declared_by p in let scope = all_variables p in
    let g = params_listed v scope (IsParam v) Predicate (variable v) (make_variable v scope) (knows_object p) p [] (knows_all p) h in
    (v, g.1.0, (g.0, g.1.1))
list_to Objects p h =
    let v = declared_by p in let scope = all_variables p in
    let g = params_listed v scope (IsObject v true) Objects (λ (x : Object). named v.names x.name) (make_object v scope true) (knows_object p) p [] (knows_all p) h in
    (v, true, g.1.0, (g.0, g.1.1))
list_to Types p h =
    let v = declared_by p in let scope = all_variables p in
    let g = params_listed v scope IsTypeItem Types (λ (x : TypeItem). x.0) (make_type v scope) (knows_object p) p [] (knows_all p) h in
    (g.1.0, (g.0, g.1.1))

list_from : (kind : ListKind) (p : Placed) → SpellsSomeList kind p → (params_form kind [] p).Whole
list_from Parameters p s = params_whole (IsParam s.0) Parameters (variable s.0) (parameter_declares s.0) p s.1 [] s.3.0 s.3.1 (all_new _ s.2)
list_from Predicate p s = params_whole (IsParam s.0) Predicate (variable s.0) (variable_of_declares s.0) p s.1 [] s.2.0 s.2.1 tt
list_from Objects p s = params_whole (IsObject s.0 s.1) Objects (λ (x : Object). named s.0.names x.name) (object_declares s.0 s.1) p s.2 [] s.3.0 s.3.1 tt
list_from Types p s = params_whole IsTypeItem Types (λ (x : TypeItem). x.0) type_declares p s.0 [] s.1.0 s.1.1 tt

pub whole_lists : (kind : ListKind) (p : Placed) → (params_form kind [] p).Whole ↔ SpellsSomeList kind p
whole_lists kind p = (list_to kind p, list_from kind p)
