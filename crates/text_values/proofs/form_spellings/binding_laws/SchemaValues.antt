-- What predicates, tasks and actions without faults are bound to.
use Rattle.std.proofs.Common.{ℕ, ◌≡◌, List, [], ◌∷◌, ◌++◌, map, sym, ap, subst, ◌∙◌}
use Rattle.std.specs.Prelude.{flat_map}
use Rattle.text_forms.specs.Words.{Word}
use Rattle.gd_reader.specs.Terms.{Names}
use Rattle.hddl_reader.specs.declared.sections.RawAction.{RawAction}
use Rattle.hddl_reader.specs.declared.sections.RawDomain.{RawDomain}
use Rattle.hddl_reader.specs.declared.sections.RawHead.{RawHead}
use Rattle.plan_texts.specs.Declared as words
use Rattle.plan_texts.specs.Declared.{named, variable}
use Rattle.plan_texts.specs.Together.{Together}
use Rattle.plan_texts.specs.Types.{EachIs}
use Rattle.text_values.specs.form_spellings.Bound.{IsBoundParam, IsBoundFormula, IsBoundEffect}
use Rattle.text_values.specs.form_spellings.BoundSchemas.{IsBoundPredicate, IsBoundTask, IsBoundAction}
use Rattle.text_values.specs.form_spellings.EachPart.{OfHead, OfAction}
use Rattle.text_values.specs.form_spellings.InTable.{IsNameIn}
use Rattle.htn_base.specs.Lists.{One, Has}
use Rattle.hddl_reader.specs.names.Standing.{InAction}
use Rattle.hddl_reader.specs.names.Uses.{Scope, Use, declares, IsDeclared, variables, InFormula, InEffect}
use Rattle.name_binding.specs.declared.faults.Spot.{Spot}
use Rattle.name_binding.specs.Typed.{params_bound, params_faults}
use Rattle.name_binding.specs.declared.known.Known.{Known}
use Rattle.name_binding.specs.Effects.{effect_bound, effect_faults}
use Rattle.name_binding.specs.Formulas.{formula_bound, formula_faults}
use Rattle.hddl_bind.specs.Actions.{scope_of, action_bound, action_faults, actions_faults}
use Rattle.hddl_bind.specs.Schemas.{predicate_bound, task_bound, head_faults, heads_faults}
use Rattle.text_values.specs.form_spellings.binding_laws.Formulas.{AreNumberedIn}
use Rattle.text_values.specs.form_spellings.binding_laws.InOrder.{Anywhere}
use Rattle.text_values.specs.form_spellings.binding_laws.Known.{IsKnownOf, HasKnown}
use Rattle.text_values.specs.form_spellings.binding_laws.Numbers.{words_of, AreKnown}
use Rattle.text_values.proofs.form_spellings.binding_laws.EffectValues.{is_effect_bound}
use Rattle.text_values.proofs.form_spellings.binding_laws.FormulaValues.{is_formula_bound, params_are, variables_are}
use Rattle.text_values.proofs.form_spellings.binding_laws.Layers.{declared_words, declared_in}
use Rattle.text_values.proofs.form_spellings.binding_laws.Ones.{has_one, has_each, each_has}
use Rattle.text_values.proofs.form_spellings.binding_laws.Written.{none_left, none_right}

-- each of a list is bound, where none has a fault
pub all_bound : {X Y : Type 0} (R : X → Y → Type 0) (f : X → Y) (g : X → List Spot) (xs : List X) → EachIs (λ x. g x ≡ [] → R x (f x)) xs → flat_map g xs ≡ [] → Together R xs (map f xs)
all_bound R f g [] b e = tt
all_bound R f g (x ∷ xs) b e = (b.0 (none_left (g x) (flat_map g xs) e), all_bound R f g xs b.1 (none_right (g x) (flat_map g xs) e))

module _ (names : Names) (d : RawDomain) (objects : List Word) (known : Known) (of : IsKnownOf names d objects known) (v : words.Declared) (has : HasKnown v names known) where
  -- the words of what a head declares, which are in force in its parts
  pub in_force : (h : RawHead) → words_of names (scope_of h) ≡ map (variable v) (params_bound known.types h.params)
  in_force h = declared_words names h.params ∙ sym (variables_are names d objects known of v has h.params)

  abbrev Numbered : (Scope → Use → Type 0) → Type 0
  Numbered Stands = AreNumberedIn names known.types Stands

  abbrev OfHeads : List RawHead → Scope → Use → Type 0
  OfHeads hs here u = One (λ (h : RawHead). IsDeclared h.params u) hs

  head_params : (hs : List RawHead) → EachIs (OfHead (IsNameIn names) Anywhere) hs → Numbered (OfHeads hs) → (h : RawHead) → Has hs h → head_faults known.types h ≡ [] → Together (IsBoundParam v names) h.params (params_bound known.types h.params)
  head_params hs is n h m e =
      params_are names d objects known of v has h.params (each_has (OfHead (IsNameIn names) Anywhere) hs h is m).1
      (λ x s. n [] x (has_one (λ (g : RawHead). IsDeclared g.params (declares x)) hs h m s)) e

  pub predicates_are : (hs : List RawHead) → EachIs (OfHead (IsNameIn names) Anywhere) hs → Numbered (OfHeads hs) → heads_faults known.types hs ≡ [] → Together (IsBoundPredicate v names) hs (map (predicate_bound known.types) hs)
  predicates_are hs is n e =
      all_bound (IsBoundPredicate v names) (predicate_bound known.types) (head_faults known.types) hs
      (has_each (λ h. head_faults known.types h ≡ [] → IsBoundPredicate v names h (predicate_bound known.types h)) hs (λ h m f. (ap (λ ws. named ws h.name.name) has.kinds.table, head_params hs is n h m f))) e

  pub tasks_are : (hs : List RawHead) → EachIs (OfHead (IsNameIn names) Anywhere) hs → Numbered (OfHeads hs) → heads_faults known.types hs ≡ [] → Together (IsBoundTask v names) hs (map (task_bound known.types) hs)
  tasks_are hs is n e =
      all_bound (IsBoundTask v names) (task_bound known.types) (head_faults known.types) hs
      (has_each (λ h. head_faults known.types h ≡ [] → IsBoundTask v names h (task_bound known.types h)) hs (λ h m f. (ap (λ ws. named ws h.name.name) has.kinds.table, head_params hs is n h m f))) e

  module _ (a : RawAction) (is : OfAction (IsNameIn names) Anywhere a) (n : Numbered (InAction names a)) (none : action_faults known a ≡ []) where
    abbrev scope : List ℕ
    scope = scope_of a.head

    abbrev outer : List Word
    outer = variables names a.head.params

    abbrev params : List Spot
    params = params_faults known.types a.head.params

    abbrev pre : List Spot
    pre = formula_faults known scope a.pre

    abbrev eff : List Spot
    eff = effect_faults known scope a.eff

    known_scope : AreKnown names scope
    known_scope = declared_in names a.head.params is.0.1

    pre_numbered : Numbered (InFormula names a.pre (words_of names scope))
    pre_numbered = subst (λ ws. Numbered (InFormula names a.pre ws)) (sym (declared_words names a.head.params)) (λ here x s. n here x (InAction.precondition s))

    eff_numbered : Numbered (InEffect names a.eff (words_of names scope))
    eff_numbered = subst (λ ws. Numbered (InEffect names a.eff ws)) (sym (declared_words names a.head.params)) (λ here x s. n here x (InAction.effect s))

    action_is : IsBoundAction v names a (action_bound known a)
    action_is =
        let parts = none_right params (pre ++ eff) none in
        record {
          name = ap (λ ws. named ws a.head.name.name) has.kinds.table;
          params = params_are names d objects known of v has a.head.params is.0.1 (λ x s. n [] x (InAction.parameter s)) (none_left params (pre ++ eff) none);
          pre = subst (λ ws. IsBoundFormula v names a.pre ws (formula_bound known scope a.pre)) (in_force a.head) (is_formula_bound names d objects known v scope a.pre of known_scope is.1 has pre_numbered (none_left pre eff parts));
          eff = subst (λ ws. IsBoundEffect v names a.eff ws (effect_bound known scope a.eff)) (in_force a.head) (is_effect_bound names d objects known v scope a.eff of known_scope is.2 has eff_numbered (none_right pre eff parts));
        }

  pub actions_are : (actions : List RawAction) → EachIs (OfAction (IsNameIn names) Anywhere) actions → Numbered (λ here u. One (λ a. InAction names a here u) actions) → actions_faults known actions ≡ [] → Together (IsBoundAction v names) actions (map (action_bound known) actions)
  actions_are actions is n e =
      all_bound (IsBoundAction v names) (action_bound known) (action_faults known) actions
      (has_each (λ a. action_faults known a ≡ [] → IsBoundAction v names a (action_bound known a)) actions
      (λ a m f. action_is a (each_has (OfAction (IsNameIn names) Anywhere) actions a is m) (λ here x s. n here x (has_one (λ a. InAction names a here (declares x)) actions a m s)) f)) e
