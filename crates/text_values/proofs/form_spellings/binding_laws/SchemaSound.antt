-- Predicates, tasks and actions without faults are bound to ones whose numbers name what is declared.
use Rattle.std.proofs.Common.{ℕ, ◌≡◌, inl, inr, List, [], ◌∷◌, ◌++◌, map, length, sym, subst}
use Rattle.std.specs.Prelude.{◌≤◌}
use Rattle.text_forms.specs.Words.{Word}
use Rattle.gd_reader.specs.Terms.{Names}
use Rattle.hddl_reader.specs.declared.sections.RawAction.{RawAction}
use Rattle.hddl_reader.specs.declared.sections.RawDomain.{RawDomain}
use Rattle.hddl_reader.specs.declared.sections.RawHead.{RawHead}
use Rattle.plan_model.specs.declared.schemas.ActionSchema.{ActionSchema}
use Rattle.plan_model.specs.declared.schemas.Predicate.{Predicate}
use Rattle.plan_model.specs.declared.schemas.TaskSchema.{TaskSchema}
use Rattle.plan_texts.specs.Declared.{Declared, variable}
use Rattle.plan_texts.specs.Printable.{IsSoundParam, AreSoundParams, IsSound, IsSoundEffect}
use Rattle.plan_texts.specs.Types.{EachIs}
use Rattle.text_values.specs.form_spellings.EachPart.{OfHead, OfAction}
use Rattle.text_values.specs.form_spellings.InTable.{IsNameIn}
use Rattle.htn_base.specs.Lists.{One}
use Rattle.hddl_reader.specs.names.Standing.{InAction}
use Rattle.hddl_reader.specs.names.Uses.{Scope, Use, IsDeclared, InFormula, InEffect}
use Rattle.name_binding.specs.Typed.{params_faults}
use Rattle.name_binding.specs.declared.known.Known.{Known}
use Rattle.name_binding.specs.Effects.{effect_bound, effect_faults}
use Rattle.name_binding.specs.Formulas.{formula_bound, formula_faults}
use Rattle.hddl_bind.specs.Actions.{scope_of, action_bound, action_faults, actions_faults}
use Rattle.hddl_bind.specs.Schemas.{predicate_bound, task_bound, head_faults, heads_faults}
use Rattle.text_values.specs.form_spellings.binding_laws.Formulas.{AreNumberedIn}
use Rattle.text_values.specs.form_spellings.binding_laws.InOrder.{Anywhere, IsPredicateInOrder, IsHeadInOrder, IsActionInOrder}
use Rattle.text_values.specs.form_spellings.binding_laws.Known.{IsKnownOf, HasKnown}
use Rattle.text_values.proofs.form_spellings.binding_laws.EffectSound.{effect_sound}
use Rattle.text_values.proofs.form_spellings.binding_laws.FormulaSound.{arities_of, params_plain, params_sound, formula_sound}
use Rattle.text_values.proofs.form_spellings.binding_laws.Layers.{declared_words, declared_in}
use Rattle.text_values.proofs.form_spellings.binding_laws.SchemaValues.{in_force}
use Rattle.text_values.proofs.form_spellings.binding_laws.Written.{none_left, none_right}

module _ (names : Names) (d : RawDomain) (objects : List Word) (known : Known) (of : IsKnownOf names d objects known) (v : Declared) (has : HasKnown v names known) (arities : List ℕ) (are : arities ≡ arities_of known.predicates) (others : List Word) (enough : length v.objects ≤ length others) where
  abbrev w : Declared
  w = record { names = v.names; types = v.types; unions = v.unions; objects = others; predicates = v.predicates }

  abbrev OfHeads : List RawHead → Scope → Use → Type 0
  OfHeads hs here u = One (λ (h : RawHead). IsDeclared h.params u) hs

  abbrev Numbered : (Scope → Use → Type 0) → Type 0
  Numbered Stands = AreNumberedIn names known.types Stands

  pub predicates_sound : (hs : List RawHead) → EachIs (OfHead (IsNameIn names) Anywhere) hs → EachIs (IsPredicateInOrder names) hs → Numbered (OfHeads hs) → heads_faults known.types hs ≡ [] → EachIs (λ (x : Predicate). EachIs (IsSoundParam w arities) x.params) (map (predicate_bound known.types) hs)
  predicates_sound [] is o n e = tt
  predicates_sound (h ∷ hs) is o n e = (
    params_plain names d objects known of v has arities are others enough h.params is.0.1 o.0.params.plain (λ x s. n [] x (inl s)) (none_left (head_faults known.types h) (heads_faults known.types hs) e),
    predicates_sound hs is.1 o.1 (λ here x s. n here x (inr s)) (none_right (head_faults known.types h) (heads_faults known.types hs) e),
  )

  pub tasks_sound : (hs : List RawHead) → EachIs (OfHead (IsNameIn names) Anywhere) hs → EachIs (IsHeadInOrder names) hs → Numbered (OfHeads hs) → heads_faults known.types hs ≡ [] → EachIs (λ (x : TaskSchema). AreSoundParams w arities x.params) (map (task_bound known.types) hs)
  tasks_sound [] is o n e = tt
  tasks_sound (h ∷ hs) is o n e = (
    params_sound names d objects known of v has arities are others enough h.params is.0.1 o.0.params (λ x s. n [] x (inl s)) (none_left (head_faults known.types h) (heads_faults known.types hs) e),
    tasks_sound hs is.1 o.1 (λ here x s. n here x (inr s)) (none_right (head_faults known.types h) (heads_faults known.types hs) e),
  )

  -- an action with its parameters, its condition and its effect
  abbrev pub IsSoundAction : ActionSchema → Type 0
  IsSoundAction x = AreSoundParams w arities x.params × (IsSound w arities x.pre (map (variable w) x.params) × IsSoundEffect w arities x.eff (map (variable w) x.params))

  action_sound : (a : RawAction) → OfAction (IsNameIn names) Anywhere a → IsActionInOrder names a → Numbered (InAction names a) → action_faults known a ≡ [] → IsSoundAction (action_bound known a)
  action_sound a is o n e =
      let scope = scope_of a.head in
      let params = params_faults known.types a.head.params in
      let pre = formula_faults known scope a.pre in
      let eff = effect_faults known scope a.eff in
      let k = declared_in names a.head.params is.0.1 in
      let same = in_force names d objects known of v has a.head in
      let parts = none_right params (pre ++ eff) e in
      let words = declared_words names a.head.params in (
        params_sound names d objects known of v has arities are others enough a.head.params is.0.1 o.head.params (λ x s. n [] x (InAction.parameter s)) (none_left params (pre ++ eff) e),
        (
          subst (λ ws. IsSound w arities (formula_bound known scope a.pre) ws) same
              (formula_sound names d objects known of v has arities are others enough a.pre scope k is.1 o.pre (subst (λ ws. Numbered (InFormula names a.pre ws)) (sym words) (λ here x s. n here x (InAction.precondition s))) (none_left pre eff parts)),
          subst (λ ws. IsSoundEffect w arities (effect_bound known scope a.eff) ws) same
              (effect_sound names d objects known of v has arities are others enough a.eff scope k is.2 o.eff (subst (λ ws. Numbered (InEffect names a.eff ws)) (sym words) (λ here x s. n here x (InAction.effect s))) (none_right pre eff parts)),
        ),
      )

  pub actions_sound : (actions : List RawAction) → EachIs (OfAction (IsNameIn names) Anywhere) actions → EachIs (IsActionInOrder names) actions → Numbered (λ here u. One (λ a. InAction names a here u) actions) → actions_faults known actions ≡ [] → EachIs IsSoundAction (map (action_bound known) actions)
  actions_sound [] is o n e = tt
  actions_sound (a ∷ actions) is o n e = (
    action_sound a is.0 o.0 (λ here x s. n here x (inl s)) (none_left (action_faults known a) (actions_faults known actions) e),
    actions_sound actions is.1 o.1 (λ here x s. n here x (inr s)) (none_right (action_faults known a) (actions_faults known actions) e),
  )
