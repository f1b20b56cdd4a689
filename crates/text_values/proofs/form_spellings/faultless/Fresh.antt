-- A sound value declares no variable twice.
use Rattle.std.proofs.Common.{ℕ, ◌≡◌, List, [], ◌∷◌, ◌++◌, map, refl, sym, subst}
use Rattle.htn_base.specs.Different.{AreDifferent}
use Rattle.text_forms.specs.Words.{Word}
use Rattle.plan_model.specs.declared.effects.Effect.{Effect, roll-Effect}
use Rattle.plan_model.specs.declared.effects.Effect.TheFolds.{rec-roll-Effect, map-Effect, ind-Effect}
use Rattle.plan_model.specs.declared.effects.Effect.TheOpen.{Effect-F}
use Rattle.plan_model.specs.declared.formulas.Formula.{Formula, roll-Formula}
use Rattle.plan_model.specs.declared.formulas.Formula.TheFolds.{rec-roll-Formula, map-Formula, ind-Formula}
use Rattle.plan_model.specs.declared.formulas.Formula.TheOpen.{Formula-F}
use Rattle.plan_model.specs.declared.schemas.ActionSchema.{ActionSchema}
use Rattle.plan_model.specs.declared.schemas.MethodSchema.{MethodSchema}
use Rattle.plan_model.specs.declared.schemas.TaskSchema.{TaskSchema}
use Rattle.plan_model.specs.declared.terms.Param.{Param}
use Rattle.plan_model.specs.declared.types.Object.{Object}
use Rattle.plan_model.specs.declared.values.Hddl.{Hddl}
use Rattle.plan_texts.specs.Declared.{Declared, named, variable}
use Rattle.plan_texts.specs.Domains.{domain_words}
use Rattle.plan_texts.specs.Printable.{AreSoundParams, sound_step, IsSound, sound_effect_step, IsSoundEffect}
use Rattle.plan_texts.specs.SoundValue.{arities, scope_of, IsSoundMethod}
use Rattle.plan_texts.specs.SpellsHddl.{hddl_words, hddl_domain}
use Rattle.plan_texts.specs.Types.{EachIs}
use Rattle.plan_texts.proofs.Spelled.{each_is-map, sound_roll}
use Rattle.plan_texts.proofs.SpelledEffects.{sound_roll as sound_effect_roll}
use Rattle.text_values.specs.form_spellings.DeclaresOnce.{DeclaresOnce, TaskDeclaresOnce, MethodDeclaresOnce, ActionDeclaresOnce}
use Rattle.text_values.specs.form_spellings.Fresh.{fresh_step, AreFresh, fresh_effect_step, AreFreshEffects}
use Rattle.text_values.proofs.form_spellings.faultless.Parts.{each_more}
use Rattle.text_values.proofs.form_spellings.faultless.Sound.{IsSoundAtAnyLength}

module _ (v : Declared) where
  natural : (X : Type 0) (u : X → Formula) (k : Formula → Type 0) (x : Formula-F X) → fresh_step v (λ p. k (u p)) x ≡ fresh_step v k (map-Formula X Formula u x)
  natural X u k (Formula-F.Holds a) = refl
  natural X u k (Formula-F.Equal s t) = refl
  natural X u k (Formula-F.Not f) = refl
  natural X u k (Formula-F.And fs) = each_is-map u k fs
  natural X u k (Formula-F.Or fs) = each_is-map u k fs
  natural X u k (Formula-F.Imply f g) = refl
  natural X u k (Formula-F.Forall xs f) = refl
  natural X u k (Formula-F.Exists xs f) = refl

  fresh_roll : (x : Formula-F Formula) → fresh_step v (AreFresh v) x → AreFresh v (roll-Formula x)
  fresh_roll x h = subst (λ (z : Type 0). z) (sym (rec-roll-Formula (Type 0) (λ X u k layer. fresh_step v k layer) natural x)) h

  effect_natural : (X : Type 0) (u : X → Effect) (k : Effect → Type 0) (x : Effect-F X) → fresh_effect_step v (λ p. k (u p)) x ≡ fresh_effect_step v k (map-Effect X Effect u x)
  effect_natural X u k (Effect-F.Add a) = refl
  effect_natural X u k (Effect-F.Delete a) = refl
  effect_natural X u k (Effect-F.And es) = each_is-map u k es
  effect_natural X u k (Effect-F.Forall xs e) = refl
  effect_natural X u k (Effect-F.When f e) = refl

  fresh_effect_roll : (x : Effect-F Effect) → fresh_effect_step v (AreFreshEffects v) x → AreFreshEffects v (roll-Effect x)
  fresh_effect_roll x h = subst (λ (z : Type 0). z) (sym (rec-roll-Effect (Type 0) (λ X u k layer. fresh_effect_step v k layer) effect_natural x)) h

  -- where the names are those of the words over which the value is sound
  module _ (w : Declared) (e : w.names ≡ v.names) (arities : List ℕ) where
    pub different : (xs : List Param) → AreDifferent (map (variable w) xs) → AreDifferent (map (variable v) xs)
    different xs d = subst (λ ns. AreDifferent (map (λ (x : Param). named ns x.name) xs)) e d

    abbrev Claim : Formula → Type 0
    Claim f = (scope : List Word) → IsSound w arities f scope → AreFresh v f

    abbrev Proved : Type 0
    Proved = (f : Formula) × Claim f

    abbrev opened : Formula-F Proved → Formula-F Formula
    opened y = map-Formula Proved Formula (λ e. e.0) y

    many : (fs : List Proved) (scope : List Word) → EachIs (λ f. IsSound w arities f scope) (map (λ e. e.0) fs) → EachIs (AreFresh v) (map (λ e. e.0) fs)
    many [] scope s = tt
    many (f ∷ fs) scope s = (f.1 scope s.0, many fs scope s.1)

    level : (y : Formula-F Proved) (scope : List Word) → sound_step w arities (IsSound w arities) (opened y) scope → fresh_step v (AreFresh v) (opened y)
    level (Formula-F.Holds a) scope s = tt
    level (Formula-F.Equal p q) scope s = tt
    level (Formula-F.Not f) scope s = f.1 scope s
    level (Formula-F.And fs) scope s = many fs scope s
    level (Formula-F.Or fs) scope s = many fs scope s
    level (Formula-F.Imply f g) scope s = (f.1 scope s.0, g.1 scope s.1)
    level (Formula-F.Forall xs f) scope s = (different xs s.0.1, f.1 (scope ++ map (variable w) xs) s.1)
    level (Formula-F.Exists xs f) scope s = (different xs s.0.1, f.1 (scope ++ map (variable w) xs) s.1)

    pub formula_fresh : (f : Formula) → Claim f
    formula_fresh = ind-Formula Claim (λ x y is. subst (λ z. Claim (roll-Formula z)) is (claim (opened y) (level y)))
      where
        claim : (x : Formula-F Formula) → ((scope : List Word) → sound_step w arities (IsSound w arities) x scope → fresh_step v (AreFresh v) x) → Claim (roll-Formula x)
        claim x h scope s = fresh_roll x (h scope (subst (λ (z : List Word → Type 0). z scope) (sound_roll w arities x) s))

    abbrev EffectClaim : Effect → Type 0
    EffectClaim e = (scope : List Word) → IsSoundEffect w arities e scope → AreFreshEffects v e

    abbrev ProvedEffect : Type 0
    ProvedEffect = (e : Effect) × EffectClaim e

    abbrev opened_effect : Effect-F ProvedEffect → Effect-F Effect
    opened_effect y = map-Effect ProvedEffect Effect (λ e. e.0) y

    many_effects : (es : List ProvedEffect) (scope : List Word) → EachIs (λ e. IsSoundEffect w arities e scope) (map (λ e. e.0) es) → EachIs (AreFreshEffects v) (map (λ e. e.0) es)
    many_effects [] scope s = tt
    many_effects (e ∷ es) scope s = (e.1 scope s.0, many_effects es scope s.1)

    effect_level : (y : Effect-F ProvedEffect) (scope : List Word) → sound_effect_step w arities (IsSoundEffect w arities) (opened_effect y) scope → fresh_effect_step v (AreFreshEffects v) (opened_effect y)
    effect_level (Effect-F.Add a) scope s = tt
    effect_level (Effect-F.Delete a) scope s = tt
    effect_level (Effect-F.And es) scope s = many_effects es scope s
    effect_level (Effect-F.Forall xs e) scope s = (different xs s.0.1, e.1 (scope ++ map (variable w) xs) s.1)
    effect_level (Effect-F.When f e) scope s = (formula_fresh f scope s.0, e.1 scope s.1)

    pub effect_fresh : (e : Effect) → EffectClaim e
    effect_fresh = ind-Effect EffectClaim (λ x y is. subst (λ z. EffectClaim (roll-Effect z)) is (claim (opened_effect y) (effect_level y)))
      where
        claim : (x : Effect-F Effect) → ((scope : List Word) → sound_effect_step w arities (IsSoundEffect w arities) x scope → fresh_effect_step v (AreFreshEffects v) x) → EffectClaim (roll-Effect x)
        claim x h scope s = fresh_effect_roll x (h scope (subst (λ (z : List Word → Type 0). z scope) (sound_effect_roll w arities x) s))

module _ (h : Hddl) (s : IsSoundAtAnyLength h) (cs : List Object) where
  abbrev Own : Declared
  Own = domain_words (hddl_domain h cs)

  abbrev All : Declared
  All = hddl_words h

  actions_once : (xs : List ActionSchema) → EachIs (λ (a : ActionSchema). AreSoundParams All (arities h) a.params) xs → EachIs (λ (a : ActionSchema). IsSound All (arities h) a.pre (scope_of h a.params)) xs
      → EachIs (λ (a : ActionSchema). IsSoundEffect All (arities h) a.eff (scope_of h a.params)) xs → EachIs (ActionDeclaresOnce Own) xs
  actions_once [] p q r = tt
  actions_once (a ∷ xs) p q r =
      ((different Own All refl (arities h) a.params p.0.1, formula_fresh Own All refl (arities h) a.pre (scope_of h a.params) q.0, effect_fresh Own All refl (arities h) a.eff (scope_of h a.params) r.0), actions_once xs p.1 q.1 r.1)

  method_once : (m : MethodSchema) → IsSoundMethod h m → MethodDeclaresOnce Own m
  method_once m i = (different Own All refl (arities h) m.params i.params.1, formula_fresh Own All refl (arities h) m.pre (scope_of h m.params) i.pre)

  pub declares_once : DeclaresOnce (hddl_domain h cs)
  declares_once = record {
    tasks = each_more (λ (t : TaskSchema). AreSoundParams All (arities h) t.params) (TaskDeclaresOnce Own) h.tasks (λ t p. different Own All refl (arities h) t.params p.1) s.value.task_params;
    methods = each_more (IsSoundMethod h) (MethodDeclaresOnce Own) h.methods method_once s.value.methods;
    actions = actions_once h.actions s.value.action_params s.value.pre s.value.eff;
  }
