-- The names of the methods that have a check, and the types of guards.
use Rattle.std.proofs.Common.{ℕ, ◌≡◌, ◌<◌, Bool, true, false, cond, List, [], ◌∷◌, map, filter, length, refl, ap, sym, subst}
use Rattle.text_forms.specs.Words.{Word}
use Rattle.plan_model.specs.declared.options.Checks.{Checks}
use Rattle.plan_model.specs.declared.formulas.Formula.TheVariants.{And}
use Rattle.plan_model.specs.declared.networks.Guard.{Guard}
use Rattle.plan_model.specs.declared.schemas.MethodSchema.{MethodSchema}
use Rattle.plan_model.specs.declared.schemas.MethodPlan.{MethodPlan}
use Rattle.plan_model.specs.declared.values.Compiled.{Compiled}
use Rattle.plan_texts.specs.Declared.{named, kinds}
use Rattle.htn_base.specs.Different.{AreDifferent}
use Rattle.plan_texts.specs.Types.{Has, EachIs}
use Rattle.plan_texts.specs.SpellsHddl.{hddl_words}
use Rattle.plan_texts.specs.Printable.{IsPlain}
use Rattle.plan_texts.specs.SoundValue.{IsSoundHddl, method_words}
use Rattle.plan_texts.proofs.Members.{each-has, has-of_map}
use Rattle.plan_model.specs.plan_meaning.Compilation.{IsMethodPlan, AreMethodPlans, IsCompiled}
use Rattle.slot_encoding.specs.EncodedNames.{joined, checked_methods}
use Rattle.slot_encoding.proofs.places.Predicates.{is_checked}
use Rattle.slot_encoding.proofs.words.Lists.{each-of_map, each-filter, different-filter, joined-has}
use Rattle.slot_encoding.proofs.words.PlanParts.{IsSoundPlan, IsPlanGuard, sound_plans}

module _ (c : Compiled) (mode : Checks) (compiled : IsCompiled c.hddl mode c) (sound : IsSoundHddl c.hddl) where
  abbrev pub plan_word : MethodPlan → Word
  plan_word plan = named c.hddl.names plan.schema.name

  rest_named : (ss : List MethodSchema) (ps : List MethodPlan) → AreMethodPlans c.hddl mode ss ps → map plan_word ps ≡ map (λ (s : MethodSchema). named c.hddl.names s.name) ss
  rest_named [] [] a = refl
  rest_named [] (p ∷ ps) a = absurd a
  rest_named (s ∷ ss) [] a = absurd a
  rest_named (s ∷ ss) (p ∷ ps) a =
      let e : plan_word p ≡ named c.hddl.names s.name = ap (λ (z : MethodSchema). named c.hddl.names z.name) a.0.schema in
      let r = rest_named ss ps a.1 in
      λ i. e i ∷ r i

  -- the methods but the top one
  pub others_named : (p : MethodPlan) (ps : List MethodPlan) → c.methods ≡ p ∷ ps → map (λ (plan : MethodPlan). named c.hddl.names plan.schema.name) ps ≡ method_words c.hddl
  others_named p ps e = rest_named c.hddl.methods ps (subst (AreMethodPlans c.hddl mode (c.hddl.top ∷ c.hddl.methods)) e compiled.methods).1

  module _ (top_free : c.hddl.top.pre ≡ And []) where
    unchecked : (p : MethodPlan) → IsMethodPlan c.hddl mode c.hddl.top p → p.checked ≡ false
    unchecked p is = go p.checked refl
      where
        go : (t : Bool) → p.checked ≡ t → t ≡ false
        go false e = refl
        go true e = absurd ((is.checked.0 e).1 top_free)

    -- what holds of all methods but the top one holds of the checked ones
    of_checked : (P : List MethodPlan → Type 0) → ((ps : List MethodPlan) → map plan_word ps ≡ method_words c.hddl → P (filter is_checked ps)) → P (checked_methods c)
    of_checked P h = go c.methods compiled.methods
      where
        go : (ps : List MethodPlan) → AreMethodPlans c.hddl mode (c.hddl.top ∷ c.hddl.methods) ps → P (filter is_checked ps)
        go [] a = absurd a
        go (p ∷ ps) a = subst (λ t. P (cond t (p ∷ filter is_checked ps) (filter is_checked ps))) (sym (unchecked p a.0)) (h ps (rest_named c.hddl.methods ps a.1))

    pub checks_differ : AreDifferent (map (λ (plan : MethodPlan). named c.hddl.names plan.schema.name) (checked_methods c))
    checks_differ = of_checked (λ ps. AreDifferent (map plan_word ps)) (λ ps e. different-filter plan_word is_checked ps (subst AreDifferent (sym e) sound.methods_differ))

    pub checks_plain : EachIs (λ (plan : MethodPlan). IsPlain (named c.hddl.names plan.schema.name)) (checked_methods c)
    checks_plain = of_checked (EachIs (λ (plan : MethodPlan). IsPlain (plan_word plan))) (λ ps e. each-filter (λ (plan : MethodPlan). IsPlain (plan_word plan)) is_checked ps (each-of_map IsPlain plan_word ps (subst (EachIs IsPlain) (sym e) sound.methods_named)))

  -- the types of guards are types or unions
  pub guard_type_within : (ty : ℕ) → Has (joined (map (λ (plan : MethodPlan). map (λ (g : Guard). g.ty) plan.guards) c.methods)) ty → ty < length (kinds (hddl_words c.hddl))
  guard_type_within ty m =
      let (tys, k, n) = joined-has (map (λ (plan : MethodPlan). map (λ (g : Guard). g.ty) plan.guards) c.methods) ty m in
      let (plan, a, e) = has-of_map (λ (plan : MethodPlan). map (λ (g : Guard). g.ty) plan.guards) c.methods tys k in
      let (g, d, f) = has-of_map (λ (g : Guard). g.ty) plan.guards ty (subst (λ z. Has z ty) (sym e) n) in
      let s = each-has (IsSoundPlan c) c.methods plan (sound_plans c mode compiled sound) a in
      subst (λ z. z < length (kinds (hddl_words c.hddl))) f (each-has (IsPlanGuard c plan.schema.params) plan.guards g s.guards d).0
