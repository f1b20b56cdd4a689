-- Of two values that are the same but for names the same conditions may be true, and the same may be added.
use Rattle.std.proofs.Common.{ℕ, zero, suc, ◌≡◌, ◌-◌, ◌↔◌, List, [], refl, ap, sym, subst, arith}
use Rattle.text_forms.specs.Words.{Word}
use Rattle.plan_texts.specs.SpellsHddl.{hddl_words}
use Rattle.plan_texts.specs.Printable.{IsSound, IsSoundEffect}
use Rattle.plan_texts.specs.SoundValue.{IsSoundHddl, arities}
use Rattle.plan_texts.specs.Said.{said, done}
use Rattle.plan_model.specs.Typing.{InType}
use Rattle.plan_model.specs.declared.terms.GroundAtom.{GroundAtom}
use Rattle.plan_model.specs.declared.formulas.Formula.{Formula}
use Rattle.plan_model.specs.declared.effects.Effect.{Effect}
use Rattle.plan_model.specs.declared.schemas.ActionSchema.{ActionSchema}
use Rattle.plan_model.specs.declared.schemas.MethodPlan.{MethodPlan}
use Rattle.plan_model.specs.declared.values.Hddl.{Hddl}
use Rattle.plan_model.specs.declared.values.Compiled.{Compiled}
use Rattle.plan_model.specs.plan_meaning.Network.{InTypeOf}
use Rattle.plan_model.specs.plan_meaning.Truth.{State}
use Rattle.slot_encoding.specs.SourceParts.{retyped}
use Rattle.plan_proof.specs.Same.{AreSameButNames}
use Rattle.plan_proof.proofs.values.TypeNumbers.{AreApart}
use Rattle.plan_proof.proofs.values.SameTypes.{in_same, formula-printed, effect-printed}
use Rattle.decode_answers.proofs.AlikeValues.{AreTwins, SamePlan, SameAction}
use Rattle.reached_parts.specs.MayBeTrue.{MayBeTrue, MayAdd}
use Rattle.ground_answers.proofs.MaySource.{may-source, may_add-source}

-- what the two say alike: both are printed in one way
module _ (c d : Hddl) (same : AreSameButNames c d) (sc : IsSoundHddl c) (sd : IsSoundHddl d) (apart : AreApart (hddl_words d).unions) (R : State) where
  abbrev InC : ℕ → ℕ → Type 0
  InC = InType c.types c.objects

  abbrev InD : ℕ → ℕ → Type 0
  InD = InType d.types d.objects

  -- the printed number of a type
  abbrev InPrinted : ℕ → ℕ → Type 0
  InPrinted o n = InC o (n - 2)

  shifted : (t : ℕ) → retyped t - 2 ≡ t
  shifted zero = refl
  shifted (suc t) = omega arith

  in_here : (o t : ℕ) → InPrinted o (retyped t) ↔ InC o t
  in_here o t = (λ x. subst (InC o) (shifted t) x, λ x. subst (InC o) (sym (shifted t)) x)

  in_there : (o t : ℕ) → InPrinted o (retyped t) ↔ InD o t
  in_there o t = let e = in_same c d same sc sd o t in let h = in_here o t in (λ x. e.0 (h.0 x), λ x. h.1 (e.1 x))

  pub may_same : (f g : Formula) (scope scope' : List Word) → said (hddl_words c) f ≡ said (hddl_words d) g → IsSound (hddl_words c) (arities c) f scope
      → IsSound (hddl_words d) (arities d) g scope' → (values : List ℕ) → MayBeTrue InC R f values → MayBeTrue InD R g values
  may_same f g scope scope' e s t values x =
      let h = formula-printed c d same sc sd apart [] 0 f g scope scope' e s t in
      (may-source [] d.names InD InPrinted in_there R g values).0 (subst (λ z. MayBeTrue InPrinted R z values) h ((may-source [] c.names InC InPrinted in_here R f values).1 x))

  pub may_add_same : (f g : Effect) (scope scope' : List Word) → done (hddl_words c) f ≡ done (hddl_words d) g → IsSoundEffect (hddl_words c) (arities c) f scope
      → IsSoundEffect (hddl_words d) (arities d) g scope' → (values : List ℕ) (a : GroundAtom) → MayAdd InC R f values a → MayAdd InD R g values a
  may_add_same f g scope scope' e s t values a x =
      let h = effect-printed c d same sc sd apart [] 0 f g scope scope' e s t in
      (may_add-source [] d.names InD InPrinted in_there R g values a).0 (subst (λ z. MayAdd InPrinted R z values a) h ((may_add-source [] c.names InC InPrinted in_here R f values a).1 x))

module _ (c d : Compiled) (t : AreTwins c d) (R : State) where
  pub plan_may : (p q : MethodPlan) → SamePlan c d p q → (values : List ℕ) → MayBeTrue (InTypeOf c) R p.schema.pre values → MayBeTrue (InTypeOf d) R q.schema.pre values
  plan_may p q r values x =
      may_same c.hddl d.hddl t.same t.sound t.sound_other t.apart R p.schema.pre q.schema.pre r.1.0.scope r.1.1.scope (ap (λ z. z.3) r.0.schema) r.1.0.pre r.1.1.pre values x

  pub action_may : (s u : ActionSchema) → SameAction c d s u → (values : List ℕ) → MayBeTrue (InTypeOf c) R s.pre values → MayBeTrue (InTypeOf d) R u.pre values
  action_may s u r values x = may_same c.hddl d.hddl t.same t.sound t.sound_other t.apart R s.pre u.pre _ _ (ap (λ z. z.2) r.0) r.1.pre r.2.pre values x

  pub action_may_add : (s u : ActionSchema) → SameAction c d s u → (values : List ℕ) (a : GroundAtom) → MayAdd (InTypeOf c) R s.eff values a → MayAdd (InTypeOf d) R u.eff values a
  action_may_add s u r values a x = may_add_same c.hddl d.hddl t.same t.sound t.sound_other t.apart R s.eff u.eff _ _ (ap (λ z. z.3) r.0) r.1.eff r.2.eff values a x
