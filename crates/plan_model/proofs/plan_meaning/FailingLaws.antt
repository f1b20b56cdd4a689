-- A list of ground actions is a plan, or it fails at one step for one cause.
use Rattle.std.proofs.Common.{ℕ, ◌≡◌, ◌⊎◌, inl, inr, ◌+◌, ◌++◌, List, [], ◌∷◌, length, refl, ap, sym, subst, ◌∙◌, arith, Contains}
use Rattle.plan_model.specs.declared.causes.FailWhy.{FailWhy}
use Rattle.plan_model.specs.declared.causes.FailWhy.TheVariants.{UnknownAction, Arguments, Condition, GoalFalse}
use Rattle.plan_model.specs.declared.schemas.ActionSchema.{ActionSchema}
use Rattle.plan_model.specs.declared.steps.GroundAction.{GroundAction}
use Rattle.plan_model.specs.declared.values.Pddl.{Pddl}
use Rattle.plan_model.specs.plan_meaning.Truth.{State, IsTrueIn, after}
use Rattle.plan_model.specs.plan_meaning.ClassicalPlan.{AreObjects, InTypeOf, IsApplicable, EndsIn}
use Rattle.plan_model.specs.plan_meaning.FailingStep.{IsInstance, NamesAction, HasArguments, IsAllowed, FailsIn, StepFails, FailsFrom, AreNamedApart}
use Rattle.plan_model.specs.plan_meaning.Laws.{EachIsPlanOrFails}
use Rattle.plan_model.proofs.task_networks.Lists.{cuts}

module _ (c : Pddl) where
  abbrev T : State → ActionSchema → List ℕ → State
  T S a objects = after (InTypeOf c) S a.eff objects

  -- what follows of each state that is one of P
  pub ends_weaker : (P Q : State → Type 0) → ((S : State) → P S → Q S) → (S : State) (steps : List GroundAction) → EndsIn c P S steps → EndsIn c Q S steps
  ends_weaker P Q w S [] e = w S e
  ends_weaker P Q w S (step ∷ steps) (a, objects, i, e) = (a, objects, i, ends_weaker P Q w (T S a objects) steps e)

  -- a list taken in two parts
  pub ends_parts : (P : State → Type 0) (S : State) (steps more : List GroundAction) → EndsIn c P S (steps ++ more) → EndsIn c (λ U. EndsIn c P U more) S steps
  ends_parts P S [] more e = e
  ends_parts P S (step ∷ steps) more (a, objects, i, e) = (a, objects, i, ends_parts P (T S a objects) steps more e)

  pub ends_joined : (P : State → Type 0) (S : State) (steps more : List GroundAction) → EndsIn c (λ U. EndsIn c P U more) S steps → EndsIn c P S (steps ++ more)
  ends_joined P S [] more e = e
  ends_joined P S (step ∷ steps) more (a, objects, i, e) = (a, objects, i, ends_joined P (T S a objects) steps more e)

  ends_never : (P : State → Type 0) → ((S : State) → P S → ⊥) → (S : State) (steps : List GroundAction) → EndsIn c P S steps → ⊥
  ends_never P n S [] e = n S e
  ends_never P n S (step ∷ steps) (a, objects, i, e) = ends_never P n (T S a objects) steps e

  instance : (S : State) (step : GroundAction) (a : ActionSchema) (objects : List ℕ) → IsApplicable c S step a objects → IsInstance c step a objects
  instance S step a objects i = record { named = record { action = i.action; name = i.name }; objects_are = i.objects_are; typed = i.typed }

  -- a step that can be taken has no cause
  no_cause : (S : State) (step : GroundAction) (why : FailWhy) → IsAllowed c S step → FailsIn c step why S → ⊥
  no_cause S step UnknownAction (a, objects, i) f = f (a, (instance S step a objects i).named)
  no_cause S step Arguments (a, objects, i) f = f.1 (a, objects, instance S step a objects i)
  no_cause S step Condition allowed f = f.1 allowed
  no_cause S step GoalFalse allowed f = f

  named : (step : GroundAction) → HasArguments c step → NamesAction c step
  named step (a, objects, i) = (a, i.named)

  one_cause : (S : State) (step : GroundAction) (why because : FailWhy) → FailsIn c step why S → FailsIn c step because S → why ≡ because
  one_cause S step UnknownAction UnknownAction f g = refl
  one_cause S step UnknownAction Arguments f g = absurd (f g.0)
  one_cause S step UnknownAction Condition f g = absurd (f (named step g.0))
  one_cause S step Arguments UnknownAction f g = absurd (g f.0)
  one_cause S step Arguments Arguments f g = refl
  one_cause S step Arguments Condition f g = absurd (f.1 g.0)
  one_cause S step Condition UnknownAction f g = absurd (g (named step f.0))
  one_cause S step Condition Arguments f g = absurd (g.1 f.0)
  one_cause S step Condition Condition f g = refl
  one_cause S step GoalFalse because f g = absurd f
  one_cause S step UnknownAction GoalFalse f g = absurd g
  one_cause S step Arguments GoalFalse f g = absurd g
  one_cause S step Condition GoalFalse f g = absurd g

  module _ (apart : AreNamedApart c) where
    pub same_objects : (os us : List ℕ) (words : List (List ℕ)) → AreObjects c os words → AreObjects c us words → os ≡ us
    same_objects [] [] [] e f = refl
    same_objects [] [] (w ∷ ws) e f = absurd e
    same_objects [] (u ∷ us) [] e f = absurd f
    same_objects [] (u ∷ us) (w ∷ ws) e f = absurd e
    same_objects (o ∷ os) us [] e f = absurd e
    same_objects (o ∷ os) [] (w ∷ ws) e f = absurd f
    same_objects (o ∷ os) (u ∷ us) (w ∷ ws) e f = let h = apart.objects o u w e.0 f.0 in let t = same_objects os us ws e.1 f.1 in (λ i. h i ∷ t i)

    same_end : (Q : State → Type 0) (S : State) (step : GroundAction) (steps : List GroundAction) (a b : ActionSchema) (os us : List ℕ)
        → IsApplicable c S step a os → IsApplicable c S step b us → EndsIn c Q (T S b us) steps → EndsIn c Q (T S a os) steps
    same_end Q S step steps a b os us i j e =
        let f = apart.actions b a step (record { action = j.action; name = j.name }) (record { action = i.action; name = i.name }) in
        let g = same_objects us os step.args j.objects_are i.objects_are in
        subst (λ vs. EndsIn c Q (T S a vs) steps) g (subst (λ (d : ActionSchema). EndsIn c Q (T S d us) steps) f e)

    ends_both : (P Q : State → Type 0) (S : State) (steps : List GroundAction) → EndsIn c P S steps → EndsIn c Q S steps → EndsIn c (λ U. P U × Q U) S steps
    ends_both P Q S [] e f = (e, f)
    ends_both P Q S (step ∷ steps) (a, os, i, e) (b, us, j, f) = (a, os, i, ends_both P Q (T S a os) steps e (same_end Q S step steps a b os us i j f))

    -- a step that fails is not one of a list that ends
    not_past : (P : State → Type 0) (S : State) (before more : List GroundAction) (step : GroundAction) (why : FailWhy) → EndsIn c P S (before ++ step ∷ more) → EndsIn c (FailsIn c step why) S before → ⊥
    not_past P S before more step why e f =
        ends_never (λ U. EndsIn c P U (step ∷ more) × FailsIn c step why U) (λ U x. no_cause U step why (x.0.0, x.0.1, x.0.2) x.1) S before
        (ends_both (λ U. EndsIn c P U (step ∷ more)) (FailsIn c step why) S before (ends_parts P S before (step ∷ more) e) f)

    not_there : (P : State → Type 0) (S : State) (steps : List GroundAction) (n : ℕ) (why : FailWhy) → EndsIn c P S steps → StepFails c S steps n why → ⊥
    not_there P S steps n why e (before, rest, step, is, at, f) = not_past P S before rest step why (subst (EndsIn c P S) is e) f

    plan_fails : (S : State) (steps : List GroundAction) (n : ℕ) (why : FailWhy) → EndsIn c (λ U. IsTrueIn (InTypeOf c) U c.goal []) S steps → FailsFrom c S steps n why → ⊥
    plan_fails S steps n why e (inl f) = not_there (λ U. IsTrueIn (InTypeOf c) U c.goal []) S steps n why e f
    plan_fails S steps n why e (inr (at, is, f)) =
        ends_never (λ U. IsTrueIn (InTypeOf c) U c.goal [] × (IsTrueIn (InTypeOf c) U c.goal [] → ⊥)) (λ U x. x.1 x.0) S steps
        (ends_both (λ U. IsTrueIn (InTypeOf c) U c.goal []) (λ U. IsTrueIn (InTypeOf c) U c.goal [] → ⊥) S steps e f)

    abbrev Same : ℕ → ℕ → FailWhy → FailWhy → Type 0
    Same n m why because = (n ≡ m) × (why ≡ because)

    fails_once : (S : State) (steps : List GroundAction) (n m : ℕ) (why because : FailWhy) → FailsFrom c S steps n why → FailsFrom c S steps m because → Same n m why because
    fails_once S steps n m why because (inl f) (inr g) = absurd (not_there (λ U. IsTrueIn (InTypeOf c) U c.goal [] → ⊥) S steps n why g.2 f)
    fails_once S steps n m why because (inr f) (inl g) = absurd (not_there (λ U. IsTrueIn (InTypeOf c) U c.goal [] → ⊥) S steps m because f.2 g)
    fails_once S steps n m why because (inr f) (inr g) = (f.0 ∙ sym g.0, f.1 ∙ sym g.1)
    fails_once S steps n m why because (inl (xs, ys, x, is, at, f)) (inl (zs, ws, z, is', at', g)) = go (cuts xs x ys zs z ws (sym is ∙ is'))
      where
        alone : xs ≡ zs → x ≡ z → EndsIn c (FailsIn c x because) S xs
        alone p q = subst (λ (s : GroundAction). EndsIn c (FailsIn c s because) S xs) (sym q) (subst (EndsIn c (FailsIn c z because) S) (sym p) g)

        cause : (U : State) (step : GroundAction) (before : List GroundAction) → EndsIn c (λ U. FailsIn c x why U × FailsIn c x because U) U before → why ≡ because
        cause U step [] e = one_cause U x why because e.0 e.1
        cause U step (s ∷ before) (a, os, i, e) = cause (T U a os) step before e

        go : ((xs ≡ zs) × (x ≡ z)) ⊎ (((more : List GroundAction) × (zs ≡ xs ++ x ∷ more)) ⊎ ((more : List GroundAction) × (xs ≡ zs ++ z ∷ more))) → Same n m why because
        go (inl (p, q)) = (at ∙ ap (λ us. length us + 1) p ∙ sym at', cause S x xs (ends_both (FailsIn c x why) (FailsIn c x because) S xs f (alone p q)))
        go (inr (inl (more, p))) = absurd (not_past (FailsIn c z because) S xs more x why (subst (EndsIn c (FailsIn c z because) S) p g) f)
        go (inr (inr (more, p))) = absurd (not_past (FailsIn c x why) S zs more z because (subst (EndsIn c (FailsIn c x why) S) p f) g)

  -- what fails behind the first step fails
  pub later : (S : State) (step : GroundAction) (steps : List GroundAction) (a : ActionSchema) (os : List ℕ) → IsApplicable c S step a os → (n : ℕ) (why : FailWhy) → FailsFrom c (T S a os) steps n why → FailsFrom c S (step ∷ steps) (n + 1) why
  later S step steps a os i n why (inl (before, rest, s, is, at, f)) = inl (step ∷ before, rest, s, ap (λ t. step ∷ t) is, (let h : n + 1 ≡ length (step ∷ before) + 1 = omega (arith, at) in h), (a, os, i, f))
  later S step steps a os i n why (inr (at, is, f)) = inr ((let h : n + 1 ≡ length (step ∷ steps) + 1 = omega (arith, at) in h), is, (a, os, i, f))

  one_of : (S : State) (steps : List GroundAction) → (EndsIn c (λ U. IsTrueIn (InTypeOf c) U c.goal []) S steps → ⊥) → ((n : ℕ) (why : FailWhy) → FailsFrom c S steps n why → ⊥) → ⊥
  one_of S [] plan fails = fails 1 GoalFalse (inr (refl, refl, plan))
  one_of S (step ∷ steps) plan fails =
      fails 1 UnknownAction (inl (
        [],
        steps,
        step,
        refl,
        refl,
        λ known.
            fails 1 Arguments (inl (
              [],
              steps,
              step,
              refl,
              refl,
              (
                known,
                λ has.
                    fails 1 Condition (inl (
                      [],
                      steps,
                      step,
                      refl,
                      refl,
                      (
                        has,
                        λ allowed.
                            one_of (T S allowed.0 allowed.1) steps (λ e. plan (allowed.0, allowed.1, allowed.2, e)) (λ n why f. fails (n + 1) why (later S step steps allowed.0 allowed.1 allowed.2 n why f)),
                      ),
                    )),
              ),
            )),
      ))

pub each_is_plan_or_fails : (p : Pddl) → AreNamedApart p → EachIsPlanOrFails p
each_is_plan_or_fails p apart steps = record {
  one_of = one_of p (Contains p.init) steps;
  not_both = λ n why e f. plan_fails p apart (Contains p.init) steps n why e f;
  step = λ n m why because f g. (fails_once p apart (Contains p.init) steps n m why because f g).0;
  cause = λ n m why because f g. (fails_once p apart (Contains p.init) steps n m why because f g).1;
}
