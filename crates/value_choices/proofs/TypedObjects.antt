-- Objects of declared types.
use Rattle.std.proofs.Common.{ℕ, zero, suc, ◌≡◌, ◌+◌, ◌<◌, ◌↔◌, inl, inr, List, [], ◌∷◌, length, get_or, Some, refl, ap, sym, subst, ◌∙◌, arith}
use Rattle.std.proofs.lemmas.Bool.{cases_lt}
use Rattle.std.proofs.lemmas.List.{get_or_default}
use Rattle.plan_model.specs.declared.networks.Head.{Head}
use Rattle.plan_model.specs.declared.networks.Head.TheVariants.{Task, Action, Check}
use Rattle.plan_model.specs.declared.terms.Param.{Param}
use Rattle.plan_model.specs.declared.schemas.TaskSchema.{TaskSchema}
use Rattle.plan_model.specs.declared.schemas.ActionSchema.{ActionSchema}
use Rattle.plan_model.specs.declared.schemas.MethodPlan.{MethodPlan}
use Rattle.plan_model.specs.declared.types.Types.{Types}
use Rattle.plan_model.specs.declared.types.Object.{Object}
use Rattle.plan_model.specs.declared.values.Compiled.{Compiled}
use Rattle.plan_model.specs.Typing.{InType}
use Rattle.plan_model.specs.plan_meaning.Truth.{AreTyped}
use Rattle.plan_model.specs.plan_meaning.Network.{Work, action, check, task, InTypeOf, AreParamsOf, objects_of, IsDeclared}
use Rattle.value_choices.specs.DeclaredParams.{work_of}

-- the first i objects are of the types of the first i parameters, if all are
module _ (Is : ℕ → ℕ → Type 0) where
  pub typed_length : (params : List Param) (objects : List ℕ) → AreTyped Is params objects → length objects ≡ length params
  typed_length [] [] t = refl
  typed_length (p ∷ ps) (o ∷ os) t = ap suc (typed_length ps os t.1)
  typed_length [] (o ∷ os) t = absurd t
  typed_length (p ∷ ps) [] t = absurd t

  pub typed_at : (params : List Param) (objects : List ℕ) (i : ℕ) (d : Param) → i < length params → AreTyped Is params objects
      → Is (get_or objects i 0) (get_or params i d).ty
  typed_at [] objects i d l t = absurd (omega arith)
  typed_at (p ∷ ps) [] i d l t = absurd t
  typed_at (p ∷ ps) (o ∷ os) zero d l t = t.0
  typed_at (p ∷ ps) (o ∷ os) (suc i) d l t = typed_at ps os i d (omega arith) t.1

  pub typed_all : (params : List Param) (objects : List ℕ) → length params ≡ length objects
      → ((i : ℕ) (d : Param) → i < length params → Is (get_or objects i 0) (get_or params i d).ty) → AreTyped Is params objects
  typed_all [] [] e h = tt
  typed_all (p ∷ ps) (o ∷ os) e h = (h 0 p (omega arith), typed_all ps os (omega arith) (λ i d l. h (suc i) d (omega arith)))
  typed_all [] (o ∷ os) e h = absurd (omega arith)
  typed_all (p ∷ ps) [] e h = absurd (omega arith)

  -- one object more is of its type
  pub typed_more : (params : List Param) (objects : List ℕ) (i : ℕ) (none : Param) → i < length params → Is (get_or objects i 0)
      (get_or params i none).ty
      → ((k : ℕ) (d : Param) → k < i → Is (get_or objects k 0) (get_or params k d).ty)
      → (k : ℕ) (d : Param) → k < i + 1 → Is (get_or objects k 0) (get_or params k d).ty
  typed_more params objects i none l here all k d m = elim (cases_lt k i) [
    | inl n ↦ all k d n
    | inr n ↦ (
        let same : i ≡ k = omega arith in
        let is : Is (get_or objects i 0) (get_or params i d).ty = subst (λ (p : Param). Is (get_or objects i 0) p.ty)
        (get_or_default params i none d l) here in
        subst (λ j. Is (get_or objects j 0) (get_or params j d).ty) same is)
  ]

module _ (c : Compiled) where
  objects_are : (head : Head) (objects : List ℕ) → objects_of c (work_of head objects) ≡ objects
  objects_are (Task t) objects = refl
  objects_are (Action a) objects = refl
  objects_are Check objects = refl

  pub one_params : (w : Work) (params others : List Param) → AreParamsOf c w params → AreParamsOf c w others → params ≡ others
  one_params (action a args) params others (s, e, f) (t, g, h) =
      let same : s ≡ t = (let x : Some s ≡ Some t = sym e ∙ g in cc) in sym f ∙ ap (λ (z : ActionSchema). z.params) same ∙ h
  one_params (check m values) params others (s, e, f) (t, g, h) =
      let same : s ≡ t = (let x : Some s ≡ Some t = sym e ∙ g in cc) in sym f ∙ ap (λ (z : MethodPlan). z.schema.params) same ∙ h
  one_params (task t args) params others (s, e, f) (u, g, h) =
      let same : s ≡ u = (let x : Some s ≡ Some u = sym e ∙ g in cc) in sym f ∙ ap (λ (z : TaskSchema). z.params) same ∙ h

  module _ (head : Head) (objects : List ℕ) where
    pub declared_as : (params : List Param) → AreParamsOf c (work_of head objects) params → (types : Types) (all : List Object)
        → types ≡ c.hddl.types
        → all ≡ c.hddl.objects → AreTyped (InType types all) params objects ↔ IsDeclared c (work_of head objects)
    declared_as params p types all e f = (
      λ t. (params, p, subst (AreTyped (InTypeOf c) params) (sym (objects_are head objects)) (here t)),
      λ (others, q, t). back (subst (AreTyped (InTypeOf c) params) (objects_are head objects)
          (subst (λ ps. AreTyped (InTypeOf c) ps (objects_of c (work_of head objects)))
          (one_params (work_of head objects) others params q p) t)),
    )
      where
        here : AreTyped (InType types all) params objects → AreTyped (InTypeOf c) params objects
        here t = subst (λ z. AreTyped (InType c.hddl.types z) params objects) f (subst (λ z. AreTyped (InType z all) params objects) e t)

        back : AreTyped (InTypeOf c) params objects → AreTyped (InType types all) params objects
        back t = subst (λ z. AreTyped (InType z all) params objects) (sym e)
            (subst (λ z. AreTyped (InType c.hddl.types z) params objects) (sym f) t)

    pub not_declared : ((params : List Param) → AreParamsOf c (work_of head objects) params → ⊥) → IsDeclared c (work_of head objects) → ⊥
    not_declared none (params, p, t) = none params p
