-- Actions and objects found by their words.
use Rattle.std.proofs.Common.{ℕ, ◌≡◌, inl, inr, List, length, map, Contains, Option, Some, None, slice_get, ap, sym, subst, ◌∙◌}
use Rattle.std.proofs.lemmas.Option.{slice_get_within, slice_get-get_or, get_or_from_slice_get, slice_get-map, slice_get_cases}
use Rattle.std.specs.Option.{option_map}
use Rattle.htn_base.specs.declared.name.Name.{Name}
use Rattle.plan_model.specs.declared.types.Object.{Object}
use Rattle.plan_model.specs.declared.types.Types.{Types}
use Rattle.plan_model.specs.declared.schemas.ActionSchema.{ActionSchema}
use Rattle.plan_model.specs.declared.steps.GroundAction.{GroundAction}
use Rattle.plan_model.specs.declared.values.Pddl.{Pddl}
use Rattle.plan_model.specs.Typing.{InType}
use Rattle.plan_model.specs.plan_meaning.ClassicalPlan.{HasWord, InTypeOf}
use Rattle.plan_model.specs.plan_meaning.FailingStep.{IsNamed, NamesAction, AreNamedApart}
use Rattle.problem_index.specs.Places.{HasWordAt, ArePlaces, IsThePlace, Finds}
use Rattle.problem_index.specs.Index.{IsIndex, AreOf, IsTheArgument}
use Rattle.problem_index.specs.declared.index.Index.{Index}
use Rattle.problem_index.specs.declared.world.World.{World}

pub contains_at : {X : Type 0} (xs : List X) (x : X) → Contains xs x → (k : ℕ) × (slice_get xs k ≡ Some x)
contains_at xs x (k, l, e) = (k, slice_get-get_or xs k x l ∙ ap (λ z. Some z) e)

pub contains_from : {X : Type 0} (xs : List X) (k : ℕ) (x : X) → slice_get xs k ≡ Some x → Contains xs x
contains_from xs k x e = (k, slice_get_within xs k x e, get_or_from_slice_get xs k x x e)

pub mapped_at : {X Y : Type 0} (f : X → Y) (xs : List X) (k : ℕ) (y : Y) → slice_get (map f xs) k ≡ Some y → (x : X) × (slice_get xs k ≡ Some x) × (f x ≡ y)
mapped_at f xs k y e = elim (slice_get_cases xs k).1 [
  | inl c ↦ (c.0, c.2, (let g : Some (f c.0) ≡ Some y = sym (slice_get-map f xs k ∙ ap (option_map f) c.2) ∙ e in cc))
  | inr c ↦ (let g : None ≡ Some y = sym (slice_get-map f xs k ∙ ap (option_map f) c.1) ∙ e in absurd cc)
]

-- what is found by the index's table is found by the problem's words
finds : (words table : List (List ℕ)) (places : List (Option ℕ)) (names : List Name) (word : List ℕ) (found : Option ℕ) → table ≡ words → ArePlaces (length words) names places → Finds table places word found → IsThePlace words names word found
finds words table places names word found same are is = subst (λ (ws : List (List ℕ)). Finds ws places word found) same is names are

pub action_found : (p : Pddl) (index : Index) (word : List ℕ) (found : Option ℕ) → IsIndex p index → Finds index.words index.actions.by_name.items word found → IsThePlace p.names (map (λ (a : ActionSchema). a.name) p.actions) word found
action_found p index word found is = finds p.names index.words index.actions.by_name.items (map (λ (a : ActionSchema). a.name) p.actions) word found is.words is.actions_stand

pub object_found : (p : Pddl) (index : Index) (word : List ℕ) (found : Option ℕ) → IsIndex p index → Finds index.words index.objects.by_name.items word found → IsThePlace p.names (map (λ (x : Object). x.name) p.objects) word found
object_found p index word found is = finds p.names index.words index.objects.by_name.items (map (λ (x : Object). x.name) p.objects) word found is.words is.objects_stand

module _ (p : Pddl) where
  abbrev action_name : ActionSchema → Name
  action_name a = a.name

  abbrev object_name : Object → Name
  object_name x = x.name

  pub no_action : (step : GroundAction) → ((k : ℕ) → HasWordAt p.names (map (λ (a : ActionSchema). a.name) p.actions) step.name k → ⊥) → NamesAction p step → ⊥
  no_action step none (a, named) =
      let at = contains_at p.actions a named.action in
      none at.0 (a.name, slice_get-map action_name p.actions at.0 ∙ ap (option_map action_name) at.1, named.name)

  pub the_action : (step : GroundAction) (k : ℕ) → HasWordAt p.names (map (λ (a : ActionSchema). a.name) p.actions) step.name k → (a : ActionSchema) × (slice_get p.actions k ≡ Some a) × IsNamed p step a
  the_action step k (x, e, w) =
      let at = mapped_at action_name p.actions k x e in
      (at.0, at.1, record { action = contains_from p.actions k at.0 at.1; name = subst (λ (y : Name). slice_get p.names y.number ≡ Some step.name) (sym at.2) w })

  pub no_object : (word : List ℕ) → ((k : ℕ) → HasWordAt p.names (map (λ (x : Object). x.name) p.objects) word k → ⊥) → (k : ℕ) → HasWord p k word → ⊥
  no_object word none k (x, e, w) = none k (x.name, slice_get-map object_name p.objects k ∙ ap (option_map object_name) e, w)

  pub the_object : (word : List ℕ) (k : ℕ) → HasWordAt p.names (map (λ (x : Object). x.name) p.objects) word k → HasWord p k word
  the_object word k (x, e, w) =
      let at = mapped_at object_name p.objects k x e in
      (at.0, at.1, subst (λ (y : Name). slice_get p.names y.number ≡ Some word) (sym at.2) w)

-- where one object alone has the word, what is found for it, in the type or not, is the argument
pub argument_none : (p : Pddl) (word : List ℕ) (ty : ℕ) → IsThePlace p.names (map (λ (x : Object). x.name) p.objects) word None → IsTheArgument p word ty None
argument_none p word ty found x t = no_object p word found x t.0

module _ (p : Pddl) (apart : AreNamedApart p) (word : List ℕ) (ty x : ℕ) (found : IsThePlace p.names (map (λ (x : Object). x.name) p.objects) word (Some x)) where
  pub argument_some : InTypeOf p x ty → IsTheArgument p word ty (Some x)
  argument_some t = (the_object p word x found, t)

  pub argument_other : (InTypeOf p x ty → ⊥) → IsTheArgument p word ty None
  argument_other other y t = other (subst (λ o. InTypeOf p o ty) (apart.objects y x word t.0 (the_object p word x found)) t.1)

-- an object is in a type of the world where it is in that of the problem
module _ (p : Pddl) (index : Index) (world : World) (are : AreOf p index world) (x ty : ℕ) where
  pub in_problem : InType world.types.now world.objects.now x ty → InTypeOf p x ty
  in_problem t = subst (λ (types : Types). InType types p.objects x ty) are.types (subst (λ (objects : List Object). InType world.types.now objects x ty) are.objects t)

  pub in_world : InTypeOf p x ty → InType world.types.now world.objects.now x ty
  in_world t = subst (λ (objects : List Object). InType world.types.now objects x ty) (sym are.objects) (subst (λ (types : Types). InType types p.objects x ty) (sym are.types) t)
