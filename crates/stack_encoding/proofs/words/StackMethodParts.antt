-- What a method has of the source is sound among the variables of its printed action: its task, its children, and what it asks of its parameters.
use Rattle.std.proofs.Common.{ℕ, suc, ◌≡◌, ◌<◌, inr, Bool, true, false, cond, List, [], ◌∷◌, ◌++◌, map, length, slice_get, Some, refl, sym, subst}
use Rattle.text_forms.specs.Words.{Word}
use Rattle.plan_model.specs.declared.terms.Term.{Term}
use Rattle.plan_model.specs.declared.terms.Term.TheVariants.{Var}
use Rattle.plan_model.specs.declared.terms.Atom.{Atom}
use Rattle.plan_model.specs.declared.terms.Param.{Param}
use Rattle.plan_model.specs.declared.networks.Head.{Head}
use Rattle.plan_model.specs.declared.networks.Head.TheVariants.{Task, Action, Check}
use Rattle.plan_model.specs.declared.networks.Child.{Child}
use Rattle.plan_model.specs.declared.networks.Constraint.{Constraint}
use Rattle.plan_model.specs.declared.networks.Guard.{Guard}
use Rattle.plan_model.specs.declared.formulas.Formula.{Formula}
use Rattle.plan_model.specs.declared.formulas.Formula.TheVariants.{Holds, Equal}
use Rattle.plan_model.specs.declared.effects.Effect.TheVariants as E
use Rattle.plan_model.specs.declared.schemas.MethodPlan.{MethodPlan}
use Rattle.plan_model.specs.declared.values.Compiled.{Compiled}
use Rattle.plan_texts.specs.Declared.{Declared}
use Rattle.plan_texts.specs.Types.{Has, EachIs}
use Rattle.plan_texts.specs.Printable.{IsInForce, IsSoundAtom, IsSound, IsSoundEffect}
use Rattle.plan_texts.specs.SoundValue.{IsSoundHddl, IsSoundConstraint, arities, scope_of}
use Rattle.plan_texts.specs.SpellsHddl.{hddl_words}
use Rattle.plan_texts.proofs.Members.{each-has, has-contains}
use Rattle.plan_texts.proofs.Places.{each-join}
use Rattle.slot_encoding.specs.SourceParts.{moved}
use Rattle.slot_encoding.specs.EncodedNames.{task_predicate, action_predicate, check_predicate, guard_predicate}
use Rattle.slot_encoding.specs.MethodParts.{test, condition_part, task_in, child_in, children_in, constraint_parts, guard_parts, tested_part}
use Rattle.slot_encoding.proofs.places.Guards.{guard_type}
use Rattle.slot_encoding.proofs.words.KnownMethods.{IsKnownMethod}
use Rattle.slot_encoding.proofs.words.Lists.{each-map}
use Rattle.slot_encoding.proofs.words.Methods.{held_arity}
use Rattle.slot_encoding.proofs.words.PlanParts.{IsPlanHead, IsPlanChild, IsPlanGuard, IsSoundPlan}
use Rattle.slot_encoding.proofs.words.PredicatePlaces.{HasArity, action_arity, check_arity, guard_arity}
use Rattle.slot_encoding.proofs.words.SoundEquations.{sound-Holds, sound-Equal, sound-Not, sound-Add}
use Rattle.stack_encoding.specs.StackActions.{asked}
use Rattle.stack_encoding.proofs.words.KnownParts.{AreKnown}
use Rattle.stack_encoding.proofs.words.StackDeclared.{stack_declared, stack_arities, takes}
use Rattle.stack_encoding.proofs.words.StackScopes.{IsFront, stack_scope, moved_sound, condition_sound, held_sound}

module _ (c : Compiled) (names : List Word) (b : ℕ) (sound : IsSoundHddl c.hddl) (known : AreKnown c b names)
    (m : ℕ) (plan : MethodPlan) (is : slice_get c.methods m ≡ Some plan) (sp : IsSoundPlan c plan) (km : IsKnownMethod c names m plan)
    (at : ℕ) (cells : List Param) (words : List Word) (f : IsFront c names b sound known at cells words plan.schema.params) where
  abbrev v' : Declared
  v' = stack_declared c names b

  abbrev ar' : List ℕ
  ar' = stack_arities c names b

  abbrev scope : List Word
  scope = stack_scope c names b sound known at cells words plan.schema.params f

  abbrev Sound : Formula → Type 0
  Sound g = IsSound v' ar' g scope

  abbrev put : Term → Term
  put = moved names c.hddl.names at

  in_scope : (t : Term) → IsInForce (hddl_words c.hddl) (arities c.hddl) (scope_of c.hddl plan.schema.params) t → IsInForce v' ar' scope (put t)
  in_scope = moved_sound c names b sound known at cells words plan.schema.params f

  pub task_sound : (k : ℕ) → k < at → IsSoundAtom v' ar' scope (task_in c names at k plan).predicate (task_in c names at k plan).args
  task_sound k l =
      let arity = held_arity c names b plan.schema.task (length plan.schema.task_args) sp.parts.task in
      held_sound c names b sound known at cells words plan.schema.params f (task_predicate c plan.schema.task) k plan.schema.task_args arity l sp.parts.task_args

  -- what is asked
  tests_sound : (q : Bool) (s t : Term) → IsInForce v' ar' scope s → IsInForce v' ar' scope t → Sound (test q s t)
  tests_sound true s t i j = sound-Equal v' ar' scope s t i j
  tests_sound false s t i j = sound-Not v' ar' scope (Equal s t) (sound-Equal v' ar' scope s t i j)

  constraints_sound : EachIs Sound (constraint_parts c names at plan)
  constraints_sound = each-map Sound (λ (con : Constraint). test con.equal (put con.left) (put con.right)) plan.schema.constraints by_one
    where
      by_one : (con : Constraint) → Has plan.schema.constraints con → Sound (test con.equal (put con.left) (put con.right))
      by_one con h = let s = each-has (IsSoundConstraint c.hddl (scope_of c.hddl plan.schema.params)) plan.schema.constraints con sp.parts.constraints h in tests_sound con.equal (put con.left) (put con.right) (in_scope con.left s.0) (in_scope con.right s.1)

  guards_sound : EachIs Sound (guard_parts c names at plan)
  guards_sound = each-map Sound (λ (g : Guard). Holds (record { predicate = guard_predicate c g.ty; args = put g.term ∷ [] })) plan.guards by_one
    where
      by_one : (g : Guard) → Has plan.guards g → Sound (Holds (record { predicate = guard_predicate c g.ty; args = put g.term ∷ [] }))
      by_one g h =
          let a = takes c names b (guard_predicate c g.ty) 1 (guard_arity c names b g.ty (guard_type c m plan g is (has-contains plan.guards g h))) in
          sound-Holds v' ar' scope (record { predicate = guard_predicate c g.ty; args = put g.term ∷ [] }) (a.0, sym a.1, (in_scope g.term (each-has (IsPlanGuard c plan.schema.params) plan.guards g sp.guards h).1, tt))

  tested_sound : EachIs Sound (tested_part c names at plan)
  tested_sound = go plan.tested (condition_sound c names b sound known at cells words plan.schema.params f plan.schema.pre sp.parts.pre km.pre)
    where
      go : (q : Bool) → EachIs Sound (condition_part c names at plan.schema.pre) → EachIs Sound (cond q (condition_part c names at plan.schema.pre) [])
      go true s = s
      go false s = tt

  pub asked_sound : EachIs (λ g. IsSound (stack_declared c names b) (stack_arities c names b) g scope) (asked c names b at plan)
  asked_sound = each-join Sound (constraint_parts c names at plan) (guard_parts c names at plan ++ tested_part c names at plan) constraints_sound (each-join Sound (guard_parts c names at plan) (tested_part c names at plan) guards_sound tested_sound)

  -- the children
  abbrev IsAtom : Atom → Type 0
  IsAtom a = IsSoundAtom v' ar' scope a.predicate a.args

  child_sound : (k : ℕ) (child : Child) → k < at → IsPlanChild c plan.checked plan.schema.params child → IsAtom (child_in c names at m k child)
  child_sound k child l s = go child.head s.0
    where
      hold : (predicate n : ℕ) → length child.args ≡ n → HasArity c names b predicate (suc n) → IsSoundAtom v' ar' scope predicate (Var k ∷ map put child.args)
      hold predicate n e arity = held_sound c names b sound known at cells words plan.schema.params f predicate k child.args (subst (λ z. HasArity c names b predicate (suc z)) (sym e) arity) l s.1

      go : (hd : Head) → IsPlanHead c plan.checked (length plan.schema.params) hd (length child.args) → IsAtom (child_in c names at m k (record child { head = hd }))
      go (Task t) h = hold (task_predicate c t) (length child.args) refl (held_arity c names b t (length child.args) (inr h))
      go (Action a) (x, e, n) = hold (action_predicate c a) (length x.params) n (action_arity c names b a x e)
      go Check (e, n) = hold (check_predicate c m) (length plan.schema.params) n (check_arity c names b m plan is e)

  pub children_sound : (ks : List ℕ) (children : List Child) → EachIs (λ k. k < at) ks → EachIs (IsPlanChild c plan.checked plan.schema.params) children
      → EachIs (λ e. IsSoundEffect (stack_declared c names b) (stack_arities c names b) e scope) (map E.Add (children_in c names at m ks children))
  children_sound [] [] l s = tt
  children_sound [] (x ∷ children) l s = tt
  children_sound (k ∷ ks) [] l s = tt
  children_sound (k ∷ ks) (x ∷ children) l s = (sound-Add v' ar' scope (child_in c names at m k x) (child_sound k x l.0 s.0), children_sound ks children l.1 s.1)
