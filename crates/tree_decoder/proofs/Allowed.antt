-- What the state says of an act that is read: there is room for its condition, and what is true in the problem's world is true.
use Rattle.std.proofs.Common.{ℕ, suc, ◌≡◌, ◌↔◌, Bool, true, false, IsTrue, List, [], ◌∷◌, length, Some, None, Option, slice_get, refl, ap, sym, subst, ◌∙◌, true≢false}
use Rattle.plan_model.specs.declared.types.Types.{Types}
use Rattle.plan_model.specs.declared.types.Object.{Object}
use Rattle.plan_model.specs.declared.terms.Param.{Param}
use Rattle.plan_model.specs.declared.formulas.Formula.{Formula}
use Rattle.plan_model.specs.declared.schemas.ActionSchema.{ActionSchema}
use Rattle.plan_model.specs.declared.schemas.MethodPlan.{MethodPlan}
use Rattle.plan_model.specs.declared.values.Compiled.{Compiled}
use Rattle.plan_model.specs.Typing.{InType}
use Rattle.plan_model.specs.plan_meaning.Truth.{IsTrueIn, AreTyped}
use Rattle.plan_model.specs.plan_meaning.Network.{InTypeOf}
use Rattle.plan_model.specs.plan_meaning.Solution.{AllowsAction, AllowsCheck, AllowsMethod}
use Rattle.problem_index.specs.declared.printed_index.PrintedName.{PrintedName}
use Rattle.problem_index.specs.declared.printed_index.PrintedName.TheVariants.{Action, Check, Method}
use Rattle.problem_index.specs.declared.world.World.{World}
use Rattle.problem_index.proofs.IndexLaws.{contains_from}
use Rattle.ground_state.specs.Frames.{Frame}
use Rattle.ground_state.specs.Room.{fits, Fits}
use Rattle.ground_state.specs.States.{atoms}
use Rattle.ground_state.specs.declared.state.State.{State}
use Rattle.step_reader.specs.Readings.{HasRoomIn}
use Rattle.tree_decoder.specs.Acts.{IsNamedWith, IsWorldOf, AllowsWith}

pub one_at : {A : Type 0} (xs : List A) (k : ℕ) (x y : A) → slice_get xs k ≡ Some x → slice_get xs k ≡ Some y → x ≡ y
one_at xs k x y e f = let g : Some x ≡ Some y = sym e ∙ f in cc

as_many : (c : Compiled) (params : List Param) (os : List ℕ) → AreTyped (InTypeOf c) params os → length os ≡ length params
as_many c [] [] t = refl
as_many c [] (o ∷ os) t = absurd t
as_many c (p ∷ params) [] t = absurd t
as_many c (p ∷ params) (o ∷ os) t = ap suc (as_many c params os t.1)

-- what is so of the types of a problem's world is so of the problem's
pub in_problem : (c : Compiled) (world : World) → IsWorldOf c world → (P : (ℕ → ℕ → Type 0) → Type 0)
    → P (InType world.types.now world.objects.now) → P (InTypeOf c)
in_problem c world of P h =
    subst (λ (os : List Object). P (InType c.hddl.types os)) of.objects (subst (λ (ts : Types). P (InType ts world.objects.now)) of.types h)

-- and the other way round
pub in_world : (c : Compiled) (world : World) → IsWorldOf c world → (P : (ℕ → ℕ → Type 0) → Type 0)
    → P (InTypeOf c) → P (InType world.types.now world.objects.now)
in_world c world of P h =
    subst (λ (os : List Object). P (InType world.types.now os)) (sym of.objects) (subst (λ (ts : Types). P (InType ts c.hddl.objects)) (sym of.types) h)

module _ (c : Compiled) (f : Frame) (room : HasRoomIn c f) where
  room_for : (params own : List Param) (pre : Formula) → own ≡ params → AreTyped (InTypeOf c) params f.objects
      → fits f.room f.arity pre (length own) → Fits f pre
  room_for params own pre e t h = subst (λ n. fits f.room f.arity pre n) (sym (as_many c params f.objects t ∙ ap length (sym e))) h

  plan_room : (m : ℕ) (plan other : MethodPlan) (params : List Param) → slice_get c.methods m ≡ Some plan
      → slice_get c.methods m ≡ Some other → other.schema.params ≡ params → AreTyped (InTypeOf c) params f.objects → Fits f plan.schema.pre
  plan_room m plan other params at is e t =
      let same = ap (λ (z : MethodPlan). z.schema.params) (one_at c.methods m plan other at is) in
      room_for params plan.schema.params plan.schema.pre (same ∙ e) t (room.methods plan (contains_from c.methods m plan at)).condition

  pub action_room : (name : PrintedName) (a : ℕ) (s : ActionSchema) → IsNamedWith c name f.objects → name ≡ Action a
      → slice_get c.hddl.actions a ≡ Some s → Fits f s.pre
  action_room name a s named e at = go (subst (λ n. IsNamedWith c n f.objects) e named)
    where
      go : IsNamedWith c (Action a) f.objects → Fits f s.pre
      go (slot, new, (b, step, read)) =
          let (other, is, own) = read.has in
          let same = ap (λ (z : ActionSchema). z.params) (one_at c.hddl.actions a s other at is) in
          room_for read.params s.params s.pre (same ∙ own) read.typed (room.actions s (contains_from c.hddl.actions a s at)).pre

  pub check_room : (name : PrintedName) (m : ℕ) (plan : MethodPlan) → IsNamedWith c name f.objects → name ≡ Check m
      → slice_get c.methods m ≡ Some plan → Fits f plan.schema.pre
  check_room name m plan named e at = go (subst (λ n. IsNamedWith c n f.objects) e named)
    where
      go : IsNamedWith c (Check m) f.objects → Fits f plan.schema.pre
      go (slot, new, (b, step, read)) = let (other, is, checked, own) = read.has in plan_room m plan other read.params at is own read.typed

  pub method_room : (name : PrintedName) (m : ℕ) (plan : MethodPlan) → IsNamedWith c name f.objects → name ≡ Method m
      → slice_get c.methods m ≡ Some plan → Fits f plan.schema.pre
  method_room name m plan named e at = go (subst (λ n. IsNamedWith c n f.objects) e named)
    where
      go : IsNamedWith c (Method m) f.objects → Fits f plan.schema.pre
      go (slot, new, (b, step, read)) = let (other, is, own) = read.has in plan_room m plan other read.params at is own read.typed

module _ (c : Compiled) (world : World) (of : IsWorldOf c world) (state : State) (name : PrintedName) (objects : List ℕ) where
  -- the answer is whether the formula is true in the world
  abbrev Tells : Bool → Formula → Type 0
  Tells answer pre = IsTrue answer ↔ IsTrueIn (InType world.types.now world.objects.now) (atoms state) pre objects

  abbrev Allowed : Bool → PrintedName → Type 0
  Allowed answer n = IsTrue answer ↔ AllowsWith c state n objects

  told : (answer : Bool) (pre : Formula) → Tells answer pre → IsTrue answer ↔ IsTrueIn (InTypeOf c) (atoms state) pre objects
  told answer pre tells = in_problem c world of (λ T. IsTrue answer ↔ IsTrueIn T (atoms state) pre objects) tells

  pub action_allowed : (a : ℕ) (s : ActionSchema) (answer : Bool) → name ≡ Action a → slice_get c.hddl.actions a ≡ Some s
      → Tells answer s.pre → IsTrue answer ↔ AllowsWith c state name objects
  action_allowed a s answer e at tells = subst (Allowed answer) (sym e)
      (subst (λ (o : Option ActionSchema). IsTrue answer ↔ AllowsAction c (atoms state) o objects) (sym at) (told answer s.pre tells))

  pub no_action : (a : ℕ) → name ≡ Action a → slice_get c.hddl.actions a ≡ None → IsTrue false ↔ AllowsWith c state name objects
  no_action a e at = subst (Allowed false) (sym e)
      (subst (λ (o : Option ActionSchema). IsTrue false ↔ AllowsAction c (atoms state) o objects) (sym at)
      (λ t. absurd (true≢false (sym t)), λ t. absurd t))

  pub check_allowed : (m : ℕ) (plan : MethodPlan) (answer : Bool) → name ≡ Check m → slice_get c.methods m ≡ Some plan
      → Tells answer plan.schema.pre → IsTrue answer ↔ AllowsWith c state name objects
  check_allowed m plan answer e at tells = subst (Allowed answer) (sym e)
      (subst (λ (o : Option MethodPlan). IsTrue answer ↔ AllowsCheck c (atoms state) o objects) (sym at) (told answer plan.schema.pre tells))

  pub no_check : (m : ℕ) → name ≡ Check m → slice_get c.methods m ≡ None → IsTrue false ↔ AllowsWith c state name objects
  no_check m e at = subst (Allowed false) (sym e)
      (subst (λ (o : Option MethodPlan). IsTrue false ↔ AllowsCheck c (atoms state) o objects) (sym at)
      (λ t. absurd (true≢false (sym t)), λ t. absurd t))

  method_by : (m : ℕ) (plan : MethodPlan) (answer : Bool) → name ≡ Method m → slice_get c.methods m ≡ Some plan
      → IsTrue answer ↔ AllowsMethod c (atoms state) (Some plan) objects → IsTrue answer ↔ AllowsWith c state name objects
  method_by m plan answer e at allowed = subst (Allowed answer) (sym e)
      (subst (λ (o : Option MethodPlan). IsTrue answer ↔ AllowsMethod c (atoms state) o objects) (sym at) allowed)

  pub untested : (m : ℕ) (plan : MethodPlan) → name ≡ Method m → slice_get c.methods m ≡ Some plan → plan.tested ≡ false
      → IsTrue true ↔ AllowsWith c state name objects
  untested m plan e at not = method_by m plan true e at (λ t tested. absurd (true≢false (sym tested ∙ not)), λ t. refl)

  pub tested : (m : ℕ) (plan : MethodPlan) (answer : Bool) → name ≡ Method m → slice_get c.methods m ≡ Some plan → plan.tested ≡ true
      → Tells answer plan.schema.pre → IsTrue answer ↔ AllowsWith c state name objects
  tested m plan answer e at is tells = let h = told answer plan.schema.pre tells in
      method_by m plan answer e at (λ t tested. h.0 t, λ f. h.1 (f is))

  pub no_method : (m : ℕ) → name ≡ Method m → slice_get c.methods m ≡ None → IsTrue false ↔ AllowsWith c state name objects
  no_method m e at = subst (Allowed false) (sym e)
      (subst (λ (o : Option MethodPlan). IsTrue false ↔ AllowsMethod c (atoms state) o objects) (sym at)
      (λ t. absurd (true≢false (sym t)), λ t. absurd t))
