-- What an act does to the state: an action's effect, over the problem's types and objects.
use Rattle.std.proofs.Common.{ℕ, ◌≡◌, ◌↔◌, Bool, IsTrue, List, [], length, Some, None, slice_get, ap, sym, subst, ◌∙◌}
use Rattle.plan_model.specs.declared.types.Object.{Object}
use Rattle.plan_model.specs.declared.types.Types.{Types}
use Rattle.plan_model.specs.declared.schemas.ActionSchema.{ActionSchema}
use Rattle.plan_model.specs.declared.values.Compiled.{Compiled}
use Rattle.plan_model.specs.Typing.{InType}
use Rattle.plan_model.specs.plan_meaning.Truth.{IsTrueIn, after}
use Rattle.plan_model.specs.plan_meaning.Solution.{after_action, IsGoal}
use Rattle.problem_index.specs.declared.printed_index.PrintedName.TheVariants.{Action}
use Rattle.problem_index.specs.declared.world.World.{World}
use Rattle.problem_index.specs.Printed.{in_print}
use Rattle.problem_index.proofs.IndexLaws.{contains_from}
use Rattle.ground_state.specs.Frames.{Frame, frame}
use Rattle.ground_state.specs.Room.{effect_fits, EffectFits}
use Rattle.ground_state.specs.States.{has_ground, atoms, Has}
use Rattle.ground_state.specs.Clauses.{IsTrueInWorld}
use Rattle.ground_state.specs.declared.env.Env.{Env}
use Rattle.ground_state.specs.declared.state.State.{State}
use Rattle.ground_state.proofs.ArgumentLaws.{typed_length}
use Rattle.decoding.specs.TakenSteps.{true_of, IsSameState}
use Rattle.step_reader.specs.Readings.{HasRoomIn}
use Rattle.tree_decoder.specs.Acts.{IsNamedWith, IsWorldOf}
use Rattle.tree_decoder.specs.Taking.{IsAfter}

-- what is so of the types and objects of the problem's world is so of the problem's
pub in_world : (c : Compiled) (world : World) → IsWorldOf c world → (P : Types → List Object → Type 0) → P world.types.now world.objects.now
    → P c.hddl.types c.hddl.objects
in_world c world own P h = subst (P c.hddl.types) own.objects (subst (λ (ts : Types). P ts world.objects.now) own.types h)

-- there is room for the effect of the action that is named
pub effect_room : (c : Compiled) (env : Frame) (a : ℕ) (s : ActionSchema) → HasRoomIn c env → IsNamedWith c (Action a) env.objects
    → slice_get c.hddl.actions a ≡ Some s → EffectFits env s.eff
effect_room c env a s room (slot, new, (b, step, read)) at =
    let (t, e, p) = read.has in
    let same : t ≡ s = cc in
    let many = typed_length (in_print c.hddl) read.params env.objects read.typed in
    let long = many ∙ ap length (sym p) ∙ ap (λ (z : ActionSchema). length z.params) same in
    subst (λ n. effect_fits env.room env.arity s.eff n) (sym long) (room.actions s (contains_from c.hddl.actions a s at)).eff

module _ (c : Compiled) (a : ℕ) (objects : List ℕ) (old new : State) where
  pub after_effect : (world : World) (s : ActionSchema) → IsWorldOf c world → slice_get c.hddl.actions a ≡ Some s
      → Has new (after (InType world.types.now world.objects.now) (atoms old) s.eff objects) → IsAfter c (Action a) objects old new
  after_effect world s own at has =
      subst (λ o. IsSameState c (true_of c (has_ground new)) (after_action c (true_of c (has_ground old)) o objects)) (sym at)
      (in_world c world own (λ types things. Has new (after (InType types things) (atoms old) s.eff objects)) has)

  pub after_none : slice_get c.hddl.actions a ≡ None → new ≡ old → IsAfter c (Action a) objects old new
  after_none at same =
      subst (λ o. IsSameState c (true_of c (has_ground new)) (after_action c (true_of c (has_ground old)) o objects)) (sym at)
      (subst (λ (z : State). Has z (atoms old)) (sym same) (λ g. (λ x. x, λ x. x)))

-- the goal has no variables
pub goal_told : (c : Compiled) (world : World) (state : State) (env : Env) (r : Bool) → IsWorldOf c world → (frame env).objects ≡ []
    → IsTrue r ↔ IsTrueInWorld world state c.hddl.goal env → IsTrue r ↔ IsGoal c (true_of c (has_ground state))
goal_told c world state env r own e told =
    in_world c world own (λ types things. IsTrue r ↔ IsTrueIn (InType types things) (atoms state) c.hddl.goal [])
    (subst (λ os. IsTrue r ↔ IsTrueIn (InType world.types.now world.objects.now) (atoms state) c.hddl.goal os) e told)
