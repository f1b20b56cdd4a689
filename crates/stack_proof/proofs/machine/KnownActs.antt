-- The acts of a run of the stack name cells and what the problem declares, so each is that of a printed action.
use Rattle.std.proofs.Common.{ℕ, suc, ◌+◌, ◌≤◌, inl, inr, List, [], ◌∷◌, ◌++◌, length, map, refl, sym, subst, arith}
use Rattle.plan_model.specs.declared.schemas.ActionSchema.{ActionSchema}
use Rattle.plan_model.specs.declared.values.Compiled.{Compiled}
use Rattle.plan_model.specs.declared.values.Pddl.{Pddl}
use Rattle.plan_model.specs.task_networks.Net.{Net, count}
use Rattle.plan_model.specs.task_networks.Spelling.{Act, run, apply}
use Rattle.plan_model.specs.plan_meaning.Truth.{AreTyped}
use Rattle.plan_model.specs.plan_meaning.Network.{Work, action, check, task, IsGroundMethod, network, InTypeOf}
use Rattle.plan_model.specs.plan_meaning.Solution.{top_work}
use Rattle.plan_proof.proofs.machine.Reading.{IsKnown}
use Rattle.plan_proof.proofs.machine.MethodChildren.{count_is, known_children}
use Rattle.stack_machine.specs.StackMachine.{StackState, first_stack, MayAtTip, after_tip, StackRuns}
use Rattle.stack_encoding.specs.StackNames.{cell_object}
use Rattle.stack_encoding.specs.StackActions.{stack_method, stack_check, stack_action}
use Rattle.stack_encoding.specs.StackSpelling.{cells_of}
use Rattle.stack_proof.proofs.machine.StackReading.{IsCell, IsActBy}
use Rattle.stack_proof.proofs.machine.StackFacts.{StackPieces}
use Rattle.stack_proof.proofs.machine.ChildCells.{child_in_range}

module _ (c : Compiled) (b : ℕ) (p : Pddl) where
  -- each act of the list is that of some printed action
  abbrev pub AreActs : List (Act (network c)) → Type 0
  AreActs [] = Unit {0}
  AreActs (act ∷ acts) = ((a : ActionSchema) × (os : List ℕ) × IsActBy c b p act a os) × AreActs acts

module _ (c : Compiled) (b : ℕ) (p : Pddl) (means : StackPieces c b p) where
  abbrev N : Net
  N = network c

  -- what is held is known, and in a cell
  abbrev IsSane : StackState N → Type 0
  IsSane t = (x : ℕ) (w : Work) → t.holds x w → IsKnown c w × IsCell c b p x

  sane_first : 1 ≤ b → IsSane (first_stack N (top_work c))
  sane_first positive x w k = (subst (IsKnown c) (sym k.1) known, subst (IsCell c b p) (sym k.0) (let l : 1 ≤ 1 = omega arith in (l, positive)))
    where
      known : IsKnown c (top_work c)
      known = let e : length c.hddl.tasks ≤ length c.hddl.tasks = omega arith in e

  sane_after : (t : StackState N) (act : Act N) → IsSane t → MayAtTip N b t act → IsSane (after_tip N t act)
  sane_after t (run h w) s may x v k = s x v k.0
  sane_after t (apply h new g) s may x v k = elim k [
    | inl y ↦ s x v y.0
    | inr y ↦ (
      known_children c means.fits g may.ground.plan may.ground.is may.ground.typed may.ground.met.declared y.0 v y.2,
      child_in_range c b p means g may.ground.plan may.ground.is h new (s h (N.head g) may.holds).1 may.cells may.room y.0 x y.1,
    )
  ]

  act_is : (t : StackState N) (act : Act N) → IsSane t → MayAtTip N b t act → (a : ActionSchema) × (os : List ℕ) × IsActBy c b p act a os
  act_is t (run h (action n args)) s may =
      let (known, cell) = s h (action n args) may.holds in
      let (ps, (x, is, e), ty) = known in (
        stack_action c p.names b n x,
        map (cell_object c) (cells_of h 0) ++ args,
        record { schema = x; is = is; action = refl; cell = cell; typed = subst (λ z. AreTyped (InTypeOf c) z args) (sym e) ty; objects = refl },
      )
  act_is t (run h (check n values)) s may =
      let (known, cell) = s h (check n values) may.holds in
      let (plan, is, checked, typed) = known in (
        stack_check c p.names b n plan,
        map (cell_object c) (cells_of h 0) ++ values,
        record { plan = plan; is = is; checked = checked; action = refl; cell = cell; typed = typed; objects = refl },
      )
  act_is t (run h (task n args)) s may = absurd may.simple
  act_is t (apply h new g) s may = (
    stack_method c p.names b g.number ground.plan,
    map (cell_object c) (cells_of h (length ground.plan.schema.children)) ++ g.values,
    record {
      plan = ground.plan;
      is = ground.is;
      action = refl;
      cell = (s h (N.head g) may.holds).1;
      room = (let e = count_is c means.fits g ground.plan ground.is in let l : h + count N g ≤ suc b = may.room in omega arith);
      new_cells = may.cells;
      typed = ground.typed;
      objects = refl;
    },
  )
    where
      ground : IsGroundMethod c g
      ground = may.ground

  acts_from : (t : StackState N) (acts : List (Act N)) → IsSane t → StackRuns N b t acts → AreActs c b p acts
  acts_from t [] s r = tt
  acts_from t (act ∷ acts) s r = (act_is t act s r.0, acts_from (after_tip N t act) acts (sane_after t act s r.0) r.1)

  pub acts_are : 1 ≤ b → (acts : List (Act N)) → StackRuns N b (first_stack N (top_work c)) acts → AreActs c b p acts
  acts_are positive acts r = acts_from (first_stack N (top_work c)) acts (sane_first positive) r
