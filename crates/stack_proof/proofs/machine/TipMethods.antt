-- The printed action of a method is a step of the stack.
use Rattle.std.proofs.Common.{ℕ, zero, suc, ◌≡◌, ◌↔◌, ◌+◌, ◌-◌, ◌≤◌, List, [], ◌∷◌, ◌++◌, map, length, slice_get, Some, refl, sym, subst, arith}
use Rattle.plan_model.specs.declared.formulas.Formula.TheVariants.{And}
use Rattle.plan_model.specs.declared.schemas.ActionSchema.{ActionSchema}
use Rattle.plan_model.specs.declared.schemas.MethodPlan.{MethodPlan}
use Rattle.plan_model.specs.declared.values.Compiled.{Compiled}
use Rattle.plan_model.specs.declared.values.Pddl.{Pddl}
use Rattle.plan_model.specs.task_networks.Net.{Net, count}
use Rattle.plan_model.specs.task_networks.Spelling.{apply}
use Rattle.plan_model.specs.plan_meaning.Truth.{State, EachTrue, IsTrueIn}
use Rattle.plan_model.specs.plan_meaning.ClassicalPlan as Printed
use Rattle.plan_model.specs.plan_meaning.Network.{GroundMethod, IsGroundMethod, network}
use Rattle.plan_model.specs.plan_meaning.Solution.{AllowsMethod}
use Rattle.slot_encoding.specs.MethodParts.{task_in}
use Rattle.plan_proof.proofs.machine.MethodChildren.{count_is, known_head}
use Rattle.stack_machine.specs.StackMachine.{StackState, MayApplyAtTip}
use Rattle.stack_encoding.specs.StackNames.{cell_object}
use Rattle.stack_encoding.specs.StackActions.{asked, method_pre, stack_method}
use Rattle.stack_encoding.specs.StackSpelling.{cells_of}
use Rattle.stack_proof.proofs.machine.StackReading.{IsCell, held, IsMethodAct, Reads, Applies}
use Rattle.stack_proof.proofs.machine.StackFacts.{StackPieces, IsTaken}
use Rattle.stack_proof.proofs.machine.Falling.{at_tip_read}
use Rattle.stack_proof.proofs.machine.Asked.{Asks, asked_true, task_ground}
use Rattle.stack_proof.proofs.machine.Climbing.{climbing_true}
use Rattle.stack_proof.proofs.machine.MethodStates.{method_left}

module _ (c : Compiled) (b : ℕ) (p : Pddl) (means : StackPieces c b p) (S : State) (t : StackState (network c)) (T : State) (r : Reads c b p S t T) (h : ℕ) (new : List ℕ) (g : GroundMethod) where
  abbrev N : Net
  N = network c

  abbrev InT : ℕ → ℕ → Type 0
  InT = Printed.InTypeOf p

  -- the objects of the cells, and the node's own
  abbrev objects : ℕ → List ℕ
  objects k = map (cell_object c) (cells_of h k) ++ g.values

  module _ (plan : MethodPlan) (is : slice_get c.methods g.number ≡ Some plan) (cell : IsCell c b p h) where
    abbrev IsTold : ℕ → Type 0
    IsTold k = IsTrueIn InT S (And (method_pre c p.names b g.number plan k)) (objects k) ↔ (S (held c b p h (N.head g)) × t.tip h × Asks c T g plan)

    childless_true : IsTold 0
    childless_true = (λ k. (let x = told.0 k in (x.0, x.1, asks.0 x.2)), λ k. told.1 (k.0, k.1, asks.1 k.2))
      where
        cells : List ℕ
        cells = cell_object c (h - 1) ∷ cell_object c h ∷ []

        told : IsTrueIn InT S (And (method_pre c p.names b g.number plan 0)) (objects 0) ↔ (S (held c b p h (N.head g)) × t.tip h × EachTrue (IsTrueIn InT S) (asked c p.names b 2 plan) (objects 0))
        told = subst (λ q. IsTrueIn InT S (And (method_pre c p.names b g.number plan 0)) (objects 0) ↔ (S q × t.tip h × EachTrue (IsTrueIn InT S) (asked c p.names b 2 plan) (objects 0)))
            (task_ground c b p means g plan is 2 cells refl 1 h refl)
            (at_tip_read c b p S h g.values t T r cell (task_in c p.names 2 1 plan) (asked c p.names b 2 plan))

        asks : EachTrue (IsTrueIn InT S) (asked c p.names b 2 plan) (objects 0) ↔ Asks c T g plan
        asks = asked_true c b p means g plan is 2 cells refl S t T r

    method_true : h + length plan.schema.children ≤ suc b → IsTold (length plan.schema.children)
    method_true room = go (length plan.schema.children) refl
      where
        go : (k : ℕ) → length plan.schema.children ≡ k → IsTold k
        go zero e = childless_true
        go (suc n) e = climbing_true c b p means S h g plan is n e t T r cell (omega arith)

  pub method_to : (a : ActionSchema) (os : List ℕ) → IsMethodAct c b p h new g a os → IsTrueIn InT S a.pre os → IsTaken c b p S t T (apply h new g) a os
  method_to a os k tr =
      let x = subst (λ z. IsTrueIn InT S a.pre z) k.objects tr in
      let y = subst (λ (z : ActionSchema). IsTrueIn InT S z.pre xs) k.action x in
      subst (λ z. IsTaken c b p S t T (apply h new g) a z) (sym k.objects) (subst (λ z. IsTaken c b p S t T (apply h new g) z xs) (sym k.action) (taken y))
    where
      xs : List ℕ
      xs = objects (length k.plan.schema.children)

      taken : IsTrueIn InT S (stack_method c p.names b g.number k.plan).pre xs → IsTaken c b p S t T (apply h new g) (stack_method c p.names b g.number k.plan) xs
      taken y =
          let (q, tip, asks) = (method_true k.plan k.is k.cell k.room).0 y in
          let holds = (r.holds h (N.head g)).1 (known_head c means.fits g k.plan k.is, k.cell, q) in
          let declared = (means.guards_declare g k.plan k.is k.typed).0 asks.guards in
          let room : h + count N g ≤ suc b = (let e = count_is c means.fits g k.plan k.is in let l = k.room in omega arith) in
          let left = method_left c b p means S t T r h new g k.plan k.is k.typed declared k.cell tip k.new_cells room in record {
            may = record {
              holds = holds;
              ground = record { plan = k.plan; is = k.is; typed = k.typed; met = record { constraints = asks.constraints; declared = declared } };
              tip = tip;
              cells = k.new_cells;
              room = room;
            };
            allows = subst (λ o. AllowsMethod c T o g.values) (sym k.is) asks.tested;
            reads = left.0;
            kept = left.1;
          }

  pub method_from : MayApplyAtTip N b t h new g → AllowsMethod c T (slice_get c.methods g.number) g.values → (a : ActionSchema) × (os : List ℕ) × Applies c b p S (apply h new g) a os
  method_from may al = (
    stack_method c p.names b g.number ground.plan,
    objects (length ground.plan.schema.children),
    (record { plan = ground.plan; is = ground.is; action = refl; cell = cell; room = room; new_cells = may.cells; typed = ground.typed; objects = refl }, applies),
  )
    where
      ground : IsGroundMethod c g
      ground = may.ground

      cell : IsCell c b p h
      cell = ((r.holds h (N.head g)).0 may.holds).1

      room : h + length ground.plan.schema.children ≤ suc b
      room = let e = count_is c means.fits g ground.plan ground.is in let l : h + count N g ≤ suc b = may.room in omega arith

      applies : IsTrueIn InT S (stack_method c p.names b g.number ground.plan).pre (objects (length ground.plan.schema.children))
      applies = (method_true ground.plan ground.is cell room).1 (
        ((r.holds h (N.head g)).0 may.holds).2,
        may.tip,
        record {
          constraints = ground.met.constraints;
          guards = (means.guards_declare g ground.plan ground.is ground.typed).1 ground.met.declared;
          tested = subst (λ o. AllowsMethod c T o g.values) ground.is al;
        },
      )
