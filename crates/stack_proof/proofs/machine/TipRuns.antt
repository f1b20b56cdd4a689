-- Lists of acts that the printed problem of a stack takes are executable runs of the stack.
use Rattle.std.proofs.Common.{ℕ, ◌↔◌, List, [], ◌∷◌, map}
use Rattle.plan_model.specs.declared.schemas.ActionSchema.{ActionSchema}
use Rattle.plan_model.specs.declared.values.Compiled.{Compiled}
use Rattle.plan_model.specs.declared.values.Pddl.{Pddl}
use Rattle.plan_model.specs.task_networks.Net.{Net}
use Rattle.plan_model.specs.task_networks.Spelling.{Act, run, apply, label_of}
use Rattle.plan_model.specs.task_networks.Executable.{AreAllowed, last_state}
use Rattle.plan_model.specs.plan_meaning.Truth.{State, after}
use Rattle.plan_model.specs.plan_meaning.ClassicalPlan as Printed
use Rattle.plan_model.specs.plan_meaning.Network.{action, check, task, network}
use Rattle.plan_model.specs.plan_meaning.Solution.{Allows, next}
use Rattle.stack_machine.specs.StackMachine.{StackState, MayAtTip, after_tip, StackRuns, end_of_stack}
use Rattle.stack_proof.proofs.machine.StackReading.{Reads, Applies, LeadsBy}
use Rattle.stack_proof.proofs.machine.StackFacts.{StackPieces, IsTaken}
use Rattle.stack_proof.proofs.machine.TipActions.{action_to, action_from, check_to, check_from}
use Rattle.stack_proof.proofs.machine.TipMethods.{method_to, method_from}

module _ (c : Compiled) (b : ℕ) (p : Pddl) (means : StackPieces c b p) where
  abbrev N : Net
  N = network c

  module _ (S : State) (t : StackState N) (T : State) (r : Reads c b p S t T) where
    -- a printed action that is applicable is a step of the stack
    pub act_to : (act : Act N) (a : ActionSchema) (os : List ℕ) → Applies c b p S act a os → IsTaken c b p S t T act a os
    act_to (run h (action n args)) a os (is, tr) = action_to c b p means S t T r h n args a os is tr
    act_to (run h (check n values)) a os (is, tr) = check_to c b p means S t T r h n values a os is tr
    act_to (run h (task n args)) a os (is, tr) = absurd is
    act_to (apply h new g) a os (is, tr) = method_to c b p means S t T r h new g a os is tr

    -- and each step that the source allows is that of one
    pub act_from : (act : Act N) → MayAtTip N b t act → Allows c T (label_of N act) → (a : ActionSchema) × (os : List ℕ) × Applies c b p S act a os
    act_from (run h (action n args)) may al = action_from c b p means S t T r h n args may al
    act_from (run h (check n values)) may al = check_from c b p means S t T r h n values may al
    act_from (run h (task n args)) may al = absurd may.simple
    act_from (apply h new g) may al = method_from c b p means S t T r h new g may al

  -- P of the printed state is Q of what it reads as
  module _ (P : State → Type 0) (Q : StackState N → State → Type 0) (ends : (S : State) (t : StackState N) (T : State) → Reads c b p S t T → P S ↔ Q t T) where
    abbrev pub Ends : StackState N → State → List (Act N) → Type 0
    Ends t T acts = StackRuns N b t acts × AreAllowed N State (Allows c) (next c) T (map (label_of N) acts) × Q (end_of_stack N t acts) (last_state N State (Allows c) (next c) T (map (label_of N) acts))

    pub leads_iff : (acts : List (Act N)) (S : State) (t : StackState N) (T : State) → Reads c b p S t T → LeadsBy c b p P S acts ↔ Ends t T acts
    leads_iff [] S t T r = let e = ends S t T r in (λ k. (tt, tt, e.0 k), λ k. e.1 k.2)
    leads_iff (act ∷ acts) S t T r = (
      λ k. (let (a, os, app, more) = k in
          let taken = act_to S t T r act a os app in
          let ih = leads_iff acts (after (Printed.InTypeOf p) S a.eff os) (after_tip N t act) (next c T (label_of N act)) taken.reads in
          let rest = ih.0 more in
          ((taken.may, rest.0), (taken.allows, rest.1), rest.2)),
      λ k. (let (runs, allowed, q) = k in
          let (a, os, app) = act_from S t T r act runs.0 allowed.0 in
          let taken = act_to S t T r act a os app in
          let ih = leads_iff acts (after (Printed.InTypeOf p) S a.eff os) (after_tip N t act) (next c T (label_of N act)) taken.reads in
          (a, os, app, ih.1 (runs.1, allowed.1, q))),
    )
