-- A step that is applicable is the step of one act, and each act's step names its action and its objects.
-- Source: this project's.
use Rattle.std.proofs.Common.{ℕ, zero, suc, ◌≡◌, ◌+◌, ◌≤◌, inl, inr, true, List, ◌++◌, map, length, slice_get, Some, refl, ap, sym, subst, ◌∙◌, arith}
use Rattle.htn_base.specs.Escapes.{slot_word}
use Rattle.plan_model.specs.Pairs.{Pairs}
use Rattle.plan_model.specs.declared.options.Checks.{Checks}
use Rattle.plan_model.specs.declared.terms.Param.{Param}
use Rattle.plan_model.specs.declared.formulas.Formula.{Formula}
use Rattle.plan_model.specs.declared.schemas.ActionSchema.{ActionSchema}
use Rattle.plan_model.specs.declared.schemas.MethodPlan.{MethodPlan}
use Rattle.plan_model.specs.declared.steps.GroundAction.{GroundAction}
use Rattle.plan_model.specs.declared.values.Hddl.{Hddl}
use Rattle.plan_model.specs.declared.values.Compiled.{Compiled}
use Rattle.plan_model.specs.declared.values.Pddl.{Pddl}
use Rattle.plan_model.specs.task_networks.Order.{IsLine}
use Rattle.plan_model.specs.task_networks.Spelling.{Act, run, apply, numbers}
use Rattle.text_forms.specs.Words.{Word}
use Rattle.plan_texts.specs.Types.{EachIs}
use Rattle.plan_model.specs.plan_meaning.Truth.{State, AreTyped, IsTrueIn}
use Rattle.plan_model.specs.plan_meaning.Network.{GroundMethod, action, check, network, InTypeOf}
use Rattle.plan_model.specs.plan_meaning.ClassicalPlan as Printed
use Rattle.plan_model.specs.plan_meaning.ClassicalPlan.{AreObjects, IsApplicable}
use Rattle.plan_model.specs.plan_meaning.SpelledPlan.{object_word, work_name, method_name}
use Rattle.slot_encoding.specs.SourceParts.{source_param}
use Rattle.slot_encoding.specs.EncodedNames.{slot_type}
use Rattle.slot_encoding.proofs.places.ListPlaces.{contains_get}
use Rattle.plan_proof.proofs.machine.Fits.{fits}
use Rattle.plan_proof.proofs.machine.MethodChildren.{count_is}
use Rattle.stack_machine.specs.StackMachine.{StackState}
use Rattle.stack_encoding.specs.StackNames.{cell_object}
use Rattle.stack_encoding.specs.StackActions.{stack_method, stack_check, stack_action}
use Rattle.stack_encoding.specs.StackValue.{stack_actions}
use Rattle.stack_encoding.specs.StackSpelling.{cells_of, stack_step}
use Rattle.stack_encoding.proofs.places.StackWorded.{IsStackWorded}
use Rattle.stack_proof.proofs.machine.StackReading.{IsCell, Reads, IsActBy}
use Rattle.stack_proof.proofs.words.Cells.{IsCellNumber, Taken, take_apart}
use Rattle.stack_proof.proofs.words.CellWords.{same_words, worded}
use Rattle.stack_encoding.proofs.places.StackPlaces.{IsOfMethod, IsOfCheck, IsOfAction, action_cases}
use Rattle.stack_proof.proofs.words.ActionNames.{IsNamed, method_named, check_named, action_named, cell_params, method_params_are, length-cells, are_cells}
use Rattle.stack_proof.proofs.words.Rows.{fallen, method_cells}
use Rattle.stack_proof.proofs.words.Lines.{line_of, line_cells, are_line_cells}

-- the cells that a step names are numbers of cells
pub cells_within : (b h n : ℕ) → 1 ≤ h → h ≤ b → h + n ≤ suc b → EachIs (IsCellNumber b) (cells_of h n)
cells_within b h zero l m r = (omega arith, (m, tt))
cells_within b h (suc n) l m r = (m, rest (suc h) n (omega arith))
  where
    rest : (h n : ℕ) → h + n ≤ suc b → EachIs (IsCellNumber b) (numbers h n)
    rest h zero r = tt
    rest h (suc n) r = (omega arith, rest (suc h) n (omega arith))

module _ (h : Hddl) (mode : Checks) (c : Compiled) (b : ℕ) (p : Pddl) (is : IsStackWorded h mode c b p) where
  abbrev InC : ℕ → ℕ → Type 0
  InC = InTypeOf c

  abbrev InP : ℕ → ℕ → Type 0
  InP = Printed.InTypeOf p

  abbrev the_step : Word → List Word → GroundAction
  the_step name args = record { name = name; args = args }

  abbrev method : ℕ → MethodPlan → ActionSchema
  method = stack_method c p.names b

  abbrev checking : ℕ → MethodPlan → ActionSchema
  checking = stack_check c p.names b

  abbrev acting : ℕ → ActionSchema → ActionSchema
  acting = stack_action c p.names b

  abbrev pub IsBy : Act (network c) → ActionSchema → List ℕ → Type 0
  IsBy = IsActBy c b p

  -- the step with these words and objects is that of an act
  abbrev pub HasAct : GroundAction → ActionSchema → List ℕ → Type 0
  HasAct step a os = (act : Act (network c)) × (step ≡ stack_step c act) × IsBy act a os

  abbrev args_of : List ℕ → List ℕ → List Word
  args_of ks values = map slot_word ks ++ map (object_word c) values

  abbrev objects_of : List ℕ → List ℕ → List ℕ
  objects_of ks values = map (cell_object c) ks ++ values

  abbrev ground : ℕ → List ℕ → GroundMethod
  ground m values = record { number = m; values = values }

  pub plan_line : (m : ℕ) (plan : MethodPlan) → slice_get c.methods m ≡ Some plan → IsLine (Pairs plan.schema.pairs) (length plan.schema.children) plan.line
  plan_line = line_of h mode c is.compiled

  -- the words of an act of a method name its cells and values
  pub method_step : (k : ℕ) (new : List ℕ) (g : GroundMethod) (plan : MethodPlan) → slice_get c.methods g.number ≡ Some plan
      → the_step (method_name c g.number) (args_of (cells_of k (length plan.schema.children)) g.values) ≡ stack_step c (apply k new g)
  method_step k new g plan e = ap (λ n. the_step (method_name c g.number) (args_of (cells_of k n) g.values)) (sym (count_is c (fits h mode c is.sound is.compiled) g plan e))

  method_act : (m : ℕ) (plan : MethodPlan) (args : List Word) (os ks values : List ℕ) (k : ℕ) → slice_get c.methods m ≡ Some plan → IsCell c b p k → k + length plan.schema.children ≤ suc b
      → ks ≡ cells_of k (length plan.schema.children) → AreTyped InC plan.schema.params values → os ≡ objects_of ks values → args ≡ args_of ks values → HasAct (the_step (method_name c m) args) (method m plan) os
  method_act m plan args os ks values k e cell room r t o w = (
    apply k (line_cells c (ground m values) plan e (plan_line m plan e) k) (ground m values),
    ap (the_step (method_name c m)) (w ∙ ap (λ z. args_of z values) r) ∙ method_step k (line_cells c (ground m values) plan e (plan_line m plan e) k) (ground m values) plan e,
    record {
      plan = plan;
      is = e;
      action = refl;
      cell = cell;
      room = room;
      new_cells = are_line_cells c (ground m values) plan e (plan_line m plan e) k;
      typed = t;
      objects = o ∙ ap (λ z. objects_of z values) r;
    },
  )

  check_act : (m : ℕ) (plan : MethodPlan) (args : List Word) (os ks values : List ℕ) (k : ℕ) → slice_get c.methods m ≡ Some plan → plan.checked ≡ true → IsCell c b p k → ks ≡ cells_of k 0
      → AreTyped InC plan.schema.params values → os ≡ objects_of ks values → args ≡ args_of ks values → HasAct (the_step (work_name c (check m values)) args) (checking m plan) os
  check_act m plan args os ks values k e d cell r t o w = (
    run k (check m values),
    ap (the_step (work_name c (check m values))) (w ∙ ap (λ z. args_of z values) r),
    record { plan = plan; is = e; checked = d; action = refl; cell = cell; typed = t; objects = o ∙ ap (λ z. objects_of z values) r },
  )

  action_act : (n : ℕ) (schema : ActionSchema) (args : List Word) (os ks values : List ℕ) (k : ℕ) → slice_get c.hddl.actions n ≡ Some schema → IsCell c b p k → ks ≡ cells_of k 0
      → AreTyped InC schema.params values → os ≡ objects_of ks values → args ≡ args_of ks values → HasAct (the_step (work_name c (action n values)) args) (acting n schema) os
  action_act n schema args os ks values k e cell r t o w = (
    run k (action n values),
    ap (the_step (work_name c (action n values))) (w ∙ ap (λ z. args_of z values) r),
    record { schema = schema; is = e; action = refl; cell = cell; typed = t; objects = o ∙ ap (λ z. objects_of z values) r },
  )

  -- what the objects of a list that is taken apart are named by
  taken_args : (front params : List Param) (os : List ℕ) (args : List Word) (t : Taken h mode c b p is front params os) → AreObjects p os args → args ≡ args_of t.ks t.values
  taken_args front params os args t o = same_words h mode c b p is (objects_of t.ks t.values) args (args_of t.ks t.values) (subst (λ z. AreObjects p z args) t.objects o) (worded h mode c b p is t.ks t.values params t.cells t.typed)

  same_name : (k : ℕ) (a d : ActionSchema) (w u : Word) → a ≡ d → slice_get p.names a.name.number ≡ Some w → IsNamed h mode c b p is k d u → w ≡ u
  same_name k a d w u e f n =
      let g = ap (λ (z : ActionSchema). slice_get p.names z.name.number) e in
      let i = n.word in
      cc

  module _ (S : State) (t : StackState (network c)) (T : State) (reads : Reads c b p S t T) (step : GroundAction) (a : ActionSchema) (os : List ℕ) (app : IsApplicable p S step a os) where
    -- what is applicable with these parameters has objects of them
    parts : (d : ActionSchema) (front params : List Param) → a ≡ d → d.params ≡ front ++ map (source_param p.names c.hddl.names) params → EachIs (λ (x : Param). x.ty ≡ slot_type) front → Taken h mode c b p is front params os
    parts d front params i f e = take_apart h mode c b p is front params os e (subst (λ z. AreTyped InP z os) (ap (λ (z : ActionSchema). z.params) i ∙ f) app.typed)

    condition : (d : ActionSchema) (f : Formula) (ks values : List ℕ) → a ≡ d → d.pre ≡ f → os ≡ objects_of ks values → IsTrueIn InP S f (objects_of ks values)
    condition d f ks values i e o = subst (λ z. IsTrueIn InP S z (objects_of ks values)) (ap (λ (z : ActionSchema). z.pre) i ∙ e) (subst (IsTrueIn InP S a.pre) o app.condition)

    of_method : (k : ℕ) → slice_get (stack_actions c p.names b) k ≡ Some a → IsOfMethod c p.names b a → HasAct step a os
    of_method k f (m, plan, e, i) =
        let n = length plan.schema.children in
        let name = same_name k a (method m plan) step.name (method_name c m) i app.name (method_named h mode c b p is m k plan e (f ∙ ap Some i)) in
        let x = parts (method m plan) (cell_params h mode c b p is n) plan.schema.params i (method_params_are h mode c b p is m plan n) (are_cells h mode c b p is n) in
        let args = taken_args (cell_params h mode c b p is n) plan.schema.params os step.args x app.objects_are in
        let (cell, within, room, r) = method_cells c b p S t T reads m plan (λ args. (fits h mode c is.sound is.compiled).tasks m plan e) n x.ks x.values (x.long ∙ sym (length-cells h mode c b p is 0 n)) x.cells (condition (method m plan) _ x.ks x.values i refl x.objects) in
        let q = method_act m plan step.args os x.ks x.values cell e within room r x.typed x.objects args in
        subst (λ z. HasAct step z os) (sym i) (subst (λ z. HasAct (the_step z step.args) (method m plan) os) (sym name) q)

    of_check : (k : ℕ) → slice_get (stack_actions c p.names b) k ≡ Some a → IsOfCheck c p.names b a → HasAct step a os
    of_check k f (m, plan, e, d, i) =
        let x = parts (checking m plan) (cell_params h mode c b p is 0) plan.schema.params i refl (are_cells h mode c b p is 0) in
        let name = same_name k a (checking m plan) step.name (work_name c (check m x.values)) i app.name (check_named h mode c b p is m k plan x.values e (f ∙ ap Some i)) in
        let args = taken_args (cell_params h mode c b p is 0) plan.schema.params os step.args x app.objects_are in
        let (cell, within, r) = fallen c b p S t T reads _ _ x.ks x.values x.long x.cells (condition (checking m plan) _ x.ks x.values i refl x.objects) in
        let q = check_act m plan step.args os x.ks x.values cell e d within r x.typed x.objects args in
        subst (λ z. HasAct step z os) (sym i) (subst (λ z. HasAct (the_step z step.args) (checking m plan) os) (sym name) q)

    of_action : (k : ℕ) → slice_get (stack_actions c p.names b) k ≡ Some a → IsOfAction c p.names b a → HasAct step a os
    of_action k f (n, schema, e, i) =
        let x = parts (acting n schema) (cell_params h mode c b p is 0) schema.params i refl (are_cells h mode c b p is 0) in
        let name = same_name k a (acting n schema) step.name (work_name c (action n x.values)) i app.name (action_named h mode c b p is n k schema x.values e (f ∙ ap Some i)) in
        let args = taken_args (cell_params h mode c b p is 0) schema.params os step.args x app.objects_are in
        let (cell, within, r) = fallen c b p S t T reads _ _ x.ks x.values x.long x.cells (condition (acting n schema) _ x.ks x.values i refl x.objects) in
        let q = action_act n schema step.args os x.ks x.values cell e within r x.typed x.objects args in
        subst (λ z. HasAct step z os) (sym i) (subst (λ z. HasAct (the_step z step.args) (acting n schema) os) (sym name) q)

    pub to_act : HasAct step a os
    to_act =
        let (k, e) = contains_get p.actions a app.action in
        let f : slice_get (stack_actions c p.names b) k ≡ Some a = ap (λ z. slice_get z k) (sym is.encoded.actions) ∙ e in
        elim (action_cases c p.names b k a f) [ inl m ↦ of_method k f m | inr r ↦ elim r [ inl m ↦ of_check k f m | inr m ↦ of_action k f m ] ]
