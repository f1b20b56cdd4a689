-- It is told whether a step names a printed action, and as which act it is read.
use Rattle.std.proofs.Common.{ℕ, ◌≡◌, inl, inr, IsTrue, List, [], length, slice_get, Some, refl, sym, subst, Contains}
use Rattle.plan_model.specs.declared.schemas.ActionSchema.{ActionSchema}
use Rattle.plan_model.specs.declared.schemas.MethodPlan.{MethodPlan}
use Rattle.plan_model.specs.declared.steps.GroundAction.{GroundAction}
use Rattle.plan_model.specs.declared.terms.Param.{Param}
use Rattle.plan_model.specs.declared.values.Compiled.{Compiled}
use Rattle.plan_model.specs.task_networks.Spelling.{Act, run, apply, others}
use Rattle.plan_model.specs.plan_meaning.Truth.{AreTyped}
use Rattle.plan_model.specs.plan_meaning.Network.{Work, action, check, task, GroundMethod, InTypeOf, IsPrimitive, objects_of, network}
use Rattle.plan_model.specs.plan_meaning.SpelledPlan.{work_name, method_name, step_of}
use Rattle.plan_model.proofs.task_networks.Lists.{not-in_empty}
use Rattle.slot_machine.proofs.bound_laws.Decided.{Or_not, both}
use Rattle.decoding.specs.PrintedSteps.{HasParams, IsNamed, IsReadAs}
use Rattle.decode_answers.proofs.SomehowTruth.{same_list}
use Rattle.decode_answers.proofs.SomehowSearched.{true_told, place_told, same_step, IsSlot, slot_told, slots_told}
use Rattle.decode_answers.proofs.SomehowStates.{objects_told}

module _ (c : Compiled) (step : GroundAction) where
  -- its name
  abbrev NamesAction : Type 0
  NamesAction = (k : ℕ) × (s : ActionSchema) × (slice_get c.hddl.actions k ≡ Some s) × (step.name ≡ work_name c (action k []))

  abbrev NamesCheck : Type 0
  NamesCheck = (k : ℕ) × (p : MethodPlan) × (slice_get c.methods k ≡ Some p) × (IsTrue p.checked × (step.name ≡ work_name c (check k [])))

  abbrev NamesMethod : Type 0
  NamesMethod = (k : ℕ) × (p : MethodPlan) × (slice_get c.methods k ≡ Some p) × (step.name ≡ method_name c k)

  named_by : Or_not NamesAction → Or_not NamesCheck → Or_not NamesMethod → Or_not (IsNamed c step)
  named_by (inl x) d e = inl (run 0 (action x.0 []), x.1.params, (x.1, x.2, refl), x.3)
  named_by (inr n) (inl x) e = inl (run 0 (check x.0 []), x.1.schema.params, (x.1, x.2, x.3.0, refl), x.3.1)
  named_by (inr n) (inr m) (inl x) = inl (apply 0 [] (record { number = x.0; values = [] }), x.1.schema.params, (x.1, x.2, refl), x.3)
  named_by (inr n) (inr m) (inr r) = inr (λ x. none x.0 x.1 x.2 x.3)
    where
      none : (a : Act (network c)) (ps : List Param) → HasParams c a ps → step.name ≡ (step_of c a).name → ⊥
      none (run h (action k args)) ps x e = n (k, x.0, x.1, e)
      none (run h (check k values)) ps x e = m (k, x.0, x.1, (x.2, e))
      none (run h (task t args)) ps x e = x
      none (apply h new g) ps x e = r (g.number, x.0, x.1, e)

  pub named_told : Or_not (IsNamed c step)
  named_told = named_by
      (place_told (λ k s. step.name ≡ work_name c (action k [])) (λ k s. same_list step.name (work_name c (action k []))) c.hddl.actions)
      (place_told (λ k (p : MethodPlan). IsTrue p.checked × (step.name ≡ work_name c (check k [])))
      (λ k (p : MethodPlan). both (true_told p.checked) (same_list step.name (work_name c (check k [])))) c.methods)
      (place_told (λ k p. step.name ≡ method_name c k) (λ k p. same_list step.name (method_name c k)) c.methods)

  -- its act
  module _ (b : ℕ) where
    abbrev Typed : List Param → List ℕ → Type 0
    Typed = AreTyped (InTypeOf c)

    abbrev Runs : (List ℕ → Work) → List Param → Type 0
    Runs work ps = (h : ℕ) × IsSlot b h × ((os : List ℕ) × Typed ps os × (step ≡ step_of c (run h (work os))))

    runs_told : (work : List ℕ → Work) (ps : List Param) → Or_not (Runs work ps)
    runs_told work ps = slot_told b (λ h. (os : List ℕ) × Typed ps os × (step ≡ step_of c (run h (work os))))
        (λ h. objects_told c ps (λ os. step ≡ step_of c (run h (work os))) (λ os. same_step step (step_of c (run h (work os)))))

    abbrev ground_by : ℕ → List ℕ → GroundMethod
    ground_by k os = record { number = k; values = os }

    abbrev Takes : ℕ → ℕ → List ℕ → Type 0
    Takes k h os = (new : List ℕ) × (length new ≡ length (others (network c) (ground_by k os)))
        × ((x : ℕ) → Contains new x → IsSlot b x) × (step ≡ step_of c (apply h new (ground_by k os)))

    abbrev Applies : ℕ → List Param → Type 0
    Applies k ps = (h : ℕ) × IsSlot b h × ((os : List ℕ) × Typed ps os × Takes k h os)

    applies_told : (k : ℕ) (ps : List Param) → Or_not (Applies k ps)
    applies_told k ps = slot_told b (λ h. (os : List ℕ) × Typed ps os × Takes k h os) (λ h. objects_told c ps (Takes k h)
        (λ os. slots_told b (length (others (network c) (ground_by k os))) (λ new. step ≡ step_of c (apply h new (ground_by k os)))
        (λ new. same_step step (step_of c (apply h new (ground_by k os))))))

    abbrev IsAction : Type 0
    IsAction = (k : ℕ) × (s : ActionSchema) × (slice_get c.hddl.actions k ≡ Some s) × Runs (action k) s.params

    abbrev IsCheck : Type 0
    IsCheck = (k : ℕ) × (p : MethodPlan) × (slice_get c.methods k ≡ Some p) × (IsTrue p.checked × Runs (check k) p.schema.params)

    abbrev IsMethod : Type 0
    IsMethod = (k : ℕ) × (p : MethodPlan) × (slice_get c.methods k ≡ Some p) × Applies k p.schema.params

    run_read : (h : ℕ) (w : Work) → IsSlot b h → IsPrimitive w → (ps : List Param) → HasParams c (run h w) ps → Typed ps (objects_of c w)
        → step ≡ step_of c (run h w) → IsReadAs c b step (run h w)
    run_read h w slot simple ps has typed e = record {
      formed = record { slot = slot; new = λ x y. absurd (not-in_empty x y); form = simple };
      params = ps;
      has = has;
      typed = typed;
      is = e;
    }

    read_by : Or_not IsAction → Or_not IsCheck → Or_not IsMethod → Or_not ((a : Act (network c)) × IsReadAs c b step a)
    read_by (inl (k, s, is, (h, slot, (os, typed, e)))) d f =
        inl (run h (action k os), run_read h (action k os) slot tt s.params (s, is, refl) typed e)
    read_by (inr n) (inl (k, p, is, (checked, (h, slot, (os, typed, e))))) f =
        inl (run h (check k os), run_read h (check k os) slot tt p.schema.params (p, is, checked, refl) typed e)
    read_by (inr n) (inr m) (inl (k, p, is, (h, slot, (os, typed, (new, long, slots, e))))) =
        inl (apply h new (ground_by k os), read)
      where
        read : IsReadAs c b step (apply h new (ground_by k os))
        read = record {
          formed = record { slot = slot; new = slots; form = long };
          params = p.schema.params;
          has = (p, is, refl);
          typed = typed;
          is = e;
        }
    read_by (inr n) (inr m) (inr r) = inr (λ x. none x.0 x.1)
      where
        none : (a : Act (network c)) → IsReadAs c b step a → ⊥
        none (run h (action k os)) x =
            let y = x.has in
            n (k, y.0, y.1, (h, x.formed.slot, (os, subst (λ ps. Typed ps os) (sym y.2) x.typed, x.is)))
        none (run h (check k os)) x =
            let y = x.has in
            m (k, y.0, y.1, (y.2, (h, x.formed.slot, (os, subst (λ ps. Typed ps os) (sym y.3) x.typed, x.is))))
        none (run h (task t os)) x = x.has
        none (apply h new g) x =
            let y = x.has in
            let typed = subst (λ ps. Typed ps g.values) (sym y.2) x.typed in
            r (g.number, y.0, y.1, (h, x.formed.slot, (g.values, typed, (new, x.formed.form, x.formed.new, x.is))))

    pub read_told : Or_not ((a : Act (network c)) × IsReadAs c b step a)
    read_told = read_by
        (place_told (λ k s. Runs (action k) s.params) (λ k (s : ActionSchema). runs_told (action k) s.params) c.hddl.actions)
        (place_told (λ k (p : MethodPlan). IsTrue p.checked × Runs (check k) p.schema.params)
        (λ k (p : MethodPlan). both (true_told p.checked) (runs_told (check k) p.schema.params)) c.methods)
        (place_told (λ k (p : MethodPlan). Applies k p.schema.params) (λ k (p : MethodPlan). applies_told k p.schema.params) c.methods)
