-- A list of steps of a stack shows a plan, or fails: it is told whether a step has the arguments that are due, and whose step it is.
use Rattle.std.proofs.Common.{ℕ, suc, ◌≡◌, ◌<◌, ◌+◌, ◌++◌, inl, inr, IsTrue, List, [], ◌∷◌, map, length, slice_get, Some, refl, ap, sym, subst, ◌∙◌, Contains, arith}
use Rattle.htn_base.specs.Escapes.{slot_word}
use Rattle.plan_model.specs.declared.schemas.ActionSchema.{ActionSchema}
use Rattle.plan_model.specs.declared.schemas.MethodPlan.{MethodPlan}
use Rattle.plan_model.specs.declared.steps.GroundAction.{GroundAction}
use Rattle.plan_model.specs.declared.terms.Param.{Param}
use Rattle.plan_model.specs.declared.options.Checks.{Checks}
use Rattle.plan_model.specs.declared.values.Hddl.{Hddl}
use Rattle.plan_model.specs.declared.values.Compiled.{Compiled}
use Rattle.plan_model.specs.task_networks.Net.{count}
use Rattle.plan_model.specs.task_networks.Spelling.{Act, run, apply, numbers, others}
use Rattle.plan_model.specs.plan_meaning.Truth.{State, AreTyped}
use Rattle.plan_model.specs.plan_meaning.Network.{Work, action, check, task, GroundMethod, InTypeOf, network}
use Rattle.plan_model.specs.plan_meaning.Solution.{top_work, Allows, next, initial, IsGoal}
use Rattle.plan_model.specs.plan_meaning.SpelledPlan.{object_word, work_name, method_name, step_of}
use Rattle.plan_model.proofs.task_networks.Numbers.{to_numbers}
use Rattle.slot_machine.proofs.bound_laws.Decided.{Or_not, AreTold, same_or_not, less_or_not, both, each_or_not, some_or_not}
use Rattle.stack_machine.specs.Stack.{IsTotal, AreCellsFrom, behind}
use Rattle.stack_machine.proofs.Heights.{line_of, is_line, high_of}
use Rattle.slot_machine.proofs.OtherChildren.{map_same}
use Rattle.stack_encoding.specs.StackSpelling.{cells_of, stack_step}
use Rattle.decoding.specs.FailingLaws.{AreDecided}
use Rattle.decoding.specs.PrintedSteps.{HasParams, own_objects}
use Rattle.decoding.proofs.Searched.{each_is_decided}
use Rattle.hplan_text.specs.declared.values.HPlan.{HPlan}
use Rattle.hplan_text.proofs.ShownOnce.{each_is_shown_once}
use Rattle.stack_decoding.specs.StackSteps.{named_cells, AreUpTo, HasArguments, IsStepOf, SpellsSolution}
use Rattle.stack_decoding.specs.StackShown.{StackShown}
use Rattle.stack_decoding.proofs.StepNames.{as_many}
use Rattle.stack_decoding.proofs.CellSteps.{own_named, as_many_cells}
use Rattle.stack_decoding.proofs.ActLists.{reading}
use Rattle.stack_decoding.proofs.StackLists.{narrow_solution, narrowly}
use Rattle.decode_answers.proofs.SomehowTruth.{same_list}
use Rattle.decode_answers.proofs.SomehowSearched.{true_told, place_told, same_step, lists_of, to_lists, IsSlot, slot_told}
use Rattle.decode_answers.proofs.SomehowStates.{same_work, objects_told, precedes_told, ground_told, goal_told, allows_told}
use Rattle.decode_answers.proofs.SomehowRead.{named_told}
use Rattle.stack_answers.specs.StackDecodeLaws.{IsStackDecodedSomehow, IsStackDecodable, EachIsStackDecodedSomehow}
use Rattle.stack_answers.proofs.StackOnce.{lawful, words}

module _ (c : Compiled) (b : ℕ) where
  within_told : (cells : List ℕ) → Or_not (AreUpTo c b cells)
  within_told cells = elim (each_or_not (λ x. x < suc b) (λ x. less_or_not x (suc b)) cells) [
    | inl f ↦ inl (λ x k. (let l = f x k in omega arith))
    | inr n ↦ inr (λ f. n (λ x k. (let l = f x k in omega arith)))
  ]

  module _ (n : ℕ) (P : List ℕ → Type 0) (d : (cells : List ℕ) → Or_not (P cells)) where
    abbrev Fits : List ℕ → Type 0
    Fits cells = (length cells ≡ n) × (AreUpTo c b cells × P cells)

    fits : (cells : List ℕ) → Or_not (Fits cells)
    fits cells = both (same_or_not (length cells) n) (both (within_told cells) (d cells))

    -- n cells from 0 to b
    cells_told : Or_not ((cells : List ℕ) × (length cells ≡ n) × (AreUpTo c b cells × P cells))
    cells_told = elim (some_or_not Fits fits (lists_of n (numbers 0 (suc b)))) [
      | inl h ↦ inl (h.0, h.2.0, h.2.1)
      | inr m ↦ inr (λ h. (
          let listed : (x : ℕ) → Contains h.0 x → Contains (numbers 0 (suc b)) x = λ x k. (let l = h.2.0 x k in to_numbers 0 (suc b) x (omega arith) (omega arith)) in
          m (h.0, subst (λ k. Contains (lists_of k (numbers 0 (suc b))) h.0) h.1 (to_lists (numbers 0 (suc b)) h.0 listed), (h.1, h.2))))
    ]

  module _ (step : GroundAction) where
    -- so many cells, and objects for the parameters
    abbrev ArgumentsOf : ℕ → List Param → Type 0
    ArgumentsOf n ps = (cells : List ℕ) × (length cells ≡ n) × (AreUpTo c b cells × ((os : List ℕ) × AreTyped (InTypeOf c) ps os × (step.args ≡ map slot_word cells ++ map (object_word c) os)))

    arguments_of_told : (n : ℕ) (ps : List Param) → Or_not (ArgumentsOf n ps)
    arguments_of_told n ps = cells_told n (λ cells. (os : List ℕ) × AreTyped (InTypeOf c) ps os × (step.args ≡ map slot_word cells ++ map (object_word c) os))
        (λ cells. objects_told c ps (λ os. step.args ≡ map slot_word cells ++ map (object_word c) os) (λ os. words_told step.args (map slot_word cells ++ map (object_word c) os)))
      where
        words_told : AreTold (List (List ℕ))
        words_told [] [] = inl refl
        words_told [] (y ∷ ys) = inr (λ e. cc)
        words_told (x ∷ xs) [] = inr (λ e. cc)
        words_told (x ∷ xs) (y ∷ ys) = go (same_list x y) (words_told xs ys)
          where
            go : Or_not (x ≡ y) → Or_not (xs ≡ ys) → Or_not (x ∷ xs ≡ y ∷ ys)
            go (inl e) (inl f) = inl (λ i. e i ∷ f i)
            go (inr n) r = inr (λ e. n (let f : x ≡ y = cc in f))
            go (inl e) (inr n) = inr (λ f. n (let g : xs ≡ ys = cc in g))

    abbrev ground_by : ℕ → List ℕ → GroundMethod
    ground_by k os = record { number = k; values = os }

    -- how many cells are due for a method
    abbrev due : ℕ → ℕ
    due k = length (cells_of 0 (count (network c) (ground_by k [])))

    due_of : (h : ℕ) (g : GroundMethod) → length (cells_of h (count (network c) g)) ≡ due g.number
    due_of h g = as_many_cells h 0 (count (network c) g) ∙ ap (λ n. length (cells_of 0 n)) (as_many c g (ground_by g.number []) refl)

    abbrev ArgumentsOfAction : Type 0
    ArgumentsOfAction = (k : ℕ) × (s : ActionSchema) × (slice_get c.hddl.actions k ≡ Some s) × ((step.name ≡ work_name c (action k [])) × ArgumentsOf 2 s.params)

    abbrev ArgumentsOfCheck : Type 0
    ArgumentsOfCheck = (k : ℕ) × (p : MethodPlan) × (slice_get c.methods k ≡ Some p) × (IsTrue p.checked × ((step.name ≡ work_name c (check k [])) × ArgumentsOf 2 p.schema.params))

    abbrev ArgumentsOfMethod : Type 0
    ArgumentsOfMethod = (k : ℕ) × (p : MethodPlan) × (slice_get c.methods k ≡ Some p) × ((step.name ≡ method_name c k) × ArgumentsOf (due k) p.schema.params)

    arguments_by : Or_not ArgumentsOfAction → Or_not ArgumentsOfCheck → Or_not ArgumentsOfMethod → Or_not (HasArguments c b step)
    arguments_by (inl (k, s, is, (name, (cells, many, (within, (os, typed, args)))))) d e = inl (record {
      act = run 1 (action k os);
      params = s.params;
      has = (s, is, refl);
      typed = typed;
      cells = cells;
      many = many;
      within = within;
      name = name;
      args = args;
    })
    arguments_by (inr n) (inl (k, p, is, (checked, (name, (cells, many, (within, (os, typed, args))))))) e = inl (record {
      act = run 1 (check k os);
      params = p.schema.params;
      has = (p, is, checked, refl);
      typed = typed;
      cells = cells;
      many = many;
      within = within;
      name = name;
      args = args;
    })
    arguments_by (inr n) (inr m) (inl (k, p, is, (name, (cells, many, (within, (os, typed, args)))))) = inl (record {
      act = apply 1 [] (ground_by k os);
      params = p.schema.params;
      has = (p, is, refl);
      typed = typed;
      cells = cells;
      many = many ∙ sym (due_of 1 (ground_by k os));
      within = within;
      name = name;
      args = args;
    })
    arguments_by (inr n) (inr m) (inr r) = inr (λ x. none x.act x.params x.has x.typed x.name x.cells x.many x.within x.args)
      where
        none : (a : Act (network c)) (ps : List Param) → HasParams c a ps → AreTyped (InTypeOf c) ps (own_objects c a) → step.name ≡ (step_of c a).name → (cells : List ℕ)
            → length cells ≡ length (named_cells c a) → AreUpTo c b cells → step.args ≡ map slot_word cells ++ map (object_word c) (own_objects c a) → ⊥
        none (run h (action k os)) ps (s, is, e) typed name cells many within args =
            n (k, s, is, (name, (cells, many, (within, (os, subst (λ z. AreTyped (InTypeOf c) z os) (sym e) typed, args)))))
        none (run h (check k os)) ps (p, is, checked, e) typed name cells many within args =
            m (k, p, is, (checked, (name, (cells, many, (within, (os, subst (λ z. AreTyped (InTypeOf c) z os) (sym e) typed, args))))))
        none (run h (task k os)) ps has typed name cells many within args = has
        none (apply h new g) ps (p, is, e) typed name cells many within args =
            r (g.number, p, is, (name, (cells, many ∙ due_of h g, (within, (g.values, subst (λ z. AreTyped (InTypeOf c) z g.values) (sym e) typed, args)))))

    word_told : (word : List ℕ) → Or_not (step.name ≡ word)
    word_told word = same_list step.name word

    pub arguments_told : Or_not (HasArguments c b step)
    arguments_told = arguments_by
        (place_told (λ k (s : ActionSchema). (step.name ≡ work_name c (action k [])) × ArgumentsOf 2 s.params)
        (λ k (s : ActionSchema). both (word_told (work_name c (action k []))) (arguments_of_told 2 s.params)) c.hddl.actions)
        (place_told (λ k (p : MethodPlan). IsTrue p.checked × ((step.name ≡ work_name c (check k [])) × ArgumentsOf 2 p.schema.params))
        (λ k (p : MethodPlan). both (true_told p.checked) (both (word_told (work_name c (check k []))) (arguments_of_told 2 p.schema.params))) c.methods)
        (place_told (λ k (p : MethodPlan). (step.name ≡ method_name c k) × ArgumentsOf (due k) p.schema.params)
        (λ k (p : MethodPlan). both (word_told (method_name c k)) (arguments_of_told (due k) p.schema.params)) c.methods)

    -- whose step it is
    abbrev Is : Act (network c) → Type 0
    Is a = (step ≡ stack_step c a) × AreUpTo c b (named_cells c a)

    is_told : (a : Act (network c)) → Or_not (Is a)
    is_told a = both (same_step step (stack_step c a)) (within_told (named_cells c a))

    abbrev Runs : (List ℕ → Work) → List Param → Type 0
    Runs work ps = (h : ℕ) × IsSlot b h × ((os : List ℕ) × AreTyped (InTypeOf c) ps os × Is (run h (work os)))

    runs_told : (work : List ℕ → Work) (ps : List Param) → Or_not (Runs work ps)
    runs_told work ps = slot_told b (λ h. (os : List ℕ) × AreTyped (InTypeOf c) ps os × Is (run h (work os)))
        (λ h. objects_told c ps (λ os. Is (run h (work os))) (λ os. is_told (run h (work os))))

    abbrev Applies : ℕ → List Param → Type 0
    Applies k ps = (h : ℕ) × IsSlot b h × ((os : List ℕ) × AreTyped (InTypeOf c) ps os × Is (apply h [] (ground_by k os)))

    applies_told : (k : ℕ) (ps : List Param) → Or_not (Applies k ps)
    applies_told k ps = slot_told b (λ h. (os : List ℕ) × AreTyped (InTypeOf c) ps os × Is (apply h [] (ground_by k os)))
        (λ h. objects_told c ps (λ os. Is (apply h [] (ground_by k os))) (λ os. is_told (apply h [] (ground_by k os))))

    abbrev IsOfAction : Type 0
    IsOfAction = (k : ℕ) × (s : ActionSchema) × (slice_get c.hddl.actions k ≡ Some s) × Runs (action k) s.params

    abbrev IsOfCheck : Type 0
    IsOfCheck = (k : ℕ) × (p : MethodPlan) × (slice_get c.methods k ≡ Some p) × (IsTrue p.checked × Runs (check k) p.schema.params)

    abbrev IsOfMethod : Type 0
    IsOfMethod = (k : ℕ) × (p : MethodPlan) × (slice_get c.methods k ≡ Some p) × Applies k p.schema.params

    module _ (total : IsTotal (network c)) where
      -- the new cells of a method, by its line
      new_cells : ℕ → GroundMethod → List ℕ
      new_cells h g = map (λ i. h + behind (line_of (network c) total g) i) (others (network c) g)

      are_cells : (h : ℕ) (g : GroundMethod) → AreCellsFrom (network c) h g (new_cells h g)
      unfolding new_cells
      are_cells h g line l = map_same (λ i. h + behind (line_of (network c) total g) i) (λ i. h + behind line i) (others (network c) g)
          (λ i k. ap (λ z. h + z) (high_of (network c) total g (line_of (network c) total g) (is_line (network c) total g) i ∙ sym (high_of (network c) total g line l i)))

      step_by : Or_not IsOfAction → Or_not IsOfCheck → Or_not IsOfMethod → Or_not ((a : Act (network c)) × IsStepOf c b step a)
      step_by (inl (k, s, is, (h, slot, (os, typed, (e, within))))) d f =
          inl (run h (action k os), record { params = s.params; has = (s, is, refl); typed = typed; own = slot.0; within = within; cells = tt; is = e })
      step_by (inr n) (inl (k, p, is, (checked, (h, slot, (os, typed, (e, within)))))) f =
          inl (run h (check k os), record { params = p.schema.params; has = (p, is, checked, refl); typed = typed; own = slot.0; within = within; cells = tt; is = e })
      step_by (inr n) (inr m) (inl (k, p, is, (h, slot, (os, typed, (e, within))))) =
          inl (apply h (new_cells h (ground_by k os)) (ground_by k os), record { params = p.schema.params; has = (p, is, refl); typed = typed; own = slot.0; within = within; cells = are_cells h (ground_by k os); is = e })
      step_by (inr n) (inr m) (inr r) = inr (λ x. none x.0 x.1)
        where
          none : (a : Act (network c)) → IsStepOf c b step a → ⊥
          none (run h (action k os)) x = let (s, is, e) = x.has in n (k, s, is, (h, (x.own, x.within h (own_named h 0)), (os, subst (λ z. AreTyped (InTypeOf c) z os) (sym e) x.typed, (x.is, x.within))))
          none (run h (check k os)) x = let (p, is, checked, e) = x.has in m (k, p, is, (checked, (h, (x.own, x.within h (own_named h 0)), (os, subst (λ z. AreTyped (InTypeOf c) z os) (sym e) x.typed, (x.is, x.within)))))
          none (run h (task k os)) x = x.has
          none (apply h new g) x =
              let (p, is, e) = x.has in
              r (g.number, p, is, (h, (x.own, x.within h (own_named h (count (network c) g))), (g.values, subst (λ z. AreTyped (InTypeOf c) z g.values) (sym e) x.typed, (x.is, x.within))))

      pub step_told : Or_not ((a : Act (network c)) × IsStepOf c b step a)
      step_told = step_by
          (place_told (λ k (s : ActionSchema). Runs (action k) s.params) (λ k (s : ActionSchema). runs_told (action k) s.params) c.hddl.actions)
          (place_told (λ k (p : MethodPlan). IsTrue p.checked × Runs (check k) p.schema.params) (λ k (p : MethodPlan). both (true_told p.checked) (runs_told (check k) p.schema.params)) c.methods)
          (place_told (λ k (p : MethodPlan). Applies k p.schema.params) (λ k (p : MethodPlan). applies_told k p.schema.params) c.methods)

module _ (h : Hddl) (checks : Checks) (c : Compiled) (b : ℕ) (d : IsStackDecodable h checks c b) where
  are_decided : AreDecided (network c) State (Allows c) (next c) (initial c) (IsGoal c) GroundAction (HasArguments c b) (IsStepOf c)
  are_decided = record {
    named = λ s. arguments_told c b s;
    reads = λ n s. step_told c n s d.total;
    works = same_work;
    precedes = precedes_told c;
    ground = ground_told c;
    allows = allows_told c;
    goal = goal_told c;
  }

  -- a spelled solution shows a plan
  shown_of : (steps : List GroundAction) → SpellsSolution c b steps → (shown : HPlan) × StackShown c b steps shown
  shown_of steps (tree, order, cell, spelled, solution) =
      let once = each_is_shown_once c tree order solution.finished in
      (once.plan, record { tree = tree; order = order; cell = cell; spelled = spelled; solution = solution; shows = once.shows })

  decided : (steps : List GroundAction) → IsStackDecodedSomehow c b steps
  decided steps =
      elim (each_is_decided (network c) (lawful h checks c b d) State (Allows c) (next c) (initial c) (IsGoal c) GroundAction (HasArguments c b) (IsStepOf c)
      b (top_work c) steps d.decodable.some_slot (reading c b (words h checks c b d) (lawful h checks c b d) d.total) are_decided) [
        | inl x ↦ inl (shown_of steps (narrow_solution c b (words h checks c b d) (lawful h checks c b d) d.total steps x))
        | inr f ↦ inr (let (why, x) = narrowly c b (words h checks c b d) (lawful h checks c b d) d.total steps f.0 (λ s. named_told c s) f.1 f.2 in (f.0, why, x))
      ]

pub each_is_stack_decoded_somehow : EachIsStackDecodedSomehow
each_is_stack_decoded_somehow h checks c b steps d = decided h checks c b d steps
