-- The printed action of an action or a check is a step of the stack.
use Rattle.std.proofs.Common.{ℕ, suc, ◌≡◌, ◌↔◌, ◌-◌, ◌<◌, inl, inr, List, [], ◌∷◌, ◌++◌, map, length, Some, slice_get, slice_index, append-nil, refl, sym, subst, ◌∙◌}
use Rattle.std.specs.Prelude.{IsTrue}
use Rattle.plan_model.specs.declared.terms.Term.TheVariants.{Var}
use Rattle.plan_model.specs.declared.terms.Atom.{Atom}
use Rattle.plan_model.specs.declared.terms.GroundAtom.{GroundAtom}
use Rattle.plan_model.specs.declared.formulas.Formula.{Formula}
use Rattle.plan_model.specs.declared.formulas.Formula.TheVariants.{And}
use Rattle.plan_model.specs.declared.effects.Effect.{Effect}
use Rattle.plan_model.specs.declared.effects.Effect.TheVariants as E
use Rattle.plan_model.specs.declared.options.Style.TheVariants.{Adl}
use Rattle.plan_model.specs.declared.schemas.ActionSchema.{ActionSchema}
use Rattle.plan_model.specs.declared.schemas.MethodPlan.{MethodPlan}
use Rattle.plan_model.specs.declared.values.Compiled.{Compiled}
use Rattle.plan_model.specs.declared.values.Pddl.{Pddl}
use Rattle.plan_model.specs.task_networks.Net.{Net}
use Rattle.plan_model.specs.task_networks.Spelling.{run, numbers}
use Rattle.plan_model.specs.plan_meaning.Truth.{State, ground, value_of, AreTyped, EachTrue, OneTrue, IsTrueIn, Adds, Deletes, after}
use Rattle.plan_model.specs.plan_meaning.ClassicalPlan as Printed
use Rattle.plan_model.specs.plan_meaning.Network.{Work, action, check, network, InTypeOf}
use Rattle.plan_model.specs.plan_meaning.Solution.{AllowsAction, AllowsCheck, after_action}
use Rattle.slot_encoding.specs.EncodedNames.{action_predicate, check_predicate}
use Rattle.slot_encoding.specs.MethodParts.{condition_part, change_part}
use Rattle.slot_encoding.proofs.Pieces.{SourceMeaning}
use Rattle.slot_encoding.proofs.places.Sums.{vars, map-numbers}
use Rattle.plan_proof.proofs.machine.Reading.{IsKnown, Keeps}
use Rattle.plan_proof.proofs.machine.Freed.{Changed}
use Rattle.plan_proof.proofs.machine.Running.{typed_long}
use Rattle.stack_machine.specs.StackMachine.{StackState, MayRunAtTip, after_tip}
use Rattle.stack_encoding.specs.StackNames.{cell_object}
use Rattle.stack_encoding.specs.StackActions.{at_tip, falling, held_at_tip, stack_action, stack_check}
use Rattle.stack_proof.proofs.machine.StackReading.{IsCell, held, IsActionAct, IsCheckAct, Reads, Applies}
use Rattle.stack_proof.proofs.machine.StackFacts.{StackPieces, IsTaken}
use Rattle.stack_proof.proofs.machine.CellChanges.{reads_alike}
use Rattle.stack_proof.proofs.machine.Falling.{vs, at_tip_read}
use Rattle.stack_proof.proofs.machine.Fallen.{fallen_reads, fallen_keeps}

module _ (c : Compiled) (b : ℕ) (p : Pddl) (m : StackPieces c b p) (S : State) (t : StackState (network c)) (T : State) (r : Reads c b p S t T) where
  abbrev N : Net
  N = network c

  abbrev InT : ℕ → ℕ → Type 0
  InT = Printed.InTypeOf p

  module _ (h : ℕ) (args : List ℕ) where
    -- the cell below, its own, and the node's own objects
    abbrev xs : List ℕ
    xs = vs c b p S h args

    abbrev cells : List ℕ
    cells = cell_object c (h - 1) ∷ cell_object c h ∷ []

    module _ (predicate : ℕ) where
      abbrev hold : ℕ → Atom
      hold count = held_at_tip c p.names b predicate count

      hold_ground : ground xs (hold (length args)) ≡ record { predicate = predicate; args = cell_object c h ∷ args }
      hold_ground = λ i. record { predicate = predicate; args = values i }
        where
          values : map (value_of xs) (map Var (numbers 1 (suc (length args)))) ≡ cell_object c h ∷ args
          values = vars xs (numbers 1 (suc (length args))) ∙ subst (λ z. map (slice_index (cell_object c (h - 1) ∷ cell_object c h ∷ z)) (numbers 1 (suc (length args))) ≡ cell_object c h ∷ args) (append-nil args)
              (map-numbers (cell_object c (h - 1) ∷ []) (cell_object c h ∷ args) [])

      abbrev pre : ℕ → List Formula → Formula
      pre count more = And (at_tip c p.names b (hold count) ++ more)

      work_true : (count : ℕ) (more : List Formula) → length args ≡ count → IsCell c b p h
          → IsTrueIn InT S (pre count more) xs ↔ (S (record { predicate = predicate; args = cell_object c h ∷ args }) × t.tip h × EachTrue (IsTrueIn InT S) more xs)
      work_true count more e cell = subst (λ n. IsTrueIn InT S (pre n more) xs ↔ (S (record { predicate = predicate; args = cell_object c h ∷ args }) × t.tip h × EachTrue (IsTrueIn InT S) more xs)) e
          (subst (λ g. IsTrueIn InT S (pre (length args) more) xs ↔ (S g × t.tip h × EachTrue (IsTrueIn InT S) more xs)) hold_ground
          (at_tip_read c b p S h args t T r cell (hold (length args)) more))

      abbrev eff : ℕ → List Effect → Effect
      eff count change = E.And (falling c p.names b (hold count) ++ change)

      work_reads : (count : ℕ) (change : List Effect) (w : Work) → length args ≡ count → IsKnown c w → IsCell c b p h → held c b p h w ≡ record { predicate = predicate; args = cell_object c h ∷ args }
          → (D A : GroundAtom → Type 0) → ((g : GroundAtom) → D g → g.predicate < length c.hddl.predicates) → ((g : GroundAtom) → A g → g.predicate < length c.hddl.predicates)
          → ((g : GroundAtom) → OneTrue (λ e v. Deletes InT S e v g) change xs ↔ D g) → ((g : GroundAtom) → OneTrue (λ e v. Adds InT S e v g) change xs ↔ A g)
          → Reads c b p (after InT S (eff count change) xs) (after_tip N t (run h w)) (Changed T D A) × Keeps c S (after InT S (eff count change) xs)
      work_reads count change w e known cell is D A sd sa cd ca =
          subst (λ n. Reads c b p (after InT S (eff n change) xs) (after_tip N t (run h w)) (Changed T D A) × Keeps c S (after InT S (eff n change) xs)) e (
            fallen_reads c b p m.differ S t T r h args w known cell (hold (length args)) (hold_ground ∙ sym is) change D A sd sa cd ca,
            fallen_keeps c b p m.differ S t T r h args w known cell (hold (length args)) (hold_ground ∙ sym is) change D A sd sa cd ca,
          )

    abbrev means : SourceMeaning c b Adl p T S cells
    means = m.source T S cells r.source

  -- actions
  module _ (h n : ℕ) (args : List ℕ) where
    abbrev w : Work
    w = action n args

    abbrev ys : List ℕ
    ys = xs h args

    module _ (s : ActionSchema) (is : slice_get c.hddl.actions n ≡ Some s) (cell : IsCell c b p h) (typed : AreTyped (InTypeOf c) s.params args) where
      known : IsKnown c w
      known = (s.params, (s, is, refl), typed)

      action_true : IsTrueIn InT S (stack_action c p.names b n s).pre ys ↔ (S (held c b p h w) × t.tip h × EachTrue (IsTrueIn InT S) (condition_part c p.names 2 s.pre) ys)
      action_true = work_true h args (action_predicate c n) (length s.params) (condition_part c p.names 2 s.pre) (typed_long (InTypeOf c) s.params args typed) cell

      action_taken : IsTrueIn InT S (stack_action c p.names b n s).pre ys → IsTaken c b p S t T (run h w) (stack_action c p.names b n s) ys
      action_taken tr =
          let x = action_true.0 tr in
          let left = work_reads h args (action_predicate c n) (length s.params) (change_part c p.names 2 s.eff) w (typed_long (InTypeOf c) s.params args typed) known cell refl
          (Deletes (InTypeOf c) T s.eff args) (Adds (InTypeOf c) T s.eff args)
          (λ g z. (means h args).deletes_source s.eff args g (m.fits.action_eff n s is) z) (λ g z. (means h args).adds_source s.eff args g (m.fits.action_eff n s is) z)
          (λ g. (means h args).deletes s.eff args g (m.fits.action_eff n s is)) (λ g. (means h args).adds s.eff args g (m.fits.action_eff n s is)) in record {
            may = record { holds = (r.holds h w).1 (known, cell, x.0); simple = tt; tip = x.1 };
            allows = subst (λ o. AllowsAction c T o args) (sym is) (((means h args).condition s.pre args (m.fits.action_pre n s is)).0 x.2);
            reads = subst (λ o. Reads c b p (after InT S (stack_action c p.names b n s).eff ys) (after_tip N t (run h w)) (after_action c T o args)) (sym is) left.0;
            kept = left.1;
          }

      action_applies : MayRunAtTip N t h w → AllowsAction c T (Some s) args → IsTrueIn InT S (stack_action c p.names b n s).pre ys
      action_applies may al = action_true.1 (((r.holds h w).0 may.holds).2, may.tip, ((means h args).condition s.pre args (m.fits.action_pre n s is)).1 al)

    pub action_to : (a : ActionSchema) (os : List ℕ) → IsActionAct c b p h n args a os → IsTrueIn InT S a.pre os → IsTaken c b p S t T (run h w) a os
    action_to a os k tr =
        let x = subst (λ z. IsTrueIn InT S a.pre z) k.objects tr in
        let y = subst (λ (z : ActionSchema). IsTrueIn InT S z.pre ys) k.action x in
        subst (λ z. IsTaken c b p S t T (run h w) a z) (sym k.objects) (subst (λ z. IsTaken c b p S t T (run h w) z ys) (sym k.action) (action_taken k.schema k.is k.cell k.typed y))

    pub action_from : MayRunAtTip N t h w → AllowsAction c T (slice_get c.hddl.actions n) args → (a : ActionSchema) × (os : List ℕ) × Applies c b p S (run h w) a os
    action_from may al =
        let (known, cell, q) = (r.holds h w).0 may.holds in
        let (ps, (s, is, e), ty) = known in
        let typed : AreTyped (InTypeOf c) s.params args = subst (λ z. AreTyped (InTypeOf c) z args) (sym e) ty in (
          stack_action c p.names b n s,
          ys,
          (record { schema = s; is = is; action = refl; cell = cell; typed = typed; objects = refl }, action_applies s is cell typed may (subst (λ o. AllowsAction c T o args) is al)),
        )

  -- checks
  module _ (h n : ℕ) (args : List ℕ) where
    abbrev v : Work
    v = check n args

    abbrev zs : List ℕ
    zs = xs h args

    module _ (plan : MethodPlan) (is : slice_get c.methods n ≡ Some plan) (checked : IsTrue plan.checked) (cell : IsCell c b p h) (typed : AreTyped (InTypeOf c) plan.schema.params args) where
      known_check : IsKnown c v
      known_check = (plan, is, checked, typed)

      check_true : IsTrueIn InT S (stack_check c p.names b n plan).pre zs ↔ (S (held c b p h v) × t.tip h × EachTrue (IsTrueIn InT S) (condition_part c p.names 2 plan.schema.pre) zs)
      check_true = work_true h args (check_predicate c n) (length plan.schema.params) (condition_part c p.names 2 plan.schema.pre) (typed_long (InTypeOf c) plan.schema.params args typed) cell

      none_changed : (g : GroundAtom) → Changed T (λ g. ⊥) (λ g. ⊥) g ↔ T g
      none_changed g = (λ z. elim z [ inl y ↦ y.0 | inr y ↦ absurd y ], λ z. inl (z, λ y. y))

      check_taken : IsTrueIn InT S (stack_check c p.names b n plan).pre zs → IsTaken c b p S t T (run h v) (stack_check c p.names b n plan) zs
      check_taken tr =
          let x = check_true.0 tr in
          let left = work_reads h args (check_predicate c n) (length plan.schema.params) [] v (typed_long (InTypeOf c) plan.schema.params args typed) known_check cell refl
          (λ g. ⊥) (λ g. ⊥) (λ g z. absurd z) (λ g z. absurd z) (λ g. (λ z. z, λ z. z)) (λ g. (λ z. z, λ z. z)) in record {
            may = record { holds = (r.holds h v).1 (known_check, cell, x.0); simple = tt; tip = x.1 };
            allows = subst (λ o. AllowsCheck c T o args) (sym is) (((means h args).condition plan.schema.pre args (m.fits.method_pre n plan is)).0 x.2);
            reads = reads_alike c b p (after InT S (stack_check c p.names b n plan).eff zs) (after InT S (stack_check c p.names b n plan).eff zs)
                (after_tip N t (run h v)) (after_tip N t (run h v)) (Changed T (λ g. ⊥) (λ g. ⊥)) T
                (λ g. (λ z. z, λ z. z))
                (record { holds = λ x u. (λ z. z, λ z. z); tip = λ x. (λ z. z, λ z. z) })
                none_changed left.0;
            kept = left.1;
          }

      check_applies : MayRunAtTip N t h v → AllowsCheck c T (Some plan) args → IsTrueIn InT S (stack_check c p.names b n plan).pre zs
      check_applies may al = check_true.1 (((r.holds h v).0 may.holds).2, may.tip, ((means h args).condition plan.schema.pre args (m.fits.method_pre n plan is)).1 al)

    pub check_to : (a : ActionSchema) (os : List ℕ) → IsCheckAct c b p h n args a os → IsTrueIn InT S a.pre os → IsTaken c b p S t T (run h v) a os
    check_to a os k tr =
        let x = subst (λ z. IsTrueIn InT S a.pre z) k.objects tr in
        let y = subst (λ (z : ActionSchema). IsTrueIn InT S z.pre zs) k.action x in
        subst (λ z. IsTaken c b p S t T (run h v) a z) (sym k.objects) (subst (λ z. IsTaken c b p S t T (run h v) z zs) (sym k.action) (check_taken k.plan k.is k.checked k.cell k.typed y))

    pub check_from : MayRunAtTip N t h v → AllowsCheck c T (slice_get c.methods n) args → (a : ActionSchema) × (os : List ℕ) × Applies c b p S (run h v) a os
    check_from may al =
        let (known, cell, q) = (r.holds h v).0 may.holds in
        let (plan, is, checked, typed) = known in (
          stack_check c p.names b n plan,
          zs,
          (record { plan = plan; is = is; checked = checked; action = refl; cell = cell; typed = typed; objects = refl }, check_applies plan is checked cell typed may (subst (λ o. AllowsCheck c T o args) is al)),
        )
