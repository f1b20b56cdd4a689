-- The printed action of an action or a check is a step of the machine.
use Rattle.std.proofs.Common.{ℕ, suc, ◌≡◌, ◌↔◌, ◌<◌, inl, inr, List, [], ◌∷◌, ◌++◌, length, Some, slice_get, refl, ap, sym, subst, ◌∙◌}
use Rattle.plan_model.specs.declared.options.Style.{Style}
use Rattle.plan_model.specs.declared.terms.Param.{Param}
use Rattle.plan_model.specs.declared.terms.Atom.{Atom}
use Rattle.plan_model.specs.declared.terms.GroundAtom.{GroundAtom}
use Rattle.plan_model.specs.declared.formulas.Formula.{Formula}
use Rattle.plan_model.specs.declared.formulas.Formula.TheVariants.{Holds, And}
use Rattle.plan_model.specs.declared.effects.Effect.{Effect}
use Rattle.plan_model.specs.declared.effects.Effect.TheVariants as E
use Rattle.plan_model.specs.declared.schemas.ActionSchema.{ActionSchema}
use Rattle.plan_model.specs.declared.schemas.MethodPlan.{MethodPlan}
use Rattle.plan_model.specs.declared.values.Compiled.{Compiled}
use Rattle.plan_model.specs.declared.values.Pddl.{Pddl}
use Rattle.plan_model.specs.task_networks.Net.{Net}
use Rattle.plan_model.specs.task_networks.Spelling.{Act, run, label_of}
use Rattle.slot_machine.specs.Machine as Machine
use Rattle.slot_machine.specs.Machine.{May, MayRun}
use Rattle.plan_model.specs.plan_meaning.Truth.{State, ground, AreTyped, EachTrue, OneTrue, IsTrueIn, Adds, Deletes, after}
use Rattle.plan_model.specs.plan_meaning.Network.{Work, action, check, network, InTypeOf}
use Rattle.plan_model.specs.plan_meaning.Solution.{Allows, AllowsAction, AllowsCheck, after_action, next}
use Rattle.slot_encoding.specs.EncodedNames.{action_predicate, check_predicate}
use Rattle.slot_encoding.specs.EncodedActions.{held_work, waiting, freeing, source_condition, source_change, encoded_action, encoded_check}
use Rattle.slot_encoding.proofs.Pieces.{SourceMeaning, slot_object, IsSlot, IsActionAct, IsCheckAct}
use Rattle.plan_proof.proofs.machine.Reading.{IsKnown, held, Reads, Keeps, Applies}
use Rattle.slot_encoding.proofs.places.Sums.{own_vars}
use Rattle.plan_proof.proofs.machine.Facts.{PiecesMean}
use Rattle.plan_proof.proofs.machine.Freed.{Changed, reads_alike}
use Rattle.plan_proof.proofs.machine.Freeing.{InT, WaitsForNone, unblocked_iff, front_true, freeing_reads, freeing_keeps}
use Rattle.std.specs.Prelude.{IsTrue}

pub typed_long : (InType : ℕ → ℕ → Type 0) (ps : List Param) (os : List ℕ) → AreTyped InType ps os → length os ≡ length ps
typed_long InType [] [] t = refl
typed_long InType [] (o ∷ os) t = absurd t
typed_long InType (p ∷ ps) [] t = absurd t
typed_long InType (p ∷ ps) (o ∷ os) t = ap suc (typed_long InType ps os t.1)

module _ (c : Compiled) (b : ℕ) (style : Style) (p : Pddl) (m : PiecesMean c b style p) (S : State) (t : Machine.SlotState (network c)) (T : State) (r : Reads c b style p S t T) where
  abbrev N : Net
  N = network c

  -- the printed action a with these objects, where it is that of the act, is its step in the machine and in the source
  pub record IsTaken (act : Act N) (a : ActionSchema) (os : List ℕ) : Type 0 where
    pub may : May N t act
    pub allows : Allows c T (label_of N act)
    pub reads : Reads c b style p (after (InT c b style p) S a.eff os) (Machine.after_act N t act) (next c T (label_of N act))
    -- the objects in the types of guards never change, nor does what has a later predicate
    pub kept : Keeps c S (after (InT c b style p) S a.eff os)

  module _ (h : ℕ) (args : List ℕ) (predicate : ℕ) where
    abbrev vs : List ℕ
    vs = slot_object c b style p h ∷ args

    abbrev hold : ℕ → Atom
    hold count = held_work c p.names b style predicate count

    hold_ground : ground vs (hold (length args)) ≡ record { predicate = predicate; args = vs }
    hold_ground = λ i. record { predicate = predicate; args = own_vars vs i }

    abbrev pre : ℕ → List Formula → Formula
    pre count more = And (Holds (hold count) ∷ waiting c p.names b style (suc count) ++ more)

    pub work_true : (count : ℕ) (more : List Formula) → length args ≡ count
        → IsTrueIn (InT c b style p) S (pre count more) vs ↔ (S (record { predicate = predicate; args = vs }) × WaitsForNone c b style p S h × EachTrue (IsTrueIn (InT c b style p) S) more vs)
    work_true count more e = subst (λ n. IsTrueIn (InT c b style p) S (pre n more) vs ↔ (S (record { predicate = predicate; args = vs }) × WaitsForNone c b style p S h × EachTrue (IsTrueIn (InT c b style p) S) more vs)) e
        (subst (λ g. IsTrueIn (InT c b style p) S (pre (length args) more) vs ↔ (S g × WaitsForNone c b style p S h × EachTrue (IsTrueIn (InT c b style p) S) more vs)) hold_ground
        (front_true c b style p S h args (m.order S vs) (hold (length args)) more))

    abbrev eff : ℕ → List Effect → Effect
    eff count change = E.And (freeing c p.names b style (hold count) (suc count) ++ change)

    pub work_reads : (count : ℕ) (change : List Effect) (w : Work) → length args ≡ count → IsKnown c w → IsSlot c b style p h → held c b style p h w ≡ record { predicate = predicate; args = vs }
        → (D A : GroundAtom → Type 0) → ((g : GroundAtom) → D g → g.predicate < length c.hddl.predicates) → ((g : GroundAtom) → A g → g.predicate < length c.hddl.predicates)
        → ((g : GroundAtom) → OneTrue (λ e v. Deletes (InT c b style p) S e v g) change vs ↔ D g) → ((g : GroundAtom) → OneTrue (λ e v. Adds (InT c b style p) S e v g) change vs ↔ A g)
        → Reads c b style p (after (InT c b style p) S (eff count change) vs) (Machine.after_act N t (run h w)) (Changed T D A) × Keeps c S (after (InT c b style p) S (eff count change) vs)
    work_reads count change w e known slot is D A sd sa cd ca =
        subst (λ n. Reads c b style p (after (InT c b style p) S (eff n change) vs) (Machine.after_act N t (run h w)) (Changed T D A) × Keeps c S (after (InT c b style p) S (eff n change) vs)) e (
          freeing_reads c b style p S h args (m.order S vs) t T m.differ r w known slot (hold (length args)) (hold_ground ∙ sym is) change D A sd sa cd ca,
          freeing_keeps c b style p S h args (m.order S vs) t T m.differ r w known slot (hold (length args)) (hold_ground ∙ sym is) change D A sd sa cd ca,
        )

  -- actions
  module _ (h n : ℕ) (args : List ℕ) where
    abbrev w : Work
    w = action n args

    abbrev xs : List ℕ
    xs = slot_object c b style p h ∷ args

    abbrev means : SourceMeaning c b style p T S (slot_object c b style p h ∷ [])
    means = m.source T S (slot_object c b style p h ∷ []) r.source

    module _ (s : ActionSchema) (is : slice_get c.hddl.actions n ≡ Some s) (slot : IsSlot c b style p h) (typed : AreTyped (InTypeOf c) s.params args) where
      known : IsKnown c w
      known = (s.params, (s, is, refl), typed)

      action_true : IsTrueIn (InT c b style p) S (encoded_action c p.names b style n s).pre xs ↔ (S (held c b style p h w) × WaitsForNone c b style p S h × EachTrue (IsTrueIn (InT c b style p) S) (source_condition c p.names b style 1 s.pre) xs)
      action_true = work_true h args (action_predicate c n) (length s.params) (source_condition c p.names b style 1 s.pre) (typed_long (InTypeOf c) s.params args typed)

      action_taken : IsTrueIn (InT c b style p) S (encoded_action c p.names b style n s).pre xs → IsTaken (run h w) (encoded_action c p.names b style n s) xs
      action_taken tr =
          let x = action_true.0 tr in
          let left = work_reads h args (action_predicate c n) (length s.params) (source_change c p.names b style 1 s.eff) w (typed_long (InTypeOf c) s.params args typed) known slot refl
          (Deletes (InTypeOf c) T s.eff args) (Adds (InTypeOf c) T s.eff args)
          (λ g z. means.deletes_source s.eff args g (m.fits.action_eff n s is) z) (λ g z. means.adds_source s.eff args g (m.fits.action_eff n s is) z)
          (λ g. means.deletes s.eff args g (m.fits.action_eff n s is)) (λ g. means.adds s.eff args g (m.fits.action_eff n s is)) in record {
            may = record { holds = (r.holds h w).1 (known, slot, x.0); simple = tt; unblocked = (unblocked_iff c b style p S t T h r slot).1 x.1 };
            allows = subst (λ o. AllowsAction c T o args) (sym is) ((means.condition s.pre args (m.fits.action_pre n s is)).0 x.2);
            reads = subst (λ o. Reads c b style p (after (InT c b style p) S (encoded_action c p.names b style n s).eff xs) (Machine.after_act N t (run h w)) (after_action c T o args)) (sym is) left.0;
            kept = left.1;
          }

      action_applies : MayRun N t h w → AllowsAction c T (Some s) args → IsTrueIn (InT c b style p) S (encoded_action c p.names b style n s).pre xs
      action_applies may al = action_true.1 (((r.holds h w).0 may.holds).2, (unblocked_iff c b style p S t T h r slot).0 may.unblocked, (means.condition s.pre args (m.fits.action_pre n s is)).1 al)

    pub action_to : (a : ActionSchema) (os : List ℕ) → IsActionAct c b style p h n args a os → IsTrueIn (InT c b style p) S a.pre os → IsTaken (run h w) a os
    action_to a os k tr =
        let x = subst (λ z. IsTrueIn (InT c b style p) S a.pre z) k.objects tr in
        let y = subst (λ (z : ActionSchema). IsTrueIn (InT c b style p) S z.pre xs) k.action x in
        subst (λ z. IsTaken (run h w) a z) (sym k.objects) (subst (λ z. IsTaken (run h w) z xs) (sym k.action) (action_taken k.schema k.is k.slot k.typed y))

    pub action_from : MayRun N t h w → AllowsAction c T (slice_get c.hddl.actions n) args → (a : ActionSchema) × (os : List ℕ) × Applies c b style p S (run h w) a os
    action_from may al =
        let (known, slot, q) = (r.holds h w).0 may.holds in
        let (ps, (s, is, e), ty) = known in
        let typed : AreTyped (InTypeOf c) s.params args = subst (λ z. AreTyped (InTypeOf c) z args) (sym e) ty in (
          encoded_action c p.names b style n s,
          xs,
          (record { schema = s; is = is; action = refl; slot = slot; typed = typed; objects = refl }, action_applies s is slot typed may (subst (λ o. AllowsAction c T o args) is al)),
        )

  -- checks
  module _ (h n : ℕ) (args : List ℕ) where
    abbrev v : Work
    v = check n args

    abbrev ys : List ℕ
    ys = slot_object c b style p h ∷ args

    abbrev says : SourceMeaning c b style p T S (slot_object c b style p h ∷ [])
    says = m.source T S (slot_object c b style p h ∷ []) r.source

    module _ (plan : MethodPlan) (is : slice_get c.methods n ≡ Some plan) (checked : IsTrue plan.checked) (slot : IsSlot c b style p h) (typed : AreTyped (InTypeOf c) plan.schema.params args) where
      known_check : IsKnown c v
      known_check = (plan, is, checked, typed)

      check_true : IsTrueIn (InT c b style p) S (encoded_check c p.names b style n plan).pre ys ↔ (S (held c b style p h v) × WaitsForNone c b style p S h × EachTrue (IsTrueIn (InT c b style p) S) (source_condition c p.names b style 1 plan.schema.pre) ys)
      check_true = work_true h args (check_predicate c n) (length plan.schema.params) (source_condition c p.names b style 1 plan.schema.pre) (typed_long (InTypeOf c) plan.schema.params args typed)

      none_changed : (g : GroundAtom) → Changed T (λ g. ⊥) (λ g. ⊥) g ↔ T g
      none_changed g = (λ z. elim z [ inl y ↦ y.0 | inr y ↦ absurd y ], λ z. inl (z, λ y. y))

      check_taken : IsTrueIn (InT c b style p) S (encoded_check c p.names b style n plan).pre ys → IsTaken (run h v) (encoded_check c p.names b style n plan) ys
      check_taken tr =
          let x = check_true.0 tr in
          let left = work_reads h args (check_predicate c n) (length plan.schema.params) [] v (typed_long (InTypeOf c) plan.schema.params args typed) known_check slot refl
          (λ g. ⊥) (λ g. ⊥) (λ g z. absurd z) (λ g z. absurd z) (λ g. (λ z. z, λ z. z)) (λ g. (λ z. z, λ z. z)) in record {
            may = record { holds = (r.holds h v).1 (known_check, slot, x.0); simple = tt; unblocked = (unblocked_iff c b style p S t T h r slot).1 x.1 };
            allows = subst (λ o. AllowsCheck c T o args) (sym is) ((says.condition plan.schema.pre args (m.fits.method_pre n plan is)).0 x.2);
            reads = reads_alike c b style p (after (InT c b style p) S (encoded_check c p.names b style n plan).eff ys) (after (InT c b style p) S (encoded_check c p.names b style n plan).eff ys)
                (Machine.after_act N t (run h v)) (Machine.after_act N t (run h v)) (Changed T (λ g. ⊥) (λ g. ⊥)) T
                (λ g. (λ z. z, λ z. z))
                (record { holds = λ x u. (λ z. z, λ z. z); free = λ x. (λ z. z, λ z. z); before = λ x y. (λ z. z, λ z. z) })
                none_changed left.0;
            kept = left.1;
          }

      check_applies : MayRun N t h v → AllowsCheck c T (Some plan) args → IsTrueIn (InT c b style p) S (encoded_check c p.names b style n plan).pre ys
      check_applies may al = check_true.1 (((r.holds h v).0 may.holds).2, (unblocked_iff c b style p S t T h r slot).0 may.unblocked, (says.condition plan.schema.pre args (m.fits.method_pre n plan is)).1 al)

    pub check_to : (a : ActionSchema) (os : List ℕ) → IsCheckAct c b style p h n args a os → IsTrueIn (InT c b style p) S a.pre os → IsTaken (run h v) a os
    check_to a os k tr =
        let x = subst (λ z. IsTrueIn (InT c b style p) S a.pre z) k.objects tr in
        let y = subst (λ (z : ActionSchema). IsTrueIn (InT c b style p) S z.pre ys) k.action x in
        subst (λ z. IsTaken (run h v) a z) (sym k.objects) (subst (λ z. IsTaken (run h v) z ys) (sym k.action) (check_taken k.plan k.is k.checked k.slot k.typed y))

    pub check_from : MayRun N t h v → AllowsCheck c T (slice_get c.methods n) args → (a : ActionSchema) × (os : List ℕ) × Applies c b style p S (run h v) a os
    check_from may al =
        let (known, slot, q) = (r.holds h v).0 may.holds in
        let (plan, is, checked, typed) = known in (
          encoded_check c p.names b style n plan,
          ys,
          (record { plan = plan; is = is; checked = checked; action = refl; slot = slot; typed = typed; objects = refl }, check_applies plan is checked slot typed may (subst (λ o. AllowsCheck c T o args) is al)),
        )
