-- The machine of a stack takes exactly what spells a front with its cells.
use Rattle.std.proofs.Common.{ℕ, ◌≡◌, ◌+◌, ◌-◌, ◌≤◌, ◌⊎◌, ◌↔◌, inl, inr, List, [], ◌∷◌, ◌++◌, length, Some, slice_get, refl, ap, sym, subst, ◌∙◌, arith}
use Rattle.plan_model.specs.task_networks.Net.{Net}
use Rattle.plan_model.specs.task_networks.Lawful.{IsLawful}
use Rattle.plan_model.specs.task_networks.Tree.{Tree, Address, IsOpen}
use Rattle.plan_model.specs.task_networks.Spelling.{Act, run, apply, label_of}
use Rattle.plan_model.proofs.task_networks.Lists.{by_push}
use Rattle.slot_machine.specs.Machine.{SlotState, start, end_of, after_act, IsSlotOf, IsUnblocked, May}
use Rattle.slot_machine.specs.OtherMachine.{TakesAll}
use Rattle.slot_machine.specs.Reached.{HasLeaf}
use Rattle.slot_machine.proofs.Growth.{child_works}
use Rattle.slot_machine.proofs.LabelTrees.{work_at}
use Rattle.slot_machine.proofs.Matching.{Matches}
use Rattle.slot_machine.proofs.SpellingRuns.{LastStep, last_step, first_tree}
use Rattle.slot_machine.proofs.SpellingSteps.{act_label, slot_of, no_acts}
use Rattle.schedules.specs.ruled.Narrowed.{after, SpellsPicked, AgreesWherePicked}
use Rattle.stack_machine.specs.Stack.{IsTotal, TellsTip}
use Rattle.stack_machine.specs.StackMachine.{StackState, first_stack, MayAtTip, after_tip, StackRuns, end_of_stack, AreSameStacks, SpellsCells, AgreesWithStack}
use Rattle.stack_machine.proofs.StackPicks.{Pick, cells_iff_picked, matches, unblocked_iff, cells_may, may_cells}
use Rattle.stack_machine.proofs.StackTells.{HasTip, tip_at_start, taken_at_tip, tip_grows, tells_has}
use Rattle.schedules.proofs.ruled.TakesPicked.{takes_push, takes_picked}

module _ (N : Net) where
  pub stack_push : (s : StackState N) (acts : List (Act N)) (a : Act N) → end_of_stack N s (acts ++ a ∷ []) ≡ after_tip N (end_of_stack N s acts) a
  stack_push s [] a = refl
  stack_push s (c ∷ acts) a = stack_push (after_tip N s c) acts a

  -- the works are those of the machine of slots
  same_holds : (acts : List (Act N)) (s : SlotState N) (t : StackState N) → t.holds ≡ s.holds → (end_of_stack N t acts).holds ≡ (end_of N s acts).holds
  same_holds [] s t e = e
  same_holds (run h w ∷ acts) s t e = same_holds acts (after_act N s (run h w)) (after_tip N t (run h w)) (ap (λ f. λ x v. f x v × ((x ≡ h) × (v ≡ w) → ⊥)) e)
  same_holds (apply h new m ∷ acts) s t e = same_holds acts (after_act N s (apply h new m)) (after_tip N t (apply h new m))
      (ap (λ f. λ x v. (f x v × ((x ≡ h) × (v ≡ N.head m) → ⊥)) ⊎ ((i : ℕ) × IsSlotOf N h new m i x × (slice_get (N.works m) i ≡ Some v))) e)

  runs_take : (b : ℕ) (s : StackState N) (acts : List (Act N)) → TakesAll N (λ taken a. MayAtTip N b (end_of_stack N s taken) a) acts ↔ StackRuns N b s acts
  runs_take b s acts = (to s acts, from s acts)
    where
      to : (s : StackState N) (acts : List (Act N)) → TakesAll N (λ taken a. MayAtTip N b (end_of_stack N s taken) a) acts → StackRuns N b s acts
      to s [] t = tt
      to s (c ∷ acts) t = (t [] acts c refl, to (after_tip N s c) acts (λ taken rest a e. t (c ∷ taken) rest a (ap (λ z. c ∷ z) e)))

      from : (s : StackState N) (acts : List (Act N)) → StackRuns N b s acts → TakesAll N (λ taken a. MayAtTip N b (end_of_stack N s taken) a) acts
      from s [] r [] rest a e = absurd cc
      from s [] r (x ∷ taken) rest a e = absurd cc
      from s (c ∷ acts) r [] rest a e = subst (MayAtTip N b s) (cc) r.0
      from s (c ∷ acts) r (x ∷ taken) rest a e =
          let f : c ≡ x = cc in
          subst (λ z. MayAtTip N b (end_of_stack N (after_tip N s z) taken) a) f (from (after_tip N s c) acts r.1 taken rest a (cc))

  module _ (law : IsLawful N) (total : IsTotal N) (b : ℕ) (top : N.Work) where
    abbrev stack : List (Act N) → StackState N
    stack acts = end_of_stack N (first_stack N top) acts

    holds_same : (acts : List (Act N)) → (stack acts).holds ≡ (after N b top acts).holds
    holds_same acts = same_holds acts (start N b top) (first_stack N top) refl

    abbrev Q : List Address → Type 0
    Q order = (acts : List (Act N)) (tree : Tree N) (cell : Address → ℕ) → SpellsPicked N (Pick N law total b top) b top acts tree order cell
        → (tip : ℕ) × HasTip N tree cell tip × ((x : ℕ) → (stack acts).tip x ↔ (x ≡ tip))

    -- the tip after the last act
    tip_after : (s : StackState N) (a : Act N) (tip : ℕ) → 1 ≤ tip → slot_of N a ≡ tip → ((x : ℕ) → s.tip x ↔ (x ≡ tip)) → (x : ℕ) → (after_tip N s a).tip x ↔ (x ≡ (tip - 1) + length (child_works N (label_of N a)))
    tip_after s (run h w) tip one e t x = (
      λ k. elim k [ inl y ↦ absurd (y.1 ((t x).0 y.0 ∙ sym e)) | inr y ↦ omega arith ],
      λ k. inr (omega arith),
    )
    tip_after s (apply h new m) tip one e t x = (
      λ k. elim k [ inl y ↦ absurd (y.1 ((t x).0 y.0 ∙ sym e)) | inr y ↦ omega arith ],
      λ k. inr (omega arith),
    )

    pub stack_tip : (order : List Address) → Q order
    stack_tip = by_push Q none more
      where
        none : Q []
        none acts tree cell s =
            let e = no_acts N tree cell acts s.spells.spelled in
            let v = first_tree N law b top acts tree cell s.spells in
            (1, subst (λ z. HasTip N z cell 1) (sym v) (tip_at_start N total top cell s.spells.root), subst (λ z. (x : ℕ) → (stack z).tip x ↔ (x ≡ 1)) (sym e) (λ x. (λ k. k, λ k. k)))

        more : (order : List Address) (p : Address) → Q order → Q (order ++ p ∷ [])
        more order p ih acts' tree' cell s = go (last_step N b top acts' tree' order p cell s.spells)
          where
            go : LastStep N b top acts' tree' order p cell → (tip : ℕ) × HasTip N tree' cell tip × ((x : ℕ) → (stack acts').tip x ↔ (x ≡ tip))
            go d =
                let picked = (takes_push N (Pick N law total b top) d.acts d.act).0 (subst (TakesAll N (Pick N law total b top)) d.is s.picked) in
                let (tip, h, t) = ih d.acts d.tree cell (record { spells = d.before; picked = picked.0 }) in
                let c = (cells_iff_picked N law total b top acts' tree' (order ++ p ∷ []) cell s.spells).0 s.picked in
                let e = taken_at_tip N d.tree tree' p (work_at N (label_of N d.act)) (label_of N d.act) d.growth cell tip order d.before.front.schedule h d.due in
                let k = (act_label N tree' cell p d.act d.is_act).1 in
                let one : 1 ≤ tip = (let r = (h.range p (work_at N (label_of N d.act), d.growth.was)).0 in omega arith) in (
                  (tip - 1) + length (child_works N (label_of N d.act)),
                  tip_grows N total d.tree tree' p (work_at N (label_of N d.act)) (label_of N d.act) d.growth cell tip c h e,
                  subst (λ z. (x : ℕ) → z.tip x ↔ (x ≡ (tip - 1) + length (child_works N (label_of N d.act)))) (sym (ap stack d.is ∙ stack_push (first_stack N top) d.acts d.act)) (tip_after (stack d.acts) d.act tip one (k ∙ e) t),
                )

    module _ (acts : List (Act N)) (tree : Tree N) (order : List Address) (cell : Address → ℕ) (s : SpellsPicked N (Pick N law total b top) b top acts tree order cell) where
      unblocked : (tip : ℕ) (h : HasTip N tree cell tip) (p : Address) → IsOpen N tree p → IsUnblocked N (after N b top acts) (cell p) ↔ (cell p ≡ tip)
      unblocked tip h p o = unblocked_iff N law total b top acts tree order cell s.spells tip h p o

      to_slots : (x : ℕ) (w : N.Work) → (stack acts).holds x w → (after N b top acts).holds x w
      to_slots x w k = subst (λ f. f x w) (holds_same acts) k

      from_slots : (x : ℕ) (w : N.Work) → (after N b top acts).holds x w → (stack acts).holds x w
      from_slots x w k = subst (λ f. f x w) (sym (holds_same acts)) k

      -- the tip test is the wait test, and room is what the machine of slots asks of the cells
      pub may_iff_tip : (a : Act N) → MayAtTip N b (stack acts) a ↔ (May N (after N b top acts) a × Pick N law total b top acts a)
      may_iff_tip a = let (tip, h, t) = stack_tip order acts tree cell s in go tip h t a
        where
          go : (tip : ℕ) → HasTip N tree cell tip → ((x : ℕ) → (stack acts).tip x ↔ (x ≡ tip)) → (a : Act N) → MayAtTip N b (stack acts) a ↔ (May N (after N b top acts) a × Pick N law total b top acts a)
          go tip h t (run k w) = (
            λ y. (let ho = to_slots k w y.holds in
                (record { holds = ho; simple = y.simple; unblocked = (let (p, e, f) = (m.holds k w).0 ho in subst (IsUnblocked N (after N b top acts)) f ((unblocked tip h p (w, e)).1 (f ∙ (t k).0 y.tip))) }, tt)),
            λ y. (let z = y.0 in let (p, e, f) = (m.holds k w).0 z.holds in
                record { holds = from_slots k w z.holds; simple = z.simple; tip = (t k).1 (sym f ∙ (unblocked tip h p (w, e)).0 (λ x bf. z.unblocked x (subst ((after N b top acts).before x) f bf))) }),
          )
            where
              m : Matches N b (after N b top acts) tree cell
              m = matches N law total b top acts tree order cell s.spells tip h
          go tip h t (apply k new n) = (
            λ y. (may_cells N law total b top acts tree order cell s.spells tip h k n new (to_slots k (N.head n) y.holds) y.ground ((t k).0 y.tip) y.room y.cells, y.cells),
            λ y. (let z = cells_may N law total b top acts tree order cell s.spells tip h k new n y.0 in record { holds = from_slots k (N.head n) y.0.holds; ground = y.0.ground; tip = (t k).1 z.0; cells = y.1; room = z.1 }),
          )

      -- what the stack's state says of the front
      pub stack_tells : (tip : ℕ) × TellsTip N tree cell tip × ((x : ℕ) → (stack acts).tip x ↔ (x ≡ tip)) × ((x : ℕ) (w : N.Work) → (stack acts).holds x w ↔ HasLeaf N tree cell x w)
      stack_tells =
          let (tip, h, t) = stack_tip order acts tree cell s in
          let m = matches N law total b top acts tree order cell s.spells tip h in (
            tip,
            tells_has N tree order cell tip s.spells.front.schedule h,
            t,
            λ x w. (λ k. (m.holds x w).0 (subst (λ f. f x w) (holds_same acts) k), λ k. subst (λ f. f x w) (sym (holds_same acts)) ((m.holds x w).1 k)),
          )

    abbrev pub SpellsSomeCells : List (Act N) → Type 0
    SpellsSomeCells acts = (tree : Tree N) × (order : List Address) × (cell : Address → ℕ) × SpellsCells N b top acts tree order cell

    pub picked_cells : (acts : List (Act N)) (tree : Tree N) (order : List Address) (cell : Address → ℕ) → SpellsPicked N (Pick N law total b top) b top acts tree order cell ↔ SpellsCells N b top acts tree order cell
    picked_cells acts tree order cell = (
      λ s. record { spells = s.spells; cells = (cells_iff_picked N law total b top acts tree order cell s.spells).0 s.picked },
      λ s. record { spells = s.spells; picked = (cells_iff_picked N law total b top acts tree order cell s.spells).1 s.cells },
    )

    -- another machine
    module _ (positive : 1 ≤ b) (read : List (Act N) → StackState N) (Takes : List (Act N) → Act N → Type 0) (agrees : AgreesWithStack N read Takes b top) where
      agrees_picked : AgreesWherePicked N (Pick N law total b top) b top (λ acts. AreSameStacks N (read acts) (stack acts)) Takes
      agrees_picked = record {
        first = agrees.first;
        may = λ acts tree order cell a s f. (
            let x = agrees.may acts tree order cell a ((picked_cells acts tree order cell).0 s) f in
            let y = may_iff_tip acts tree order cell s a in
            (λ k. y.0 (x.0 k), λ k. x.1 (y.1 k)));
        step = λ acts tree order cell a s f m p. subst (AreSameStacks N (read (acts ++ a ∷ []))) (sym (stack_push (first_stack N top) acts a))
            (agrees.step acts tree order cell a ((picked_cells acts tree order cell).0 s) f ((may_iff_tip acts tree order cell s a).1 (m, p)));
      }

      pub takes_cells : (acts : List (Act N)) → (TakesAll N Takes acts ↔ SpellsSomeCells acts) × (SpellsSomeCells acts → AreSameStacks N (read acts) (stack acts))
      takes_cells acts =
          let (x, y) = takes_picked N law (Pick N law total b top) b top positive (λ acts. AreSameStacks N (read acts) (stack acts)) Takes agrees_picked acts in
          let z = picked_cells acts in (
            (λ t. (let (tree, order, cell, s) = x.0 t in (tree, order, cell, (z tree order cell).0 s)), λ h. (let (tree, order, cell, s) = h in x.1 (tree, order, cell, (z tree order cell).1 s))),
            λ h. (let (tree, order, cell, s) = h in y (tree, order, cell, (z tree order cell).1 s)),
          )

    pub runs_iff_cells : 1 ≤ b → (acts : List (Act N)) → StackRuns N b (first_stack N top) acts ↔ SpellsSomeCells acts
    runs_iff_cells positive acts =
        let t = (takes_cells positive stack (λ acts a. MayAtTip N b (stack acts) a) (record {
          first = same (first_stack N top);
          may = λ acts tree order cell a s f. (λ k. k, λ k. k);
          step = λ acts tree order cell a s f m. subst (λ z. AreSameStacks N z (after_tip N (stack acts) a)) (sym (stack_push (first_stack N top) acts a)) (same (after_tip N (stack acts) a));
        }) acts).0 in
        let r = runs_take b (first_stack N top) acts in
        (λ x. t.0 (r.1 x), λ x. r.0 (t.1 x))
      where
        same : (s : StackState N) → AreSameStacks N s s
        same s = record { holds = λ x w. (λ k. k, λ k. k); tip = λ x. (λ k. k, λ k. k) }
