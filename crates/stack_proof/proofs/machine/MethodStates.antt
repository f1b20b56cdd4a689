-- How the state reads after a method: its children are in their cells, and the tip is that of the line's first child, or the cell below.
use Rattle.std.proofs.Common.{ℕ, zero, suc, ◌≡◌, ◌↔◌, ◌⊎◌, ◌+◌, ◌-◌, ◌<◌, ◌≤◌, inl, inr, List, [], ◌∷◌, ◌++◌, map, length, slice_get, Some, refl, ap, subst, ◌∙◌, Contains, arith}
use Rattle.std.proofs.Math.Decide.{ℕ_discrete}
use Rattle.std.proofs.lemmas.Option.{slice_get_within}
use Rattle.plan_model.specs.declared.terms.Atom.{Atom}
use Rattle.plan_model.specs.declared.terms.GroundAtom.{GroundAtom}
use Rattle.plan_model.specs.declared.effects.Effect.{Effect}
use Rattle.plan_model.specs.declared.effects.Effect.TheVariants as E
use Rattle.plan_model.specs.declared.networks.Child.{Child}
use Rattle.plan_model.specs.declared.schemas.MethodPlan.{MethodPlan}
use Rattle.plan_model.specs.declared.values.Compiled.{Compiled}
use Rattle.plan_model.specs.declared.values.Pddl.{Pddl}
use Rattle.plan_model.specs.task_networks.Net.{Net, count}
use Rattle.plan_model.specs.task_networks.Spelling.{apply}
use Rattle.plan_model.specs.plan_meaning.Truth.{State, ground, AreTyped, Adds, Deletes, after}
use Rattle.plan_model.specs.plan_meaning.ClassicalPlan as Printed
use Rattle.plan_model.specs.plan_meaning.Network.{Work, GroundMethod, network, InTypeOf, IsDeclared, child_of}
use Rattle.slot_encoding.specs.MethodParts.{task_in}
use Rattle.plan_proof.proofs.machine.Reading.{IsKnown, Keeps}
use Rattle.plan_proof.proofs.machine.Freed.{Changed}
use Rattle.plan_proof.proofs.machine.MethodChildren.{count_is, known_head, known_children}
use Rattle.stack_machine.specs.Stack.{AreCellsFrom}
use Rattle.stack_machine.specs.StackMachine.{StackState, AreSameStacks, after_tip}
use Rattle.stack_encoding.specs.StackNames.{cell_object}
use Rattle.stack_encoding.specs.StackActions.{method_eff}
use Rattle.stack_encoding.specs.StackSpelling.{cells_of}
use Rattle.stack_proof.proofs.machine.StackReading.{IsCell, held, tip_atom, Reads}
use Rattle.stack_proof.proofs.machine.StackFacts.{StackPieces}
use Rattle.stack_proof.proofs.machine.CellChanges as Moves
use Rattle.stack_proof.proofs.machine.CellChanges.{reads_alike, moved, effect_reads, effect_keeps}
use Rattle.stack_proof.proofs.machine.Fallen.{fallen, fallen_reads, fallen_keeps}
use Rattle.stack_proof.proofs.machine.Asked.{task_ground}
use Rattle.stack_proof.proofs.machine.ChildCells.{child_in_range}
use Rattle.stack_proof.proofs.machine.Climbing.{xs}
use Rattle.stack_proof.proofs.machine.ClimbingEffects.{Comes, climbing_adds, climbing_deletes}

module _ (c : Compiled) (b : ℕ) (p : Pddl) (means : StackPieces c b p) (S : State) (t : StackState (network c)) (T : State) (r : Reads c b p S t T)
    (h : ℕ) (new : List ℕ) (g : GroundMethod) (plan : MethodPlan) (is : slice_get c.methods g.number ≡ Some plan) (typed : AreTyped (InTypeOf c) plan.schema.params g.values)
    (declared : (child : Child) → Contains plan.schema.children child → IsDeclared c (child_of g child)) (cell : IsCell c b p h) (tip : t.tip h)
    (new_cells : AreCellsFrom (network c) h g new) (room : h + count (network c) g ≤ suc b) where
  abbrev N : Net
  N = network c

  abbrev InT : ℕ → ℕ → Type 0
  InT = Printed.InTypeOf p

  -- what the printed action of a method with so many children leaves
  abbrev Left : ℕ → Type 0
  Left k = Reads c b p (after InT S (E.And (method_eff c p.names b g.number plan k)) (map (cell_object c) (cells_of h k) ++ g.values)) (after_tip N t (apply h new g)) T
      × Keeps c S (after InT S (E.And (method_eff c p.names b g.number plan k)) (map (cell_object c) (cells_of h k) ++ g.values))

  known : IsKnown c (N.head g)
  known = known_head c means.fits g plan is

  none_changed : (a : GroundAtom) → Changed T (λ g. ⊥) (λ g. ⊥) a ↔ T a
  none_changed a = (λ z. elim z [ inl y ↦ y.0 | inr y ↦ absurd y ], λ z. inl (z, λ y. y))

  no_children : length plan.schema.children ≡ 0 → Left 0
  no_children e = (
    reads_alike c b p left left (fallen c b p means.differ S t T r h g.values (N.head g) known cell at is_head [] none none no_source no_source same_none same_none) (after_tip N t (apply h new g)) (Changed T none none) T
        (λ a. (λ q. q, λ q. q)) same none_changed reads,
    keeps,
  )
    where
      cells : List ℕ
      cells = cell_object c (h - 1) ∷ cell_object c h ∷ []

      at : Atom
      at = task_in c p.names 2 1 plan

      none : GroundAtom → Type 0
      none g = ⊥

      is_head : ground (cells ++ g.values) at ≡ held c b p h (N.head g)
      is_head = task_ground c b p means g plan is 2 cells refl 1 h refl

      left : State
      left = after InT S (E.And (method_eff c p.names b g.number plan 0)) (cells ++ g.values)

      no_source : (g : GroundAtom) → none g → g.predicate < length c.hddl.predicates
      no_source g k = absurd k

      same_none : (g : GroundAtom) → ⊥ ↔ ⊥
      same_none g = (λ z. z, λ z. z)

      reads : Reads c b p left (fallen c b p means.differ S t T r h g.values (N.head g) known cell at is_head [] none none no_source no_source same_none same_none) (Changed T none none)
      reads = fallen_reads c b p means.differ S t T r h g.values (N.head g) known cell at is_head [] none none no_source no_source same_none same_none

      keeps : Keeps c S left
      keeps = fallen_keeps c b p means.differ S t T r h g.values (N.head g) known cell at is_head [] none none no_source no_source same_none same_none

      few : count N g ≡ 0
      few = count_is c means.fits g plan is ∙ e

      no_work : (i : ℕ) (w : Work) → slice_get (N.works g) i ≡ Some w → ⊥
      no_work i w f = let l = slice_get_within (N.works g) i w f in omega (arith, few)

      same : AreSameStacks N (fallen c b p means.differ S t T r h g.values (N.head g) known cell at is_head [] none none no_source no_source same_none same_none) (after_tip N t (apply h new g))
      same = record {
        holds = λ x v. (λ k. inl k, λ k. elim k [ inl y ↦ y | inr y ↦ absurd (no_work y.0 v y.2) ]);
        tip = λ x. (λ k. elim k [ inl y ↦ inl y | inr y ↦ inr (omega (arith, few)) ], λ k. elim k [ inl y ↦ inl y | inr y ↦ inr (omega (arith, few)) ]);
      }

  module _ (n : ℕ) (many : length plan.schema.children ≡ suc n) where
    count_many : count N g ≡ suc n
    count_many = count_is c means.fits g plan is ∙ many

    abbrev In : ℕ → Work → Type 0
    In = Comes c b p means S h g plan is n many new new_cells typed

    in_known : (x : ℕ) (v : Work) → In x v → IsKnown c v × IsCell c b p x
    in_known x v (i, s, e) = (known_children c means.fits g plan is typed declared i v e, child_in_range c b p means g plan is h new cell new_cells room i x s)

    abbrev Leaves : Type 0
    Leaves = 0 < n

    abbrev To : ℕ → Type 0
    To x = (0 < n) × (x ≡ h + n)

    low : (x : ℕ) → To x → x ≤ b
    low x k = let e = k.1 in omega (arith, count_many, room)

    none : GroundAtom → Type 0
    none g = ⊥

    no_source : (g : GroundAtom) → none g → g.predicate < length c.hddl.predicates
    unfolding none
    no_source g k = absurd k

    abbrev eff : Effect
    eff = E.And (method_eff c p.names b g.number plan (suc n))

    abbrev vs : List ℕ
    vs = xs c b p means S h g plan is n many

    deletes : (a : GroundAtom) → Deletes InT S eff vs a ↔ Moves.Goes c b p means.differ S t T r h (N.head g) known In in_known Leaves To low none none no_source no_source a
    unfolding none
    deletes a = let q = climbing_deletes c b p means S h g plan is n many new new_cells typed a in (λ k. elim (q.0 k) [ inl x ↦ inl x | inr x ↦ inr (inl x) ], λ k. q.1 (elim k [ inl x ↦ inl x | inr (inl x) ↦ inr x | inr (inr x) ↦ absurd x ]))

    adds : (a : GroundAtom) → Adds InT S eff vs a ↔ Moves.Comes c b p means.differ S t T r h (N.head g) known In in_known Leaves To low none none no_source no_source a
    unfolding none
    adds a =
        let q = climbing_adds c b p means S h g plan is n many new new_cells typed a in (
          λ k. elim (q.0 k) [ inl x ↦ inl x | inr x ↦ inr (inl (h + n, (x.0, refl), x.1)) ],
          λ k. q.1 (elim k [ inl x ↦ inl x | inr (inl x) ↦ inr (x.1.0, x.2 ∙ ap (tip_atom c b p) x.1.1) | inr (inr x) ↦ absurd x ]),
        )

    same_tip : (x : ℕ) → ((t.tip x × (Leaves × (x ≡ h) → ⊥)) ⊎ To x) ↔ ((t.tip x × (x ≡ h → ⊥)) ⊎ (suc x ≡ h + count N g))
    same_tip x = (to, from)
      where
        to : (t.tip x × (Leaves × (x ≡ h) → ⊥)) ⊎ To x → (t.tip x × (x ≡ h → ⊥)) ⊎ (suc x ≡ h + count N g)
        to (inl (f, stays)) = elim (ℕ_discrete x h) [
          | no d ↦ inl (f, d)
          | yes e ↦ elim (ℕ_discrete n 0) [ yes z ↦ inr (omega (arith, count_many)) | no z ↦ absurd (stays (omega arith, e)) ]
        ]
        to (inr (l, e)) = inr (omega (arith, count_many))

        from : (t.tip x × (x ≡ h → ⊥)) ⊎ (suc x ≡ h + count N g) → (t.tip x × (Leaves × (x ≡ h) → ⊥)) ⊎ To x
        from (inl (f, d)) = inl (f, λ z. d z.1)
        from (inr e) = elim (ℕ_discrete n 0) [
          | yes z ↦ inl (subst t.tip (let q : h ≡ x = omega (arith, count_many) in q) tip, λ k. (let l = k.0 in omega arith))
          | no z ↦ inr (omega arith, omega (arith, count_many))
        ]

    some_children : Left (suc n)
    unfolding none
    some_children = (
      effect_reads c b p means.differ S t T r h (N.head g) known In in_known Leaves To low none none no_source no_source eff vs deletes adds (after_tip N t (apply h new g)) T
          (record { holds = λ x v. (λ k. k, λ k. k); tip = same_tip }) none_changed,
      effect_keeps c b p means.differ S t T r h (N.head g) known In in_known Leaves To low none none no_source no_source eff vs deletes adds,
    )

  pub method_left : Left (length plan.schema.children)
  method_left = go (length plan.schema.children) refl
    where
      go : (k : ℕ) → length plan.schema.children ≡ k → Left k
      go zero e = no_children e
      go (suc n) e = some_children n e
