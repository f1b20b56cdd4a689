-- How the state reads after what was at the tip is gone.
use Rattle.std.proofs.Common.{ℕ, suc, ◌≡◌, ◌↔◌, ◌⊎◌, ◌-◌, ◌<◌, ◌≤◌, inl, inr, List, ◌++◌, length, ap, sym, ◌∙◌, arith}
use Rattle.plan_model.specs.declared.terms.Atom.{Atom}
use Rattle.plan_model.specs.declared.terms.GroundAtom.{GroundAtom}
use Rattle.plan_model.specs.declared.effects.Effect.{Effect}
use Rattle.plan_model.specs.declared.effects.Effect.TheVariants as E
use Rattle.plan_model.specs.declared.values.Compiled.{Compiled}
use Rattle.plan_model.specs.declared.values.Pddl.{Pddl}
use Rattle.plan_model.specs.plan_meaning.Truth.{State, ground, OneTrue, Adds, Deletes, after}
use Rattle.plan_model.specs.plan_meaning.ClassicalPlan as Printed
use Rattle.plan_model.specs.plan_meaning.Network.{Work, network}
use Rattle.slot_encoding.proofs.Pieces.{PredicatesDiffer}
use Rattle.plan_proof.proofs.machine.Reading.{IsKnown, Keeps}
use Rattle.plan_proof.proofs.machine.Freed.{Changed}
use Rattle.stack_machine.specs.StackMachine.{StackState, AreSameStacks}
use Rattle.stack_encoding.specs.StackActions.{falling}
use Rattle.stack_proof.proofs.machine.StackReading.{IsCell, held, tip_atom, Reads}
use Rattle.stack_proof.proofs.machine.CellChanges.{Goes, Comes, moved, effect_reads, effect_keeps}
use Rattle.stack_proof.proofs.machine.Falling.{vs, falling_adds, falling_deletes}

module _ (c : Compiled) (b : ℕ) (p : Pddl) (d : PredicatesDiffer c) (S : State) (t : StackState (network c)) (T : State) (r : Reads c b p S t T)
    (h : ℕ) (rest : List ℕ) (w : Work) (known : IsKnown c w) (cell : IsCell c b p h) (a : Atom) (is : ground (vs c b p S h rest) a ≡ held c b p h w)
    (change : List Effect) (SD SA : GroundAtom → Type 0) (source_D : (g : GroundAtom) → SD g → g.predicate < length c.hddl.predicates) (source_A : (g : GroundAtom) → SA g → g.predicate < length c.hddl.predicates)
    (change_D : (g : GroundAtom) → OneTrue (λ e v. Deletes (Printed.InTypeOf p) S e v g) change (vs c b p S h rest) ↔ SD g)
    (change_A : (g : GroundAtom) → OneTrue (λ e v. Adds (Printed.InTypeOf p) S e v g) change (vs c b p S h rest) ↔ SA g) where
  abbrev xs : List ℕ
  xs = vs c b p S h rest

  abbrev eff : Effect
  eff = E.And (falling c p.names b a ++ change)

  -- nothing comes into a cell, the tip leaves, and comes into the cell below
  none : ℕ → Work → Type 0
  none x v = ⊥

  abbrev Below : ℕ → Type 0
  Below x = suc x ≡ h

  no_new : (x : ℕ) (v : Work) → none x v → IsKnown c v × IsCell c b p x
  unfolding none
  no_new x v k = absurd k

  low : (x : ℕ) → Below x → x ≤ b
  low x e = let u = cell.1 in omega arith

  deletes : (g : GroundAtom) → Deletes (Printed.InTypeOf p) S eff xs g ↔ Goes c b p d S t T r h w known none no_new (Unit {0}) Below low SD SA source_D source_A g
  deletes g =
      let q = falling_deletes c b p S h rest a change g in (
        λ k. elim (q.0 k) [ inl x ↦ inl (x ∙ is) | inr (inl x) ↦ inr (inl (tt, x)) | inr (inr x) ↦ inr (inr ((change_D g).0 x)) ],
        λ k. q.1 (elim k [ inl x ↦ inl (x ∙ sym is) | inr (inl x) ↦ inr (inl x.1) | inr (inr x) ↦ inr (inr ((change_D g).1 x)) ]),
      )

  adds : (g : GroundAtom) → Adds (Printed.InTypeOf p) S eff xs g ↔ Comes c b p d S t T r h w known none no_new (Unit {0}) Below low SD SA source_D source_A g
  unfolding none
  adds g =
      let q = falling_adds c b p S h rest a change g in
      let l = cell.0 in (
        λ k. elim (q.0 k) [ inl x ↦ inr (inl (h - 1, omega arith, x)) | inr x ↦ inr (inr ((change_A g).0 x)) ],
        λ k. q.1 (elim k [ inl x ↦ absurd x.2 | inr (inl x) ↦ inl (x.2 ∙ ap (tip_atom c b p) (let e = x.1 in let f : x.0 ≡ h - 1 = omega arith in f)) | inr (inr x) ↦ inr ((change_A g).1 x) ]),
      )

  abbrev pub fallen : StackState (network c)
  fallen = record {
    holds = λ x v. t.holds x v × ((x ≡ h) × (v ≡ w) → ⊥);
    tip = λ x. (t.tip x × (x ≡ h → ⊥)) ⊎ (suc x ≡ h);
  }

  same : AreSameStacks (network c) (moved c b p d S t T r h w known none no_new (Unit {0}) Below low SD SA source_D source_A) fallen
  unfolding none
  same = record {
    holds = λ x v. (λ k. elim k [ inl y ↦ y | inr y ↦ absurd y ], λ k. inl k);
    tip = λ x. (λ k. elim k [ inl y ↦ inl (y.0, λ e. y.1 (tt, e)) | inr y ↦ inr y ], λ k. elim k [ inl y ↦ inl (y.0, λ e. y.1 e.1) | inr y ↦ inr y ]);
  }

  pub fallen_reads : Reads c b p (after (Printed.InTypeOf p) S eff xs) fallen (Changed T SD SA)
  fallen_reads = effect_reads c b p d S t T r h w known none no_new (Unit {0}) Below low SD SA source_D source_A eff xs deletes adds fallen (Changed T SD SA) same (λ g. (λ z. z, λ z. z))

  pub fallen_keeps : Keeps c S (after (Printed.InTypeOf p) S eff xs)
  fallen_keeps = effect_keeps c b p d S t T r h w known none no_new (Unit {0}) Below low SD SA source_D source_A eff xs deletes adds
