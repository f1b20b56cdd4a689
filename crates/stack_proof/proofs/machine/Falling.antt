-- What the parts say that actions have in whose place nothing comes: their cell is the tip, and then the cell below is.
use Rattle.std.proofs.Common.{ℕ, ◌≡◌, ◌↔◌, ◌⊎◌, ◌-◌, inl, inr, List, ◌∷◌, ◌++◌, ap, sym, subst, arith}
use Rattle.plan_model.specs.declared.terms.Atom.{Atom}
use Rattle.plan_model.specs.declared.terms.GroundAtom.{GroundAtom}
use Rattle.plan_model.specs.declared.formulas.Formula.{Formula}
use Rattle.plan_model.specs.declared.formulas.Formula.TheVariants.{Holds, And}
use Rattle.plan_model.specs.declared.effects.Effect.{Effect}
use Rattle.plan_model.specs.declared.effects.Effect.TheVariants as E
use Rattle.plan_model.specs.declared.values.Compiled.{Compiled}
use Rattle.plan_model.specs.declared.values.Pddl.{Pddl}
use Rattle.plan_model.specs.plan_meaning.Truth.{State, ground, EachTrue, OneTrue, IsTrueIn, Adds, Deletes}
use Rattle.plan_model.specs.plan_meaning.ClassicalPlan as Printed
use Rattle.plan_model.specs.plan_meaning.Network.{network}
use Rattle.plan_model.proofs.plan_meaning.TruthEquations.{truth-And, truth-Holds}
use Rattle.plan_model.proofs.plan_meaning.EffectEquations.{adds-And, adds-Add, adds-Delete, deletes-And, deletes-Add, deletes-Delete}
use Rattle.stack_machine.specs.StackMachine.{StackState}
use Rattle.stack_encoding.specs.StackNames.{cell_object}
use Rattle.stack_encoding.specs.StackActions.{is_tip, is_up, at_tip, falling}
use Rattle.stack_proof.proofs.machine.StackReading.{IsCell, tip_atom, up_atom, Reads}

module _ (c : Compiled) (b : ℕ) (p : Pddl) (S : State) (h : ℕ) (rest : List ℕ) where
  abbrev InT : ℕ → ℕ → Type 0
  InT = Printed.InTypeOf p

  -- the cell below, its own cell, and the objects of the node
  abbrev pub vs : List ℕ
  vs = cell_object c (h - 1) ∷ cell_object c h ∷ rest

  abbrev True : Formula → List ℕ → Type 0
  True = IsTrueIn InT S

  -- the condition, up to what each kind asks besides
  pub at_tip_true : (a : Atom) (more : List Formula) → True (And (at_tip c p.names b a ++ more)) vs ↔ (S (ground vs a) × S (tip_atom c b p h) × S (up_atom c b p (h - 1) h) × EachTrue True more vs)
  at_tip_true a more = (to, from)
    where
      parts : List Formula
      parts = at_tip c p.names b a ++ more

      e : True (And parts) ≡ EachTrue True parts
      e = truth-And InT S parts

      held' : True (Holds a) vs ≡ S (ground vs a)
      held' = ap (λ z. z vs) (truth-Holds InT S a)

      tip' : True (Holds (is_tip c p.names b 1)) vs ≡ S (tip_atom c b p h)
      tip' = ap (λ z. z vs) (truth-Holds InT S (is_tip c p.names b 1))

      up' : True (Holds (is_up c p.names b 0 1)) vs ≡ S (up_atom c b p (h - 1) h)
      up' = ap (λ z. z vs) (truth-Holds InT S (is_up c p.names b 0 1))

      to : True (And parts) vs → S (ground vs a) × S (tip_atom c b p h) × S (up_atom c b p (h - 1) h) × EachTrue True more vs
      to k = let (x, (y, (z, m))) = subst (λ z. z vs) e k in (subst (λ z. z) held' x, subst (λ z. z) tip' y, subst (λ z. z) up' z, m)

      from : S (ground vs a) × S (tip_atom c b p h) × S (up_atom c b p (h - 1) h) × EachTrue True more vs → True (And parts) vs
      from (x, y, z, m) = subst (λ z. z vs) (sym e) (subst (λ z. z) (sym held') x, (subst (λ z. z) (sym tip') y, (subst (λ z. z) (sym up') z, m)))

  -- in a state that is read, that its cell is the tip
  pub at_tip_read : (t : StackState (network c)) (T : State) → Reads c b p S t T → IsCell c b p h → (a : Atom) (more : List Formula)
      → True (And (at_tip c p.names b a ++ more)) vs ↔ (S (ground vs a) × t.tip h × EachTrue True more vs)
  at_tip_read t T r cell a more =
      let q = at_tip_true a more in
      let l = cell.0 in
      let u = cell.1 in (
        λ k. (let (x, y, z, m) = q.0 k in (x, (r.tip h).1 (u, y), m)),
        λ k. (let (x, y, m) = k in q.1 (x, ((r.tip h).0 y).1, (r.ups (h - 1) h (omega arith) u).1 (omega arith), m)),
      )

  abbrev A : GroundAtom → Effect → List ℕ → Type 0
  A g e v = Adds InT S e v g

  abbrev D : GroundAtom → Effect → List ℕ → Type 0
  D g e v = Deletes InT S e v g

  pub falling_adds : (a : Atom) (change : List Effect) (g : GroundAtom) → A g (E.And (falling c p.names b a ++ change)) vs ↔ ((g ≡ tip_atom c b p (h - 1)) ⊎ OneTrue (A g) change vs)
  falling_adds a change g = (λ k. to (subst (λ z. z vs g) e k), λ k. subst (λ z. z vs g) (sym e) (from k))
    where
      e : Adds InT S (E.And (falling c p.names b a ++ change)) ≡ (λ v g. OneTrue (A g) (falling c p.names b a ++ change) v)
      e = adds-And InT S (falling c p.names b a ++ change)

      to : OneTrue (A g) (falling c p.names b a ++ change) vs → (g ≡ tip_atom c b p (h - 1)) ⊎ OneTrue (A g) change vs
      to (inl x) = absurd (subst (λ z. z vs g) (adds-Delete InT S a) x)
      to (inr (inl x)) = absurd (subst (λ z. z vs g) (adds-Delete InT S (is_tip c p.names b 1)) x)
      to (inr (inr (inl x))) = inl (subst (λ z. z vs g) (adds-Add InT S (is_tip c p.names b 0)) x)
      to (inr (inr (inr x))) = inr x

      from : (g ≡ tip_atom c b p (h - 1)) ⊎ OneTrue (A g) change vs → OneTrue (A g) (falling c p.names b a ++ change) vs
      from (inl x) = inr (inr (inl (subst (λ z. z vs g) (sym (adds-Add InT S (is_tip c p.names b 0))) x)))
      from (inr x) = inr (inr (inr x))

  pub falling_deletes : (a : Atom) (change : List Effect) (g : GroundAtom) → D g (E.And (falling c p.names b a ++ change)) vs ↔ ((g ≡ ground vs a) ⊎ ((g ≡ tip_atom c b p h) ⊎ OneTrue (D g) change vs))
  falling_deletes a change g = (λ k. to (subst (λ z. z vs g) e k), λ k. subst (λ z. z vs g) (sym e) (from k))
    where
      e : Deletes InT S (E.And (falling c p.names b a ++ change)) ≡ (λ v g. OneTrue (D g) (falling c p.names b a ++ change) v)
      e = deletes-And InT S (falling c p.names b a ++ change)

      to : OneTrue (D g) (falling c p.names b a ++ change) vs → (g ≡ ground vs a) ⊎ ((g ≡ tip_atom c b p h) ⊎ OneTrue (D g) change vs)
      to (inl x) = inl (subst (λ z. z vs g) (deletes-Delete InT S a) x)
      to (inr (inl x)) = inr (inl (subst (λ z. z vs g) (deletes-Delete InT S (is_tip c p.names b 1)) x))
      to (inr (inr (inl x))) = absurd (subst (λ z. z vs g) (deletes-Add InT S (is_tip c p.names b 0)) x)
      to (inr (inr (inr x))) = inr (inr x)

      from : (g ≡ ground vs a) ⊎ ((g ≡ tip_atom c b p h) ⊎ OneTrue (D g) change vs) → OneTrue (D g) (falling c p.names b a ++ change) vs
      from (inl x) = inl (subst (λ z. z vs g) (sym (deletes-Delete InT S a)) x)
      from (inr (inl x)) = inr (inl (subst (λ z. z vs g) (sym (deletes-Delete InT S (is_tip c p.names b 1))) x))
      from (inr (inr x)) = inr (inr (inr x))
