-- The order formulas, as one formula each, mean what their parts do.
use Rattle.std.proofs.Common.{ℕ, ◌≡◌, ◌↔◌, ◌<◌, List, [], ◌∷◌, length, slice_index, inl, inr, ap, sym, subst, Contains, arith}
use Rattle.plan_model.specs.declared.options.Style.{Style}
use Rattle.plan_model.specs.declared.options.Style.TheVariants.{Adl, Flat}
use Rattle.plan_model.specs.declared.terms.GroundAtom.{GroundAtom}
use Rattle.plan_model.specs.declared.terms.Term.TheVariants.{Var}
use Rattle.plan_model.specs.Typing.{InType}
use Rattle.plan_model.specs.plan_meaning.Truth.{EachTrue, OneTrue, IsTrueIn, Adds, Deletes}
use Rattle.order_encoder.specs.OrderFormulas.{OrderNumbers, wait_parts, clear_parts, copy_parts}
use Rattle.order_encoder.specs.OrderMeaning.{IsSlotObject, pair_atom, OrderMeaning}
use Rattle.plan_model.proofs.plan_meaning.TruthEquations.{truth-And}
use Rattle.plan_model.proofs.plan_meaning.EffectEquations.{adds-And, deletes-And}
use Rattle.order_encoder.proofs.OrderParts.{order_meaning}
use Rattle.order_encoder.specs.Orders.{waits, clears, copies}
use Rattle.order_encoder.specs.Meaning.{Waits, Clears, IsClearing, Copies, IsCopying}

-- both ways through a third
through : {A B C : Type 0} → A ↔ B → B ↔ C → A ↔ C
through f g = (λ a. g.0 (f.0 a), λ c. f.1 (g.1 c))

alone : {X : Type 0} (k : X → List ℕ → Type 0) (x : X) (v : List ℕ) → k x v ↔ EachTrue k (x ∷ []) v
alone k x v = (λ a. (a, tt), λ h. h.0)

one_alone : {X : Type 0} (k : X → List ℕ → Type 0) (x : X) (v : List ℕ) → k x v ↔ OneTrue k (x ∷ []) v
one_alone k x v = (λ a. inl a, λ h. elim h [ inl a ↦ a | inr n ↦ absurd n ])

equal : {A B : Type 0} → A ≡ B → A ↔ B
equal e = (λ a. subst (λ T. T) e a, λ b. subst (λ T. T) (sym e) b)

module _ (n : OrderNumbers) (slots depth : ℕ) where
  pub waits-means : (style : Style) (i : ℕ) → i < depth → Waits n slots depth i (waits n slots depth style (Var i))
  waits-means style i l types objects atoms values h = subst (λ d. IsTrueIn (InType types objects) (Contains atoms) (waits n slots d style (Var i)) values ↔ ((o : ℕ) → IsSlotObject n slots o → Contains atoms (pair_atom n slots o (slice_index values i)) → ⊥)) h.in_force (through (parts style) (m.waits i (omega (arith, h.in_force))))
    where
      m : OrderMeaning n slots (InType types objects) (Contains atoms) values style
      m = order_meaning n slots (InType types objects) (Contains atoms) values h.are_slots style

      parts : (style : Style) → IsTrueIn (InType types objects) (Contains atoms) (waits n slots (length values) style (Var i)) values ↔ EachTrue (IsTrueIn (InType types objects) (Contains atoms)) (wait_parts n slots (length values) style (Var i)) values
      parts Adl = alone (IsTrueIn (InType types objects) (Contains atoms)) (waits n slots (length values) Adl (Var i)) values
      parts Flat = equal (ap (λ t. t values) (truth-And (InType types objects) (Contains atoms) (wait_parts n slots (length values) Flat (Var i))))

  pub clears-means : (style : Style) (i : ℕ) → i < depth → Clears n slots depth i (clears n slots depth style (Var i))
  clears-means style i l types objects atoms values h = subst (λ d. IsClearing n slots depth i (clears n slots d style (Var i)) types objects atoms values) h.in_force (record {
    adds = λ g x. m.clear_adds i g ((added style g).0 x);
    deletes = λ g. through (deleted style g) (m.clear_deletes i g (omega (arith, h.in_force)));
  })
    where
      m : OrderMeaning n slots (InType types objects) (Contains atoms) values style
      m = order_meaning n slots (InType types objects) (Contains atoms) values h.are_slots style

      added : (style : Style) (g : GroundAtom) → Adds (InType types objects) (Contains atoms) (clears n slots (length values) style (Var i)) values g
          ↔ OneTrue (λ e v. Adds (InType types objects) (Contains atoms) e v g) (clear_parts n slots (length values) style (Var i)) values
      added Adl g = one_alone (λ e v. Adds (InType types objects) (Contains atoms) e v g) (clears n slots (length values) Adl (Var i)) values
      added Flat g = equal (ap (λ t. t values g) (adds-And (InType types objects) (Contains atoms) (clear_parts n slots (length values) Flat (Var i))))

      deleted : (style : Style) (g : GroundAtom) → Deletes (InType types objects) (Contains atoms) (clears n slots (length values) style (Var i)) values g
          ↔ OneTrue (λ e v. Deletes (InType types objects) (Contains atoms) e v g) (clear_parts n slots (length values) style (Var i)) values
      deleted Adl g = one_alone (λ e v. Deletes (InType types objects) (Contains atoms) e v g) (clears n slots (length values) Adl (Var i)) values
      deleted Flat g = equal (ap (λ t. t values g) (deletes-And (InType types objects) (Contains atoms) (clear_parts n slots (length values) Flat (Var i))))

  pub copies-means : (style : Style) (i j : ℕ) → i < depth → j < depth → Copies n slots depth i j (copies n slots depth style (Var i) (Var j))
  copies-means style i j l k types objects atoms values h = subst (λ d. IsCopying n slots depth i j (copies n slots d style (Var i) (Var j)) types objects atoms values) h.in_force (record {
    adds = λ g. through (added style g) (m.copy_adds i j g (omega (arith, h.in_force)) (omega (arith, h.in_force)));
    deletes = λ g x. m.copy_deletes i j g ((deleted style g).0 x);
  })
    where
      m : OrderMeaning n slots (InType types objects) (Contains atoms) values style
      m = order_meaning n slots (InType types objects) (Contains atoms) values h.are_slots style

      added : (style : Style) (g : GroundAtom) → Adds (InType types objects) (Contains atoms) (copies n slots (length values) style (Var i) (Var j)) values g
          ↔ OneTrue (λ e v. Adds (InType types objects) (Contains atoms) e v g) (copy_parts n slots (length values) style (Var i) (Var j)) values
      added Adl g = one_alone (λ e v. Adds (InType types objects) (Contains atoms) e v g) (copies n slots (length values) Adl (Var i) (Var j)) values
      added Flat g = equal (ap (λ t. t values g) (adds-And (InType types objects) (Contains atoms) (copy_parts n slots (length values) Flat (Var i) (Var j))))

      deleted : (style : Style) (g : GroundAtom) → Deletes (InType types objects) (Contains atoms) (copies n slots (length values) style (Var i) (Var j)) values g
          ↔ OneTrue (λ e v. Deletes (InType types objects) (Contains atoms) e v g) (copy_parts n slots (length values) style (Var i) (Var j)) values
      deleted Adl g = one_alone (λ e v. Deletes (InType types objects) (Contains atoms) e v g) (copies n slots (length values) Adl (Var i) (Var j)) values
      deleted Flat g = equal (ap (λ t. t values g) (deletes-And (InType types objects) (Contains atoms) (copy_parts n slots (length values) Flat (Var i) (Var j))))
