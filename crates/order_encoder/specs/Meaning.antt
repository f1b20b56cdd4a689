-- What each order formula means, whatever the problem, as long as the objects of its type of slots are the slots: the first slot's
-- object and those after it. h and child are numbers of variables in force, of which there are depth.
-- Source: this project's encoding, after Alford et al., "Bound to Plan", ICAPS 2016; truth and effects are those of PDDL 2.1, level 1.
use Rattle.std.specs.Prelude.{ℕ, ◌≡◌, ◌↔◌, List, length, slice_index, Contains}
use Rattle.plan_model.specs.declared.types.Types.{Types}
use Rattle.plan_model.specs.declared.types.Object.{Object}
use Rattle.plan_model.specs.declared.terms.GroundAtom.{GroundAtom}
use Rattle.plan_model.specs.declared.formulas.Formula.{Formula}
use Rattle.plan_model.specs.declared.effects.Effect.{Effect}
use Rattle.plan_model.specs.Typing.{InType}
use Rattle.plan_model.specs.plan_meaning.Truth.{IsTrueIn, Adds, Deletes}
use Rattle.order_encoder.specs.OrderFormulas.{OrderNumbers}
use Rattle.order_encoder.specs.OrderMeaning.{IsSlotObject, pair_atom, AreTheSlots}

module _ (n : OrderNumbers) (slots depth : ℕ) where
  -- the types and objects have these slots, the atoms are true, and these are the objects of the variables in force
  pub record Holding (types : Types) (objects : List Object) (values : List ℕ) : Type 0 where
    pub are_slots : AreTheSlots n slots (InType types objects)
    pub in_force : length values ≡ depth

  -- true exactly where no slot has the pair that comes to h's
  abbrev pub Waits : ℕ → Formula → Type 0
  Waits h f = (types : Types) (objects : List Object) (atoms : List GroundAtom) (values : List ℕ) → Holding types objects values
      → IsTrueIn (InType types objects) (Contains atoms) f values ↔ ((o : ℕ) → IsSlotObject n slots o → Contains atoms (pair_atom n slots o (slice_index values h)) → ⊥)

  pub record IsClearing (h : ℕ) (e : Effect) (types : Types) (objects : List Object) (atoms : List GroundAtom) (values : List ℕ) : Type 0 where
    pub adds : (g : GroundAtom) → Adds (InType types objects) (Contains atoms) e values g → ⊥
    pub deletes : (g : GroundAtom) → Deletes (InType types objects) (Contains atoms) e values g ↔ ((o : ℕ) × IsSlotObject n slots o × (g ≡ pair_atom n slots (slice_index values h) o))

  -- it deletes exactly the pairs that leave h's slot, and adds nothing
  abbrev pub Clears : ℕ → Effect → Type 0
  Clears h e = (types : Types) (objects : List Object) (atoms : List GroundAtom) (values : List ℕ) → Holding types objects values → IsClearing h e types objects atoms values

  pub record IsCopying (h child : ℕ) (e : Effect) (types : Types) (objects : List Object) (atoms : List GroundAtom) (values : List ℕ) : Type 0 where
    pub adds : (g : GroundAtom) → Adds (InType types objects) (Contains atoms) e values g
        ↔ ((o : ℕ) × IsSlotObject n slots o × Contains atoms (pair_atom n slots (slice_index values h) o) × (g ≡ pair_atom n slots (slice_index values child) o))
    pub deletes : (g : GroundAtom) → Deletes (InType types objects) (Contains atoms) e values g → ⊥

  -- it adds exactly the child's pair for each true pair that leaves h's slot, and deletes nothing
  abbrev pub Copies : ℕ → ℕ → Effect → Type 0
  Copies h child e = (types : Types) (objects : List Object) (atoms : List GroundAtom) (values : List ℕ) → Holding types objects values → IsCopying h child e types objects atoms values
