-- The formulas on order pairs between slots, and on free slots, in both styles.
-- In style adl a variable ranges over the slots; in style flat each slot is named.
-- Source: this project's encoding, after Alford et al., "Bound to Plan", ICAPS 2016.
use Rattle.std.specs.Prelude.{ℕ, List, [], ◌∷◌, map}
use Rattle.htn_base.specs.declared.name.Name.{Name}
use Rattle.plan_model.specs.declared.options.Style.{Style}
use Rattle.plan_model.specs.declared.options.Style.TheVariants.{Adl, Flat}
use Rattle.plan_model.specs.declared.terms.Term.{Term}
use Rattle.plan_model.specs.declared.terms.Term.TheVariants.{Var, Obj}
use Rattle.plan_model.specs.declared.terms.Atom.{Atom}
use Rattle.plan_model.specs.declared.terms.Param.{Param}
use Rattle.plan_model.specs.declared.formulas.Formula.{Formula}
use Rattle.plan_model.specs.declared.formulas.Formula.TheVariants.{Holds, Not, Forall}
use Rattle.plan_model.specs.declared.effects.Effect.{Effect}
use Rattle.plan_model.specs.declared.effects.Effect.TheVariants as E
use Rattle.plan_model.specs.task_networks.Spelling.{numbers}

-- the predicate of order pairs, the type of slots, the name of the slot that is quantified, the object of the first slot
pub record OrderNumbers : Type 0 where
  pub before : ℕ
  pub slot_type : ℕ
  pub x : Name
  pub first_slot : ℕ

module _ (n : OrderNumbers) (slots : ℕ) where
  abbrev pub pair_of : Term → Term → Atom
  pair_of s t = record { predicate = n.before; args = s ∷ t ∷ [] }

  abbrev pub any_slot : List Param
  any_slot = record { name = n.x; ty = n.slot_type } ∷ []

  -- the slots, as objects
  abbrev pub slot_objects : List ℕ
  slot_objects = numbers n.first_slot slots

  -- depth: the number of variables in force, which is the number of the quantified one
  module _ (depth : ℕ) where
    -- no slot comes before h
    abbrev pub wait_parts : Style → Term → List Formula
    wait_parts Adl h = Forall any_slot (Not (Holds (pair_of (Var depth) h))) ∷ []
    wait_parts Flat h = map (λ o. Not (Holds (pair_of (Obj o) h))) slot_objects

    -- the pairs that leave h are deleted
    abbrev pub clear_parts : Style → Term → List Effect
    clear_parts Adl h = E.Forall any_slot (E.Delete (pair_of h (Var depth))) ∷ []
    clear_parts Flat h = map (λ o. E.Delete (pair_of h (Obj o))) slot_objects

    -- the pairs that leave h are added for the child
    abbrev pub copy_parts : Style → Term → Term → List Effect
    copy_parts Adl h child = E.Forall any_slot (E.When (Holds (pair_of h (Var depth))) (E.Add (pair_of child (Var depth)))) ∷ []
    copy_parts Flat h child = map (λ o. E.When (Holds (pair_of h (Obj o))) (E.Add (pair_of child (Obj o)))) slot_objects

    -- each slot is free
    abbrev pub free_parts : Style → ℕ → List Formula
    free_parts Adl free = Forall any_slot (Holds (record { predicate = free; args = Var depth ∷ [] })) ∷ []
    free_parts Flat free = map (λ o. Holds (record { predicate = free; args = Obj o ∷ [] })) slot_objects
