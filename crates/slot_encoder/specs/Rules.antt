-- The printed problem by which free slots a method takes: what it has of each list, and what is not made with the rest.
-- Source: this project's.
use Rattle.std.specs.Prelude.{ℕ, Option, None, Some, List, [], ◌∷◌, ◌++◌, codes}
use Rattle.plan_model.specs.declared.options.Slots.{Slots}
use Rattle.plan_model.specs.declared.options.Slots.TheVariants.{Any, First}
use Rattle.plan_model.specs.declared.options.Style.{Style}
use Rattle.plan_model.specs.declared.terms.GroundAtom.{GroundAtom}
use Rattle.plan_model.specs.declared.formulas.Formula.{Formula}
use Rattle.plan_model.specs.declared.schemas.ActionSchema.{ActionSchema}
use Rattle.plan_model.specs.declared.schemas.Predicate.{Predicate}
use Rattle.plan_model.specs.declared.values.Compiled.{Compiled}
use Rattle.slot_encoding.specs.EncodedNames.{encoded_predicates, free_predicate, first_slot, slot_param}
use Rattle.slot_encoding.specs.EncodedValue.{encoded_methods, encoded_checks, encoded_source}
use Rattle.slot_encoding.specs.FirstFree.{less, less_predicate, less_facts, lowest_slots, first_methods}
use Rattle.slot_encoder.specs.declared.lower_slots.LowerSlots.{LowerSlots}

module _ (rule : Slots) (c : Compiled) (names : List (List ℕ)) (b : ℕ) (style : Style) where
  abbrev pub predicates : List Predicate
  predicates = by rule
    where
      by : Slots → List Predicate
      by Any = encoded_predicates c names b
      by First = encoded_predicates c names b ++ less c names b style ∷ []

  -- of the methods, the top method being number 0
  abbrev pub methods : List ActionSchema
  methods = by rule
    where
      by : Slots → List ActionSchema
      by Any = encoded_methods c names b style 0 c.methods
      by First = first_methods c names b style 0 c.methods

  abbrev pub actions : List ActionSchema
  actions = methods ++ encoded_checks c names b style 0 c.methods ++ encoded_source c names b style 0 c.hddl.actions

  -- what is asked last of so many new slots; x: the number of variables in force
  abbrev pub lowest : (x spare : ℕ) → List Formula
  lowest x spare = by rule
    where
      by : Slots → List Formula
      by Any = []
      by First = lowest_slots c names b style x spare

  -- what is true of slots besides
  abbrev pub lower : List GroundAtom
  lower = by rule
    where
      by : Slots → List GroundAtom
      by Any = []
      by First = less_facts c names b style

  -- by which numbers it is said
  abbrev pub lower_slots : Option LowerSlots
  lower_slots = by rule
    where
      by : Slots → Option LowerSlots
      by Any = None
      by First = Some (record { free = free_predicate c; less = less_predicate c; other = slot_param c names b (codes "htn_x"); first = first_slot c })
