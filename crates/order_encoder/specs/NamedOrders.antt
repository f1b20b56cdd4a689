-- The formulas and effects on order pairs, and what they mean, by what the printed problem calls its order pairs.
-- Source: this project's encoding, after Alford et al., "Bound to Plan", ICAPS 2016.
use Rattle.std.specs.Prelude.{ℕ, ◌≡◌, ◌<◌, List}
use Rattle.plan_model.specs.declared.options.Style.{Style}
use Rattle.plan_model.specs.declared.terms.Term.{Term}
use Rattle.plan_model.specs.declared.terms.Term.TheVariants.{Var}
use Rattle.plan_model.specs.declared.terms.Atom.{Atom}
use Rattle.plan_model.specs.declared.terms.Param.{Param}
use Rattle.plan_model.specs.declared.formulas.Formula.{Formula}
use Rattle.plan_model.specs.declared.formulas.Formula.TheVariants.{Holds, Not, Forall}
use Rattle.plan_model.specs.declared.effects.Effect.{Effect}
use Rattle.plan_model.specs.declared.effects.Effect.TheVariants as E
use Rattle.order_encoder.specs.OrderFormulas.{pair_of, any_slot, wait_parts, clear_parts, copy_parts}
use Rattle.order_encoder.specs.Orders as orders
use Rattle.order_encoder.specs.OrderNames.{numbers}
use Rattle.order_encoder.specs.Meaning as meaning
use Rattle.order_encoder.specs.declared.order_names.OrderNames.{OrderNames}

module _ (n : OrderNames) where
  -- the slot of the first comes before that of the other
  abbrev pub pair : Term → Term → Atom
  pair first then = pair_of (numbers n) 0 first then

  -- the slot that a quantifier brings
  abbrev pub quantified : List Param
  quantified = any_slot (numbers n) 0

  -- of one slot
  abbrev pub one_wait : Term → Term → Formula
  one_wait first h = Not (Holds (pair first h))

  abbrev pub one_clear : Term → Term → Effect
  one_clear h then = E.Delete (pair h then)

  abbrev pub one_copy : Term → Term → Term → Effect
  one_copy h child then = E.When (Holds (pair h then)) (E.Add (pair child then))

  -- of all slots, under a quantifier
  abbrev pub wait_for_all : ℕ → Term → Formula
  wait_for_all depth h = Forall quantified (one_wait (Var depth) h)

  abbrev pub clear_all : ℕ → Term → Effect
  clear_all depth h = E.Forall quantified (one_clear h (Var depth))

  abbrev pub copy_all : ℕ → Term → Term → Effect
  copy_all depth h child = E.Forall quantified (one_copy h child (Var depth))

  module _ (slots depth : ℕ) where
    -- the parts, one in style adl and one a slot in style flat
    abbrev pub waits : Style → Term → List Formula
    waits style h = wait_parts (numbers n) slots depth style h

    abbrev pub clears : Style → Term → List Effect
    clears style h = clear_parts (numbers n) slots depth style h

    abbrev pub copies : Style → Term → Term → List Effect
    copies style h child = copy_parts (numbers n) slots depth style h child

    -- as one
    abbrev pub waiting : Style → Term → Formula
    waiting style h = orders.waits (numbers n) slots depth style h

    abbrev pub clearing : Style → Term → Effect
    clearing style h = orders.clears (numbers n) slots depth style h

    abbrev pub copying : Style → Term → Term → Effect
    copying style h child = orders.copies (numbers n) slots depth style h child

    -- what they mean, of variables by number
    abbrev pub Waits : ℕ → Formula → Type 0
    Waits h f = meaning.Waits (numbers n) slots depth h f

    abbrev pub Clears : ℕ → Effect → Type 0
    Clears h e = meaning.Clears (numbers n) slots depth h e

    abbrev pub Copies : ℕ → ℕ → Effect → Type 0
    Copies h child e = meaning.Copies (numbers n) slots depth h child e

-- what is said of the numbers of two variables in force, of which there are depth
abbrev pub ForVariables : ℕ → Term → Term → (ℕ → ℕ → Type 0) → Type 0
ForVariables depth h child said = (i j : ℕ) → h ≡ Var i → child ≡ Var j → i < depth → j < depth → said i j
