-- Pieces of the printed problem that are made without a frame.
-- Source: this project's encoding, after Alford et al., "Bound to Plan", ICAPS 2016.
use Rattle.std.specs.Prelude.{ℕ, List, ◌++◌, map}
use Rattle.plan_model.specs.declared.options.Style.{Style}
use Rattle.plan_model.specs.declared.terms.Term.TheVariants.{Var}
use Rattle.plan_model.specs.declared.terms.Atom.{Atom}
use Rattle.plan_model.specs.declared.formulas.Formula.{Formula}
use Rattle.plan_model.specs.declared.formulas.Formula.TheVariants.{Equal, Not, And}
use Rattle.plan_model.specs.declared.values.Compiled.{Compiled}
use Rattle.plan_model.specs.task_networks.Spelling.{numbers}
use Rattle.order_encoder.specs.OrderFormulas.{free_parts}
use Rattle.slot_encoding.specs.EncodedNames.{order_numbers, free_predicate}
use Rattle.slot_encoding.specs.EncodedActions.{source_condition}

-- the first slot holds a source action or a check, with its parameters: so many variables in all
abbrev pub held_in_first : ℕ → ℕ → Atom
held_in_first predicate depth = record { predicate = predicate; args = map Var (numbers 0 depth) }

abbrev pub unequal_to : ℕ → ℕ → Formula
unequal_to v u = Not (Equal (Var v) (Var u))

abbrev pub encoded_goal : Compiled → List (List ℕ) → ℕ → Style → Formula
encoded_goal c names b style = And (source_condition c names b style 0 c.hddl.goal ++ free_parts (order_numbers c names b) b 0 style (free_predicate c))
