-- How many times the quantified variable stands in a literal.
-- Source: this project's.
use Rattle.std.specs.Prelude.{ℕ, ◌+◌, ◌==◌, Bool, false, List, count_by}
use Rattle.plan_model.specs.declared.terms.Term.{Term}
use Rattle.plan_model.specs.declared.terms.Term.TheVariants.{Var, Obj}
use Rattle.pddl_printer.specs.declared.instances.Literal.{Literal}
use Rattle.pddl_printer.specs.declared.instances.Literal.TheVariants.{Held, Denied, Conditional}

-- depth: its number
module _ (depth : ℕ) where
  abbrev pub is_hole : Term → Bool
  is_hole (Var k) = k == depth
  is_hole (Obj o) = false

  abbrev pub holes_among : List Term → ℕ
  holes_among ts = count_by is_hole ts

  abbrev pub holes : Literal → ℕ
  holes (Held a) = holes_among a.now.args
  holes (Denied a) = holes_among a.now.args
  holes (Conditional a k) = holes_among a.now.args + holes_among k.now.args
