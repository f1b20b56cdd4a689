-- Pieces of the printed problem of a stack that are made without a frame.
-- Source: this project's encoding.
use Rattle.std.specs.Prelude.{ℕ, suc, map}
use Rattle.plan_model.specs.declared.terms.Term.TheVariants.{Var}
use Rattle.plan_model.specs.declared.terms.Atom.{Atom}
use Rattle.plan_model.specs.task_networks.Spelling.{numbers}

-- the cell of variable 1 holds a source action or a check with so many parameters
abbrev pub held_from_1 : ℕ → ℕ → Atom
held_from_1 predicate count = record { predicate = predicate; args = map Var (numbers 1 (suc count)) }
