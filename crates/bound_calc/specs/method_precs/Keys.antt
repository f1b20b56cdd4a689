-- What tells a guard from others.
use Rattle.std.specs.Prelude.{ℕ, Bool, true, false}
use Rattle.plan_model.specs.declared.terms.Term.{Term}
use Rattle.plan_model.specs.declared.terms.Term.TheVariants.{Var, Obj}
use Rattle.plan_model.specs.declared.networks.Guard.{Guard}

-- whether the term is an object, and its number
abbrev pub term_key : Term → Bool × ℕ
term_key (Var i) = (false, i)
term_key (Obj i) = (true, i)

abbrev pub key : Guard → ℕ × (Bool × ℕ)
key g = (g.ty, term_key g.term)
