use Rattle.std.proofs.Common.{◌≡◌, ◌==◌, Some, true, set, sym, subst}
use Rattle.plan_model.specs.declared.terms.Term.{Term}
use Rattle.plan_model.specs.plan_meaning.Truth.{value_of}
use Rattle.value_choices.specs.Settled.{Settles}
use Rattle.value_choices.proofs.Settling.{bound_known, bound_open}
use Rattle.value_choices.proofs.binding.bind_term.Goals as goal

pub returns-in-Some : goal.returns-in-Some
returns-in-Some c =
    subst (λ (t : Term). Settles (λ values. value_of values t ≡ c.args.object) c.args.known.now c.args.known.now
    (c.in-Some.value == c.args.object)) (sym c.in-Var.is)
    (bound_known c.args.known.now c.in-Var.variable c.if-place-known.false c.in-Some.value c.args.object c.in-Some.is)

pub returns-in-None : goal.returns-in-None
returns-in-None c =
    subst (λ (t : Term). Settles (λ values. value_of values t ≡ c.args.object) c.args.known.now
    (set c.args.known.now c.in-Var.variable (Some c.args.object)) true) (sym c.in-Var.is)
    (bound_open c.args.known.now c.in-Var.variable c.if-place-known.false c.args.object c.in-None.is)
