use Rattle.std.proofs.lemmas.Result.{err_from_is_err_and}
use Rattle.htn_cli.proofs.slots.given_slots.Goals as goal

pub returns-in_err-slots-in-Some-clause-refused : goal.returns-in_err-slots-in-Some-clause-refused
returns-in_err-slots-in-Some-clause-refused c =
    let p = err_from_is_err_and c.from_residual.result c.from_residual.ensures.1 in
    rw (p.1, p.2, c.in-Some.is) (c.in_err-slots-in-Some.ensures.refused _ c.bound_of.ensures)

pub returns-in_ok-slots-in-Some-clause-given : goal.returns-in_ok-slots-in-Some-clause-given
returns-in_ok-slots-in-Some-clause-given c = rw (c.in-Some.is) (c.in_ok-slots-in-Some.ensures.slots _ c.bound_of.ensures)
