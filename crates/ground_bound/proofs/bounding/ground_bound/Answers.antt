use Rattle.std.proofs.Common.{List, subst}
use Rattle.std.specs.Prelude.{IfErr}
use Rattle.ground_bound.specs.GroundBound.{IsGroundBound}
use Rattle.ground_bound.specs.NoGroundBound.{HasNoGroundBound, of_search}
use Rattle.ground_bound.specs.Bounding.{HasBound, HasNone}
use Rattle.ground_bound.specs.declared.in_order.MethodRow.{MethodRow}
use Rattle.reached_parts.proofs.UsingLaws.{err_is}
use Rattle.ground_bound.proofs.Bounded.{small, ordered, lines, bound, refused, given_up}
use Rattle.ground_bound.proofs.Places.{if_ok_then, if_err_then}
use Rattle.ground_bound.proofs.bounding.ground_bound.Goals as goal

pub bound_by-number-requires-clause-small : goal.bound_by-number-requires-clause-small
bound_by-number-requires-clause-small c = small c.args.c.now c.requires.soundly c.in_ok-made.made.value c.in_ok-made.made.methods.items c.in_ok-made.ensures.problem

pub bound_by-number-requires-clause-ordered : goal.bound_by-number-requires-clause-ordered
bound_by-number-requires-clause-ordered c = ordered c.args.c.now c.requires.soundly c.in_ok-made.made.value c.in_ok-made.made.methods.items c.in_ok-made.ensures.problem

pub bound_by-number-requires-clause-lines : goal.bound_by-number-requires-clause-lines
bound_by-number-requires-clause-lines c = lines c.args.c.now c.requires.soundly c.in_ok-made.made.value c.in_ok-made.made.methods.items c.in_ok-made.ensures.problem

pub returns-clause-bound : goal.returns-clause-bound
returns-clause-bound c = if_ok_then c.bound_by-number.result (HasBound c.in_ok-made.made.value) (IsGroundBound c.args.c.now)
    (bound c.args.c.now c.requires.soundly c.in_ok-made.made.value c.in_ok-made.made.methods.items c.in_ok-made.ensures.problem) c.bound_by-number.ensures.bound

pub returns-clause-refused : goal.returns-clause-refused
returns-clause-refused c =
    let made = c.in_ok-made.made in
    if_err_then c.bound_by-number.result (HasNone made.value made.methods.items) (HasNoGroundBound c.args.c.now)
    (refused c.args.c.now c.requires.soundly made.value made.methods.items c.in_ok-made.ensures.problem)
    (subst (λ (ms : List MethodRow). IfErr c.bound_by-number.result (HasNone made.value ms)) c.as_slice.ensures.value c.bound_by-number.ensures.refused)

pub returns-in_err-found-clause-refused : goal.returns-in_err-found-clause-refused
returns-in_err-found-clause-refused c =
    let error = c.in_err-found.field-0.0 in
    err_is c.from_residual.result (HasNoGroundBound c.args.c.now) (of_search error) c.from_residual.ensures.1
    (given_up c.args.c.now error c.in_err-found.ensures.refused)
