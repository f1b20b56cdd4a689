-- No plan is wider than the bound of its problem.
use Rattle.std.proofs.Common.{arith}
use Rattle.slot_machine.proofs.bound_laws.EveryFront.{every_front_is_within}
use Rattle.placements.proofs.PlacedPlans.{placed_are_solutions}
use Rattle.encode_answers.specs.EncodeLaws.{NoWidthIsPastTheBound}

pub no_width_is_past_the_bound : NoWidthIsPastTheBound
no_width_is_past_the_bound h mode c of bound is plan width x =
    let (solution, shows) = placed_are_solutions c h mode of plan x.tree x.order x.placed in
    let within = every_front_is_within h mode c of.compiled bound is x.tree x.order solution.finished.front in
    let fits = within x.width_is.taken x.width_is.rest x.width_is.nodes x.width_is.parts x.width_is.pending in
    let many = x.width_is.many in
    omega arith
