use Rattle.std.proofs.Common.{◌∙◌}
use Rattle.problem_index.proofs.IndexLaws.{no_action, the_action}
use Rattle.problem_index.proofs.index.Index.action.Goals as goal

pub returns-in_err-place : goal.returns-in_err-place
returns-in_err-place c args =
    let p = c.args.p.now in
    rw c.from_residual.ensures (no_action p (record { name = c.args.name.now; args = args }) (c.in_err-place.ensures p c.requires.index))

pub returns : goal.returns
returns c args =
    let p = c.args.p.now in
    let at = the_action p (record { name = c.args.name.now; args = args }) c.in_ok-place.place (c.in_ok-place.ensures p c.requires.index) in
    rw (c.get.ensures.item ∙ at.1) at.2
