use Rattle.std.proofs.lemmas.Result.{err_from_is_err_and}
use Rattle.htn_cli.proofs.Texts.{IsSentTo-next, StopsAt-sent}
use Rattle.htn_cli.proofs.sending.send.Goals as goal

pub returns-in_err-done-clause-part : goal.returns-in_err-done-clause-part
returns-in_err-done-clause-part g c =
    let p = err_from_is_err_and c.from_residual.result c.from_residual.ensures.1 in
    rw (p.1, p.2) (StopsAt-sent _ _ _ _ _ _ c.loop-done.invariant c.in_err-done.ensures.refused)

pub loop-done-preserved : goal.loop-done-preserved
loop-done-preserved g c = IsSentTo-next _ _ _ _ _ _ c.loop-done.invariant c.in_ok-done.ensures.next
