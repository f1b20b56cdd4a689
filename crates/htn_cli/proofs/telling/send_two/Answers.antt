use Rattle.std.proofs.lemmas.Result.{err_from_is_err_and}
use Rattle.htn_cli.proofs.Texts.{StopsAt-first, StopsAt-second}
use Rattle.htn_cli.proofs.telling.send_two.Goals as goal

pub returns-in_err-send-clause-part : goal.returns-in_err-send-clause-part
returns-in_err-send-clause-part g c =
    let p = err_from_is_err_and c.from_residual.result c.from_residual.ensures.1 in
    rw (p.1, p.2) (StopsAt-first _ _ _ _ _ c.in_err-send.ensures.part)

pub returns-in_err-send-2-clause-part : goal.returns-in_err-send-2-clause-part
returns-in_err-send-2-clause-part g c =
    let p = err_from_is_err_and c.from_residual-in_err-send-2.result c.from_residual-in_err-send-2.ensures.1 in
    rw (p.1, p.2) (StopsAt-second _ _ _ _ _ _ c.in_ok-send.ensures.whole c.in_err-send-2.ensures.part)
