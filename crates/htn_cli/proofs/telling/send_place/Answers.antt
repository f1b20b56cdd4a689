use Rattle.std.proofs.Common.{◌∙◌}
use Rattle.std.proofs.lemmas.Result.{err_from_is_err_and}
use Rattle.htn_cli.proofs.Results.{if_err_too}
use Rattle.htn_cli.proofs.FaultTexts.{stops_before_offset, stops_in_offset}
use Rattle.htn_cli.proofs.telling.send_place.Goals as goal

pub returns-in_err-send_parts-clause-part : goal.returns-in_err-send_parts-clause-part
returns-in_err-send_parts-clause-part g c =
    let p = err_from_is_err_and c.from_residual.result c.from_residual.ensures.1 in
    rw (p.1, p.2) (stops_before_offset c.args.before.now c.args.place c.args.after.now c.as_bytes.result.now c.as_bytes.ensures.value _ _ _ c.in_err-send_parts.ensures.part)

pub returns-clause-part : goal.returns-clause-part
returns-clause-part g c =
    if_err_too c.send_two.result
    (λ error. stops_in_offset c.args.before.now c.args.place c.args.after.now c.as_bytes.result.now c.as_bytes.ensures.value c.as_bytes-2.result.now (c.as_bytes-2.ensures.value ∙ c.format.ensures.text) _ _ _ error c.in_ok-send_parts.ensures.whole)
    c.send_two.ensures.part
