use Rattle.std.proofs.Common.{◌∙◌}
use Rattle.std.proofs.lemmas.Result.{err_from_is_err_and}
use Rattle.htn_cli.proofs.Results.{on_ok_too, if_err_too}
use Rattle.htn_cli.proofs.FaultTexts.{stops_in_place, stops_in_code, stops_in_word, fault_told}
use Rattle.htn_cli.proofs.telling.send_fault.Goals as goal

pub returns-in_err-send_place-clause-part : goal.returns-in_err-send_place-clause-part
returns-in_err-send_place-clause-part g c =
    let p = err_from_is_err_and c.from_residual.result c.from_residual.ensures.1 in
    rw (p.1, p.2) (stops_in_place c.args.before.now c.args.place c.args.code c.args.after.now _ _ _ c.in_err-send_place.ensures.part)

pub returns-in_err-send_two-clause-part : goal.returns-in_err-send_two-clause-part
returns-in_err-send_two-clause-part g c =
    let p = err_from_is_err_and c.from_residual-in_err-send_two.result c.from_residual-in_err-send_two.ensures.1 in
    rw (p.1, p.2)
    (stops_in_code c.args.before.now c.args.place c.args.code c.args.after.now c.as_bytes.result.now (c.as_bytes.ensures.value ∙ c.format.ensures.text) _ _ c.in_ok-send_place.ensures.whole _ _ c.in_err-send_two.ensures.part)

pub returns-clause-whole : goal.returns-clause-whole
returns-clause-whole g c =
    on_ok_too c.send_two-2.result
    (fault_told c.args.before.now c.args.place c.args.code c.args.after.now c.as_bytes.result.now (c.as_bytes.ensures.value ∙ c.format.ensures.text) _ _ c.in_ok-send_place.ensures.whole c.as_bytes-2.result.now (c.as_bytes-2.ensures.value ∙ c.fault_word.ensures.word) _ c.in_ok-send_two.ensures.whole _)
    c.send_two-2.ensures.whole

pub returns-clause-part : goal.returns-clause-part
returns-clause-part g c =
    if_err_too c.send_two-2.result
    (stops_in_word c.args.before.now c.args.place c.args.code c.args.after.now c.as_bytes.result.now (c.as_bytes.ensures.value ∙ c.format.ensures.text) _ _ c.in_ok-send_place.ensures.whole c.as_bytes-2.result.now (c.as_bytes-2.ensures.value ∙ c.fault_word.ensures.word) _ c.in_ok-send_two.ensures.whole _)
    c.send_two-2.ensures.part
