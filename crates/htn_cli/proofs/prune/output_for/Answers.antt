use Rattle.std.proofs.Common.{inr}
use Rattle.htn_cli.proofs.Results.{if_ok_too, if_err_too}
use Rattle.htn_cli.proofs.prune.output_for.Goals as goal

pub returns-clause-output : goal.returns-clause-output
returns-clause-output c =
    if_ok_too c.output_with.result (λ made is. (c.in_ok-value.value, c.in_ok-value.ensures.pruned, is)) c.output_with.ensures.output

pub returns-clause-refused : goal.returns-clause-refused
returns-clause-refused c =
    if_err_too c.output_with.result (λ refusal stops. inr (c.in_ok-value.value, c.in_ok-value.ensures.pruned, stops)) c.output_with.ensures.refused
