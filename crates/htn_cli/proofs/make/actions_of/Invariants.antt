use Rattle.std.proofs.Common.{◌≡◌, ◌≤◌, take, sum_by}
use Rattle.htn_cli.proofs.Actions.{check_count}
use Rattle.htn_cli.proofs.make.actions_of.Given as goal

abbrev pub invariant-loop-plan : goal.invariant-loop-plan
invariant-loop-plan l = record {
  counted : l.checks ≡ sum_by check_count (take l.plan-index l.compiled.methods);
  few : l.checks ≤ l.plan-index;
}
