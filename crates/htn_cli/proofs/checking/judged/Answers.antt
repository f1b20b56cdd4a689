use Rattle.std.proofs.Common.{[], length, IfOk, sym, subst, arith}
use Rattle.ground_state.specs.Runs.{HasTaken}
use Rattle.htn_cli.specs.Checks.{Judges}
use Rattle.htn_cli.proofs.StepsTaken.{judges-within}
use Rattle.htn_cli.proofs.checking.judged.Goals as goal

pub replayed-requires : goal.replayed-requires
replayed-requires c =
    let run = c.in_ok-run.run' in
    let fresh = c.in_ok-run.ensures.fresh in
    record {
      few = omega (arith, c.len.ensures.length, c.if-len-most.false, c.requires.few);
      fresh = subst (λ p. HasTaken p [] run) (sym fresh.problem) fresh;
    }

pub returns : goal.returns
returns c =
    let plan = c.args.plan.now in
    judges-within c.args.p.now c.args.most plan (omega (arith, c.len.ensures.length, c.if-len-most.false)) c.replayed.result
    (subst (λ p. IfOk c.replayed.result (Judges p (length plan) plan)) c.in_ok-run.ensures.fresh.problem c.replayed.ensures)
