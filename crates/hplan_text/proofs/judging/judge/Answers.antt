use Rattle.std.proofs.Common.{subst}
use Rattle.hplan_text.specs.HPlanFaults.{line_faults}
use Rattle.hplan_text.specs.LeastOf.{IsLeastOf}
use Rattle.hplan_text.specs.Drafts.{between}
use Rattle.hplan_text.proofs.Judged.{if-ok, judged-then}
use Rattle.hplan_text.proofs.judging.judge.Goals as goal

pub returns : goal.returns
returns c = record {
  judged = if-ok c.least_of_ids.result
      (λ found f. λ ls h. judged-then ls c.args.end found (subst (λ o. IsLeastOf o (line_faults (between ls c.args.end))) c.in_default.is (c.least_line.ensures ls h)) (f ls h)) c.least_of_ids.ensures.judged;
}
