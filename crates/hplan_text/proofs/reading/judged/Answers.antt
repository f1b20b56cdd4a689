use Rattle.std.proofs.Common.{subst}
use Rattle.hplan_text.specs.Drafts.{Judges, between}
use Rattle.hplan_text.proofs.reading.judged.Goals as goal

pub returns-in-Ok-None-clause-read : goal.returns-in-Ok-None-clause-read
returns-in-Ok-None-clause-read c = λ ls h. (subst (Judges (between ls c.args.end)) c.in-Ok-None.field-0-is (c.in-Ok-None.ensures.judged ls h), c.into_plan.ensures.plan)
