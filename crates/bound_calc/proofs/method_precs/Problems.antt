-- A sound problem without cycles has all that is asked of a problem that is to be compiled.
use Rattle.std.proofs.Common.{Contains}
use Rattle.plan_model.specs.task_networks.Order.{IsAcyclic}
use Rattle.plan_texts.specs.SoundProblem.{all_methods, IsSoundProblem}
use Rattle.plan_texts.proofs.SoundProblems.{pairs_within}
use Rattle.plan_model.specs.declared.schemas.MethodSchema.{MethodSchema}
use Rattle.plan_model.specs.declared.values.Hddl.{Hddl}
use Rattle.plan_model.specs.Pairs.{Pairs}
use Rattle.plan_model.specs.plan_meaning.Laws.{AreOrdered}

pub ordered : (h : Hddl) → IsSoundProblem h → ((s : MethodSchema) → Contains (all_methods h) s → IsAcyclic (Pairs s.pairs)) → AreOrdered h
ordered h sound acyclic s c = (pairs_within h sound s c, acyclic s c)
