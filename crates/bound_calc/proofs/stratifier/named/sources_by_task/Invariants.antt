use Rattle.bound_calc.proofs.stratifier.NamedSources.{AreSourcesBelow}
use Rattle.bound_calc.proofs.stratifier.named.sources_by_task.Given as goal

abbrev pub invariant-loop-e : goal.invariant-loop-e
invariant-loop-e l = AreSourcesBelow l.count l.ends l.e-index l.lists.items
