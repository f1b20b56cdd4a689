use Rattle.std.proofs.Common.{ℕ, ◌<◌, []}
use Rattle.hddl_prune.specs.Places.{HasAlso}
use Rattle.hddl_prune.specs.Search.{IsPredicateAt}
use Rattle.hddl_prune.proofs.live.Live.first.Given as goal

abbrev pub invariant-loop-i : goal.invariant-loop-i
invariant-loop-i l = HasAlso [] (λ p. (k : ℕ) × (k < l.i) × IsPredicateAt l.h.init k p) l.predicates
