use Rattle.std.proofs.Common.{ℕ, ◌<◌}
use Rattle.hddl_prune.specs.Search.{IsMethodSettled, IsTriedLive}
use Rattle.hddl_prune.proofs.live.Live.try_methods.Given as goal

abbrev pub invariant-loop-n : goal.invariant-loop-n
invariant-loop-n l = IsTriedLive l.h (λ parts. (k : ℕ) → k < l.n → IsMethodSettled l.h k parts) l.initial.self l.self l.found
