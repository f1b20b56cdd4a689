use Rattle.std.proofs.Common.{ℕ, ◌<◌}
use Rattle.hddl_prune.specs.Search.{parts_of, IsOpeningSettled, IsTriedReach}
use Rattle.hddl_prune.proofs.reach.Reach.try_all.Given as goal

abbrev pub invariant-loop-n : goal.invariant-loop-n
invariant-loop-n l = IsTriedReach l.h (parts_of l.live) (λ kept. (k : ℕ) → k < l.n → IsOpeningSettled l.h (parts_of l.live) k kept) l.initial.self l.self l.found
