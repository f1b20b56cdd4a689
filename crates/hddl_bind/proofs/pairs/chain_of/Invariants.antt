use Rattle.std.proofs.Common.{◌≡◌, ◌+◌}
use Rattle.plan_texts.specs.Networks.{chain}
use Rattle.hddl_bind.proofs.pairs.chain_of.Given as goal

abbrev pub invariant-loop-first : goal.invariant-loop-first
invariant-loop-first l = l.pairs ≡ chain 0 (l.first + 1)
