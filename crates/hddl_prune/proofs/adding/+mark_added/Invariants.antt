use Rattle.std.proofs.Common.{take}
use Rattle.live_parts.specs.Live.{AddsOf, OneSo}
use Rattle.hddl_prune.specs.Places.{HasAlso}
use Rattle.hddl_prune.proofs.adding.+mark_added.Given as goal

abbrev pub invariant-mark_all_added-loop-part : goal.invariant-mark_all_added-loop-part
invariant-mark_all_added-loop-part l = HasAlso l.initial.live (λ p. OneSo (λ e. AddsOf e p) (take l.part-index l.parts)) l.live
