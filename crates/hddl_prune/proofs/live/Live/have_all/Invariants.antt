use Rattle.std.proofs.Common.{take}
use Rattle.plan_model.specs.declared.networks.Child.{Child}
use Rattle.live_parts.specs.Live.{IsLiveHead}
use Rattle.hddl_prune.specs.Search.{parts_of}
use Rattle.hddl_prune.proofs.Each.{Each}
use Rattle.hddl_prune.proofs.live.Live.have_all.Given as goal

abbrev pub invariant-loop-child : goal.invariant-loop-child
invariant-loop-child l = Each (λ (x : Child). IsLiveHead (parts_of l.self) x.head) (take l.child-index l.children)
