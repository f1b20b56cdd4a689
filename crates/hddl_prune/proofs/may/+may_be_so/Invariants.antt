use Rattle.std.proofs.Common.{take}
use Rattle.plan_model.specs.declared.formulas.Formula.{Formula}
use Rattle.hddl_prune.specs.Search.{MayBeSoOver}
use Rattle.hddl_prune.proofs.Each.{Each}
use Rattle.hddl_prune.proofs.may.+may_be_so.Given as goal

abbrev pub invariant-all_may-loop-part : goal.invariant-all_may-loop-part
invariant-all_may-loop-part l = Each (MayBeSoOver l.h l.live) (take l.part-index l.parts)

abbrev pub invariant-one_may-loop-part : goal.invariant-one_may-loop-part
invariant-one_may-loop-part l = Each (λ (f : Formula). MayBeSoOver l.h l.live f → ⊥) (take l.part-index l.parts)
