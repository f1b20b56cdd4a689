use Rattle.std.proofs.Common.{take}
use Rattle.plan_model.specs.declared.terms.Param.{Param}
use Rattle.hddl_prune.specs.Search.{HasObject}
use Rattle.hddl_prune.proofs.Each.{Each}
use Rattle.hddl_prune.proofs.may.has_empty_type.Given as goal

abbrev pub invariant-loop-param : goal.invariant-loop-param
invariant-loop-param l = Each (λ (p : Param). HasObject l.h p.ty) (take l.param-index l.params)
