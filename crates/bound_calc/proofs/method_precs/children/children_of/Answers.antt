use Rattle.std.proofs.Common.{◌++◌, ◌∷◌, [], sym, ap, ◌∙◌}
use Rattle.plan_model.specs.declared.terms.Term.TheVariants.{Var}
use Rattle.bound_calc.proofs.method_precs.Growing.{map-numbers-push}
use Rattle.bound_calc.proofs.method_precs.children.children_of.Goals as goal

pub loop-k-preserved : goal.loop-k-preserved
loop-k-preserved c = c.in_ok-push.ensures.pushed ∙ (ap (λ ts. ts ++ Var c.loop-k.k ∷ []) c.loop-k.invariant ∙ sym (map-numbers-push Var c.loop-k.k))
