use Rattle.std.proofs.Common.{◌+◌, List, sym, subst, ◌∙◌}
use Rattle.plan_model.specs.declared.networks.Pair.{Pair}
use Rattle.plan_model.specs.net_order.Meaning.{AreBelow}
use Rattle.bound_calc.proofs.method_precs.Fits.{below_checked}
use Rattle.bound_calc.proofs.method_precs.pairs.pairs_of.Goals as goal

pub single_pairs-requires : goal.single_pairs-requires
single_pairs-requires c =
    let n = c.len-count.result in
    let below = subst (λ (ps : List Pair). AreBelow n ps) (sym c.as_slice.ensures.items) (subst (λ m. AreBelow m c.args.method.now.pairs) (sym c.len-count.ensures.length) c.requires.within) in
    record { within = subst (λ (ps : List Pair). AreBelow (n + 1) ps) (sym (c.as_slice-then-checked.ensures.items ∙ c.in_ok-all.ensures.all)) (below_checked n c.as_slice.result.now below) }
