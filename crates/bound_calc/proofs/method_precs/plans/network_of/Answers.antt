use Rattle.std.proofs.Common.{length}
use Rattle.plan_model.proofs.net_order.Chains.{below_from_pairs}
use Rattle.bound_calc.proofs.method_precs.plans.network_of.Goals as goal

pub pairs_of-requires-clause-within : goal.pairs_of-requires-clause-within
pairs_of-requires-clause-within c = below_from_pairs (length c.args.method.now.children) c.args.method.now.pairs c.requires.within
