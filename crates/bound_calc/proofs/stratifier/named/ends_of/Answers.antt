use Rattle.std.proofs.Common.{arith}
use Rattle.std.proofs.lemmas.Grind.{common_steps}
use Rattle.std.proofs.lemmas.Option.{slice_get_within}
use Rattle.bound_calc.proofs.stratifier.named.ends_of.Goals as goal

pub overflow_cast-schema : goal.overflow_cast-schema
overflow_cast-schema c = grind (arith, common_steps)

pub offset_bounds-methods-edge : goal.offset_bounds-methods-edge
offset_bounds-methods-edge c = grind (arith, common_steps)

pub overflow_cast-result : goal.overflow_cast-result
overflow_cast-result c = grind (arith, common_steps)

pub offset_bounds-as_slice-edge : goal.offset_bounds-as_slice-edge
offset_bounds-as_slice-edge c = grind (arith, common_steps)

pub unreachable-unreachable : goal.unreachable-unreachable
unreachable-unreachable c = grind (arith, common_steps)

pub bounds-methods-edge : goal.bounds-methods-edge
bounds-methods-edge c = slice_get_within c.args.methods.now c.args.edge.method c.requires.there.1.plan c.requires.there.1.is
