use Rattle.std.proofs.Common.{sym}
use Rattle.plan_model.proofs.net_order.Bits.{count_of}
use Rattle.plan_model.proofs.net_order.child_set.ChildSet.len.Goals as goal

pub returns : goal.returns
returns c = sym (count_of c.self.inside.count c.self.inside.words.items c.args.self.now c.self.view_is)
