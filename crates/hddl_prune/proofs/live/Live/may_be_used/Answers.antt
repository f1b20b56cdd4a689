use Rattle.hddl_prune.specs.Search.{parts_of}
use Rattle.hddl_prune.proofs.LiveSteps.{live_then, live_else}
use Rattle.hddl_prune.proofs.live.Live.may_be_used.Goals as goal

pub returns-then-have_all : goal.returns-then-have_all
returns-then-have_all c = live_then c.args.h.now (parts_of c.args.self.now) c.args.method.now c.as_slice.result.now c.have_all.result c.may_be_so.result c.as_slice.ensures.items c.have_all.ensures c.if-have_all.true c.may_be_so.ensures

pub returns-else-have_all : goal.returns-else-have_all
returns-else-have_all c = live_else c.args.h.now (parts_of c.args.self.now) c.args.method.now c.as_slice.result.now c.have_all.result c.as_slice.ensures.items c.have_all.ensures c.if-have_all.false
