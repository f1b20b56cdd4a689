use Rattle.std.proofs.Common.{◌≡◌, true, false, refl}
use Rattle.plan_model.specs.declared.networks.Child.{Child}
use Rattle.live_parts.specs.Live.{IsLiveHead}
use Rattle.hddl_prune.specs.Search.{parts_of}
use Rattle.hddl_prune.proofs.Each.{each_next, each_end, each_at}
use Rattle.hddl_prune.proofs.live.Live.have_all.Goals as goal

pub loop-child-preserved : goal.loop-child-preserved
loop-child-preserved c = each_next (λ (x : Child). IsLiveHead (parts_of c.args.self.now) x.head) c.args.children.now c.loop-child.child-index c.child-item.result c.child-item.result c.loop-child-test.true c.child-item.is c.loop-child.invariant (c.have.ensures.0 c.if-not-have.false)

pub returns-then-not-have : goal.returns-then-not-have
returns-then-not-have c = (
  λ t. absurd (let z : false ≡ true = t in cc),
  λ e. absurd (let m = each_at (λ (x : Child). IsLiveHead (parts_of c.args.self.now) x.head) c.args.children.now c.loop-child.child-index c.child-item.result c.child-item.result c.loop-child-test.true c.child-item.is e in
      let z = c.have.ensures.1 m in let y = c.if-not-have.true in let x : true ≡ false = cc in cc),
)

pub returns : goal.returns
returns c = (λ t. each_end (λ (x : Child). IsLiveHead (parts_of c.args.self.now) x.head) c.args.children.now c.loop-child.child-index c.loop-child-test.false c.loop-child.invariant, λ e. refl)
