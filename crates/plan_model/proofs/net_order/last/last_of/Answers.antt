use Rattle.std.proofs.Common.{◌≡◌, ◌-◌, ◌<◌, length, Some, slice_get, subst, sym, ◌∙◌, arith}
use Rattle.plan_model.specs.net_order.Marks.{IsMarkedLast}
use Rattle.plan_model.proofs.net_order.Ends.{not_last}
use Rattle.plan_model.proofs.net_order.Lasts.{last_child, last_is}
use Rattle.plan_model.proofs.net_order.last.last_of.Goals as goal

pub returns-then-not-contains : goal.returns-then-not-contains
returns-then-not-contains c =
    let before = c.args.before.now in
    let line = c.args.line.now in
    let e : slice_get line (length line - 1) ≡ Some c.in_ok-child.child = sym (c.in_ok-child.ensures ∙ c.last.ensures.value) in
    let l = last_child before line c.requires.line c.in_ok-child.child e in
    let j : c.loop-j.j < length c.index-before-child.result = let n = c.len-j-end.ensures in let t = c.loop-j-test.true in omega arith in
    record {
      last = λ i m. not_last before c.in_ok-child.child c.index-before-child.result c.requires.square l c.index-before-child.is c.loop-j.j j c.if-j-child.true (sym c.contains.ensures ∙ c.if-not-contains.true)
          (subst (IsMarkedLast before) (last_is before line c.requires.line c.in_ok-child.child e i m) m);
    }
