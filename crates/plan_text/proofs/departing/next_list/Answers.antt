use Rattle.std.proofs.Common.{arith}
use Rattle.text_forms.specs.Placed.{parts_at}
use Rattle.plan_text.proofs.FormByForm.{comes-list}
use Rattle.plan_text.proofs.departing.next_list.Goals as goal

pub returns-in-List : goal.returns-in-List
returns-in-List c =
    let s = c.in-List.ensures.shows in
    let a = s.opens in
    let b = s.order in
    (comes-list (parts_at c.args.s.now c.args.i) (parts_at c.args.s.now c.in-List.inside) (parts_at c.args.s.now c.in-List.behind) c.in-List.field-0 s.parts, s.whole, omega arith, s.within)
