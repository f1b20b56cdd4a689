use Rattle.std.proofs.Common.{◌∙◌, ◌++◌, Some, None, sym, ap}
use Rattle.std.proofs.lemmas.List.{append-nil}
use Rattle.hplan_text.proofs.Indexed.{finds, finds-none}
use Rattle.hplan_text.proofs.Marked.{marked-now}
use Rattle.hplan_text.proofs.Walked.{visits-new, visits-same}
use Rattle.hplan_text.proofs.reaching.visit.Goals as goal

pub returns-in_ok-extend_from_slice : goal.returns-in_ok-extend_from_slice
returns-in_ok-extend_from_slice c =
    let plan = c.args.plan.now in
    let ids = c.args.ids.now in
    let p = c.in-New.ensures.taken in
    let x = c.in-Some.node.now in
    record {
      visited = visits-new plan ids c.args.id c.args.reached.now c.take.new.marks c.args.todo.now.items (Some x)
          (finds ids plan.nodes c.args.index.now c.requires.index c.args.id c.in-New.place p.0 p.1 x (sym c.in-Some.ensures.item))
          c.extend_from_slice.new.self.items p.2 (marked-now ids c.args.reached.now c.take.new.marks c.in-New.place c.args.id p.0 c.requires.sized p.1 p.3)
          (c.in_ok-extend_from_slice.ensures.items ∙ ap (λ z. c.args.todo.now.items ++ z) c.as_slice.ensures.items);
    }

pub returns-in_default-get : goal.returns-in_default-get
returns-in_default-get c =
    let plan = c.args.plan.now in
    let ids = c.args.ids.now in
    let p = c.in-New.ensures.taken in
    record {
      visited = visits-new plan ids c.args.id c.args.reached.now c.take.new.marks c.args.todo.now.items None
          (finds-none ids plan.nodes c.args.index.now c.requires.index c.args.id c.in-New.place p.0 p.1 (sym c.in_default-get.ensures.item))
          c.args.todo.now.items p.2 (marked-now ids c.args.reached.now c.take.new.marks c.in-New.place c.args.id p.0 c.requires.sized p.1 p.3)
          (sym (append-nil c.args.todo.now.items));
    }

pub returns-in_default : goal.returns-in_default
returns-in_default c =
    record { visited = visits-same c.args.plan.now c.args.ids.now c.args.id c.args.reached.now c.take.new.marks c.args.todo.now.items c.requires.owned c.take.result c.in_default.not-New c.take.ensures.taken }
