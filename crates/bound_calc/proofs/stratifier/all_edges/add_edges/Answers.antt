use Rattle.std.proofs.Common.{◌≡◌, ◌+◌, ◌∷◌, ◌++◌, [], List, map, take, sym, ap, subst, ◌∙◌}
use Rattle.std.proofs.lemmas.List.{map-append}
use Rattle.plan_model.specs.declared.networks.Child.{Child}
use Rattle.plan_model.specs.plan_meaning.Strata.{Edge}
use Rattle.bound_calc.specs.stratifier.Listed.{edge_of, edges_from}
use Rattle.bound_calc.proofs.stratifier.Listing.{from_with_task, from_without_task, from_none}
use Rattle.bound_calc.proofs.stratifier.all_edges.add_edges.Goals as goal
use Rattle.bound_calc.proofs.stratifier.all_edges.add_edges.Goals.{in-Task+in_ok-push, in_default}

pub loop-i-init : goal.loop-i-init
loop-i-init c = from_none (map edge_of c.args.edges.now) c.args.method c.args.children.now

pub loop-i-preserved : goal.loop-i-preserved
loop-i-preserved c =
    let children = c.args.children.now in
    let i = c.loop-i.i in
    let item = c.index-children-i.result in
    let head = ap (λ (z : Child). z.head) (sym c.index-children-i.is) in
    let whole : List Edge → Type 0 = λ es. es ≡ map edge_of c.args.edges.now ++ edges_from c.args.method 0 (take (i + 1) children) in
    elim c.match-child.branch [
      | in-Task+in_ok-push w ↦ subst (λ es. whole (map edge_of es)) (sym (w.edges-is ∙ w.in_ok-push.ensures.pushed))
          (map-append edge_of c.loop-i.edges (_ ∷ []) ∙ from_with_task (map edge_of c.args.edges.now) (map edge_of c.loop-i.edges) c.args.method children i item c.loop-i-test.true w.in-Task.field-0 (head ∙ w.in-Task.is) c.loop-i.invariant)
      | in_default w ↦ subst (λ es. whole (map edge_of es)) (sym w.edges-is)
          (from_without_task (map edge_of c.args.edges.now) (map edge_of c.loop-i.edges) c.args.method children i item c.loop-i-test.true (λ u e. w.in_default.not-Task u (sym head ∙ e)) c.loop-i.invariant)
    ]
