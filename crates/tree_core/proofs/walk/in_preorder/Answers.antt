use Rattle.std.proofs.Common.{suc, ◌≡◌, ◌+◌, ◌<◌, length, None, IfSome, slice_get, ap, sym, subst, ◌∙◌, arith}
use Rattle.std.proofs.lemmas.List.{length-map}
use Rattle.plan_model.specs.task_networks.Preorder.{preorder}
use Rattle.tree_core.specs.Labels.{labels, growth_of, growths_of}
use Rattle.tree_core.specs.Growing.{AreNodes, AreBelow, IsNodeAt}
use Rattle.tree_core.proofs.Gets.{get_some, get_within}
use Rattle.tree_core.proofs.Built.{built}
use Rattle.tree_core.proofs.Columns.{below_more, nodes_more, many_nodes_are}
use Rattle.tree_core.proofs.Setting.{get-push}
use Rattle.tree_core.proofs.Walking.{starts}
use Rattle.tree_core.proofs.walk.in_preorder.Goals as goal
use Rattle.tree_core.proofs.walk.in_preorder.Goals.{in-Some+in_ok-push, in_default}

pub loop-step-init : goal.loop-step-init
loop-step-init c =
    let none = c.in_ok-nodes.ensures.items in
    let gs = growths_of c.args.steps.now in (
      λ k x e. absurd (let f = ap (λ xs. slice_get xs k) none in cc),
      (let l = get_within gs 0 c.requires.joined.some.0 c.requires.joined.some.1 in let m = length-map c.args.steps.now growth_of in omega arith),
      λ tree order s. ((ap length none, λ k x e. absurd (let f = ap (λ xs. slice_get xs k) none in cc)), starts gs c.args.children.now c.requires.children tree order s),
    )

pub loop-step-preserved : goal.loop-step-preserved
loop-step-preserved c =
    let gs = growths_of c.args.steps.now in
    let n = length c.args.steps.now in
    let i = c.loop-step._step in
    let old = c.loop-step.nodes.items in
    let inv = c.loop-step.invariant in
    let many = length-map c.args.steps.now growth_of in
    elim c.match-next.branch [
      | in-Some+in_ok-push w ↦ (
          let x = w.in-Some.place in
          let within = subst (λ o. IfSome o (λ y. y < n)) w.in-Some.is inv.1 in
          let items = ap (λ v. v.items) w.nodes-is ∙ w.in_ok-push.ensures.items in (
            subst (AreBelow n) (sym items) (below_more n old x inv.0 within),
            subst (λ o. IfSome o (λ y. y < n)) (sym w.next-is) w.following-next.ensures.below,
            λ tree order s. (
                let was = inv.2 tree order s in
                let more = nodes_more gs tree order s i old x was.0 (subst (λ o. IsNodeAt i o tree order) w.in-Some.is was.1) (omega arith) in
                let placed = more.1 i x (get-push old x i was.0.0) in (
                  subst (λ xs. AreNodes (i + 1) xs tree order) (sym items) more,
                  subst (λ o. IsNodeAt (i + 1) o tree order) (sym w.next-is) (subst (λ k. IsNodeAt k w.following-next.result tree order) (let z : suc i ≡ i + 1 = omega arith in z) (w.following-next.ensures.next tree order s i placed)),
                )
                ),
          )
          )
      | in_default w ↦ (
        subst (AreBelow n) (sym (ap (λ v. v.items) w.nodes-is)) inv.0,
        subst (λ o. IfSome o (λ y. y < n)) (sym w.next-is) inv.1,
        λ tree order s. absurd (
            let was = inv.2 tree order s in
            let gone : slice_get (preorder labels tree) i ≡ None = subst (λ o. IsNodeAt i o tree order) w.in_default.is was.1 in
            let l = c.loop-step-test.true in
            let d = many_nodes_are gs tree order s in
            let (p, e) = get_some (preorder labels tree) i (omega arith) in
            cc
            ),
      )
    ]

pub returns-clause-many : goal.returns-clause-many
returns-clause-many c =
    let (tree, order, s) = built labels (growths_of c.args.steps.now) c.requires.joined in
    let e = (c.loop-step.invariant.2 tree order s).0.0 in
    let f = c.loop-step-test.false in
    let l = c.loop-step.auto._step-end in
    omega arith

pub returns-clause-nodes : goal.returns-clause-nodes
returns-clause-nodes c tree order s =
    let f = c.loop-step-test.false in
    let l = c.loop-step.auto._step-end in
    subst (λ n. AreNodes n c.loop-step.nodes.items tree order) (let z : c.loop-step._step ≡ length c.args.steps.now = omega arith in z) (c.loop-step.invariant.2 tree order s).0
