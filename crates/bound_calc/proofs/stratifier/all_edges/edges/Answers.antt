use Rattle.std.proofs.Common.{◌≡◌, ◌<◌, All, ◌≤◌, ◌+◌, ◌++◌, List, length, map, take, false, get_or, sym, ap, subst, ◌∙◌, arith}
use Rattle.std.proofs.lemmas.List.{get_or_read}
use Rattle.plan_model.specs.declared.schemas.MethodPlan.{MethodPlan}
use Rattle.plan_model.specs.plan_meaning.Strata.{Edge}
use Rattle.bound_calc.specs.stratifier.Conditions.{IsSmallMethod}
use Rattle.bound_calc.specs.stratifier.Listed.{edge_of, edges_from}
use Rattle.bound_calc.proofs.stratifier.Listing.{edges_of, edges_told, tasks_marked, of_marked, of_unmarked}
use Rattle.bound_calc.proofs.stratifier.all_edges.edges.Goals as goal
use Rattle.bound_calc.proofs.stratifier.all_edges.edges.Goals.{then-index+in_ok-add_edges, else-index}

pub index-requires : goal.index-requires
index-requires c =
    let methods = c.as_slice-plan-items.result.now in
    let plan = c.plan-item.result in
    let b = tasks_marked c.args.c.now c.requires.small methods c.in_ok-marks.marks.items c.as_slice-plan-items.ensures.items c.in_ok-marks.ensures.room c.loop-m.m plan c.loop-m-test.true in
    let task : (get_or methods c.loop-m.m plan).schema.task ≡ plan.schema.task = ap (λ (z : MethodPlan). z.schema.task) (sym c.plan-item.is) in
    let v = c.in_ok-marks.marks.ok.0 in
    omega arith

pub loop-m-preserved : goal.loop-m-preserved
loop-m-preserved c =
    let marks = c.in_ok-marks.marks.items in
    let methods = c.as_slice-plan-items.result.now in
    let m = c.loop-m.m in
    let plan = c.plan-item.result in
    let below : plan.schema.task < length marks = subst (λ (z : MethodPlan). z.schema.task < length marks) (sym c.plan-item.is) (tasks_marked c.args.c.now c.requires.small methods marks c.as_slice-plan-items.ensures.items c.in_ok-marks.ensures.room m plan c.loop-m-test.true) in
    let mark = get_or_read marks plan.schema.task c.index.result.now below c.index.ensures false in
    let whole : List Edge → Type 0 = λ es. es ≡ edges_of marks 0 (take (m + 1) methods) in
    elim c.if-index.branch [
      | then-index+in_ok-add_edges w ↦ subst (λ es. whole (map edge_of es)) (sym w.edges-is)
          (of_marked marks (map edge_of c.loop-m.edges) (map edge_of w.add_edges.new.edges) methods m plan c.loop-m-test.true c.plan-item.is (sym mark ∙ w.if-index.true) c.loop-m.invariant
          (w.in_ok-add_edges.ensures.added ∙ ap (λ cs. map edge_of c.loop-m.edges ++ edges_from m 0 cs) w.as_slice.ensures.items))
      | else-index w ↦ subst (λ es. whole (map edge_of es)) (sym w.edges-is)
          (of_unmarked marks (map edge_of c.loop-m.edges) methods m plan c.loop-m-test.true c.plan-item.is (sym mark ∙ w.if-index.false) c.loop-m.invariant)
    ]

pub returns : goal.returns
returns c = record {
  edges = edges_told c.args.c.now c.loop-m.edges c.as_slice-plan-items.result.now c.loop-m.m c.in_ok-marks.marks.items c.as_slice-plan-items.ensures.items c.loop-m-test.false c.in_ok-marks.ensures.reached c.loop-m.invariant;
}

pub overflow_cast-m : goal.overflow_cast-m
overflow_cast-m c =
    let l = c.loop-m-test.true in
    let e = ap length c.as_slice-plan-items.ensures.items in
    let few = c.requires.small.methods in
    omega arith

pub add_edges-requires : goal.add_edges-requires
add_edges-requires c =
    let methods = c.as_slice-plan-items.result.now in
    let small = subst (λ (ms : List MethodPlan). All IsSmallMethod ms) (sym c.as_slice-plan-items.ensures.items) c.requires.small.networks c.loop-m.m c.plan-item.result c.loop-m-test.true in
    let few : length c.plan-item.result.schema.children ≤ 4097 = subst (λ (z : MethodPlan). length z.schema.children ≤ 4097) (sym c.plan-item.is) small.children in
    let same = ap length c.as_slice.ensures.items in
    omega arith
