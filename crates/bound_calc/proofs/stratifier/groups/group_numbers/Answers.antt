use Rattle.std.proofs.Common.{◌≡◌, ℕ, [], Vec, Global, sym, subst, arith}
use Rattle.std.proofs.lemmas.List.{nil_from_length}
use Rattle.std.proofs.lemmas.Grind.{common_steps}
use Rattle.bound_calc.specs.stratifier.Graph.{NumberComponents}
use Rattle.bound_calc.proofs.stratifier.Grouped.{reversed_within, roots_left, grouped_more, grouped_all}
use Rattle.bound_calc.proofs.stratifier.groups.group_numbers.Goals as goal

pub finishing_order-requires-clause-within : goal.finishing_order-requires-clause-within
finishing_order-requires-clause-within c = reversed_within c.args.rows.now c.args.back.now c.requires.reversed

pub overflow_sub-number : goal.overflow_sub-number
overflow_sub-number c =
    let l = (roots_left c.args.rows.now c.args.back.now _ c.requires.reversed _ _ c.in-Some.root _ c.loop-root.invariant c.in-Some.ensures.items).0 in
    omega arith

pub overflow_sub-number-in-Some : goal.overflow_sub-number-in-Some
overflow_sub-number-in-Some c =
    let l = (roots_left c.args.rows.now c.args.back.now _ c.requires.reversed _ _ c.in-Some.root _ c.loop-root.invariant c.in-Some.ensures.items).0 in
    let v = c.pop.new.self.ok.0 in
    let n = c.len.ensures in
    omega arith

pub number-requires-clause-root : goal.number-requires-clause-root
number-requires-clause-root c = (roots_left c.args.rows.now c.args.back.now _ c.requires.reversed _ _ c.in-Some.root _ c.loop-root.invariant c.in-Some.ensures.items).1

pub loop-root-preserved : goal.loop-root-preserved
loop-root-preserved c =
    let l = (roots_left c.args.rows.now c.args.back.now _ c.requires.reversed _ _ c.in-Some.root _ c.loop-root.invariant c.in-Some.ensures.items).0 in
    let v = c.pop.new.self.ok.0 in
    let n = c.len.ensures in
    grouped_more c.args.rows.now c.args.back.now _ c.requires.reversed _ _ c.in-Some.root _ _ _ c.loop-root.invariant c.in-Some.ensures.items (omega arith) c.in_ok-number.ensures.numbered

pub returns : goal.returns
returns c =
    let none : c.loop-root.order.items ≡ [] = nil_from_length c.loop-root.order.items (let a = c.loop-root.order.ok.0 in let z = c.in_default.ensures.cases.0 in omega arith) in
    record {
      groups = subst (λ (v : Vec ℕ Global). NumberComponents c.args.rows.now v.items) (sym c.into_numbers.ensures)
          (grouped_all c.args.rows.now c.args.back.now _ c.requires.reversed c.loop-root.order.items c.loop-root.groups none c.loop-root.invariant);
    }

pub finishing_order-requires-clause-few : goal.finishing_order-requires-clause-few
finishing_order-requires-clause-few c = grind (arith, common_steps)

pub loop-root-init : goal.loop-root-init
loop-root-init c = grind (arith, common_steps)

pub overflow_cast-number : goal.overflow_cast-number
overflow_cast-number c = grind (arith, common_steps)

pub number-requires-clause-within : goal.number-requires-clause-within
number-requires-clause-within c = grind (arith, common_steps)

pub number-requires-clause-ready : goal.number-requires-clause-ready
number-requires-clause-ready c = grind (arith, common_steps)

pub loop-root-smaller : goal.loop-root-smaller
loop-root-smaller c = grind (arith, common_steps)
