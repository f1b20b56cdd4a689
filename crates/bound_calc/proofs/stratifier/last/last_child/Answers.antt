use Rattle.std.proofs.Common.{rules, None, length, get_or, true, sym, subst, ◌∙◌, arith, length-set}
use Rattle.std.proofs.lemmas.List.{take_all}
use Rattle.std.proofs.lemmas.Bool.{false≢true}
use Rattle.std.proofs.lemmas.Grind.{common_steps}
use Rattle.bound_calc.proofs.stratifier.NamedSteps.{an_option}
use Rattle.plan_model.specs.declared.networks.Pair.{Pair}
use Rattle.plan_model.specs.net_order.Closure.{AreFirsts}
use Rattle.plan_model.specs.net_order.Meaning.{AreBelow}
use Rattle.plan_model.proofs.net_order.Ends.{firsts_more}
use Rattle.bound_calc.proofs.stratifier.LastChild.{IsOnlyBelow, last_found, only_below_all, two_unmarked}
use Rattle.bound_calc.proofs.stratifier.last.last_child.Goals as goal

abbrev none : Pair
none = record { first = 0; then = 0 }

pub loop-pair-init : goal.loop-pair-init
loop-pair-init c = grind (arith, common_steps)

pub offset_bounds-pair-items-pair-index : goal.offset_bounds-pair-items-pair-index
offset_bounds-pair-items-pair-index c = grind (arith, common_steps)

pub index_mut-requires : goal.index_mut-requires
index_mut-requires c =
    let n = length c.args.plan.now.schema.children in
    let below = (subst (AreBelow n) (sym c.as_slice-pair-items.ensures.items) c.requires.ordered.pairs c.loop-pair.pair-index none c.loop-pair-test.true).0 in
    let room = c.loop-pair.invariant.room in
    let v = c.loop-pair.firsts.ok.0 in
    omega arith

pub loop-pair-preserved : goal.loop-pair-preserved
loop-pair-preserved c =
    let n = length c.args.plan.now.schema.children in
    let pairs = c.as_slice-pair-items.result.now in
    let k = c.loop-pair.pair-index in
    let p = get_or pairs k none in
    let below = (subst (AreBelow n) (sym c.as_slice-pair-items.ensures.items) c.requires.ordered.pairs k none c.loop-pair-test.true).0 in
    let room = c.loop-pair.invariant.room in
    record {
      room = length-set c.loop-pair.firsts.items p.first true ∙ room;
      firsts = firsts_more pairs k none c.loop-pair.firsts.items c.loop-pair-test.true (omega arith) c.loop-pair.invariant.firsts;
    }

pub loop-i-preserved : goal.loop-i-preserved
loop-i-preserved c = search rules

pub returns : goal.returns
returns c =
    let pairs = c.as_slice-pair-items.result.now in
    record {
      last = last_found c.args.plan.now pairs c.loop-pair.firsts.items _ c.loop-i.only c.requires.ordered c.as_slice-pair-items.ensures.items c.loop-pair.invariant.room
          (subst (λ ps. AreFirsts ps c.loop-pair.firsts.items) (take_all c.loop-pair.pair-index pairs c.loop-pair-test.false) c.loop-pair.invariant.firsts)
          c.as_slice-first-items.ensures.value
          (only_below_all c.as_slice-first-items.result.now c.loop-i.i c.loop-i.only (omega (arith, c.loop-i.auto.i-end, c.loop-i-test.false)) c.loop-i.invariant);
    }

pub returns-then-is_some : goal.returns-then-is_some
returns-then-is_some c =
    let pairs = c.as_slice-pair-items.result.now in
    record {
      last = last_found c.args.plan.now pairs c.loop-pair.firsts.items _ None c.requires.ordered c.as_slice-pair-items.ensures.items c.loop-pair.invariant.room
          (subst (λ ps. AreFirsts ps c.loop-pair.firsts.items) (take_all c.loop-pair.pair-index pairs c.loop-pair-test.false) c.loop-pair.invariant.firsts)
          c.as_slice-first-items.ensures.value
          (let (x, e) = an_option c.loop-i.only (sym c.is_some.ensures ∙ c.if-is_some.true) in two_unmarked c.as_slice-first-items.result.now c.loop-i.i x c.loop-i-test.true (λ m. false≢true (sym c.if-not-first.true ∙ m)) (subst (IsOnlyBelow c.as_slice-first-items.result.now c.loop-i.i) e c.loop-i.invariant));
    }
