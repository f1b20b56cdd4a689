use Rattle.std.proofs.Common.{◌≡◌, ◌+◌, ◌<◌, List, [], ◌∷◌, length, take, subst, arith}
use Rattle.std.proofs.lemmas.List.{take_all}
use Rattle.std.proofs.lemmas.Bool.{both_ways}
use Rattle.plan_model.specs.declared.networks.Pair.{Pair}
use Rattle.plan_model.specs.task_networks.Order.{IsAcyclic}
use Rattle.plan_model.specs.Pairs.{Pairs}
use Rattle.plan_model.proofs.net_order.Closures.{first_at, acyclic_none}
use Rattle.plan_model.proofs.net_order.cycle.first_closing.Goals as goal

some_pair : (pairs : List Pair) → (IsAcyclic (Pairs pairs) → ⊥) → 0 < length pairs
some_pair [] f = absurd (f acyclic_none)
some_pair (p ∷ pairs) f = omega arith

pub loop-cyclic-init : goal.loop-cyclic-init
loop-cyclic-init c = record {
  order = some_pair c.args.pairs.now c.requires.cyclic;
  end = omega arith;
  none = acyclic_none;
  some = λ h. c.requires.cyclic (subst (λ ps. IsAcyclic (Pairs ps)) (take_all (length c.args.pairs.now) c.args.pairs.now (omega arith)) h);
}

pub loop-cyclic-preserved-then-branch : goal.loop-cyclic-preserved-then-branch
loop-cyclic-preserved-then-branch c =
    let h = c.loop-cyclic.invariant in
    record {
      order = let t = c.loop-cyclic-test.true in omega arith;
      end = h.end;
      none = c.in_ok-have_no_cycle.ensures.told.0 c.if-branch.true;
      some = h.some;
    }

pub loop-cyclic-preserved : goal.loop-cyclic-preserved
loop-cyclic-preserved c =
    let h = c.loop-cyclic.invariant in
    record {
      order = let t = c.loop-cyclic-test.true in omega arith;
      end = let t = c.loop-cyclic-test.true in let e = c.loop-cyclic.invariant.end in omega arith;
      none = h.none;
      some = λ f. both_ways c.in_ok-have_no_cycle.field-0 c.if-branch.false (c.in_ok-have_no_cycle.ensures.told.1 f);
    }

pub returns : goal.returns
returns c =
    let h = c.loop-cyclic.invariant in
    let next : c.loop-cyclic.cyclic ≡ c.loop-cyclic.acyclic + 1 = let t = c.loop-cyclic-test.false in let o = c.loop-cyclic.invariant.order in omega arith in
    let l : c.loop-cyclic.acyclic < length c.args.pairs.now = let o = c.loop-cyclic.invariant.order in let e = c.loop-cyclic.invariant.end in omega arith in
    record { first = first_at c.args.pairs.now c.loop-cyclic.acyclic (record { first = 0; then = 0 }) l c.loop-cyclic.invariant.none (subst (λ k. IsAcyclic (Pairs (take k c.args.pairs.now)) → ⊥) next c.loop-cyclic.invariant.some) }
