use Rattle.std.proofs.Common.{Bool, ◌≡◌, ◌+◌, ◌++◌, ◌∷◌, [], List, length, true, not, take, get_or, set, sym, subst, ap, ◌∙◌, arith}
use Rattle.std.proofs.lemmas.Grind.{common_steps}
use Rattle.plan_model.specs.declared.networks.Pair.{Pair}
use Rattle.plan_model.specs.net_order.Marks.{marked}
use Rattle.plan_model.specs.net_order.Closure.{IsDirect}
use Rattle.plan_model.proofs.net_order.Adding.{direct_more, direct_none}
use Rattle.bound_calc.proofs.method_precs.SinglePairs.{written, single_new, single_old}
use Rattle.bound_calc.proofs.method_precs.single_pairs.single_pairs.Goals as goal
use Rattle.bound_calc.proofs.method_precs.single_pairs.single_pairs.Goals.{then-is_new+in_ok-push, else-is_new}

abbrev none : Pair
none = record { first = 0; then = 0 }

pub loop-pair-preserved : goal.loop-pair-preserved
loop-pair-preserved c =
    let pairs = c.args.pairs.now in
    let k = c.loop-pair.pair-index in
    let p : Pair = get_or c.args.pairs.now c.loop-pair.pair-index none in
    let now : List (List Bool) = c.loop-pair.seen.items in
    let value = c.deref_mut.ensures.value in
    let told : c.is_new.result ≡ not (marked c.loop-pair.seen.items p.first p.then) = c.is_new.ensures.told ∙ ap (λ (xs : List (List Bool)). not (marked xs p.first p.then)) value in
    let room : length c.is_new.new.seen ≡ c.loop-pair.seen.len = c.is_new.auto.seen ∙ c.deref_mut.ensures.len in
    let seen = written c.loop-pair.seen.len c.is_new.new.seen c.loop-pair.seen.items room
    ∙ (c.is_new.ensures.seen ∙ ap (λ (xs : List (List Bool)). set xs p.then (set (get_or xs p.then []) p.first true)) value) in
    record {
      direct = subst (IsDirect c.args.count (take (k + 1) pairs)) (sym seen) (direct_more c.args.count pairs k none now c.loop-pair-test.true c.requires.within c.loop-pair.invariant.direct);
      single = elim c.if-is_new.branch [
        | then-is_new+in_ok-push w ↦
            w.single-is ∙ (w.in_ok-push.ensures.pushed ∙ (ap (λ xs. xs ++ p ∷ []) c.loop-pair.invariant.single
            ∙ sym (single_new c.args.count pairs k none c.loop-pair-test.true now c.loop-pair.invariant.direct c.is_new.result told w.if-is_new.true)))
        | else-is_new w ↦
            w.single-is ∙ (c.loop-pair.invariant.single
            ∙ sym (single_old c.args.count pairs k none c.loop-pair-test.true now c.loop-pair.invariant.direct c.is_new.result told w.if-is_new.false))
      ];
    }

pub loop-pair-init : goal.loop-pair-init
loop-pair-init c = record {
  direct = direct_none c.args.count c.in_ok-seen.seen.items c.in_ok-seen.ensures.square c.in_ok-seen.ensures.empty;
  single = grind (arith, common_steps);
}

pub offset_bounds-pairs-pair-index : goal.offset_bounds-pairs-pair-index
offset_bounds-pairs-pair-index c = grind (arith, common_steps)

pub is_new-requires-clause-square : goal.is_new-requires-clause-square
is_new-requires-clause-square c = grind (arith, common_steps)

pub is_new-requires-clause-first : goal.is_new-requires-clause-first
is_new-requires-clause-first c = grind (arith, common_steps)

pub is_new-requires-clause-then_ : goal.is_new-requires-clause-then_
is_new-requires-clause-then_ c = grind (arith, common_steps)

pub returns : goal.returns
returns c = grind (arith, common_steps)
