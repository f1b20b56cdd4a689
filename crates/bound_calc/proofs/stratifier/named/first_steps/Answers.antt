use Rattle.std.proofs.Common.{◌+◌, length, not, ◌<◌, get_or, None, sym, ap, subst, ◌∙◌, arith}
use Rattle.std.proofs.lemmas.List.{get_or_read}
use Rattle.std.proofs.lemmas.Option.{slice_get-get_or, none-some}
use Rattle.std.proofs.lemmas.Bool.{false≢true}
use Rattle.std.proofs.lemmas.Grind.{common_steps}
use Rattle.bound_calc.specs.declared.stratifier.named.Ends.{Ends}
use Rattle.bound_calc.proofs.stratifier.NamedSteps.{AreStepsBelow, no_option, an_option, steps_none, steps_over, steps_more, steps_all}
use Rattle.bound_calc.proofs.stratifier.named.first_steps.Goals as goal
use Rattle.bound_calc.proofs.stratifier.named.first_steps.Goals.{then-is_none+then-is_one_more, else-is_none, else-is_none-via-then-is_none+else-is_one_more, else-is_none-via-else-is_none}

abbrev nowhere : Ends
nowhere = record { from = 0; to = 0 }

pub loop-k-init : goal.loop-k-init
loop-k-init c = steps_none c.args.ends.now c.args.distances.now c.in_ok-steps.steps.items c.in_ok-steps.ensures.room c.in_ok-steps.ensures.empty

pub loop-k-preserved : goal.loop-k-preserved
loop-k-preserved c =
    let ends = c.args.ends.now in
    let k = c.loop-k.k in
    let n = get_or ends k nowhere in
    let l = c.loop-k-test.true in
    let is = slice_get-get_or ends k nowhere l in
    let steps = c.loop-k.steps.items in
    let h = c.loop-k.invariant in
    let within : n.from < length steps = (let r = h.room in let b = (c.requires.within k nowhere l).0 in omega arith) in
    let read = get_or_read steps n.from c.index.result.now within c.index.ensures None in
    elim c.if-is_none.branch [
      | then-is_none+then-is_one_more w ↦ steps_more ends c.args.distances.now k n is steps h _ within (sym read ∙ no_option c.index.result.now (c.is_none.ensures ∙ ap not w.if-is_none.true)) (w.is_one_more.ensures.0 w.if-is_one_more.true) (ap (λ v. v.items) w.steps-is)
      | else-is_none w ↦ elim w.else-is_none.branch [
        | else-is_none-via-then-is_none+else-is_one_more w' ↦ subst (λ v. AreStepsBelow ends c.args.distances.now (k + 1) v.items) (sym w.steps-is)
            (steps_over ends c.args.distances.now k n is steps h (λ e nearer. false≢true (sym w'.if-is_one_more.false ∙ w'.is_one_more.ensures.1 nearer)))
        | else-is_none-via-else-is_none w' ↦ subst (λ v. AreStepsBelow ends c.args.distances.now (k + 1) v.items) (sym w.steps-is)
            (steps_over ends c.args.distances.now k n is steps h (λ e nearer. (let (x, f) = an_option c.index.result.now (c.is_none.ensures ∙ ap not w'.if-is_none.false) in none-some _ (sym e ∙ (sym read ∙ f)))))
      ]
    ]

pub returns : goal.returns
returns c = record { steps = steps_all c.args.ends.now c.args.distances.now c.loop-k.k c.loop-k.steps.items c.loop-k-test.false c.loop-k.invariant }

pub offset_bounds-ends-k : goal.offset_bounds-ends-k
offset_bounds-ends-k c = grind (arith, common_steps)

pub bounds-ends-k : goal.bounds-ends-k
bounds-ends-k c = grind (arith, common_steps)

pub index-requires : goal.index-requires
index-requires c = grind (arith, common_steps)

pub offset_bounds-distances-from : goal.offset_bounds-distances-from
offset_bounds-distances-from c = grind (arith, common_steps)

pub bounds-distances-from : goal.bounds-distances-from
bounds-distances-from c = grind (arith, common_steps)

pub offset_bounds-distances-e : goal.offset_bounds-distances-e
offset_bounds-distances-e c = grind (arith, common_steps)

pub bounds-distances-e : goal.bounds-distances-e
bounds-distances-e c = grind (arith, common_steps)

pub index_mut-requires : goal.index_mut-requires
index_mut-requires c = grind (arith, common_steps)
