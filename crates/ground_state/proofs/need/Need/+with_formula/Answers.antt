use Rattle.std.proofs.Common.{take, ◌∙◌, arith}
use Rattle.std.proofs.lemmas.List.{take_all}
use Rattle.std.proofs.lemmas.Result.{IfOk-weaker}
use Rattle.ground_state.specs.Room.{EachFits, fits}
use Rattle.ground_state.proofs.Sizes as sizes
use Rattle.ground_state.proofs.NeedLaws as laws
use Rattle.ground_state.proofs.need.Need.+with_formula.Goals as goal

pub with_formula-requires : goal.with_formula-requires
with_formula-requires t c = ((let d = c.decreases in let l = sizes.falls-Not c.args.f.now c.in-Not.part c.get.result.now c.in-Not.is c.get.ensures.value in omega (arith, d, l)), tt)

pub with_formula-requires-in-Imply : goal.with_formula-requires-in-Imply
with_formula-requires-in-Imply t c = ((let d = c.decreases in let l = sizes.falls-premise c.args.f.now c.in-Imply.premise c.in-Imply.conclusion c.get-in-Imply.result.now c.in-Imply.is c.get-in-Imply.ensures.value in omega (arith, d, l)), tt)

pub with_formula-requires-in-Imply-2 : goal.with_formula-requires-in-Imply-2
with_formula-requires-in-Imply-2 t c = ((let d = c.decreases in let l = sizes.falls-conclusion c.args.f.now c.in-Imply.premise c.in-Imply.conclusion c.get-in-Imply-2.result.now c.in-Imply.is c.get-in-Imply-2.ensures.value in omega (arith, d, l)), tt)

pub with_formula-requires-in-Forall : goal.with_formula-requires-in-Forall
with_formula-requires-in-Forall t c = (
  (let d = c.decreases in let l = sizes.falls-within c.args.f.now c.in-Forall.params c.as_slice.result.now c.in-Forall.body c.get-in-Forall.result.now c.in-Forall.is c.as_slice.ensures.items c.get-in-Forall.ensures.value in omega (arith, d, l)),
  tt,
)

pub with_formula-requires-in-loop-part : goal.with_formula-requires-in-loop-part
with_formula-requires-in-loop-part t c = (
  (let d = c.decreases in let l = sizes.falls-part-of c.args.f.now c.in-And.parts c.as_slice-part-items.result.now c.loop-part.part-index c.part-item.result c.part-item.result c.in-And.is c.as_slice-part-items.ensures.items c.loop-part-test.true c.part-item.is in omega (arith, d, l)),
  tt,
)

pub returns-in_ok-arity-in-Holds-clause-enough : goal.returns-in_ok-arity-in-Holds-clause-enough
returns-in_ok-arity-in-Holds-clause-enough t c =
    laws.enough-Holds c.args.f.now c.args.inside c.in-Holds.atom c.in-Holds.is c.at_least.result
    (let s = c.in_ok-arity-in-Holds.ensures.same in let l = c.len.ensures.length in let a = c.at_least.ensures.arity in omega arith)

pub returns-in-Equal-clause-enough : goal.returns-in-Equal-clause-enough
returns-in-Equal-clause-enough t c = laws.enough-Equal c.args.f.now c.args.inside c.in-Equal.field-0 c.in-Equal.field-1 c.in-Equal.is c.args.self

pub returns-in-Not-clause-enough : goal.returns-in-Not-clause-enough
returns-in-Not-clause-enough t c = IfOk-weaker c.with_formula.result _ _ (λ need h. laws.enough-Not c.args.f.now c.args.inside c.in-Not.part c.get.result.now c.in-Not.is c.get.ensures.value need h) c.with_formula.ensures.enough

pub returns-in_ok-with_formula-in-Imply-clause-enough : goal.returns-in_ok-with_formula-in-Imply-clause-enough
returns-in_ok-with_formula-in-Imply-clause-enough t c =
    laws.if_both c.with_formula-in-Imply-2.result _ _ _
    (λ need h w. laws.enough-Imply c.args.f.now c.args.inside c.in-Imply.premise c.in-Imply.conclusion c.get-in-Imply.result.now c.get-in-Imply-2.result.now c.in-Imply.is c.get-in-Imply.ensures.value c.get-in-Imply-2.ensures.value c.in_ok-with_formula-in-Imply.field-0 need w c.in_ok-with_formula-in-Imply.ensures.enough h)
    c.with_formula-in-Imply-2.ensures.enough c.with_formula-in-Imply-2.ensures.more

pub returns-in_ok-inner-in-Forall-clause-enough : goal.returns-in_ok-inner-in-Forall-clause-enough
returns-in_ok-inner-in-Forall-clause-enough t c =
    laws.if_both c.with_formula-in-Forall.result _ _ _
    (λ need h w. laws.enough-within c.args.f.now c.args.inside c.in-Forall.params c.as_slice.result.now c.in-Forall.body c.get-in-Forall.result.now c.in_ok-inner-in-Forall.inner
    c.in-Forall.is c.as_slice.ensures.items c.get-in-Forall.ensures.value c.in_ok-inner-in-Forall.ensures c.at_least-in-Forall.result need c.at_least-in-Forall.ensures.depth w h)
    c.with_formula-in-Forall.ensures.enough c.with_formula-in-Forall.ensures.more

pub loop-part-preserved : goal.loop-part-preserved
loop-part-preserved t c =
    let xs = c.as_slice-part-items.result.now in
    let i = c.loop-part.part-index in
    let n = c.args.inside in
    let before = c.loop-part.need in
    let need = c.in_ok-need-in-And.need in
    let w = c.in_ok-need-in-And.ensures.more in (
      laws.within_then c.args.self before need c.loop-part.invariant.0 w,
      λ room arity d r. laws.each_next (fits room arity) xs i c.part-item.result n c.loop-part-test.true c.part-item.is
          (laws.allows_more (λ room arity. EachFits (fits room arity) (take i xs) n) before need w c.loop-part.invariant.1 room arity d r) (c.in_ok-need-in-And.ensures.enough room arity d r),
    )

pub returns-after-loop-part-clause-enough : goal.returns-after-loop-part-clause-enough
returns-after-loop-part-clause-enough t c =
    let xs = c.as_slice-part-items.result.now in
    let i = c.loop-part.part-index in
    laws.enough-parts c.args.f.now c.args.inside c.in-And.parts (take i xs) c.in-And.is (take_all i xs c.loop-part-test.false ∙ c.as_slice-part-items.ensures.items) c.loop-part.need c.loop-part.invariant.1
