use Rattle.std.proofs.Common.{take, ◌∙◌, arith}
use Rattle.std.proofs.lemmas.List.{take_all}
use Rattle.ground_state.specs.Room.{EachFits, effect_fits}
use Rattle.ground_state.proofs.EffectSizes as sizes
use Rattle.ground_state.proofs.NeedLaws as laws
use Rattle.ground_state.proofs.need.Need.+with_effect.Goals as goal

pub with_effect-requires-in-Forall : goal.with_effect-requires-in-Forall
with_effect-requires-in-Forall t c = (
  (let d = c.decreases in let l = sizes.falls-Forall c.args.eff.now c.in-Forall.params c.as_slice.result.now c.in-Forall.body c.get.result.now c.in-Forall.is c.as_slice.ensures.items c.get.ensures.value in omega (arith, d, l)),
  tt,
)

pub with_effect-requires-in-When : goal.with_effect-requires-in-When
with_effect-requires-in-When t c = ((let d = c.decreases in let l = sizes.falls-When c.args.eff.now c.in-When.condition c.in-When.body c.get-in-When.result.now c.in-When.is c.get-in-When.ensures.value in omega (arith, d, l)), tt)

pub returns-in-Add-clause-enough : goal.returns-in-Add-clause-enough
returns-in-Add-clause-enough t c = laws.enough-Add c.args.eff.now c.args.inside c.in-Add.field-0 c.in-Add.is c.args.self

pub returns-in-Delete-clause-enough : goal.returns-in-Delete-clause-enough
returns-in-Delete-clause-enough t c = laws.enough-Delete c.args.eff.now c.args.inside c.in-Delete.field-0 c.in-Delete.is c.args.self

pub returns-in_ok-inner-in-Forall-clause-enough : goal.returns-in_ok-inner-in-Forall-clause-enough
returns-in_ok-inner-in-Forall-clause-enough t c =
    laws.if_both c.with_effect-in-Forall.result _ _ _
    (λ need h w. laws.enough-Each c.args.eff.now c.args.inside c.in-Forall.params c.as_slice.result.now c.in-Forall.body c.get.result.now c.in_ok-inner-in-Forall.inner
    c.in-Forall.is c.as_slice.ensures.items c.get.ensures.value c.in_ok-inner-in-Forall.ensures c.at_least.result need c.at_least.ensures.depth w h)
    c.with_effect-in-Forall.ensures.enough c.with_effect-in-Forall.ensures.more

pub returns-in_ok-with_formula-in-When-clause-enough : goal.returns-in_ok-with_formula-in-When-clause-enough
returns-in_ok-with_formula-in-When-clause-enough t c =
    laws.if_both c.with_effect-in-When.result _ _ _
    (λ need h w. laws.enough-When c.args.eff.now c.args.inside c.in-When.condition c.in-When.body c.get-in-When.result.now c.in-When.is c.get-in-When.ensures.value c.in_ok-with_formula-in-When.field-0 need w c.in_ok-with_formula-in-When.ensures.enough h)
    c.with_effect-in-When.ensures.enough c.with_effect-in-When.ensures.more

pub with_effect-requires : goal.with_effect-requires
with_effect-requires t c = (
  (let d = c.decreases in let l = sizes.falls-part-of c.args.eff.now c.in-And.parts c.as_slice-part-items.result.now c.loop-part.part-index c.part-item.result c.part-item.result c.in-And.is c.as_slice-part-items.ensures.items c.loop-part-test.true c.part-item.is in omega (arith, d, l)),
  tt,
)

pub loop-part-preserved : goal.loop-part-preserved
loop-part-preserved t c =
    let xs = c.as_slice-part-items.result.now in
    let i = c.loop-part.part-index in
    let n = c.args.inside in
    let before = c.loop-part.need in
    let need = c.in_ok-need-in-And.need in
    let w = c.in_ok-need-in-And.ensures.more in (
      laws.within_then c.args.self before need c.loop-part.invariant.0 w,
      λ room arity d r. laws.each_next (effect_fits room arity) xs i c.part-item.result n c.loop-part-test.true c.part-item.is
          (laws.allows_more (λ room arity. EachFits (effect_fits room arity) (take i xs) n) before need w c.loop-part.invariant.1 room arity d r) (c.in_ok-need-in-And.ensures.enough room arity d r),
    )

pub returns-after-loop-part-clause-enough : goal.returns-after-loop-part-clause-enough
returns-after-loop-part-clause-enough t c =
    let xs = c.as_slice-part-items.result.now in
    let i = c.loop-part.part-index in
    laws.enough-All c.args.eff.now c.args.inside c.in-And.parts (take i xs) c.in-And.is (take_all i xs c.loop-part-test.false ∙ c.as_slice-part-items.ensures.items) c.loop-part.need c.loop-part.invariant.1
