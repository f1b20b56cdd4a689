use Rattle.std.proofs.Common.{refl, arith}
use Rattle.std.proofs.lemmas.Option.{slice_get_read}
use Rattle.stack_encoder.proofs.FirstUnordered.{lined, ordered_more, ordered_all, first_unordered}
use Rattle.stack_encoder.proofs.order.untotal.Goals as goal

pub is_one_after_another-requires : goal.is_one_after_another-requires
is_one_after_another-requires c =
    let methods = c.as_slice-methods.result.now in
    let plan = c.index-methods-m.result in
    lined c.args.c.now methods c.as_slice-methods.ensures.items c.loop-m.m plan (slice_get_read methods _ c.loop-m.m plan refl c.loop-m-test.true c.index-methods-m.is) c.requires.compiled

pub returns-then-not-is_one_after_another : goal.returns-then-not-is_one_after_another
returns-then-not-is_one_after_another c =
    let methods = c.as_slice-methods.result.now in
    let plan = c.index-methods-m.result in
    first_unordered c.args.c.now methods c.as_slice-methods.ensures.items c.loop-m.m plan (slice_get_read methods _ c.loop-m.m plan refl c.loop-m-test.true c.index-methods-m.is)
    (λ one. let t = c.is_one_after_another.ensures.1 one in let f = c.if-not-is_one_after_another.true in cc) c.loop-m.invariant

pub loop-m-preserved : goal.loop-m-preserved
loop-m-preserved c =
    let methods = c.as_slice-methods.result.now in
    let plan = c.index-methods-m.result in
    ordered_more methods c.loop-m.m plan (slice_get_read methods _ c.loop-m.m plan refl c.loop-m-test.true c.index-methods-m.is) (c.is_one_after_another.ensures.0 c.if-not-is_one_after_another.false) c.loop-m.invariant

pub returns : goal.returns
returns c = ordered_all c.args.c.now c.as_slice-methods.result.now c.as_slice-methods.ensures.items c.loop-m.m (omega arith) c.loop-m.invariant
