use Rattle.std.proofs.Common.{◌≤◌, List, length, subst, arith}
use Rattle.std.proofs.lemmas.Bool.{OnTrue_at, OnTrue_from}
use Rattle.plan_model.specs.declared.terms.Term.{Term}
use Rattle.ground_state.specs.Frames.{frame}
use Rattle.ground_state.specs.Passes.{plain}
use Rattle.ground_state.proofs.EffectSizes as sizes
use Rattle.ground_state.proofs.NeedLaws.{each_next}
use Rattle.ground_state.proofs.PassLaws as laws
use Rattle.ground_state.proofs.plain.+is_plain.Goals as goal

pub are_plain-is_plain-requires : goal.are_plain-is_plain-requires
are_plain-is_plain-requires t c = ((let d = c.decreases in let l = sizes.falls-part c.args.parts.now c.loop-part.part-index c.part-item.result c.part-item.result c.loop-part-test.true c.part-item.is in omega (arith, d, l)), tt)

pub are_plain-loop-part-preserved : goal.are_plain-loop-part-preserved
are_plain-loop-part-preserved t c = each_next plain c.args.parts.now c.loop-part.part-index c.part-item.result (frame c.args.env.now).arity c.loop-part-test.true c.part-item.is c.loop-part.invariant c.if-not-is_plain.ensures

pub is_plain-are_plain-requires : goal.is_plain-are_plain-requires
is_plain-are_plain-requires t c = ((let d = c.decreases in let l = sizes.falls-And c.args.eff.now c.in-And.parts c.as_slice-in-And.result.now c.in-And.is c.as_slice-in-And.ensures.items in omega (arith, d, l)), tt)

pub is_plain-is_plain-requires : goal.is_plain-is_plain-requires
is_plain-is_plain-requires t c = ((let d = c.decreases in let l = sizes.falls-body c.args.eff.now c.in-Forall.field-0 c.in-Forall.body c.get.result.now c.in-Forall.is c.get.ensures.value in omega (arith, d, l)), tt)

pub is_plain-returns-in-Add : goal.is_plain-returns-in-Add
is_plain-returns-in-Add t c =
    OnTrue_from c.has_room.result _ (λ e. laws.is-plain-Add (frame c.args.env.now) c.args.eff.now c.in-Add.atom c.in-Add.is (subst (λ (xs : List Term). length xs ≤ (frame c.args.env.now).arity) c.as_slice.ensures.items (OnTrue_at e c.has_room.ensures)))

pub is_plain-returns-in-Delete : goal.is_plain-returns-in-Delete
is_plain-returns-in-Delete t c =
    OnTrue_from c.has_room-in-Delete.result _ (λ e. laws.is-plain-Delete (frame c.args.env.now) c.args.eff.now c.in-Delete.atom c.in-Delete.is (subst (λ (xs : List Term). length xs ≤ (frame c.args.env.now).arity) c.as_slice-in-Delete.ensures.items (OnTrue_at e c.has_room-in-Delete.ensures)))

pub is_plain-returns-in-And : goal.is_plain-returns-in-And
is_plain-returns-in-And t c = OnTrue_from c.are_plain.result _ (λ e. laws.is-plain-And (frame c.args.env.now) c.args.eff.now c.in-And.parts c.as_slice-in-And.result.now c.in-And.is c.as_slice-in-And.ensures.items (OnTrue_at e c.are_plain.ensures))

pub is_plain-returns-in-Forall : goal.is_plain-returns-in-Forall
is_plain-returns-in-Forall t c = OnTrue_from c.is_plain.result _ (λ e. laws.is-plain-Forall (frame c.args.env.now) c.args.eff.now c.in-Forall.field-0 c.in-Forall.body c.get.result.now c.in-Forall.is c.get.ensures.value (OnTrue_at e c.is_plain.ensures))
