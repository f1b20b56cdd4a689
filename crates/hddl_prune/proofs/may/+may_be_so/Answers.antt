use Rattle.std.proofs.Common.{◌≡◌, true, false, Contains, refl, sym, subst}
use Rattle.plan_model.specs.declared.formulas.Formula.{Formula}
use Rattle.live_parts.specs.Live.{TypeOf, EachSo, OneSo}
use Rattle.hddl_prune.specs.Search.{MayBeSoOver}
use Rattle.hddl_prune.proofs.Each.{each_next, each_end, each_at, so_each, each_so, one_at, one_some}
use Rattle.hddl_prune.proofs.MayCases as may
use Rattle.hddl_prune.proofs.may.+may_be_so.Goals as goal

pub may_be_so-returns-in-Holds : goal.may_be_so-returns-in-Holds
may_be_so-returns-in-Holds t c = may.may-Holds (TypeOf c.args.h.now) (Contains c.args.live.now) c.has.result c.args.f.now c.in-Holds.atom c.in-Holds.is c.has.ensures.marked

pub may_be_so-returns-in-Equal : goal.may_be_so-returns-in-Equal
may_be_so-returns-in-Equal t c = may.may-Equal (TypeOf c.args.h.now) (Contains c.args.live.now) c.args.f.now c.in-Equal.field-0 c.in-Equal.field-1 c.in-Equal.is

pub may_be_so-returns-in-Not : goal.may_be_so-returns-in-Not
may_be_so-returns-in-Not t c = may.may-Not (TypeOf c.args.h.now) (Contains c.args.live.now) c.args.f.now c.in-Not.field-0 c.in-Not.is

pub may_be_so-returns-in-Imply : goal.may_be_so-returns-in-Imply
may_be_so-returns-in-Imply t c = may.may-Imply (TypeOf c.args.h.now) (Contains c.args.live.now) c.args.f.now c.in-Imply.field-0 c.in-Imply.field-1 c.in-Imply.is

pub may_be_so-returns-in-And : goal.may_be_so-returns-in-And
may_be_so-returns-in-And t c = may.may-And (TypeOf c.args.h.now) (Contains c.args.live.now) c.all_may.result c.args.f.now c.in-And.parts c.in-And.is c.all_may.ensures

pub may_be_so-returns-in-Or : goal.may_be_so-returns-in-Or
may_be_so-returns-in-Or t c = may.may-Or (TypeOf c.args.h.now) (Contains c.args.live.now) c.one_may.result c.args.f.now c.in-Or.parts c.in-Or.is c.one_may.ensures

pub may_be_so-returns-then-may_be_so : goal.may_be_so-returns-then-may_be_so
may_be_so-returns-then-may_be_so t c = may.forall_by_body (TypeOf c.args.h.now) (Contains c.args.live.now) c.may_be_so.result c.args.f.now c.in-Forall.body c.get.result.now c.in-Forall.params c.in-Forall.is c.get.ensures.value c.may_be_so.ensures c.if-may_be_so.true

pub may_be_so-returns-else-may_be_so : goal.may_be_so-returns-else-may_be_so
may_be_so-returns-else-may_be_so t c = may.forall_by_types (TypeOf c.args.h.now) (Contains c.args.live.now) c.may_be_so.result c.has_empty_type.result c.args.f.now c.in-Forall.body c.get.result.now c.in-Forall.params c.as_slice.result.now c.in-Forall.is c.get.ensures.value c.as_slice.ensures.items c.may_be_so.ensures c.if-may_be_so.false c.has_empty_type.ensures

pub may_be_so-returns-in-Exists : goal.may_be_so-returns-in-Exists
may_be_so-returns-in-Exists t c = may.may-Exists (TypeOf c.args.h.now) (Contains c.args.live.now) c.may_be_so-in-Exists.result c.args.f.now c.in-Exists.body c.get-in-Exists.result.now c.in-Exists.field-0 c.in-Exists.is c.get-in-Exists.ensures.value c.may_be_so-in-Exists.ensures

pub all_may-loop-part-preserved : goal.all_may-loop-part-preserved
all_may-loop-part-preserved t c = each_next (MayBeSoOver c.args.h.now c.args.live.now) c.as_slice-parts.result.now c.loop-part.part-index c.part-item.result c.part-item.result c.loop-part-test.true c.part-item.is c.loop-part.invariant (c.may_be_so.ensures.0 c.if-not-may_be_so.false)

pub all_may-returns : goal.all_may-returns
all_may-returns t c =
    let M = MayBeSoOver c.args.h.now c.args.live.now in
    let parts = c.as_slice-parts.result.now in
    (λ x. subst (EachSo M) c.as_slice-parts.ensures.items (each_so M parts (each_end M parts c.loop-part.part-index c.loop-part-test.false c.loop-part.invariant)), λ x. refl)

pub all_may-returns-then-not-may_be_so : goal.all_may-returns-then-not-may_be_so
all_may-returns-then-not-may_be_so t c =
    let M = MayBeSoOver c.args.h.now c.args.live.now in
    let parts = c.as_slice-parts.result.now in (
      λ x. absurd (let z : false ≡ true = x in cc),
      λ s. absurd (let m = each_at M parts c.loop-part.part-index c.part-item.result c.part-item.result c.loop-part-test.true c.part-item.is (so_each M parts (subst (EachSo M) (sym c.as_slice-parts.ensures.items) s)) in
          let z = c.may_be_so.ensures.1 m in let y = c.if-not-may_be_so.true in let x : true ≡ false = cc in cc),
    )

pub one_may-loop-part-preserved : goal.one_may-loop-part-preserved
one_may-loop-part-preserved t c = each_next (λ (f : Formula). MayBeSoOver c.args.h.now c.args.live.now f → ⊥) c.as_slice-parts.result.now c.loop-part.part-index c.part-item.result c.part-item.result c.loop-part-test.true c.part-item.is c.loop-part.invariant
    (λ m. (let z = c.may_be_so.ensures.1 m in let y = c.if-may_be_so.false in let x : true ≡ false = cc in absurd cc))

pub one_may-returns : goal.one_may-returns
one_may-returns t c =
    let M = MayBeSoOver c.args.h.now c.args.live.now in
    let parts = c.as_slice-parts.result.now in (
      λ x. absurd (let z : false ≡ true = x in cc),
      λ o. absurd (let k = one_some M parts (subst (OneSo M) (sym c.as_slice-parts.ensures.items) o) in
          each_end (λ (f : Formula). M f → ⊥) parts c.loop-part.part-index c.loop-part-test.false c.loop-part.invariant k.0 k.1 k.2),
    )

pub one_may-returns-then-may_be_so : goal.one_may-returns-then-may_be_so
one_may-returns-then-may_be_so t c =
    let M = MayBeSoOver c.args.h.now c.args.live.now in
    let parts = c.as_slice-parts.result.now in
    (λ x. subst (OneSo M) c.as_slice-parts.ensures.items (one_at M parts c.loop-part.part-index c.part-item.result c.part-item.result c.loop-part-test.true c.part-item.is (c.may_be_so.ensures.0 c.if-may_be_so.true)), λ x. refl)
