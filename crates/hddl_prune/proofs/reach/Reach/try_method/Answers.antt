use Rattle.std.proofs.Common.{◌≡◌, true, false, Contains, Some, slice_get, refl, sym, subst}
use Rattle.plan_model.specs.declared.schemas.MethodSchema.{MethodSchema}
use Rattle.live_parts.specs.Live.{Parts}
use Rattle.live_parts.specs.Kept.{Kept}
use Rattle.hddl_prune.specs.Search.{parts_of, kept_of, MarksHeads, IsHeadOf, AreOpened, opened, IsOpeningSettled}
use Rattle.hddl_prune.proofs.Tries.{one_found}
use Rattle.hddl_prune.proofs.ReachSteps.{opened_sound, opened_more}
use Rattle.hddl_prune.proofs.reach.Reach.try_method.Goals as goal

pub returns : goal.returns
returns c =
    let h = c.args.h.now in
    let n = c.args.n in
    let live : Parts = parts_of c.args.live.now in
    let s : MethodSchema = c.in-Some.method.now in
    let old : Kept = kept_of c.args.self.now in
    let middle : Kept = record { tasks = c.args.self.now.tasks; actions = c.args.self.now.actions; methods = c.mark.new.self } in
    let new : Kept = kept_of c.mark_all.new.self in
    let e : slice_get h.methods n ≡ Some s = sym c.in-Some.ensures.item in
    let alive : Contains live.methods n = c.has-2.ensures.marked.0 c.if-not-has.false in
    let marked : Contains old.tasks s.task = c.has-3.ensures.marked.0 c.if-not-has-2.false in
    let m : MarksHeads (IsHeadOf s.children) middle new = subst (λ z. MarksHeads (IsHeadOf z) middle new) c.as_slice.ensures.items c.in_ok-mark_all.ensures in
    let out : Contains old.methods n → ⊥ = λ k. (let z = c.has.ensures.marked.1 k in let y = c.if-has.false in let x : true ≡ false = cc in absurd cc) in
    record {
      tried = one_found (AreOpened h live) (opened h live) (IsOpeningSettled h live n) old new
          (opened_sound h live old middle new n s e alive marked c.in_ok-mark.ensures.marked c.in_ok-mark.ensures.rising refl refl m)
          (opened_more h live old middle new n s e alive marked c.in_ok-mark.ensures.marked c.in_ok-mark.ensures.rising refl refl m out);
    }
