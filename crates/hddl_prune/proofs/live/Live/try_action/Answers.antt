use Rattle.std.proofs.Common.{◌≡◌, true, false, Contains, Some, slice_get, refl, sym}
use Rattle.plan_model.specs.declared.schemas.ActionSchema.{ActionSchema}
use Rattle.live_parts.specs.Live.{Parts, MayHold}
use Rattle.hddl_prune.specs.Search.{parts_of, AreFound, many, IsActionSettled}
use Rattle.hddl_prune.proofs.Tries.{one_found}
use Rattle.hddl_prune.proofs.LiveSteps.{action_sound, action_more}
use Rattle.hddl_prune.proofs.live.Live.try_action.Goals as goal

pub returns : goal.returns
returns c =
    let h = c.args.h.now in
    let n = c.args.n in
    let a : ActionSchema = c.in-Some.action.now in
    let old : Parts = parts_of c.args.self.now in
    let new : Parts = record { predicates = c.mark_added.new.live; actions = c.mark.new.self; methods = c.args.self.now.methods; tasks = c.args.self.now.tasks } in
    let e : slice_get h.actions n ≡ Some a = sym c.in-Some.ensures.item in
    let may : MayHold h old a.pre = c.may_be_so.ensures.0 c.if-not-may_be_so.false in
    let out : Contains old.actions n → ⊥ = λ k. (let z = c.has.ensures.marked.1 k in let y = c.if-has.false in let x : true ≡ false = cc in absurd cc) in
    record {
      tried = one_found (AreFound h) (many h) (IsActionSettled h n) old new
          (action_sound h old new n a e may c.in_ok-mark_added.ensures c.in_ok-mark.ensures.marked c.in_ok-mark.ensures.rising refl refl)
          (action_more h old new n a e may c.in_ok-mark_added.ensures c.in_ok-mark.ensures.marked c.in_ok-mark.ensures.rising refl refl out);
    }
