use Rattle.std.proofs.Common.{◌≡◌, true, false, Contains, Some, slice_get, refl, sym}
use Rattle.plan_model.specs.declared.schemas.MethodSchema.{MethodSchema}
use Rattle.live_parts.specs.Live.{Parts, IsLiveMethod}
use Rattle.hddl_prune.specs.Search.{parts_of, AreFound, many, IsMethodSettled}
use Rattle.hddl_prune.proofs.Tries.{one_found}
use Rattle.hddl_prune.proofs.LiveSteps.{method_sound, method_more}
use Rattle.hddl_prune.proofs.live.Live.try_method.Goals as goal

pub returns : goal.returns
returns c =
    let h = c.args.h.now in
    let n = c.args.n in
    let s : MethodSchema = c.in-Some.method.now in
    let old : Parts = parts_of c.args.self.now in
    let new : Parts = record { predicates = c.args.self.now.predicates; actions = c.args.self.now.actions; methods = c.mark.new.self; tasks = c.mark-2.new.self } in
    let e : slice_get h.methods n ≡ Some s = sym c.in-Some.ensures.item in
    let is : IsLiveMethod h old s = c.may_be_used.ensures.0 c.if-not-may_be_used.false in
    let out : Contains old.methods n → ⊥ = λ k. (let z = c.has.ensures.marked.1 k in let y = c.if-has.false in let x : true ≡ false = cc in absurd cc) in
    record {
      tried = one_found (AreFound h) (many h) (IsMethodSettled h n) old new
          (method_sound h old new n s e is c.in_ok-mark.ensures.marked c.in_ok-mark-2.ensures.marked c.in_ok-mark.ensures.rising refl refl)
          (method_more h old new n s e is c.in_ok-mark.ensures.marked c.in_ok-mark-2.ensures.marked c.in_ok-mark.ensures.rising refl refl out);
    }
