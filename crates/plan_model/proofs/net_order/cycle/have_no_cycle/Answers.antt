use Rattle.std.proofs.Common.{◌↔◌, IsTrue, subst}
use Rattle.std.proofs.lemmas.Result.{IfOk-weaker}
use Rattle.plan_model.specs.task_networks.Order.{IsAcyclic}
use Rattle.plan_model.specs.net_order.Marks.{Marked}
use Rattle.plan_model.specs.Pairs.{Pairs}
use Rattle.plan_model.proofs.net_order.Sorting.{acyclic_sets}
use Rattle.plan_model.proofs.net_order.cycle.have_no_cycle.Goals as goal

pub returns : goal.returns
returns c =
    let same = acyclic_sets c.args.count c.args.pairs.now c.in_ok-before.before.items c.in_ok-before.ensures.direct in
    record {
      told = IfOk-weaker c.is_acyclic.result (λ told. IsTrue told ↔ IsAcyclic (Marked c.as_slice.result.now)) (λ told. IsTrue told ↔ IsAcyclic (Pairs c.args.pairs.now))
          (λ told f. let h = subst (λ xs. IsTrue told ↔ IsAcyclic (Marked xs)) c.as_slice.ensures.value f in (λ t. same.0 (h.0 t), λ a. h.1 (same.1 a))) c.is_acyclic.ensures.acyclic;
    }
