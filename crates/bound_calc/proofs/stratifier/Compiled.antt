-- The compiled methods of a problem whose networks have no cycle.
use Rattle.std.proofs.Common.{◌∷◌, length, get_or, sym, subst}
use Rattle.std.proofs.lemmas.Option.{slice_get-get_or}
use Rattle.plan_model.specs.task_networks.Order.{ArePairsOf, IsAcyclic}
use Rattle.plan_model.specs.declared.options.Checks.{Checks}
use Rattle.plan_model.specs.declared.schemas.MethodSchema.{MethodSchema}
use Rattle.plan_model.specs.declared.values.Hddl.{Hddl}
use Rattle.plan_model.specs.declared.values.Compiled.{Compiled}
use Rattle.plan_model.specs.Pairs.{Pairs}
use Rattle.plan_model.specs.plan_meaning.Compilation.{IsCompiled}
use Rattle.plan_model.specs.plan_meaning.Laws.{AreOrdered}
use Rattle.plan_model.proofs.plan_meaning.Pairs.{pairs_within, pairs_acyclic}
use Rattle.plan_model.proofs.plan_meaning.CompiledNetworks.{plan_of}
use Rattle.plan_model.proofs.net_order.Chains.{below_from_pairs}
use Rattle.bound_calc.specs.stratifier.Conditions.{HaveNoCycle}

pub have_no_cycle : (h : Hddl) (mode : Checks) (c : Compiled) → AreOrdered h → IsCompiled h mode c → HaveNoCycle c
have_no_cycle h mode c ordered compiled k d l =
    let p = get_or c.methods k d in
    let (s, i, is) = plan_of h mode (h.top ∷ h.methods) c.methods k p compiled.methods (slice_get-get_or c.methods k d l) in
    let w = ordered s i in
    record {
      pairs = below_from_pairs (length p.schema.children) p.schema.pairs (subst (λ (z : MethodSchema). ArePairsOf (Pairs z.pairs) (length z.children)) (sym is.schema) (pairs_within p.checked s w.0));
      acyclic = subst (λ (z : MethodSchema). IsAcyclic (Pairs z.pairs)) (sym is.schema) (pairs_acyclic p.checked s w.1);
    }
