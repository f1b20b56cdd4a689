use Rattle.std.proofs.Common.{◌≡◌, ◌<◌, ◌^◌, ℕ, List, Option, length, subst, sym, ap, ◌∙◌}
use Rattle.plan_model.specs.task_networks.Order.{IsAcyclic}
use Rattle.plan_model.specs.declared.networks.Pair.{Pair}
use Rattle.plan_model.specs.declared.schemas.MethodSchema.{MethodSchema}
use Rattle.plan_model.specs.plan_meaning.Compilation.{children, pairs}
use Rattle.plan_model.specs.Pairs.{Pairs}
use Rattle.plan_model.specs.net_order.Meaning.{AreBelow}
use Rattle.bound_calc.specs.method_precs.Ordered.{IsOrdered}
use Rattle.bound_calc.proofs.method_precs.Fits.{pairs_below, pairs_few, acyclic}
use Rattle.bound_calc.proofs.method_precs.plans.plan_of.Goals as goal

pub new-requires-clause-within : goal.new-requires-clause-within
new-requires-clause-within c =
    let s = c.args.method.now in
    let b = c.is_checked-checked.result in
    let count : c.len-count.result ≡ length (children c.is_checked-checked.result c.args.method.now) = c.len-count.ensures.length ∙ ap (λ (z : MethodSchema). length z.children) c.in_ok-schema.ensures in
    let is : c.as_slice.result.now ≡ pairs c.is_checked-checked.result c.args.method.now = c.as_slice.ensures.items ∙ ap (λ (z : MethodSchema). z.pairs) c.in_ok-schema.ensures in
    subst (λ (ps : List Pair). AreBelow c.len-count.result ps) (sym is) (subst (λ n. AreBelow n (pairs b s)) (sym count) (pairs_below s c.requires.fit b))

pub new-requires-clause-few : goal.new-requires-clause-few
new-requires-clause-few c =
    let s = c.args.method.now in
    let b = c.is_checked-checked.result in
    let is : c.as_slice.result.now ≡ pairs c.is_checked-checked.result c.args.method.now = c.as_slice.ensures.items ∙ ap (λ (z : MethodSchema). z.pairs) c.in_ok-schema.ensures in
    subst (λ (ps : List Pair). length ps < 2 ^ 32) (sym is) (pairs_few s c.requires.fit b)

pub new-requires-clause-acyclic : goal.new-requires-clause-acyclic
new-requires-clause-acyclic c =
    let s = c.args.method.now in
    let b = c.is_checked-checked.result in
    let is : c.as_slice.result.now ≡ pairs c.is_checked-checked.result c.args.method.now = c.as_slice.ensures.items ∙ ap (λ (z : MethodSchema). z.pairs) c.in_ok-schema.ensures in
    subst (λ (ps : List Pair). IsAcyclic (Pairs ps)) (sym is) (acyclic s c.requires.fit b)

pub returns-in-Ok : goal.returns-in-Ok
returns-in-Ok c =
    let schema : MethodSchema = c.in_ok-schema.schema in
    let whole = subst (λ (ps : List Pair). IsOrdered (length schema.children) ps c.in-Ok.ordered) c.as_slice.ensures.items
    (subst (λ n. IsOrdered n c.as_slice.result.now c.in-Ok.ordered) c.len-count.ensures.length c.in-Ok.ensures.ordered) in
    let parts = c.into_parts-line.ensures in
    let ordered = subst (λ (p : List ℕ × Option ℕ × List ℕ). IsOrdered (length schema.children) schema.pairs (record { line = p.0; heir = p.1; copiers = p.2 })) (sym parts) whole in
    record {
      checked = c.is_checked-checked.ensures;
      tested = c.is_tested.ensures;
      schema = c.in_ok-schema.ensures;
      line = ordered.line;
      heir = ordered.heir;
      copiers = ordered.copiers;
      copiers_in_order = ordered.copiers_in_order;
      guards = c.in_ok-guards.ensures;
    }
