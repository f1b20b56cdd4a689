use Rattle.std.proofs.Common.{◌++◌, ◌∷◌, [], refl, ap, ◌∙◌}
use Rattle.hddl_bind.specs.Networks.{constraint_bound, constraint_faults}
use Rattle.hddl_bind.proofs.Steps.{noted_step, map_step}
use Rattle.hddl_bind.proofs.networks.constraints_of.Goals as goal

pub loop-constraint-preserved : goal.loop-constraint-preserved
loop-constraint-preserved c =
    let xs = c.args.written.now in
    let i = c.loop-constraint.constraint-index in
    let l = c.loop-constraint-test.true in
    let objects = c.args.objects.now in
    let scope = c.args.scope.now in
    let now = c.loop-constraint.constraints in
    record {
      bound = map_step xs i _ _ l refl (constraint_bound objects scope) now _ c.loop-constraint.invariant.bound (c.in_ok-push.ensures.pushed ∙ ap (λ x. now ++ x ∷ []) c.constraint_of.ensures.bound);
      faults = noted_step xs i _ _ l refl (constraint_faults objects scope) _ _ _ c.loop-constraint.invariant.faults c.constraint_of.ensures.faults;
    }
