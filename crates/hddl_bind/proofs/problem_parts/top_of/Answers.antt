use Rattle.std.proofs.Common.{refl, ap, ◌∙◌}
use Rattle.name_binding.specs.Entered.{variables_of}
use Rattle.name_binding.specs.Spots.{noted}
use Rattle.name_binding.specs.Typed.{params_faults}
use Rattle.hddl_bind.specs.Networks.{network_bound, network_faults}
use Rattle.hddl_bind.proofs.Steps.{noted_two}
use Rattle.hddl_bind.specs.ProblemParts.{top_scope}
use Rattle.hddl_bind.proofs.problem_parts.top_of.Goals as goal

pub returns-clause-faults : goal.returns-clause-faults
returns-clause-faults c =
    let known = c.args.known.now in
    let callables = c.args.callables.now in
    let p = c.args.p.now in
    let net = c.in_ok-net.ensures.faults in
    let entered = c.in_ok-enter_alone.ensures.entered ∙ ap variables_of c.as_slice.ensures.words in
    let behind = net.2 ∙ ap (λ s. noted c.params_of.new.faults.least (network_faults callables known.objects s p.net net.0)) entered in
    (net.0, net.1, noted_two _ _ _ (params_faults known.types p.params) (network_faults callables known.objects (top_scope p) p.net net.0) c.in_ok-params.ensures.faults behind)

pub returns-clause-bound : goal.returns-clause-bound
returns-clause-bound c =
    let known = c.args.known.now in
    let callables = c.args.callables.now in
    let p = c.args.p.now in
    let entered = c.in_ok-enter_alone.ensures.entered ∙ ap variables_of c.as_slice.ensures.words in
    let net = c.in_ok-net.ensures.bound ∙ ap (λ s. network_bound callables known.objects s p.net) entered in
    let params = c.in_ok-params.ensures.bound in
    let args = c.new.ensures.empty in
    let parts = c.new-2.ensures.empty in
    c.joined.ensures.joined ∙ rw (params, args, parts, net) refl
