use Rattle.std.proofs.Common.{ap, ◌∙◌}
use Rattle.name_binding.specs.Entered.{variables_of}
use Rattle.name_binding.specs.Spots.{noted}
use Rattle.hddl_bind.specs.Networks.{network_bound, network_faults}
use Rattle.hddl_bind.proofs.Steps.{noted_two}
use Rattle.hddl_bind.specs.Actions.{scope_of}
use Rattle.hddl_bind.specs.Methods.{front_bound, front_faults, joined}
use Rattle.hddl_bind.proofs.methods.method_of.Goals as goal

pub returns-clause-faults : goal.returns-clause-faults
returns-clause-faults c =
    let known = c.args.known.now in
    let callables = c.args.callables.now in
    let m = c.args.method.now in
    let net = c.in_ok-net.ensures.faults in
    let entered = c.in_ok-front.ensures.kept ∙ c.in_ok-enter_alone.ensures.entered ∙ ap variables_of c.as_slice.ensures.words in
    let behind = net.2 ∙ ap (λ s. noted c.front_of.new.faults.least (network_faults callables known.objects s m.net net.0)) entered in
    (net.0, net.1, noted_two _ _ _ (front_faults known callables m) (network_faults callables known.objects (scope_of m.head) m.net net.0) c.in_ok-front.ensures.faults behind)

pub returns-clause-bound : goal.returns-clause-bound
returns-clause-bound c =
    let known = c.args.known.now in
    let callables = c.args.callables.now in
    let m = c.args.method.now in
    let entered = c.in_ok-front.ensures.kept ∙ c.in_ok-enter_alone.ensures.entered ∙ ap variables_of c.as_slice.ensures.words in
    let net = c.in_ok-net.ensures.bound ∙ ap (λ s. network_bound callables known.objects s m.net) entered in
    c.joined.ensures.joined ∙ ap (λ f. joined m.head.name.name f c.in_ok-net.net) c.in_ok-front.ensures.bound ∙ ap (joined m.head.name.name (front_bound known callables m)) net
