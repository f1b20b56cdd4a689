use Rattle.std.proofs.Common.{ap, ◌∙◌}
use Rattle.std.specs.List.{flat_map}
use Rattle.name_binding.specs.Spots.{noted}
use Rattle.hddl_bind.specs.Callables.{Declared, second_in}
use Rattle.hddl_bind.proofs.Steps.{noted_two}
use Rattle.hddl_bind.proofs.callables.Callables.seconds.Goals as goal

pub returns : goal.returns
returns c =
    let d = c.args.self.now in
    let tasks = c.as_slice.ensures.same ∙ ap (λ (d : Declared). d.tasks) c.self.view_is in
    let actions = c.as_slice-2.ensures.same ∙ ap (λ (d : Declared). d.actions) c.self.view_is in
    let one = c.seconds_among.ensures.faults ∙ ap (λ xs. noted c.args.faults.now.least (flat_map (second_in d) xs)) tasks in
    let two = c.seconds_among-2.ensures.faults ∙ ap (λ xs. noted c.seconds_among.new.faults.least (flat_map (second_in d) xs)) actions in
    record { faults = noted_two _ _ _ (flat_map (second_in d) d.tasks) (flat_map (second_in d) d.actions) one two }
