use Rattle.std.proofs.Common.{◌∙◌, ap, sym, slice_get}
use Rattle.std.specs.Option.{option_and_then}
use Rattle.name_binding.specs.Places.{first_place}
use Rattle.hddl_bind.specs.Callables.{first_called}
use Rattle.hddl_bind.proofs.Called.{get_first}
use Rattle.hddl_bind.proofs.callees.Callees.get.Goals as goal

pub returns-in-None : goal.returns-in-None
returns-in-None c =
    let n = c.args.name.number in
    let xs = c.self.inside.callables in
    let found = sym c.in-None.is ∙ c.get.ensures.place ∙ ap (first_place n) c.self.invariant in
    record { first = ap (option_and_then (slice_get xs)) found ∙ get_first n xs ∙ ap (first_called n) c.self.view_is }

pub returns-in-Some : goal.returns-in-Some
returns-in-Some c =
    let n = c.args.name.number in
    let xs = c.self.inside.callables in
    let found = sym c.in-Some.is ∙ c.get.ensures.place ∙ ap (first_place n) c.self.invariant in
    record { first = c.copied.ensures ∙ c.get-in-Some.ensures.item ∙ ap (option_and_then (slice_get xs)) found ∙ get_first n xs ∙ ap (first_called n) c.self.view_is }
