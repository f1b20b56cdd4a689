use Rattle.std.proofs.Common.{ℕ, List, [], ◌++◌, ap, ◌∙◌}
use Rattle.name_binding.specs.Kinds.{Kinds}
use Rattle.name_binding.specs.declared.heads.Head.{Head}
use Rattle.name_binding.specs.declared.known.Known.{Known}
use Rattle.name_binding.specs.Spots.{noted}
use Rattle.hddl_bind.specs.Callables.{declared, second_callables}
use Rattle.hddl_bind.proofs.Steps.{noted_four}
use Rattle.hddl_bind.specs.DeclaredNames.{objects_declared, heads_declared, second_methods, second_objects, second_heads}
use Rattle.hddl_bind.proofs.domain_names.names_of.Goals as goal

abbrev known_of : List ℕ → List Head → Kinds → Known
known_of objects predicates types = record { objects = objects; predicates = predicates; types = types }

pub returns-clause-known : goal.returns-clause-known
returns-clause-known c =
    let d = c.args.d.now in
    let objects = c.in_ok-seconds_of.ensures.declared ∙ ap (λ before. before ++ objects_declared c.as_slice-2.result.now) c.new-objects.ensures.none
    ∙ ap objects_declared c.as_slice-2.ensures.words in
    let predicates = c.in_ok-predicates.ensures.declared ∙ ap heads_declared c.as_slice-3.ensures.items in
    ap (λ ns. known_of ns c.in_ok-predicates.predicates c.args.types) objects ∙ ap (λ hs. known_of (objects_declared d.constants) hs c.args.types) predicates

pub returns-clause-faults : goal.returns-clause-faults
returns-clause-faults c =
    let d = c.args.d.now in
    let methods = c.in_ok-note_seconds.ensures.faults ∙ ap (λ xs. noted c.args.faults.now.least (second_methods xs)) c.as_slice.ensures.items in
    let objects =
    c.in_ok-seconds_of.ensures.faults ∙ ap (λ before. noted c.note_seconds.new.faults.least (second_objects before c.as_slice-2.result.now)) c.new-objects.ensures.none
    ∙ ap (λ xs. noted c.note_seconds.new.faults.least (second_objects [] xs)) c.as_slice-2.ensures.words in
    let predicates = c.in_ok-predicates.ensures.faults ∙ ap (λ xs. noted c.seconds_of.new.faults.least (second_heads xs)) c.as_slice-3.ensures.items in
    let callables =
    c.seconds.ensures.faults ∙ ap (λ ds. noted c.predicates_declared.new.faults.least (second_callables ds))
    (c.in_ok-callables.ensures.declared ∙ ap (λ xs. declared xs c.as_slice-5.result.now) c.as_slice-4.ensures.items ∙ ap (declared d.tasks) c.as_slice-5.ensures.items) in
    noted_four _ _ _ _ _ (second_methods d.methods) (second_objects [] d.constants) (second_heads d.predicates) (second_callables (declared d.tasks d.actions)) methods objects predicates callables
