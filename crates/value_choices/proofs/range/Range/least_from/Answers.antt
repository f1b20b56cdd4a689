use Rattle.std.proofs.Common.{Some, None, ltb, rules, refl, ap, sym, subst, ◌∙◌}
use Rattle.std.proofs.lemmas.Option.{slice_get_read, slice_get_past}
use Rattle.std.proofs.lemmas.List.Sorted.{IsPartitionPoint-from_clause, IsPartitionedBy-ltb}
use Rattle.std.specs.List.Sorted.{IsStrictlyIncreasing}
use Rattle.value_choices.specs.Ranges.{options, IsLeastFrom, IsTheLeastFrom}
use Rattle.value_choices.proofs.Increasing.{least_listed, non_decreasing}
use Rattle.value_choices.proofs.range.Range.least_from.Goals as goal

pub returns-in-Some : goal.returns-in-Some
returns-in-Some c =
    let up : IsStrictlyIncreasing c.in-Listed.list = subst (λ z. IsStrictlyIncreasing (options z)) c.in-Listed.is c.requires.increasing in
    let listed : IsStrictlyIncreasing c.as_slice-objects.result.now = subst IsStrictlyIncreasing
    (sym c.as_slice-objects.ensures.items) up in
    let parted = IsPartitionedBy-ltb (λ y. y) c.as_slice-objects.result.now c.args.low
    (non_decreasing c.as_slice-objects.result.now listed) in
    let point = IsPartitionPoint-from_clause (λ y. ltb y c.args.low) _ _ c.partition_point-place.ensures.partitioned parted
    (λ a r q k. search rules) in
    let at = slice_get_read c.as_slice-objects.result.now _ c.partition_point-place.result c.in-Some.object.now refl
    c.in-Some.ensures.lookup.3.0 c.in-Some.ensures.lookup.1 in
    let least = least_listed c.as_slice-objects.result.now c.args.low c.partition_point-place.result point listed
    (Some c.in-Some.object.now) at in
    let same = c.as_slice-objects.ensures.items ∙ sym (ap options c.in-Listed.is) in
    record { least = subst (λ xs. IsLeastFrom xs c.args.low c.in-Some.object.now) same least }

pub returns-in-None : goal.returns-in-None
returns-in-None c =
    let up : IsStrictlyIncreasing c.in-Listed.list = subst (λ z. IsStrictlyIncreasing (options z)) c.in-Listed.is c.requires.increasing in
    let listed : IsStrictlyIncreasing c.as_slice-objects.result.now = subst IsStrictlyIncreasing
    (sym c.as_slice-objects.ensures.items) up in
    let parted = IsPartitionedBy-ltb (λ y. y) c.as_slice-objects.result.now c.args.low
    (non_decreasing c.as_slice-objects.result.now listed) in
    let point = IsPartitionPoint-from_clause (λ y. ltb y c.args.low) _ _ c.partition_point-place.ensures.partitioned parted
    (λ a r q k. search rules) in
    let past = slice_get_past c.as_slice-objects.result.now c.partition_point-place.result c.in-None.ensures.lookup.3 in
    let none = least_listed c.as_slice-objects.result.now c.args.low c.partition_point-place.result point listed None past in
    let same = c.as_slice-objects.ensures.items ∙ sym (ap options c.in-Listed.is) in
    record { least = subst (λ xs. IsTheLeastFrom xs c.args.low None) same none }
