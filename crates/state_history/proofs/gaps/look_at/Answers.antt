use Rattle.std.proofs.Common.{rules, ap, nat_le, ◌∙◌, arith}
use Rattle.std.proofs.lemmas.Bool.{leb-true}
use Rattle.std.proofs.lemmas.List.Sorted.{IsPartitionedBy-leb, IsPartitionPoint-from_clause}
use Rattle.state_history.proofs.GapLaws.{is_odd, until-since}
use Rattle.state_history.proofs.gaps.look_at.Goals as goal

pub returns-then-count-eq0-clause-same : goal.returns-then-count-eq0-clause-same
returns-then-count-eq0-clause-same c j since before =
    let xs = c.args.flips.now in
    let none = c.if-count-eq0.true in
    let part = IsPartitionPoint-from_clause (λ x. nat_le x c.args.gap) _ _ c.partition_point-count.ensures.partitioned (IsPartitionedBy-leb (λ x. x) xs c.args.gap c.requires) (λ a r q k. search rules) in
    ap is_odd (until-since xs c.partition_point-count.result c.args.gap j c.requires part c.partition_point-count.ensures.bound (λ m. absurd (omega (arith, none, m))) before ∙ none)

pub returns-clause-since : goal.returns-clause-since
returns-clause-since c =
    let xs = c.args.flips.now in
    let n = c.partition_point-count.result in
    let some = c.if-count-eq0.false in
    let part = IsPartitionPoint-from_clause (λ x. nat_le x c.args.gap) _ _ c.partition_point-count.ensures.partitioned (IsPartitionedBy-leb (λ x. x) xs c.args.gap c.requires) (λ a r q k. search rules) in
    leb-true _ c.args.gap (part.0 _ 0 (omega arith) (omega (arith, some)))

pub returns-clause-same : goal.returns-clause-same
returns-clause-same c j since before =
    let xs = c.args.flips.now in
    let part = IsPartitionPoint-from_clause (λ x. nat_le x c.args.gap) _ _ c.partition_point-count.ensures.partitioned (IsPartitionedBy-leb (λ x. x) xs c.args.gap c.requires) (λ a r q k. search rules) in
    ap is_odd (until-since xs c.partition_point-count.result c.args.gap j c.requires part c.partition_point-count.ensures.bound (λ m. since) before)
