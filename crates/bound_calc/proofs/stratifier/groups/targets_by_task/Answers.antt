use Rattle.std.proofs.Common.{◌∷◌, ◌++◌, [], get_or, set, ap, ◌∙◌, arith}
use Rattle.std.proofs.lemmas.List.{get_or_read, get_or_default}
use Rattle.bound_calc.specs.declared.stratifier.named.Ends.{Ends}
use Rattle.bound_calc.proofs.stratifier.TaskGroups.{targets_more, targets_all}
use Rattle.bound_calc.proofs.stratifier.groups.targets_by_task.Goals as goal

abbrev none : Ends
none = record { from = 0; to = 0 }

pub loop-e-preserved : goal.loop-e-preserved
loop-e-preserved c =
    let ends = c.args.ends.now in
    let k = c.loop-e.e-index in
    let n = get_or ends k none in
    let l = c.loop-e-test.true in
    let lists = c.loop-e.lists.items in
    let within = (c.requires.within k none l).0 in
    let row = get_or_read lists n.from c.index_mut.result.now (let r = c.loop-e.invariant.room in omega arith) c.index_mut.ensures.value [] in
    targets_more c.args.count ends k lists _ n l (get_or_default ends k none n l) within c.loop-e.invariant
    (ap (set lists n.from) (c.in_ok-push.ensures.pushed ∙ ap (λ xs. xs ++ n.to ∷ []) row))

pub returns-clause-targets : goal.returns-clause-targets
returns-clause-targets c = targets_all c.args.count c.args.ends.now c.loop-e.e-index c.loop-e.lists.items (omega (arith, c.loop-e-test.false)) c.loop-e.invariant
