use Rattle.std.proofs.Common.{◌∷◌, ◌++◌, [], set, sym, ap, ◌∙◌, arith}
use Rattle.std.proofs.lemmas.List.{get_or_read}
use Rattle.std.proofs.lemmas.Option.{slice_get-get_or, get_or_from_slice_get}
use Rattle.std.proofs.Common.{get_or}
use Rattle.bound_calc.specs.declared.stratifier.named.Ends.{Ends}
use Rattle.bound_calc.proofs.stratifier.NamedSources.{sources_none, sources_more, sources_all}
use Rattle.bound_calc.proofs.stratifier.named.sources_by_task.Goals as goal

abbrev none : Ends
none = record { from = 0; to = 0 }

pub loop-e-init : goal.loop-e-init
loop-e-init c = sources_none c.args.count c.args.ends.now c.in_ok-lists.lists.items c.in_ok-lists.ensures.room c.in_ok-lists.ensures.empty

pub index_mut-requires : goal.index_mut-requires
index_mut-requires c =
    let r = c.loop-e.invariant.room in
    let v = c.loop-e.lists.ok.0 in
    let w = (c.requires.within c.loop-e.e-index none c.loop-e-test.true).1 in
    omega arith

pub loop-e-preserved : goal.loop-e-preserved
loop-e-preserved c =
    let ends = c.args.ends.now in
    let k = c.loop-e.e-index in
    let n = get_or ends k none in
    let l = c.loop-e-test.true in
    let lists = c.loop-e.lists.items in
    let within = (c.requires.within k none l).1 in
    let row = get_or_read lists n.to c.index_mut.result.now (let r = c.loop-e.invariant.room in omega arith) c.index_mut.ensures.value [] in
    sources_more ends k n (sym (get_or_from_slice_get ends k n n (slice_get-get_or ends k none l))) l c.args.count lists _ within c.loop-e.invariant
    (ap (set lists n.to) (c.in_ok-push.ensures.pushed ∙ ap (λ xs. xs ++ n.from ∷ []) row))

pub returns-clause-sources : goal.returns-clause-sources
returns-clause-sources c = sources_all c.args.count c.args.ends.now c.loop-e.e-index c.loop-e.lists.items (omega (arith, c.loop-e-test.false)) c.loop-e.invariant

pub returns-clause-room : goal.returns-clause-room
returns-clause-room c = c.loop-e.invariant.room
