use Rattle.std.proofs.Common.{Some, ap, ◌∙◌, set}
use Rattle.htn_base.specs.declared.name.Name.{Name}
use Rattle.problem_index.proofs.PlaceLaws.{noted_more, noted_all}
use Rattle.problem_index.proofs.places.Places.of.Goals as goal

pub loop-place-preserved : goal.loop-place-preserved
loop-place-preserved g c =
    let old = c.loop-place.places.by_name.items in
    let i = c.loop-place.place in
    noted_more g.T.Named.named c.args.things.now c.args.count i c.index-things-place.result old c.put.new.self.by_name.items c.loop-place-test.true c.index-things-place.is
    (c.put.ensures ∙ ap (λ (n : Name). set old n.number (Some i)) c.name.ensures) c.loop-place.invariant

pub returns : goal.returns
returns g c = record { places = noted_all g.T.Named.named c.args.things.now c.args.count c.loop-place.place c.loop-place.places.by_name.items c.loop-place-test.false c.loop-place.invariant }
