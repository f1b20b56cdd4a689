use Rattle.std.proofs.Common.{◌-◌, ◌≡◌, [], ◌∷◌, length, subst, arith}
use Rattle.plan_trees.specs.Sources.{with_children}
use Rattle.plan_trees.proofs.SeedLists.{one_more_line}
use Rattle.plan_trees.proofs.seeds.put_lines.Goals as goal

pub loop-place-preserved : goal.loop-place-preserved
loop-place-preserved c =
    let i = c.loop-place.invariant in
    record {
      few = c.put.ensures.few;
      more = (let a = i.more in let b = c.put.ensures.more in omega arith);
      put = one_more_line c.args.seeds.now c.loop-place.seeds c.put.new.seeds c.args.start c.args.parent c.args.primitives c.args.places.now
          c.loop-place.place-index 0 c.requires.start c.requires.few c.loop-place-test.true i.put
          (subst (λ z. c.put.new.seeds ≡ with_children c.loop-place.seeds c.args.parent (length c.loop-place.seeds - c.args.start) (z ∷ []))
          c.source_at.ensures c.in_ok-put.ensures.put);
    }
