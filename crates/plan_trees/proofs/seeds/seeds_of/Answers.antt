use Rattle.std.proofs.Common.{[], ◌∷◌, ◌++◌, ◌∙◌, ◌≡◌, refl, ap, sym, subst, length, arith}
use Rattle.std.specs.Option.{option_copied}
use Rattle.plan_trees.specs.Seeds.{AreJoinedSeeds}
use Rattle.plan_trees.proofs.Joined.{one_seed, more_joined, joined_within}
use Rattle.plan_trees.proofs.Seeding.{root_seed, AreSoFar, none_past, begun, further, ended}
use Rattle.plan_trees.proofs.seeds.seeds_of.Goals as goal

pub loop-place-init : goal.loop-place-init
loop-place-init c =
    let e : c.push.new.self ≡ root_seed ∷ [] = c.in_ok-push.ensures.pushed ∙ ap (λ z. z ++ root_seed ∷ []) c.new-seeds.ensures.empty in
    record {
      few = (let l : length c.push.new.self ≡ 1 = ap length e in omega arith);
      joined = subst (λ z. AreJoinedSeeds z 0) (sym e) (one_seed root_seed refl);
      so_far = subst (λ z. AreSoFar c.args.c.now c.args.lines.now c.args.fits.now z 0) (sym e)
          (begun c.args.c.now c.args.lines.now c.args.fits.now);
    }

pub returns-in_default-clause-seeds : goal.returns-in_default-clause-seeds
returns-in_default-clause-seeds c =
    ended c.args.c.now c.args.lines.now c.args.fits.now c.loop-place.seeds c.loop-place.place c.loop-place.invariant.so_far
    (none_past c.loop-place.seeds c.loop-place.place (sym c.get.ensures.item ∙ ap option_copied c.in_default.is))

pub loop-place-preserved : goal.loop-place-preserved
loop-place-preserved c = record {
  few = c.put_below.ensures.few;
  joined = more_joined c.args.c.now c.args.lines.now c.args.fits.now c.loop-place.seeds c.put_below.new.seeds c.loop-place.place
      c.in-Some.seed.now c.loop-place.invariant.joined (sym c.get.ensures.item
      ∙ ap option_copied c.in-Some.is) c.in_ok-put_below.ensures.put;
  so_far = further c.args.c.now c.args.lines.now c.args.fits.now c.requires.soundly c.requires.lines c.loop-place.seeds c.put_below.new.seeds
      c.loop-place.place c.in-Some.seed.now c.loop-place.invariant.so_far (sym c.get.ensures.item ∙ ap option_copied c.in-Some.is)
      c.in_ok-put_below.ensures.put;
}

pub returns-clause-seeds : goal.returns-clause-seeds
returns-clause-seeds c =
    ended c.args.c.now c.args.lines.now c.args.fits.now c.loop-place.seeds c.loop-place.place c.loop-place.invariant.so_far
    (let a = c.loop-place.invariant.few in let b = c.loop-place-test.false in omega arith)

pub returns-in_default-clause-joined : goal.returns-in_default-clause-joined
returns-in_default-clause-joined c = joined_within c.loop-place.seeds c.loop-place.place c.loop-place.invariant.joined

pub returns-clause-joined : goal.returns-clause-joined
returns-clause-joined c = joined_within c.loop-place.seeds c.loop-place.place c.loop-place.invariant.joined
