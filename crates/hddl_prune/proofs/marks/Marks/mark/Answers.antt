use Rattle.std.proofs.Common.{◌≡◌, true, set, subst}
use Rattle.hddl_prune.specs.Places.{places_from, HasAlso}
use Rattle.hddl_prune.proofs.PlaceLemmas.{marked_too, places_rise}
use Rattle.hddl_prune.proofs.marks.Marks.mark.Goals as goal

pub returns-clause-marked : goal.returns-clause-marked
returns-clause-marked c = subst (λ z. HasAlso z (λ k. k ≡ c.args.number) (places_from 0 (set c.widen.new.flags.items c.args.number true))) c.self.view_is
    (marked_too c.self.inside.flags.items c.widen.new.flags.items c.args.number c.in_ok-widen.ensures.same c.in_ok-widen.ensures.room)

pub returns-clause-rising : goal.returns-clause-rising
returns-clause-rising c = places_rise 0 (set c.widen.new.flags.items c.args.number true)
