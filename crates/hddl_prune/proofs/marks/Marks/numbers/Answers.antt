use Rattle.std.proofs.Common.{◌≡◌, sym, subst}
use Rattle.std.specs.List.Sorted.{IsStrictlyIncreasing}
use Rattle.std.proofs.lemmas.Result.{IfOk-weaker}
use Rattle.hddl_prune.specs.Places.{places_from}
use Rattle.hddl_prune.proofs.PlaceLemmas.{places_rise}
use Rattle.hddl_prune.proofs.marks.Marks.numbers.Goals as goal

pub returns-clause-rising : goal.returns-clause-rising
returns-clause-rising c =
    let flags = c.deref.result.now in
    IfOk-weaker c.places.result (λ ns. ns ≡ places_from 0 flags) IsStrictlyIncreasing (λ ns e. subst IsStrictlyIncreasing (sym e) (places_rise 0 flags)) c.places.ensures.places
