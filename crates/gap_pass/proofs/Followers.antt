-- What comes right after a child are the children to which pairs lead from it.
use Rattle.std.proofs.Common.{ℕ, ◌↔◌, ◌==◌, eq-eqb, eqb-true, List, filter, refl, subst, Contains}
use Rattle.plan_model.specs.declared.networks.Pair.{Pair}
use Rattle.plan_model.specs.Pairs.{pair, Pairs}
use Rattle.plan_model.proofs.task_networks.Filters.{filter_to, to_filter}
use Rattle.slot_machine.proofs.OtherChildren.{map_cases, Contains-map}
use Rattle.kept_front.specs.Later.{followers}

pub follows : (pairs : List Pair) (i j : ℕ) → Contains (followers pairs i) j ↔ Pairs pairs i j
follows pairs i j = (to, from)
  where
    to : Contains (followers pairs i) j → Pairs pairs i j
    to c =
        let (p, k, e) = map_cases (λ (p : Pair). p.then) (filter (λ (p : Pair). p.first == i) pairs) j c in
        let (l, t) = filter_to (λ (p : Pair). p.first == i) pairs p k in
        let f = eqb-true p.first i t in
        subst (Contains pairs) (λ z. record { first = f z; then = e z }) l

    from : Pairs pairs i j → Contains (followers pairs i) j
    from c = Contains-map (λ (p : Pair). p.then) (filter (λ (p : Pair). p.first == i) pairs) (pair i j)
        (to_filter (λ (p : Pair). p.first == i) pairs (pair i j) c (eq-eqb i i refl))
