use Rattle.std.proofs.Common.{◌≡◌, ◌<◌, ◌↔◌, true, false, length, IsTrue, Contains, sym, subst, ◌∙◌, arith}
use Rattle.std.specs.List.Sorted.{IsStrictlyIncreasing}
use Rattle.std.proofs.lemmas.List.{get_or_read}
use Rattle.plan_model.proofs.Marks.{marked_within}
use Rattle.hddl_prune.proofs.PlaceLemmas.{place_is, is_place, places_rise}
use Rattle.hddl_prune.proofs.marks.Marks.has.Goals as goal

pub returns-then-place-len-clause-marked : goal.returns-then-place-len-clause-marked
returns-then-place-len-clause-marked c =
    let flags = c.self.inside.flags.items in
    let v = c.self.inside.flags.ok.0 in
    let l : c.args.number < length flags = omega arith in
    let e = get_or_read flags c.args.number c.index.result.now l c.index.ensures false in
    subst (λ z. IsTrue c.index.result.now ↔ Contains z c.args.number) c.self.view_is (λ t. is_place flags c.args.number (sym e ∙ t), λ k. e ∙ place_is flags c.args.number k)

pub returns-then-place-len-clause-rising : goal.returns-then-place-len-clause-rising
returns-then-place-len-clause-rising c = subst IsStrictlyIncreasing c.self.view_is (places_rise 0 c.self.inside.flags.items)

pub returns-clause-marked : goal.returns-clause-marked
returns-clause-marked c =
    let flags = c.self.inside.flags.items in
    let v = c.self.inside.flags.ok.0 in
    subst (λ z. IsTrue false ↔ Contains z c.args.number) c.self.view_is (
      λ t. absurd (let z : false ≡ true = t in cc),
      λ k. absurd (let w = marked_within flags c.args.number (place_is flags c.args.number k) in omega arith),
    )

pub returns-clause-rising : goal.returns-clause-rising
returns-clause-rising c = subst IsStrictlyIncreasing c.self.view_is (places_rise 0 c.self.inside.flags.items)
