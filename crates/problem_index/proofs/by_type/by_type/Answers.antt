use Rattle.std.proofs.Common.{◌≡◌, ◌++◌, ◌∷◌, ℕ, List, Some, [], false, length, get_or, slice_get, subst, ap, ◌∙◌, length-set, arith}
use Rattle.std.proofs.lemmas.Option.{slice_get-get_or}
use Rattle.std.proofs.lemmas.Grind.{common_steps}
use Rattle.plan_model.specs.declared.types.Object.{Object}
use Rattle.problem_index.specs.Kinds.{AreFirstByType}
use Rattle.problem_index.proofs.ListLaws.{by_type_more}
use Rattle.problem_index.proofs.by_type.by_type.Goals as goal

abbrev none : Object
none = record { name = record { number = 0 }; ty = 0; constant = false }

pub loop-place-preserved : goal.loop-place-preserved
loop-place-preserved c =
    let lists = c.loop-place.lists.items in
    let o = get_or c.as_slice-object-items.result.now c.loop-place.place none in
    let at : slice_get c.args.objects.now c.loop-place.place ≡ Some (get_or c.as_slice-object-items.result.now c.loop-place.place none) = subst (λ (xs : List Object). slice_get xs c.loop-place.place ≡ Some (get_or c.as_slice-object-items.result.now c.loop-place.place none)) c.as_slice-object-items.ensures.items (slice_get-get_or c.as_slice-object-items.result.now c.loop-place.place none c.loop-place-test.true) in
    let e = c.in-Some.ensures.item.3 in (
      length-set lists o.ty c.push-in-Some.new.self ∙ c.loop-place.invariant.0,
      by_type_more c.args.objects.now lists c.loop-place.place o c.push-in-Some.new.self at e.0 (c.in_ok-push-in-Some.ensures.pushed ∙ ap (λ (l : List ℕ). l ++ c.loop-place.place ∷ []) (e.1 [])) c.loop-place.invariant.1,
    )

pub returns-clause-lists : goal.returns-clause-lists
returns-clause-lists c =
    let all : c.loop-place.place ≡ length c.args.objects.now = (let a = c.loop-place-test.false in let b = c.loop-place.auto.place-end in let l = ap length c.as_slice-object-items.ensures.items in omega (arith, a, b, l)) in
    subst (λ n. AreFirstByType n c.args.objects.now c.loop-place.lists.items) all c.loop-place.invariant.1

pub loop-place-init : goal.loop-place-init
loop-place-init c = grind (arith, common_steps)
