use Rattle.std.proofs.Common.{◌≡◌, ◌+◌, ◌<◌, ◌∙◌, ap, sym, subst, map, take, ◌++◌, [], ◌∷◌, length, get_or, set, arith, rules}
use Rattle.std.proofs.lemmas.Grind.{common_steps}
use Rattle.std.specs.List.{fold}
use Rattle.name_binding.proofs.Found.{first_within}
use Rattle.name_binding.specs.Parents.{AreParentsOf, place_of}
use Rattle.name_binding.specs.Seen.{with_number}
use Rattle.name_binding.proofs.ParentsLemmas.{AreParentsOf-none, AreParentsOf-put}
use Rattle.name_binding.proofs.StepLemmas.{take-read}
use Rattle.name_binding.proofs.parents.parents_by_child.Goals as goal
use Rattle.name_binding.proofs.parents.parents_by_child.Goals.{in-Some+in_ok-put_parents, in_default}

pub loop-preserved : goal.loop-preserved
loop-preserved c = grind (arith, common_steps)

pub index_mut-requires : goal.index_mut-requires
index_mut-requires c =
    let l = first_within c.item-item.result.name.number c.args.types.now c.in-Some.child (sym c.in-Some.ensures.place) in
    omega (arith, c.loop-item.invariant.count)

pub loop-item-preserved : goal.loop-item-preserved
loop-item-preserved c =
    let types = c.args.types.now in
    let xs = c.args.listed.now in
    let i = c.loop-item.item-index in
    let x = c.item-item.result in
    let below : i < length xs = search rules in
    let read : x ≡ get_or xs i x = search rules in
    let more : take i xs ++ x ∷ [] ≡ take (i + 1) xs = sym (take-read xs i x x below read) in
    elim c.match-get.branch [
      | in-Some+in_ok-put_parents w ↦
          let put = w.in_ok-put_parents.ensures.put in
          let types_are = w.as_slice.ensures.types in
          subst (λ v. AreParentsOf types (take (i + 1) xs) v.items) (sym w.parents-is)
          (subst (λ ys. AreParentsOf types ys (set c.loop-item.parents.items w.in-Some.child w.put_parents.new.into)) more
          (AreParentsOf-put types (take i xs) x c.loop-item.parents.items w.in-Some.child w.index_mut.result.now w.put_parents.new.into
          (sym w.in-Some.ensures.place) w.index_mut.ensures.value (put ∙ ap (λ ts. fold with_number w.index_mut.result.now (map (place_of types) ts)) types_are) c.loop-item.invariant))
      | in_default w ↦
          subst (λ v. AreParentsOf types (take (i + 1) xs) v.items) (sym w.parents-is)
          (subst (λ ys. AreParentsOf types ys c.loop-item.parents.items) more
          (AreParentsOf-none types (take i xs) x c.loop-item.parents.items (sym w.in_default.ensures.place) c.loop-item.invariant))
    ]

pub returns : goal.returns
returns c = grind (arith, common_steps)
