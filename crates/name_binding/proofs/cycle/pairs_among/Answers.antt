use Rattle.std.proofs.Common.{◌≡◌, ◌<◌, ◌++◌, [], map, length, get_or, ap, sym, ◌∙◌, append-nil, rules, arith}
use Rattle.std.specs.List.{flat_map}
use Rattle.std.proofs.lemmas.Grind.{common_steps}
use Rattle.name_binding.specs.declared.cycle.ParentPairs.{ParentPairs}
use Rattle.name_binding.specs.PairsAmong.{pair_among, pairs_of_child, pairs_behind, places_behind}
use Rattle.name_binding.proofs.StepLemmas.{flat-behind}
use Rattle.name_binding.proofs.cycle.pairs_among.Goals as goal
use Rattle.name_binding.proofs.cycle.pairs_among.Goals.{in-Some+in_ok-put_parents, in_default}

pub loop-item-preserved : goal.loop-item-preserved
loop-item-preserved c =
    let types = c.args.types.now in
    let count = c.args.count in
    let xs = c.args.listed.now in
    let i = c.loop-item.item-index in
    let x = c.item-item.result in
    let now = c.loop-item.written in
    let below : i < length xs = search rules in
    let read : x ≡ get_or xs i x = search rules in
    let kept = c.loop-item.invariant in
    elim c.match-place_among.branch [
      | in-Some+in_ok-put_parents w ↦
          let put = w.in_ok-put_parents.ensures in
          let parents = w.as_slice.ensures.types in
          let place = w.in-Some.ensures.place in
          record {
            pairs = flat-behind xs i x x below read (pairs_behind types count) [] now.pairs _ kept.pairs
                (ap (λ (w : ParentPairs). w.pairs) w.written-is ∙ put.pairs
                ∙ ap (λ ts. now.pairs ++ flat_map (pair_among types count w.in-Some.child) ts) parents
                ∙ ap (λ p. now.pairs ++ pairs_of_child types count p x.ty) place);
            offsets = flat-behind xs i x x below read (places_behind types count) [] now.offsets _ kept.offsets
                (ap (λ (w : ParentPairs). w.offsets) w.written-is ∙ put.offsets
                ∙ ap (λ ts. now.offsets ++ map (λ _. x.at) (flat_map (pair_among types count w.in-Some.child) ts)) parents
                ∙ ap (λ p. now.offsets ++ map (λ _. x.at) (pairs_of_child types count p x.ty)) place);
          }
      | in_default w ↦
          let place = w.in_default.ensures.place in
          record {
            pairs = flat-behind xs i x x below read (pairs_behind types count) [] now.pairs _ kept.pairs
                (ap (λ (w : ParentPairs). w.pairs) w.written-is ∙ sym (append-nil now.pairs)
                ∙ ap (λ p. now.pairs ++ pairs_of_child types count p x.ty) place);
            offsets = flat-behind xs i x x below read (places_behind types count) [] now.offsets _ kept.offsets
                (ap (λ (w : ParentPairs). w.offsets) w.written-is ∙ sym (append-nil now.offsets)
                ∙ ap (λ p. now.offsets ++ map (λ _. x.at) (pairs_of_child types count p x.ty)) place);
          }
    ]

pub returns-clause-pairs : goal.returns-clause-pairs
returns-clause-pairs c = grind (arith, common_steps)

pub returns-clause-offsets : goal.returns-clause-offsets
returns-clause-offsets c = grind (arith, common_steps)
