use Rattle.std.proofs.Common.{◌++◌, map, refl, ap, sym, ◌∙◌, append-nil}
use Rattle.name_binding.specs.declared.cycle.ParentPairs.{ParentPairs}
use Rattle.name_binding.specs.PairsAmong.{if_parent, pair_among}
use Rattle.name_binding.proofs.StepLemmas.{flat-behind, flat-made}
use Rattle.name_binding.proofs.cycle.ParentPairs.put_parents.Goals as goal
use Rattle.name_binding.proofs.cycle.ParentPairs.put_parents.Goals.{in-Some+in_ok-push+in_ok-push-2, in_default}

pub loop-parent-preserved : goal.loop-parent-preserved
loop-parent-preserved c =
    let xs = c.args.parents.now in
    let i = c.loop-parent.parent-index in
    let l = c.loop-parent-test.true in
    let kept = c.loop-parent.invariant in
    let child = c.args.child in
    let at = c.args.at in
    let now = c.loop-parent.self in
    let made = pair_among c.args.types.now c.args.count child in
    elim c.match-parent_among.branch [
      | in-Some+in_ok-push+in_ok-push-2 w ↦
          let place = w.in-Some.ensures.place in
          record {
            pairs = flat-behind xs i _ _ l refl made c.args.self.now.pairs now.pairs _ kept.pairs
                (ap (λ (w : ParentPairs). w.pairs) w.self-is ∙ w.in_ok-push.ensures.pushed ∙ ap (λ p. now.pairs ++ if_parent child p) place);
            offsets = flat-made xs i _ _ l refl made (λ _. at) c.args.self.now.offsets now.offsets _ kept.offsets
                (ap (λ (w : ParentPairs). w.offsets) w.self-is ∙ w.in_ok-push-2.ensures.pushed ∙ ap (λ p. now.offsets ++ map (λ _. at) (if_parent child p)) place);
          }
      | in_default w ↦
          let place = w.in_default.ensures.place in
          record {
            pairs = flat-behind xs i _ _ l refl made c.args.self.now.pairs now.pairs _ kept.pairs
                (ap (λ (w : ParentPairs). w.pairs) w.self-is ∙ sym (append-nil now.pairs) ∙ ap (λ p. now.pairs ++ if_parent child p) place);
            offsets = flat-made xs i _ _ l refl made (λ _. at) c.args.self.now.offsets now.offsets _ kept.offsets
                (ap (λ (w : ParentPairs). w.offsets) w.self-is ∙ sym (append-nil now.offsets) ∙ ap (λ p. now.offsets ++ map (λ _. at) (if_parent child p)) place);
          }
    ]
