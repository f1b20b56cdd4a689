use Rattle.std.proofs.Common.{◌≡◌, ◌++◌, [], ◌∷◌, List, ℕ, ap, refl, subst, ◌∙◌}
use Rattle.std.proofs.lemmas.Result.{on_ok_weaker}
use Rattle.state_history.specs.Gaps.{AreTurned}
use Rattle.ground_state.specs.States.{atom}
use Rattle.state_history.proofs.KeptLaws.{still-within, same-within}
use Rattle.state_history.proofs.FlipLaws.{set-by, in-either}
use Rattle.state_history.proofs.flips.Flips.set.Goals as goal

pub turn-requires : goal.turn-requires
turn-requires c = c.args.self.now.sound c.extend_from_slice.new.self.items

pub invariant_of-self : goal.invariant_of-self
invariant_of-self c =
    let old = c.args.self.now in
    let new = c.turn.new.self in
    record { sound = in-either c.turn.result c.turn.ensures.turned c.turn.ensures.unchanged (λ t. still-within old.last c.args.truth old.gaps new c.extend_from_slice.new.self.items t old.sound) (λ u. same-within old.last old.gaps new u old.sound) }

pub returns : goal.returns
returns c =
    let old = c.args.self.now in
    let key : c.extend_from_slice.new.self.items ≡ c.args.predicate ∷ c.args.args.now = c.in_ok-extend_from_slice.ensures.items ∙ ap (λ xs. xs ++ c.args.args.now) (c.in_ok-push.ensures.items ∙ ap (λ xs. xs ++ c.args.predicate ∷ []) c.new-key.ensures.items) in
    on_ok_weaker c.turn.result (λ t. set-by old _ (atom c.args.predicate c.args.args.now) c.args.truth refl (subst (λ (k : List ℕ). AreTurned c.args.self.now.last c.args.truth c.args.self.now.gaps k c.turn.new.self) key t)) c.turn.ensures.turned
