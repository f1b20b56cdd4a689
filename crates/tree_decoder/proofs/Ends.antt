-- What a solution's growths are decoded to: its tree, its schedule, and the slots of its nodes.
use Rattle.std.proofs.Common.{ℕ, suc, ◌≡◌, ◌+◌, List, [], ◌∷◌, map, length, Option, Some, None, MatchOption, option_map, slice_get, refl, ap, sym, subst, ◌∙◌, arith}
use Rattle.std.specs.Prelude.{IsSome}
use Rattle.std.proofs.lemmas.List.{length-map}
use Rattle.std.proofs.lemmas.Option.{slice_get-map}
use Rattle.plan_model.specs.declared.steps.GroundAction.{GroundAction}
use Rattle.plan_model.specs.declared.values.Compiled.{Compiled}
use Rattle.plan_model.specs.task_networks.Net.{Net}
use Rattle.plan_model.specs.task_networks.Tree.{Address, label_at, IsAddress}
use Rattle.plan_model.specs.plan_meaning.Network.{network}
use Rattle.plan_model.specs.plan_meaning.Solution.{IsGoal}
use Rattle.plan_model.proofs.task_networks.Parents.{parent_label, address_child}
use Rattle.tree_core.specs.declared.growth.Growth.{Growth}
use Rattle.tree_core.specs.Growths.{IsUnder}
use Rattle.tree_core.specs.Runs.{IsRun}
use Rattle.tree_core.proofs.Labelled.{runs_stand_for_trees}
use Rattle.ground_state.specs.States.{has_ground}
use Rattle.decoding.specs.declared.causes.Why.{Why}
use Rattle.decoding.specs.declared.causes.Why.TheVariants.{Unfinished, GoalFalse}
use Rattle.decoding.specs.PrintedSteps.{FailsAt}
use Rattle.decoding.specs.TakenSteps.{true_of, IsSolvedBy, HoldNone}
use Rattle.decoding.specs.TakenLaws.{EndTells}
use Rattle.decoding.proofs.TakenFronts.{end_is_told}
use Rattle.kept_front.specs.declared.front.Front.{Front}
use Rattle.kept_front.specs.declared.leaves.Leaf.{Leaf}
use Rattle.kept_front.specs.Leaves.{leaf_at}
use Rattle.kept_front.specs.Fronts.{kept, growth_in, growths_in, leaf_of}
use Rattle.kept_front.proofs.Told.{growths_are_steps, held_is, holds_none}
use Rattle.tree_decoder.specs.declared.decoded.Decoded.{Decoded}
use Rattle.tree_decoder.specs.declared.decoded.DecodeError.TheVariants.{NotAPlan}
use Rattle.tree_decoder.specs.declared.decoder.Decoder.{Decoder}
use Rattle.tree_decoder.specs.Decoded.{IsDecoded}
use Rattle.tree_decoder.specs.Decoding.{AreBehind, AreLabelled, IsReady, Finishes, Leaves, IsLeft, IsSomeHeld, slot_under, HasTree}
use Rattle.tree_decoder.proofs.Sound.{lawful, sound_steps}

-- lists of as many items, which are the same at each place
same_maps : {A B C : Type 0} (f : A → C) (g : B → C) (xs : List A) (ys : List B) → length ys ≡ length xs
    → ((k : ℕ) (x : A) (y : B) → slice_get xs k ≡ Some x → slice_get ys k ≡ Some y → f x ≡ g y) → map f xs ≡ map g ys
same_maps f g [] [] e h = refl
same_maps f g [] (y ∷ ys) e h = absurd (omega arith)
same_maps f g (x ∷ xs) [] e h = absurd (omega arith)
same_maps f g (x ∷ xs) (y ∷ ys) e h =
    let rest = same_maps f g xs ys (omega arith) (λ k. h (suc k)) in
    let first = h 0 x y refl refl in
    λ i. first i ∷ rest i

module _ (c : Compiled) (b : ℕ) (steps : List GroundAction) (front : Front) (s : IsSolvedBy c b steps (kept c front)) where
  abbrev N : Net
  N = network c

  -- the slot of a node is that of its growth
  slot_at : (k : ℕ) (g : Growth) (p : Address) → slice_get front.growths k ≡ Some g → slice_get s.order k ≡ Some p
      → slot_under front g.parent g.child ≡ s.slot p
  slot_at k g p e f = go g.parent (s.grown.growths_are.under k (growth_in c g) p at f)
    where
      at : slice_get (growths_in c front) k ≡ Some (growth_in c g)
      at = slice_get-map (growth_in c) front.growths k ∙ ap (option_map (growth_in c)) e

      go : (o : Option ℕ) → IsUnder N s.order k o g.child p → slot_under front o g.child ≡ s.slot p
      go None u = sym (ap s.slot u ∙ s.root)
      go (Some x) (l, (q, on, is)) =
          let labelled = subst (λ z. label_at N s.tree z ≡ Some (growth_in c g).label) is (s.grown.growths_are.labels k (growth_in c g) p at f) in
          let address : IsAddress N s.tree (g.child ∷ q) = ((growth_in c g).label, labelled) in
          let (m, used) = parent_label N s.tree g.child q address in
          let below = address_child N s.tree q m g.child s.solution.finished.front.grown used address in
          s.child_slots x q m g.child on used below ∙ ap s.slot (sym is)

  pub is_decoded : AreLabelled c front → (decoded : Decoded) → HasTree front decoded → IsDecoded c b steps decoded
  is_decoded labelled decoded h = record {
    tree = s.tree;
    order = s.order;
    slot = s.slot;
    spelled = s.spelled;
    solution = s.solution;
    stands = runs_stand_for_trees c (growths_in c front) s.tree s.order decoded.run s.grown
        (subst (λ gs. IsRun gs decoded.run) labelled h.run);
    slots_are = h.slots
        ∙ same_maps (λ (g : Growth). slot_under front g.parent g.child) s.slot front.growths s.order
        (s.grown.growths_are.many ∙ length-map front.growths (growth_in c)) slot_at;
  }

some_of : {A : Type 0} (o : Option A) → IsSome o → (x : A) × (o ≡ Some x)
some_of None s = absurd cc
some_of (Some x) s = (x, refl)

is_some_of : {A : Type 0} (o : Option A) (x : A) → o ≡ Some x → IsSome o
is_some_of None x e = absurd cc
is_some_of (Some y) x e = refl

-- what is left at the end
module _ (decoder : Decoder) (ready : IsReady decoder) where
  abbrev p : Compiled
  p = decoder.c.now

  abbrev Left : Compiled → ℕ → List GroundAction → Option Why → Type 0
  Left c b steps found = MatchOption found (IsSolvedBy c b steps (kept c decoder.front)) (FailsAt c b steps (length steps + 1))

  left_own : (found : Option Why)
      → ((steps : List GroundAction) → AreBehind p decoder.slots steps decoder.front decoder.state → Left p decoder.slots steps found)
      → IsLeft decoder found
  left_own found own c b steps h =
      subst (λ z. Left z b steps found) h.problem (subst (λ n. Left p n steps found) h.slots (own steps behind))
    where
      behind : AreBehind p decoder.slots steps decoder.front decoder.state
      behind = subst (λ n. AreBehind p n steps decoder.front decoder.state) (sym h.slots)
          (subst (λ z. AreBehind z b steps decoder.front decoder.state) (sym h.problem) h.behind)

  told : (steps : List GroundAction) → AreBehind p decoder.slots steps decoder.front decoder.state
      → EndTells p decoder.slots steps (kept p decoder.front) (true_of p (has_ground decoder.state))
  told steps behind =
      end_is_told p (lawful p ready.soundly) decoder.slots steps (kept p decoder.front) (has_ground decoder.state)
      (sound_steps p ready.soundly decoder.slots ready.few) behind

  pub unfinished : IsSomeHeld decoder.slots decoder.front → IsLeft decoder (Some Unfinished)
  unfinished (x, l, m, some) = left_own (Some Unfinished) (λ steps behind. (
      let (leaf, e) = some_of (leaf_at decoder.front.leaves x) some in
      (told steps behind).unfinished x (leaf_of p (growths_in p decoder.front) leaf) (held_is p decoder.slots decoder.front x leaf e)))

  module _ (none : IsSomeHeld decoder.slots decoder.front → ⊥) where
    hold_none : HoldNone p decoder.slots (kept p decoder.front)
    hold_none x l m = go (leaf_at decoder.front.leaves x) refl
      where
        go : (o : Option Leaf) → leaf_at decoder.front.leaves x ≡ o → (kept p decoder.front).held x ≡ None
        go None e = holds_none p decoder.slots decoder.front x e
        go (Some leaf) e = absurd (none (x, l, m, is_some_of (leaf_at decoder.front.leaves x) leaf e))

    pub goal_false : (IsGoal p (true_of p (has_ground decoder.state)) → ⊥) → IsLeft decoder (Some GoalFalse)
    goal_false n = left_own (Some GoalFalse) (λ steps behind. (told steps behind).goal_false hold_none n)

    pub solved : IsGoal p (true_of p (has_ground decoder.state)) → IsLeft decoder None
    solved g = left_own None (λ steps behind. (told steps behind).solved hold_none g)

-- what is answered at the end
module _ (decoder : Decoder) where
  pub finishes : (decoded : Decoded) → IsLeft decoder None → HasTree decoder.front decoded → Finishes decoder decoded
  finishes decoded left tree c b steps h =
      let labelled = subst (λ z. AreLabelled z decoder.front) h.problem h.ready.labelled in
      is_decoded c b steps decoder.front (left c b steps h) labelled decoded tree

  pub leaves : (step : ℕ) (why : Why) → step ≡ length decoder.front.growths + 1 → IsLeft decoder (Some why)
      → Leaves decoder (NotAPlan step why)
  leaves step why e left c b steps h =
      let same = growths_are_steps c b decoder.front steps (true_of c (has_ground decoder.state)) h.behind in
      subst (λ n. FailsAt c b steps n why) (omega arith) (left c b steps h)
