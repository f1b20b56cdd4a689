-- What the layer above needs of a front: as many growths as acts, what its slots hold, and an act that may be taken.
use Rattle.std.proofs.Common.{ℕ, suc, ◌≡◌, List, [], ◌∷◌, length, Option, Some, None, option_map, refl, ap, sym, ◌∙◌}
use Rattle.std.proofs.lemmas.List.{length-map}
use Rattle.plan_model.specs.declared.steps.GroundAction.{GroundAction}
use Rattle.plan_model.specs.declared.values.Compiled.{Compiled}
use Rattle.plan_model.specs.task_networks.Net.{Net}
use Rattle.plan_model.specs.task_networks.Tree.{Tree, Address}
use Rattle.plan_model.specs.task_networks.Spelling.{Act, label_of, AreActs}
use Rattle.plan_model.specs.plan_meaning.Truth.{State}
use Rattle.plan_model.specs.plan_meaning.Network.{network}
use Rattle.plan_model.specs.plan_meaning.Solution.{top_work, Allows, next}
use Rattle.tree_core.specs.declared.label.Label.{Label}
use Rattle.decoding.specs.FailingAct.{slot_in, new_in, AreRead}
use Rattle.decoding.specs.HeldLeaves as Held
use Rattle.decoding.specs.Keeping.{MayTake}
use Rattle.decoding.specs.PrintedSteps.{IsNamed, IsReadAs}
use Rattle.decoding.specs.TakenSteps.{HasTaken}
use Rattle.kept_front.specs.declared.leaves.Leaf.{Leaf}
use Rattle.kept_front.specs.declared.front.Front.{Front}
use Rattle.kept_front.specs.Leaves.{leaf_at}
use Rattle.kept_front.specs.Fronts.{label_in, growth_in, leaf_of, growths_in, kept, IsFrontOf, IsSized, MayTakeAt, MayTakeSome}

many_acts : (N : Net) (tree : Tree N) (slot : Address → ℕ) (order : List Address) (acts : List (Act N))
    → AreActs N tree slot order acts → length order ≡ length acts
many_acts N tree slot [] [] a = refl
many_acts N tree slot [] (b ∷ acts) a = absurd a
many_acts N tree slot (p ∷ order) [] a = absurd a
many_acts N tree slot (p ∷ order) (b ∷ acts) a = ap suc (many_acts N tree slot order acts a.1)

module _ (c : Compiled) (b : ℕ) where
  abbrev N : Net
  N = network c

  many_read : (steps : List GroundAction) (acts : List (Act N))
      → AreRead N State (Allows c) (next c) GroundAction (IsNamed c) (IsReadAs c) b steps acts → length steps ≡ length acts
  many_read [] [] r = refl
  many_read [] (a ∷ acts) r = absurd r
  many_read (s ∷ steps) [] r = absurd r
  many_read (s ∷ steps) (a ∷ acts) r = ap suc (many_read steps acts r.1)

  module _ (front : Front) where
    -- a growth for each act
    pub growths_are_acts : (acts : List (Act N)) → IsFrontOf c b front acts → length front.growths ≡ length acts
    growths_are_acts acts keeps =
        sym (length-map front.growths (growth_in c)) ∙ sym keeps.fits.growths_are.many
        ∙ many_acts N keeps.tree keeps.slot keeps.order acts keeps.spells.spelled

    -- and for each step
    pub growths_are_steps : (steps : List GroundAction) (S : State) → HasTaken c b steps (kept c front) S
        → length front.growths ≡ length steps
    growths_are_steps steps S taken = growths_are_acts taken.acts taken.keeps ∙ sym (many_read steps taken.acts taken.read)

    -- what a slot holds for the network is what the list says
    pub held_is : (x : ℕ) (leaf : Leaf) → leaf_at front.leaves x ≡ Some leaf
        → (kept c front).held x ≡ Some (leaf_of c (growths_in c front) leaf)
    held_is x leaf e = ap (option_map (leaf_of c (growths_in c front))) e

    pub holds_none : (x : ℕ) → leaf_at front.leaves x ≡ None → (kept c front).held x ≡ None
    holds_none x e = ap (option_map (leaf_of c (growths_in c front))) e

    pub held_by : (x : ℕ) (leaf : Held.Leaf N) → (kept c front).held x ≡ Some leaf
        → (l : Leaf) × (leaf_at front.leaves x ≡ Some l) × (leaf_of c (growths_in c front) l ≡ leaf)
    held_by x leaf e = go (leaf_at front.leaves x) e
      where
        go : (o : Option Leaf) → option_map (leaf_of c (growths_in c front)) o ≡ Some leaf
            → (l : Leaf) × (o ≡ Some l) × (leaf_of c (growths_in c front) l ≡ leaf)
        go None f = absurd cc
        go (Some l) f = (l, refl, cc)

    -- what the tests of an act found is what taking it asks
    pub may_take : (acts : List (Act N)) (a : Act N) (leaf : Held.Leaf N) (slot : ℕ) (new : List ℕ) (label : Label)
        → IsFrontOf c b front acts → IsSized b front → MayTake N b (top_work c) (kept c front) a leaf
        → slot_in N a ≡ slot → new_in N a ≡ new → label_of N a ≡ label_in c label → MayTakeAt c b front acts a slot new label
    may_take acts a leaf slot new label keeps sized may s n l = record {
      keeps = keeps;
      leaf = leaf;
      may = may;
      slot_is = s;
      new_is = n;
      label_is = l;
      sized = sized;
    }

    pub may_take_some : (acts : List (Act N)) (a : Act N) (slot : ℕ) (new : List ℕ) (label : Label)
        → MayTakeAt c b front acts a slot new label → MayTakeSome c front slot new label
    may_take_some acts a slot new label may = (b, acts, a, may)
