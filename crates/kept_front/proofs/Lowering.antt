-- The numbers of those that come right after a child are lowered one after another.
use Rattle.std.proofs.Common.{ℕ, suc, ◌≡◌, ◌≢◌, ◌+◌, ◌<◌, ◌≤◌, List, length, get_or, refl, ap, sym, subst, ◌∙◌, Contains, arith}
use Rattle.std.proofs.Math.Decide.{ℕ_discrete}
use Rattle.std.proofs.lemmas.List.{get_or_default}
use Rattle.std.proofs.lemmas.List.Elements.{Contains-get_or}
use Rattle.htn_base.specs.Different.{AreDifferent}
use Rattle.htn_base.proofs.DifferentLemmas.{different-places}
use Rattle.kept_front.specs.declared.leaves.Leaves.{Leaves}
use Rattle.kept_front.specs.declared.nodes.Nodes.{Nodes}
use Rattle.kept_front.specs.declared.front.Front.{Front}
use Rattle.tree_core.specs.declared.growth.Growth.{Growth}
use Rattle.kept_front.specs.Leaves.{leaf_at, blocked_in, blocked_at, place_at}
use Rattle.kept_front.specs.Nodes.{child_slot, unfinished_at}
use Rattle.kept_front.specs.Fronts.{IsLowered}

module _ (nodes : Nodes) (parent : ℕ) (later : List ℕ) where
  -- the slot of the k-th of those that come later
  abbrev pub slot_of : ℕ → ℕ
  slot_of k = child_slot nodes parent (get_or later k 0)

  -- the first n have been lowered
  pub record AreLowered (old now : Leaves) (n : ℕ) : Type 0 where
    pub places : (x : ℕ) → place_at now x ≡ place_at old x
    pub falls : (k : ℕ) → k < n → blocked_at old (slot_of k) ≡ suc (blocked_at now (slot_of k))
    pub stays : (y : ℕ) → ((k : ℕ) → k < n → y ≢ slot_of k) → blocked_at now y ≡ blocked_at old y

  pub none_lowered : (old : Leaves) → AreLowered old old 0
  none_lowered old = record { places = λ x. refl; falls = λ k l. absurd (omega arith); stays = λ y n. refl }

  module _ (once : AreDifferent later) (apart : (j k : ℕ) → Contains later j → Contains later k → child_slot nodes parent j ≡ child_slot nodes parent k → j ≡ k) where
    is_one : (k : ℕ) → k < length later → Contains later (get_or later k 0)
    is_one k l = Contains-get_or later k 0 l

    -- different places, different slots
    slots_apart : (j k : ℕ) → j < k → k < length later → slot_of k ≡ slot_of j → ⊥
    slots_apart j k l m e =
        let f = apart (get_or later k 0) (get_or later j 0) (is_one k m) (is_one j (omega arith)) e in
        different-places later once j k 0 l m (sym f)

    module _ (old now : Leaves) (n : ℕ) (l : n < length later) (u : AreLowered old now n) where
      -- the next one hasn't been lowered yet
      pub not_yet : blocked_at now (slot_of n) ≡ blocked_at old (slot_of n)
      not_yet = u.stays (slot_of n) (λ k m e. slots_apart k n m l e)

      pub one_lowered : (next : Leaves) → blocked_at now (slot_of n) ≡ blocked_at next (slot_of n) + 1 → ((x : ℕ) → x ≢ slot_of n → leaf_at next x ≡ leaf_at now x) → ((x : ℕ) → place_at next x ≡ place_at now x)
          → AreLowered old next (n + 1)
      one_lowered next here others places = record {
        places = λ x. places x ∙ u.places x;
        falls = falls;
        stays = λ y h. ap blocked_in (others y (h n (omega arith))) ∙ u.stays y (λ k m. h k (omega arith));
      }
        where
          falls : (k : ℕ) → k < n + 1 → blocked_at old (slot_of k) ≡ suc (blocked_at next (slot_of k))
          falls k m = elim (ℕ_discrete k n) [
            | yes e ↦ subst (λ z. blocked_at old (slot_of z) ≡ suc (blocked_at next (slot_of z))) (sym e) (sym not_yet ∙ here ∙ (omega arith))
            | no d ↦ (let j : k < n = omega arith in u.falls k j ∙ ap suc (sym (ap blocked_in (others (slot_of k) (λ e. slots_apart k n j l (sym e))))))
          ]

      -- at a slot that is the next one's
      pub next_is_blocked : (s : ℕ) → s ≡ slot_of n → ((j : ℕ) → Contains later j → 1 ≤ blocked_at old (child_slot nodes parent j)) → 0 < blocked_at now s
      next_is_blocked s e h =
          let x = h (get_or later n 0) (is_one n l) in
          subst (λ z. 0 < blocked_at now z) (sym e) (let y = not_yet in omega arith)

      pub one_lowered_at : (s : ℕ) → s ≡ slot_of n → (next : Leaves) → blocked_at now s ≡ blocked_at next s + 1 → ((x : ℕ) → x ≢ s → leaf_at next x ≡ leaf_at now x) → ((x : ℕ) → place_at next x ≡ place_at now x)
          → AreLowered old next (n + 1)
      one_lowered_at s e next here others places = one_lowered next
          (subst (λ z. blocked_at now z ≡ blocked_at next z + 1) e here)
          (λ x d. others x (λ f. d (f ∙ e))) places

-- all have been lowered
pub all_lowered : (parent : ℕ) (later : List ℕ) (old : Front) (leaves : Leaves) (nodes mid : Nodes) (growths : List Growth) (n : ℕ) → growths ≡ old.growths → mid ≡ old.nodes → n ≡ length later
    → AreLowered old.nodes parent later old.leaves leaves n → ((k j : ℕ) → child_slot nodes k j ≡ child_slot mid k j) → unfinished_at mid parent ≡ unfinished_at nodes parent + 1
    → ((k : ℕ) → k ≢ parent → unfinished_at nodes k ≡ unfinished_at mid k) → IsLowered parent later old (record { leaves = leaves; nodes = nodes; growths = growths })
all_lowered parent later old leaves nodes mid growths n eg em en u slots here others = record {
  growths = eg;
  places = u.places;
  slots = λ k j. slots k j ∙ ap (λ z. child_slot z k j) em;
  falls = λ j c. falls j c.0 c.1 c.2;
  stays = λ y h. u.stays y (λ k l. h (get_or later k 0) (Contains-get_or later k 0 (omega arith)));
  unfinished_falls = sym (ap (λ z. unfinished_at z parent) em) ∙ here ∙ (omega arith);
  unfinished_stays = λ k d. others k d ∙ ap (λ z. unfinished_at z k) em;
}
  where
    falls : (j k : ℕ) → k < length later → get_or later k j ≡ j → blocked_at old.leaves (child_slot old.nodes parent j) ≡ suc (blocked_at leaves (child_slot old.nodes parent j))
    falls j k l e =
        let f : get_or later k 0 ≡ j = get_or_default later k 0 j l ∙ e in
        subst (λ z. blocked_at old.leaves (child_slot old.nodes parent z) ≡ suc (blocked_at leaves (child_slot old.nodes parent z))) f (u.falls k (omega arith))
