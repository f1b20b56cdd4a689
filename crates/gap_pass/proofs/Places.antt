-- Nodes by their places in preorder.
use Rattle.std.proofs.Common.{ℕ, zero, suc, ◌≡◌, List, [], ◌∷◌, cond, get_or, Some, Bool, true, false, slice_get, refl, ap, sym, subst, ◌∙◌, Contains}
use Rattle.htn_base.specs.Different.{AreDifferent}
use Rattle.plan_model.specs.task_networks.Tree.{Address}
use Rattle.plan_model.specs.task_networks.Listed.{same_address}
use Rattle.plan_model.proofs.task_networks.PendingNodes.{same_to, address_same_itself}
use Rattle.tree_core.specs.Runs.{AreAt}
use Rattle.tree_core.proofs.Gets.{at_place}
use Rattle.schedules.specs.latest.Shown.{place}

-- a node of the second list, by its place in the first
pub node_of_place : (ns ps : List Address) (ks : List ℕ) (i k : ℕ) → AreAt ns ks ps → slice_get ks i ≡ Some k → (p : Address)
    × (slice_get ps i ≡ Some p) × (slice_get ns k ≡ Some p)
node_of_place ns ps [] i k a e = absurd cc
node_of_place ns [] (l ∷ ks) i k a e = absurd a
node_of_place ns (p ∷ ps) (l ∷ ks) zero k a e = (p, refl, subst (λ z. slice_get ns z ≡ Some p) (let f : l ≡ k = cc in f) a.0)
node_of_place ns (p ∷ ps) (l ∷ ks) (suc i) k a e = node_of_place ns ps ks i k a.1 e

pub place_of_listed : (ns ps : List Address) (ks : List ℕ) (i : ℕ) (p : Address) → AreAt ns ks ps → slice_get ps i ≡ Some p → (k : ℕ)
    × (slice_get ks i ≡ Some k) × (slice_get ns k ≡ Some p)
place_of_listed ns [] ks i p a e = absurd cc
place_of_listed ns (q ∷ ps) [] i p a e = absurd a
place_of_listed ns (q ∷ ps) (k ∷ ks) zero p a e = (k, refl, a.0 ∙ (let f : q ≡ p = cc in ap Some f))
place_of_listed ns (q ∷ ps) (k ∷ ks) (suc i) p a e = place_of_listed ns ps ks i p a.1 e

-- the gap of an address, by its place
abbrev pub gap_of : List Address → List ℕ → Address → ℕ
gap_of ps gaps p = get_or gaps (place ps p) 0

other_node : (q p : Address) → (q ≡ p → ⊥) → same_address q p ≡ false
other_node q p n = go (same_address q p) refl
  where
    go : (b : Bool) → same_address q p ≡ b → same_address q p ≡ false
    go false e = e
    go true e = absurd (n (same_to q p e))

place_is : (ps : List Address) → AreDifferent ps → (k : ℕ) (p : Address) → slice_get ps k ≡ Some p → place ps p ≡ k
place_is [] d k p e = absurd cc
place_is (q ∷ ps) d zero p e =
    let f : q ≡ p = cc in
    ap (λ b. cond b zero (suc (place ps p))) (subst (λ z. same_address q z ≡ true) f (address_same_itself q))
place_is (q ∷ ps) d (suc k) p e =
    let n : q ≡ p → ⊥ = λ f. d.0 (subst (Contains ps) (sym f) (at_place ps k p e)) in
    ap (λ b. cond b zero (suc (place ps p))) (other_node q p n) ∙ ap suc (place_is ps d.1 k p e)

pub gap_at : (ps : List Address) → AreDifferent ps → (gaps : List ℕ) (k : ℕ) (p : Address) → slice_get ps k ≡ Some p
    → get_or gaps k 0 ≡ gap_of ps gaps p
gap_at ps d gaps k p e = ap (λ z. get_or gaps z 0) (sym (place_is ps d k p e))
