-- What is asked at a front is decided, where works, orders and conditions are.
use Rattle.std.proofs.Common.{ℕ, ◌≡◌, ◌⊎◌, inl, inr, List, [], ◌∷◌, Option, Some, None, length, refl, ap, sym, subst, Contains, arith}
use Rattle.std.proofs.Math.Decide.{ℕ_discrete}
use Rattle.plan_model.specs.task_networks.Order.{Precedes}
use Rattle.plan_model.specs.task_networks.Net.{Net}
use Rattle.plan_model.specs.task_networks.Lawful.{IsLawful}
use Rattle.plan_model.specs.task_networks.Tree.{Tree, Label, Address, waits, ran, used, label_at, IsOpen}
use Rattle.plan_model.specs.task_networks.Schedule.{Blocks, MustPrecede}
use Rattle.plan_model.specs.task_networks.Spelling.{Act}
use Rattle.htn_base.specs.Different.{AreDifferent}
use Rattle.plan_model.proofs.task_networks.Addresses.{is_below, below-itself, below_longer, below_up, below_cases, same_sibling}
use Rattle.plan_model.proofs.task_networks.Lists.{Contains-here, Contains-later, not-in_empty, head_or_tail}
use Rattle.plan_model.proofs.task_networks.Nodes.{leaves_of}
use Rattle.slot_machine.specs.Reached.{HasLeaf}
use Rattle.slot_machine.specs.Causes.{IsWaiting}
use Rattle.decoding.specs.FailingAct.{IsSlotTaken}
use Rattle.decoding.specs.FailingLaws.{EachIsDecided}
use Rattle.decoding.proofs.FailingSteps.{is_in, are_different, found}

pub search : {A : Type 0} (xs : List A) (P : A → Type 0) → ((x : A) → Dec (P x)) → Dec ((x : A) × Contains xs x × P x)
search [] P d = no (λ h. not-in_empty h.0 h.1)
search {A = A} (y ∷ xs) P d = go (d y) (search xs P d)
  where
    go : Dec (P y) → Dec ((x : A) × Contains xs x × P x) → Dec ((x : A) × Contains (y ∷ xs) x × P x)
    go (yes p) e = yes (y, Contains-here y xs, p)
    go (no n) (yes h) = yes (h.0, Contains-later y xs h.0 h.1, h.2)
    go (no n) (no m) = no (λ h. elim (head_or_tail y xs h.0 h.1) [ inl e ↦ n (subst P (sym e) h.2) | inr c ↦ m (h.0, c, h.2) ])

pub dec_of : {P : Type 0} → P ⊎ (P → ⊥) → Dec P
dec_of (inl p) = yes p
dec_of (inr n) = no n

module _ (N : Net) (tree : Tree N) where
  pub is_open : (p : Address) → Dec (IsOpen N tree p)
  is_open p = go (label_at N tree p) refl
    where
      go : (o : Option (Label N)) → label_at N tree p ≡ o → Dec (IsOpen N tree p)
      go None e = no (λ h. let x = h.1 in cc)
      go (Some (waits w)) e = yes (w, e)
      go (Some (ran w)) e = no (λ h. let x = h.1 in cc)
      go (Some (used m)) e = no (λ h. let x = h.1 in cc)

  -- a question on open leaves
  pub some_leaf : (P : Address → Type 0) → ((p : Address) → Dec (P p)) → Dec ((p : Address) × IsOpen N tree p × P p)
  some_leaf P d = go (search leaves.0 (λ p. IsOpen N tree p × P p) (λ p. both (is_open p) (d p)))
    where
      leaves : (xs : List Address) × ((p : Address) → IsOpen N tree p → Contains xs p)
      leaves = leaves_of N tree

      both : {A B : Type 0} → Dec A → Dec B → Dec (A × B)
      both (yes a) (yes b) = yes (a, b)
      both (yes a) (no n) = no (λ h. n h.1)
      both (no n) d = no (λ h. n h.0)

      go : Dec ((p : Address) × Contains leaves.0 p × (IsOpen N tree p × P p)) → Dec ((p : Address) × IsOpen N tree p × P p)
      go (yes h) = yes (h.0, h.2.0, h.2.1)
      go (no n) = no (λ h. n (h.0, leaves.1 h.0 h.1, (h.1, h.2)))

  module _ (precedes : (m : N.Method) (i j : ℕ) → Dec (Precedes (N.Pair m) i j)) where
    is_blocking : (u v : Address) → Dec (Blocks N tree u v)
    is_blocking u [] = no (λ b. b)
    is_blocking u (j ∷ q) = go (label_at N tree q) refl
      where
        at : (m : N.Method) → label_at N tree q ≡ Some (used m) → Dec (Blocks N tree u (j ∷ q))
        at m e = elim (is_below q u) [
          | no n ↦ no (λ b. n (below_up b.1 q u b.4))
          | yes b ↦ elim (below_cases q u b) [
            | inl f ↦ no (λ c. (let l = below_longer (c.1 ∷ q) u c.4 in let z = ap length f in omega arith))
            | inr (i, d) ↦ elim (precedes m i j) [
              | yes p ↦ yes (m, i, e, p, d)
              | no n ↦ no (λ c. n (let x : c.1 ≡ i = same_sibling c.1 i q u c.4 d in let y : c.0 ≡ m = (let z = c.2 in cc) in subst (λ z. Precedes (N.Pair m) z j) x (subst (λ z. Precedes (N.Pair z) c.1 j) y c.3)))
            ]
          ]
        ]

        go : (o : Option (Label N)) → label_at N tree q ≡ o → Dec (Blocks N tree u (j ∷ q))
        go None e = no (λ b. (let x = b.2 in cc))
        go (Some (waits w)) e = no (λ b. (let x = b.2 in cc))
        go (Some (ran w)) e = no (λ b. (let x = b.2 in cc))
        go (Some (used m)) e = at m e

    must_precede : (u v : Address) → Dec (MustPrecede N tree u v)
    must_precede u [] = no (λ h. (let x = subst (Blocks N tree u) h.1 h.2 in x))
    must_precede u (k ∷ v) = go (is_blocking u (k ∷ v)) (must_precede u v)
      where
        go : Dec (Blocks N tree u (k ∷ v)) → Dec (MustPrecede N tree u v) → Dec (MustPrecede N tree u (k ∷ v))
        go (yes b) d = yes (k ∷ v, below-itself (k ∷ v), b)
        go (no n) (yes h) = yes (h.0, inr h.1, h.2)
        go (no n) (no f) = no (λ h. elim h.1 [ inl e ↦ n (subst (Blocks N tree u) e h.2) | inr b ↦ f (h.0, b, h.2) ])

    pub is_waiting : (p : Address) → Dec (IsWaiting N tree p)
    is_waiting p = some_leaf (λ u. MustPrecede N tree u p) (λ u. must_precede u p)

  pub has_leaf : ((w v : N.Work) → Dec (w ≡ v)) → (slot : Address → ℕ) (h : ℕ) (w : N.Work) → Dec (HasLeaf N tree slot h w)
  has_leaf works slot h w = back (some_leaf (λ p. (label_at N tree p ≡ Some (waits w)) × (slot p ≡ h)) (λ p. is p (ℕ_discrete (slot p) h) (label_at N tree p) refl))
    where
      is : (p : Address) → Dec (slot p ≡ h) → (o : Option (Label N)) → label_at N tree p ≡ o → Dec ((label_at N tree p ≡ Some (waits w)) × (slot p ≡ h))
      is p (no n) o e = no (λ x. n x.1)
      is p (yes f) None e = no (λ x. let y = x.0 in cc)
      is p (yes f) (Some (ran v)) e = no (λ x. let y = x.0 in cc)
      is p (yes f) (Some (used m)) e = no (λ x. let y = x.0 in cc)
      is p (yes f) (Some (waits v)) e = elim (works v w) [ yes g ↦ yes (subst (λ z. label_at N tree p ≡ Some (waits z)) g e, f) | no n ↦ no (λ x. n (let y = x.0 in cc)) ]

      back : Dec ((p : Address) × IsOpen N tree p × ((label_at N tree p ≡ Some (waits w)) × (slot p ≡ h))) → Dec (HasLeaf N tree slot h w)
      back (yes x) = yes (x.0, x.2.0, x.2.1)
      back (no n) = no (λ x. n (x.0, (w, x.1), (x.1, x.2)))

  pub is_slot_taken : (slot : Address → ℕ) (new : List ℕ) → Dec (IsSlotTaken N tree slot new)
  is_slot_taken slot new = go (some_leaf (λ p. Contains new (slot p)) (λ p. is_in new (slot p))) (are_different new)
    where
      go : Dec ((p : Address) × IsOpen N tree p × Contains new (slot p)) → Dec (AreDifferent new) → Dec (IsSlotTaken N tree slot new)
      go (yes h) d = yes (inl h)
      go (no n) (yes d) = no (λ x. elim x [ inl h ↦ n h | inr k ↦ k d ])
      go (no n) (no m) = yes (inr m)

  pub some_open : Dec ((p : Address) × IsOpen N tree p)
  some_open = elim (some_leaf (λ p. Unit {0}) (λ p. yes tt)) [ yes h ↦ yes (h.0, h.1) | no n ↦ no (λ h. n (h.0, h.1, tt)) ]

ask : {R X : Type 0} → Dec X → (X → R) → ((X → ⊥) → R) → R
ask (yes x) k n = k x
ask (no m) k n = n m

module _ (N : Net) (law : IsLawful N) (State : Type 1) (Allows : State → Label N → Type 0) (next : State → Label N → State) (first : State) (Goal : State → Type 0) (Step : Type 0) (Named : Step → Type 0) (Reads : ℕ → Step → Act N → Type 0) where
  pub each_is_decided : EachIsDecided N State Allows next first Goal Step Named Reads
  each_is_decided b top steps positive reading d = found N State Allows next first Goal Step Named Reads b reading law top positive _ (record {
    named = λ s k n. ask (dec_of (d.named s)) k n;
    reads = λ s k n. ask (dec_of (d.reads b s)) k n;
    leaf = λ tree slot h w k n. ask (has_leaf N tree (λ v u. dec_of (d.works v u)) slot h w) k n;
    waiting = λ tree p k n. ask (is_waiting N tree (λ m i j. dec_of (d.precedes m i j)) p) k n;
    taken = λ tree slot new k n. ask (is_slot_taken N tree slot new) k n;
    ground = λ m k n. ask (dec_of (d.ground m)) k n;
    allows = λ ls l k n. ask (dec_of (d.allows ls l)) k n;
    left = λ tree k n. ask (some_open N tree) k n;
    goal = λ ls k n. ask (dec_of (d.goal ls)) k n;
  }) steps (λ x. inl x) (λ n why x. inr (n, why, x))
