-- Spellings and widths tested by computation.
use Rattle.std.proofs.Common.{ℕ, ◌≡◌, ◌≤◌, ◌⊎◌, inl, inr, List, [], ◌∷◌, ◌++◌, length, Bool, true, not, ◌&&◌, ◌==◌, Option, Some, None, ap, sym, subst, ◌∙◌, Contains, arith, append_assoc, append-nil, eq-eqb}
use Rattle.std.specs.Prelude.{nat_le}
use Rattle.std.specs.List.{list_any, list_all}
use Rattle.plan_model.specs.task_networks.Net.{Net}
use Rattle.plan_model.specs.task_networks.Tree.{Address, ran, Tree, Label, waits, used, label_at}
use Rattle.plan_model.specs.task_networks.Pending.{IsWithin}
use Rattle.plan_model.specs.task_networks.Preorder.{nodes_at}
use Rattle.plan_model.specs.task_networks.PendingComputed.{pending}
use Rattle.plan_model.specs.task_networks.Front.{IsFront}
use Rattle.plan_model.specs.task_networks.Spelling.{Act, AreActs, Spells}
use Rattle.plan_model.proofs.task_networks.Lists.{not-in_empty, head_or_tail}
use Rattle.plan_model.proofs.task_networks.Nodes.{lists_address}
use Rattle.plan_model.proofs.task_networks.PendingNodes.{both, not_to, pending_iff, within_iff}
use Rattle.plan_model.proofs.task_networks.Tests.{to_any, all_to}

le_to : (i j : ℕ) → nat_le i j ≡ true → i ≤ j
le_to i j e = grind (arith, e)

equal_to : (i j : ℕ) → (i == j) ≡ true → i ≡ j
equal_to i j e = grind (arith, e)

-- no two nodes of a list have the same slot
abbrev pub are_apart : (Address → ℕ) → List Address → Bool
are_apart slot [] = true
are_apart slot (u ∷ nodes) = not (list_any (λ v. slot u == slot v) nodes) && are_apart slot nodes

apart_to : (slot : Address → ℕ) (nodes : List Address) → are_apart slot nodes ≡ true → (u v : Address) → Contains nodes u → Contains nodes v → slot u ≡ slot v → u ≡ v
apart_to slot [] e u v c d f = absurd (not-in_empty u c)
apart_to slot (x ∷ nodes) e u v c d f =
    let (fresh, rest) = both (not (list_any (λ v. slot x == slot v) nodes)) (are_apart slot nodes) e in
    go fresh (apart_to slot nodes rest u v) (head_or_tail x nodes u c) (head_or_tail x nodes v d)
  where
    other : (w : Address) → not (list_any (λ v. slot x == slot v) nodes) ≡ true → Contains nodes w → slot x ≡ slot w → ⊥
    other w n k g = not_to (list_any (λ v. slot x == slot v) nodes) n (to_any (λ v. slot x == slot v) nodes w k (eq-eqb (slot x) (slot w) g))

    go : not (list_any (λ v. slot x == slot v) nodes) ≡ true → (Contains nodes u → Contains nodes v → slot u ≡ slot v → u ≡ v) → (x ≡ u) ⊎ Contains nodes u → (x ≡ v) ⊎ Contains nodes v → u ≡ v
    go n ih (inl a) (inl b) = sym a ∙ b
    go n ih (inl a) (inr k) = absurd (other v n k (ap slot a ∙ f))
    go n ih (inr k) (inl b) = absurd (other u n k (ap slot b ∙ sym f))
    go n ih (inr k) (inr l) = ih k l f

module _ (N : Net) where
  abbrev pub are_in_range : ℕ → Tree N → (Address → ℕ) → Bool
  are_in_range b tree slot = list_all (λ p. nat_le 1 (slot p) && nat_le (slot p) b) (nodes_at N [] tree)

  abbrev pub keeps_slot_by : (Address → ℕ) → Address → Option ℕ → Bool
  keeps_slot_by slot p None = true
  keeps_slot_by slot p (Some i) = slot (i ∷ p) == slot p

  abbrev pub keeps_slot : (Address → ℕ) → Address → Option (Label N) → Bool
  keeps_slot slot p None = true
  keeps_slot slot p (Some (waits w)) = true
  keeps_slot slot p (Some (ran w)) = true
  keeps_slot slot p (Some (used m)) = keeps_slot_by slot p (N.heir m)

  abbrev pub are_always_apart : Tree N → (Address → ℕ) → List Address → List Address → Bool
  are_always_apart tree slot taken [] = are_apart slot (pending N tree taken)
  are_always_apart tree slot taken (v ∷ rest) = are_apart slot (pending N tree taken) && are_always_apart tree slot (taken ++ v ∷ []) rest

  abbrev pub is_spelling : ℕ → Tree N → List Address → (Address → ℕ) → Bool
  is_spelling b tree order slot = are_in_range b tree slot && (list_all (λ p. keeps_slot slot p (label_at N tree p)) (nodes_at N [] tree) && are_always_apart tree slot [] order)

  -- at each cut
  apart_at : (tree : Tree N) (slot : Address → ℕ) (taken order : List Address) → are_always_apart tree slot taken order ≡ true → (more rest : List Address) → order ≡ more ++ rest → are_apart slot (pending N tree (taken ++ more)) ≡ true
  apart_at tree slot taken [] e [] rest f = subst (λ z. are_apart slot (pending N tree z) ≡ true) (sym (append-nil taken)) e
  apart_at tree slot taken [] e (x ∷ more) rest f = absurd cc
  apart_at tree slot taken (v ∷ order) e [] rest f = subst (λ z. are_apart slot (pending N tree z) ≡ true) (sym (append-nil taken)) (both (are_apart slot (pending N tree taken)) (are_always_apart tree slot (taken ++ v ∷ []) order) e).0
  apart_at tree slot taken (v ∷ order) e (x ∷ more) rest f =
      let h = both (are_apart slot (pending N tree taken)) (are_always_apart tree slot (taken ++ v ∷ []) order) e in
      let g : v ≡ x = cc in
      subst (λ z. are_apart slot (pending N tree z) ≡ true) (append_assoc taken (x ∷ []) more) (subst (λ z. are_apart slot (pending N tree ((taken ++ z ∷ []) ++ more)) ≡ true) g (apart_at tree slot (taken ++ v ∷ []) order h.1 more rest cc))

  pub spells_by : (b : ℕ) (top : N.Work) (acts : List (Act N)) (tree : Tree N) (order : List Address) (slot : Address → ℕ)
      → IsFront N top tree order → slot [] ≡ 1 → is_spelling b tree order slot ≡ true → AreActs N tree slot order acts → Spells N b top acts tree order slot
  spells_by b top acts tree order slot front root e spelled =
      let (ranges, rest) = both (are_in_range b tree slot) (list_all keeps nodes && are_always_apart tree slot [] order) e in
      let (heirs, always) = both (list_all keeps nodes) (are_always_apart tree slot [] order) rest in
      record {
        front = front;
        root = root;
        range = λ p a. (let h = both (nat_le 1 (slot p)) (nat_le (slot p) b) (all_to (λ p. nat_le 1 (slot p) && nat_le (slot p) b) nodes ranges p (lists_address N tree p a)) in (le_to 1 (slot p) h.0, le_to (slot p) b h.1));
        heirs = λ p m i f h. keeps_heir p m i f h (all_to keeps nodes heirs p (lists_address N tree p (used m, f)));
        apart = λ taken rest f u v a c g. apart_to slot (pending N tree taken) (apart_at tree slot [] order always taken rest f) u v ((pending_iff N tree taken u).1 a) ((pending_iff N tree taken v).1 c) g;
        spelled = spelled;
      }
    where
      nodes : List Address
      nodes = nodes_at N [] tree

      keeps : Address → Bool
      keeps p = keeps_slot slot p (label_at N tree p)

      keeps_heir : (p : Address) (m : N.Method) (i : ℕ) → label_at N tree p ≡ Some (used m) → N.heir m ≡ Some i → keeps_slot slot p (label_at N tree p) ≡ true → slot (i ∷ p) ≡ slot p
      keeps_heir p m i f h k =
          let a : keeps_slot slot p (Some (used m)) ≡ true = subst (λ z. keeps_slot slot p z ≡ true) f k in
          let c : keeps_slot_by slot p (Some i) ≡ true = subst (λ z. keeps_slot_by slot p z ≡ true) h a in
          equal_to (slot (i ∷ p)) (slot p) c

  -- never more than b pending
  abbrev pub are_within : ℕ → Tree N → List Address → List Address → Bool
  are_within b tree taken [] = nat_le (length (pending N tree taken)) b
  are_within b tree taken (v ∷ rest) = nat_le (length (pending N tree taken)) b && are_within b tree (taken ++ v ∷ []) rest

  within_at : (b : ℕ) (tree : Tree N) (taken order : List Address) → are_within b tree taken order ≡ true → (more rest : List Address) → order ≡ more ++ rest → length (pending N tree (taken ++ more)) ≤ b
  within_at b tree taken [] e [] rest f = subst (λ z. length (pending N tree z) ≤ b) (sym (append-nil taken)) (le_to (length (pending N tree taken)) b e)
  within_at b tree taken [] e (x ∷ more) rest f = absurd cc
  within_at b tree taken (v ∷ order) e [] rest f = subst (λ z. length (pending N tree z) ≤ b) (sym (append-nil taken)) (le_to (length (pending N tree taken)) b (both (nat_le (length (pending N tree taken)) b) (are_within b tree (taken ++ v ∷ []) order) e).0)
  within_at b tree taken (v ∷ order) e (x ∷ more) rest f =
      let h = both (nat_le (length (pending N tree taken)) b) (are_within b tree (taken ++ v ∷ []) order) e in
      let g : v ≡ x = cc in
      subst (λ z. length (pending N tree z) ≤ b) (append_assoc taken (x ∷ []) more) (subst (λ z. length (pending N tree ((taken ++ z ∷ []) ++ more)) ≤ b) g (within_at b tree (taken ++ v ∷ []) order h.1 more rest cc))

  pub within_by : (b : ℕ) (tree : Tree N) (order : List Address) → are_within b tree [] order ≡ true → IsWithin N b tree order
  within_by b tree order e = (within_iff N b tree order).1 (λ taken rest f. within_at b tree [] order e taken rest f)
