-- Spellings and executions, worked out.
use Rattle.std.proofs.Common.{ℕ, zero, suc, ◌≡◌, ◌⊎◌, inr, List, [], ◌∷◌, refl, sym, subst, arith}
use Rattle.plan_model.specs.task_networks.Tree.{Tree, split, more, done, none, Address, ran, used, Label}
use Rattle.plan_model.specs.task_networks.Front.{IsFront}
use Rattle.plan_model.specs.task_networks.Executable.{IsExecutableOrder, AreLabels, AreAllowed}
use Rattle.plan_model.specs.task_networks.Spelling.{Act, apply, run, Spells}
use Rattle.plan_model.proofs.task_networks.examples.Nets.{tail, tail_t, again, tail_a, stop, tail_precedes, tail_decides, fork, fork_b, fork_a}
use Rattle.plan_model.proofs.task_networks.PendingNodes.{pending_iff}
use Rattle.plan_model.proofs.task_networks.SpellingTests.{spells_by}
use Rattle.plan_model.proofs.task_networks.Tests.{schedule_iff}

-- t -> a < t, and t -> without children: t, then a, then t once more
module _ where
  abbrev tail_tree : Tree tail
  tail_tree = split again (more (done tail_a) (more (split stop none) none))

  abbrev tail_order : List Address
  tail_order = [] ∷ (0 ∷ []) ∷ (1 ∷ []) ∷ []

  front : IsFront tail tail_t tail_tree tail_order
  front = record { grown = (tt, refl, (tt, ((tt, refl, tt), tt))); root = refl; schedule = (schedule_iff tail tail_precedes tail_decides tail_tree tail_order).0 refl }

  -- the second t is the heir and stays in slot 1, a gets slot 2
  abbrev tail_slot : Address → ℕ
  tail_slot [] = 1
  tail_slot (zero ∷ p) = 2
  tail_slot (suc i ∷ p) = 1

  abbrev tail_acts : List (Act tail)
  tail_acts = apply 1 (2 ∷ []) again ∷ run 2 tail_a ∷ apply 1 [] stop ∷ []

  spelled : Spells tail 2 tail_t tail_acts tail_tree tail_order tail_slot
  spelled = spells_by tail 2 tail_t tail_acts tail_tree tail_order tail_slot front refl refl ((refl, refl, refl), ((refl, refl), ((refl, refl, refl), tt)))

  -- one slot isn't enough, since a and t are pending together
  not_in_one : (acts : List (Act tail)) (slot : Address → ℕ) → Spells tail 1 tail_t acts tail_tree tail_order slot → ⊥
  not_in_one acts slot s = apart (0 ∷ []) refl (s.apart ([] ∷ []) ((0 ∷ []) ∷ (1 ∷ []) ∷ []) refl (0 ∷ []) (1 ∷ [])
      ((pending_iff tail tail_tree ([] ∷ []) (0 ∷ [])).0 (0, omega arith, refl)) ((pending_iff tail tail_tree ([] ∷ []) (1 ∷ [])).0 (1, omega arith, refl)) same)
    where
      same : slot (0 ∷ []) ≡ slot (1 ∷ [])
      same =
          let a = s.range (0 ∷ []) (ran tail_a, refl) in
          let t = s.range (1 ∷ []) (used stop, refl) in
          let x = a.0 in let y = a.1 in let z = t.0 in let w = t.1 in omega arith

      apart : (p : Address) → 0 ∷ [] ≡ p → p ≡ 1 ∷ [] → ⊥
      apart p e f = absurd cc

  -- the heir keeps its task's slot
  not_for_the_heir : (slot : Address → ℕ) → Spells tail 2 tail_t (apply 1 (1 ∷ []) again ∷ run 1 tail_a ∷ apply 2 [] stop ∷ []) tail_tree tail_order slot → ⊥
  not_for_the_heir slot s =
      let a = s.heirs [] again 1 refl refl in
      let b = s.root in
      let c = s.spelled.1.1.0.1 in omega arith

-- t -> a, b, where b needs what a makes: a state says whether a has run
module _ where
  abbrev Fact : Type 1
  Fact = ℕ → Type 0

  abbrev Needs : Fact → Label fork → Type 0
  Needs s (ran fork_b) = s 0
  Needs s l = Unit {0}

  abbrev made : Fact → Label fork → Fact
  made s (ran fork_a) = λ x. s x ⊎ (x ≡ 0)
  made s l = s

  abbrev nothing : Fact
  nothing x = ⊥

  abbrev both_done : Tree fork
  both_done = split tt (more (done fork_a) (more (done fork_b) none))

  a_then_b : IsExecutableOrder fork Fact Needs made nothing both_done ([] ∷ (0 ∷ []) ∷ (1 ∷ []) ∷ [])
  a_then_b = record { labels = used tt ∷ ran fork_a ∷ ran fork_b ∷ []; are_labels = (refl, (refl, (refl, tt))); allowed = (tt, (tt, (inr refl, tt))) }

  not_b_then_a : IsExecutableOrder fork Fact Needs made nothing both_done ([] ∷ (1 ∷ []) ∷ (0 ∷ []) ∷ []) → ⊥
  not_b_then_a e = go e.labels e.are_labels e.allowed
    where
      go : (ls : List (Label fork)) → AreLabels fork both_done ([] ∷ (1 ∷ []) ∷ (0 ∷ []) ∷ []) ls → AreAllowed fork Fact Needs made nothing ls → ⊥
      go [] h a = h
      go (l ∷ []) h a = h.1
      go (l ∷ k ∷ ls) h a =
          let f : used tt ≡ l = (let g = h.0 in cc) in
          let d : ran fork_b ≡ k = (let g = h.1.0 in cc) in
          subst (λ z. Needs nothing z) (sym d) (subst (λ z. Needs (made nothing z) k) (sym f) a.1.0)
