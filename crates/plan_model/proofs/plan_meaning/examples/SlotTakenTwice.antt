-- A slot that is taken: of m: t -> a, b, with t on top, no front is spelled by a list that names one slot for both children.
use Rattle.std.proofs.Common.{ℕ, zero, suc, ◌≡◌, ◌<◌, ◌^◌, inl, inr, List, [], ◌∷◌, map, length, Some, None, refl, ap, sym, subst, ◌∙◌, ◌++◌, Option, option_map, Contains, arith}
use Rattle.std.specs.Prelude.{codes, drop}
use Rattle.std.proofs.lemmas.Fmt.{decimal_injective}
use Rattle.htn_base.specs.Escapes.{slot_word}
use Rattle.plan_model.specs.declared.steps.GroundAction.{GroundAction}
use Rattle.plan_model.specs.task_networks.Net.{Net}
use Rattle.plan_model.specs.task_networks.Tree.{Tree, split, done, open_leaf, Address, label, label_at, at, used, IsGrown, IsAddress}
use Rattle.plan_model.specs.task_networks.Pending.{IsPending}
use Rattle.plan_model.specs.task_networks.Spelling.{Act, apply, run, others, AreActs, IsAct, Spells}
use Rattle.plan_model.proofs.task_networks.Lists.{not-in_empty, head_or_tail}
use Rattle.plan_model.proofs.task_networks.Nodes.{child_below, grown_at, child_in}
use Rattle.plan_model.proofs.task_networks.ScheduleLaws.{root_stands_first}
use Rattle.plan_model.specs.plan_meaning.Network.{Work, action, check, task, GroundMethod, network}
use Rattle.plan_model.specs.plan_meaning.Solution.{top_work}
use Rattle.plan_model.specs.plan_meaning.SpelledPlan.{step_of, work_name, method_name, object_word, IsSpelling}
use Rattle.plan_model.proofs.plan_meaning.examples.TruthExamples.{first_of}
use Rattle.plan_model.proofs.plan_meaning.examples.Unequal.{less}
use Rattle.plan_model.proofs.plan_meaning.examples.RowWords.{step}
use Rattle.plan_model.proofs.plan_meaning.examples.SlotTakenRow.{two_children}

abbrev N : Net
N = network two_children

-- (htn_start htn_s1) (htn_m_m htn_s1 htn_s1)
abbrev pub taken_steps : List GroundAction
taken_steps = step (codes "htn_start") (codes "htn_s1" ∷ []) ∷ step (codes "htn_m_m") (codes "htn_s1" ∷ codes "htn_s1" ∷ []) ∷ []

-- parts of what is spelled
module _ where
  abbrev word_0 : List (List ℕ) → List ℕ
  word_0 [] = []
  word_0 (v ∷ vs) = v

  abbrev word_1 : List (List ℕ) → List ℕ
  word_1 [] = []
  word_1 (v ∷ vs) = word_0 vs

  abbrev depth : Address → ℕ
  depth = length

  abbrev many : List GroundAction → ℕ
  many = length

  abbrev second : List GroundAction → GroundAction
  second [] = step [] []
  second (x ∷ []) = step [] []
  second (x ∷ y ∷ rest) = y

-- the name htn_m_m is that of method 1 alone
module _ where
  abbrev fifth : List ℕ → ℕ
  fifth [] = 0
  fifth (a ∷ []) = 0
  fifth (a ∷ b ∷ []) = 0
  fifth (a ∷ b ∷ c ∷ []) = 0
  fifth (a ∷ b ∷ c ∷ d ∷ []) = 0
  fifth (a ∷ b ∷ c ∷ d ∷ e ∷ rest) = e

  abbrev size : List ℕ → ℕ
  size = length

  no_work : (w : Work) → codes "htn_m_m" ≡ work_name two_children w → ⊥
  no_work (action zero args) e = less 0 109 (omega arith) (ap fifth e)
  no_work (action (suc zero) args) e = less 0 109 (omega arith) (ap fifth e)
  no_work (action (suc (suc a)) args) e = less 0 109 (omega arith) (ap fifth e)
  no_work (check m values) e = less 99 109 (omega arith) (ap fifth e)
  no_work (task t args) e = less 0 109 (omega arith) (ap fifth e)

  is_one : (n : ℕ) → codes "htn_m_m" ≡ method_name two_children n → n ≡ 1
  is_one zero e = absurd (less 109 115 (omega arith) (sym (ap fifth e)))
  is_one (suc zero) e = refl
  is_one (suc (suc k)) e = absurd (less 6 7 (omega arith) (ap size e))

-- method 1 has two children, the second is the heir
module _ (g : GroundMethod) (one : g.number ≡ 1) where
  others_are : others N g ≡ 0 ∷ []
  others_are = subst (λ n. others N (record { number = n; values = g.values }) ≡ 0 ∷ []) (sym one) refl

  heir_is : N.heir g ≡ Some 1
  heir_is = subst (λ n. N.heir (record { number = n; values = g.values }) ≡ Some 1) (sym one) refl

  count_is : length (N.works g) ≡ 2
  count_is = subst (λ n. length (N.works (record { number = n; values = g.values })) ≡ 2) (sym one) refl

  child_there : (tree : Tree N) (q : Address) → IsGrown N tree → label_at N tree q ≡ Some (used g) → (i : ℕ) → i < 2 → IsAddress N tree (i ∷ q)
  child_there tree q grown e i l = go (at N tree q) refl e
    where
      go : (o : Option (Tree N)) → at N tree q ≡ o → option_map (label N) o ≡ Some (used g) → IsAddress N tree (i ∷ q)
      go None f h = absurd cc
      go (Some (open_leaf w)) f h = absurd cc
      go (Some (done w)) f h = absurd cc
      go (Some (split m ts)) f h =
          let same : m ≡ g = cc in
          let (t, k) = child_in N ts i (omega (arith, ap length (grown_at N tree q (split m ts) grown f).1, count_is, ap (λ z. length (N.works z)) same)) in
          (label N t, ap (option_map (label N)) (child_below N tree i q m ts f ∙ k))

-- no front, whatever its slots are, is spelled by it
module _ (b : ℕ) (small : b < 2 ^ 32) (tree : Tree N) (p q : Address) (slot : Address → ℕ) (h : ℕ) (new : List ℕ) (g : GroundMethod) where
  -- the second act can't be that of m with its own slot for a
  same_slot : (s : (acts : List (Act N)) × Spells N b (top_work two_children) acts tree (p ∷ q ∷ []) slot) → IsAct N tree slot q (apply h new g)
      → step (codes "htn_m_m") (codes "htn_s1" ∷ codes "htn_s1" ∷ []) ≡ step_of two_children (apply h new g) → ⊥
  same_slot s a e = apart (s.1.apart (p ∷ q ∷ []) [] refl (0 ∷ q) (1 ∷ q) (pending 0 (omega arith)) (pending 1 (omega arith)) (sym one_slot ∙ sym (s.1.heirs q g 1 a.0 (heir_is g is_m))))
    where
      is_m : g.number ≡ 1
      is_m = is_one g.number (ap (λ (z : GroundAction). z.name) e)

      there : (i : ℕ) → i < 2 → IsAddress N tree (i ∷ q)
      there = child_there g is_m tree q s.1.front.grown a.0

      words : codes "htn_s1" ∷ codes "htn_s1" ∷ [] ≡ slot_word (slot q) ∷ slot_word (slot (0 ∷ q)) ∷ map (object_word two_children) g.values
      words = subst (λ z. codes "htn_s1" ∷ codes "htn_s1" ∷ [] ≡ slot_word z ∷ slot_word (slot (0 ∷ q)) ∷ map (object_word two_children) g.values) a.1
          (subst (λ z. codes "htn_s1" ∷ codes "htn_s1" ∷ [] ≡ slot_word h ∷ (map slot_word z ++ map (object_word two_children) g.values)) (a.2 ∙ ap (map (λ i. slot (i ∷ q))) (others_are g is_m)) (ap (λ (z : GroundAction). z.args) e))

      one_slot : slot q ≡ slot (0 ∷ q)
      one_slot =
          let x = (s.1.range q (used g, a.0)).1 in
          let y = (s.1.range (0 ∷ q) (there 0 (omega arith))).1 in
          decimal_injective (slot q) (slot (0 ∷ q)) (omega arith) (omega arith) (ap (drop 5) (sym (ap word_0 words) ∙ ap word_1 words))

      not_listed : (i : ℕ) → Contains (p ∷ q ∷ []) (i ∷ q) → ⊥
      not_listed i c = elim (head_or_tail p (q ∷ []) (i ∷ q) c) [
        | inl f ↦ (let r = root_stands_first N tree (p ∷ q ∷ []) p (q ∷ []) s.1.front.schedule refl in let k : [] ≡ i ∷ q = sym r ∙ f in absurd cc)
        | inr d ↦ elim (head_or_tail q [] (i ∷ q) d) [ inl f ↦ longer q (ap depth f) | inr d ↦ not-in_empty (i ∷ q) d ]
      ]
        where
          longer : (q : Address) → length q ≡ suc (length q) → ⊥
          longer q f = omega arith

      pending : (i : ℕ) → i < 2 → IsPending N tree (p ∷ q ∷ []) (i ∷ q)
      pending i l = record { address = there i l; begun = (1, omega arith, refl); left = not_listed i }

      apart : 0 ∷ q ≡ 1 ∷ q → ⊥
      apart f = less 0 1 (omega arith) (sym (ap first_of f))

pub no_spelling : (b : ℕ) → b < 2 ^ 32 → (tree : Tree N) (order : List Address) (slot : Address → ℕ) → IsSpelling two_children b taken_steps tree order slot → ⊥
no_spelling b small tree order slot (acts, s, e) = go order acts e s s.spelled
  where
    at : (order : List Address) (x y : Act N) → Spells N b (top_work two_children) (x ∷ y ∷ []) tree order slot → AreActs N tree slot order (x ∷ y ∷ []) → step (codes "htn_m_m") (codes "htn_s1" ∷ codes "htn_s1" ∷ []) ≡ step_of two_children y → ⊥
    at [] x y s a e = a
    at (p ∷ []) x y s a e = a.1
    at (p ∷ q ∷ r ∷ order) x y s a e = a.1.1
    at (p ∷ q ∷ []) x (run h w) s a e = no_work w (ap (λ (z : GroundAction). z.name) e)
    at (p ∷ q ∷ []) x (apply h new g) s a e = same_slot b small tree p q slot h new g (x ∷ apply h new g ∷ [], s) a.1.0 e

    go : (order : List Address) (acts : List (Act N)) → taken_steps ≡ map (step_of two_children) acts → Spells N b (top_work two_children) acts tree order slot → AreActs N tree slot order acts → ⊥
    go order [] e s a = less 0 2 (omega arith) (ap many e)
    go order (x ∷ []) e s a = less 1 2 (omega arith) (ap many e)
    go order (x ∷ y ∷ []) e s a = at order x y s a (ap second e)
    go order (x ∷ y ∷ z ∷ acts) e s a = let f : 2 ≡ suc (suc (suc (length (map (step_of two_children) acts)))) = ap many e in omega arith
