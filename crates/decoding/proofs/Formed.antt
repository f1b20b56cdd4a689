-- What is spelled is formed.
use Rattle.std.proofs.Common.{ℕ, ◌≡◌, ◌≤◌, List, [], ◌∷◌, ◌++◌, length, ap, sym, subst, ◌∙◌, Contains, arith}
use Rattle.std.proofs.lemmas.List.{length-map}
use Rattle.plan_model.specs.task_networks.Net.{Net}
use Rattle.plan_model.specs.task_networks.Tree.{Tree, Address, used, ran, IsAddress, IsGrown, done}
use Rattle.plan_model.specs.task_networks.Spelling.{Act, run, apply, others, IsAct, AreActs}
use Rattle.plan_model.proofs.task_networks.Nodes.{grown_at}
use Rattle.slot_machine.proofs.Growth.{done_at}
use Rattle.plan_model.proofs.task_networks.Parents.{child_address}
use Rattle.plan_model.proofs.task_networks.OtherChildren.{rest_cases}
use Rattle.slot_machine.proofs.OtherChildren.{map_cases}
use Rattle.decoding.specs.FailingAct.{IsFormed}
use Rattle.decoding.specs.FailingLaws.{SpelledIsFormed}

module _ (N : Net) where
  pub act_at : (tree : Tree N) (slot : Address → ℕ) (order : List Address) (before rest : List (Act N)) (a : Act N) → AreActs N tree slot order (before ++ a ∷ rest) → (p : Address) × IsAct N tree slot p a
  act_at tree slot [] [] rest a h = absurd h
  act_at tree slot [] (c ∷ before) rest a h = absurd h
  act_at tree slot (p ∷ order) [] rest a h = (p, h.0)
  act_at tree slot (p ∷ order) (c ∷ before) rest a h = act_at tree slot order before rest a h.1

  module _ (b : ℕ) (tree : Tree N) (slot : Address → ℕ) (grown : IsGrown N tree) (range : (p : Address) → IsAddress N tree p → (1 ≤ slot p) × (slot p ≤ b)) where
    formed_act : (p : Address) (a : Act N) → IsAct N tree slot p a → IsFormed N b a
    formed_act p (run h w) (e, f) = record {
      slot = subst (λ x. (1 ≤ x) × (x ≤ b)) (sym f) (range p (ran w, e));
      new = λ x c. absurd (let k = c.1 in omega arith);
      form = grown_at N tree p (done w) grown (done_at N tree p w e);
    }
    formed_act p (apply h new m) (e, f, g) = record {
      slot = subst (λ x. (1 ≤ x) × (x ≤ b)) (sym f) (range p (used m, e));
      new = λ x c. in_range x (map_cases (λ i. slot (i ∷ p)) (others N m) x (subst (λ z. Contains z x) g c));
      form = ap length g ∙ length-map (others N m) (λ i. slot (i ∷ p));
    }
      where
        in_range : (x : ℕ) → (i : ℕ) × Contains (others N m) i × (slot (i ∷ p) ≡ x) → (1 ≤ x) × (x ≤ b)
        in_range x (i, c, k) = subst (λ z. (1 ≤ z) × (z ≤ b)) k (range (i ∷ p) (child_address N tree p m i grown e ((rest_cases (N.heir m) (length (N.works m)) i).0 c).0))

  pub spelled_is_formed : SpelledIsFormed N
  spelled_is_formed b top before rest a tree order slot s = let (p, h) = act_at tree slot order before rest a s.spelled in formed_act b tree slot s.front.grown s.range p a h
