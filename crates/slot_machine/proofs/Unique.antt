-- A list of acts spells one front only.
use Rattle.std.proofs.Common.{ℕ, ◌≡◌, ◌+◌, ◌<◌, ◌⊎◌, inl, inr, List, [], ◌∷◌, ◌++◌, length, Some, slice_index, ap, sym, subst, ◌∙◌, arith}
use Rattle.std.proofs.lemmas.Option.{slice_get_within}
use Rattle.plan_model.specs.task_networks.Net.{Net, count}
use Rattle.plan_model.specs.task_networks.Lawful.{IsLawful}
use Rattle.plan_model.specs.task_networks.Tree.{Tree, Address, open_leaf, label_at, used, IsOpen, waits, IsAddress}
use Rattle.plan_model.specs.task_networks.Spelling.{Act, label_of, IsAct, run, apply, AreActs, Spells}
use Rattle.plan_model.proofs.task_networks.Lists.{push_same, by_push, last_cases}
use Rattle.slot_machine.proofs.FrontSteps.{address_back, child_waits}
use Rattle.slot_machine.proofs.Growth.{child_works}
use Rattle.slot_machine.proofs.LabelTrees.{tree_of, work_at, leaf_only}
use Rattle.slot_machine.proofs.OtherChildren.{index-map_numbers}
use Rattle.slot_machine.proofs.Replaced.{put, put-put, put_back}
use Rattle.slot_machine.proofs.RunSpellings.{slots_of, Agree}
use Rattle.slot_machine.proofs.SpellingRuns.{LastStep, act_slots, first_tree, last_step}
use Rattle.slot_machine.proofs.SpellingSteps.{open_slots_apart, act_label, slot_of, no_order}

module _ (N : Net) (law : IsLawful N) (b : ℕ) (top : N.Work) where
  -- the grown tree is made from the one before
  rebuilt : (acts' : List (Act N)) (tree' : Tree N) (order : List Address) (p : Address) (slot : Address → ℕ) (d : LastStep N b top acts' tree' order p slot) → put N d.tree p (tree_of N (label_of N d.act)) ≡ tree'
  rebuilt acts' tree' order p slot d =
      let l = label_of N d.act in
      ap (λ x. put N x p (tree_of N l)) d.is_put ∙ put-put N tree' p (tree_of N l) (open_leaf (work_at N l)) (tree_of N l) d.is_at ∙ put_back N tree' p (tree_of N l) d.is_at

  -- the children's slots are those that the act names
  act_child : (tree : Tree N) (slot : Address → ℕ) (p : Address) (e : Act N) (i : ℕ) → ((m : N.Method) (k : ℕ) → label_at N tree p ≡ Some (used m) → N.heir m ≡ Some k → slot (k ∷ p) ≡ slot p) → IsAct N tree slot p e → i < length (child_works N (label_of N e)) → slice_index (slots_of N e) i ≡ slot (i ∷ p)
  act_child tree slot p (run h w) i heirs x r = absurd (omega arith)
  act_child tree slot p (apply h new m) i heirs x r =
      ap (λ z. slice_index z i) (act_slots N law tree slot p h new m (λ k. heirs m k x.0) x)
      ∙ index-map_numbers (λ k. slot (k ∷ p)) 0 (count N m) i r
      ∙ ap (λ z. slot (z ∷ p)) (let e : 0 + i ≡ i = omega arith in e)

  some_order : (acts : List (Act N)) (e : Act N) (tree : Tree N) (order : List Address) (slot : Address → ℕ) → AreActs N tree slot order (acts ++ e ∷ []) → (order ≡ []) ⊎ ((ys : List Address) × (y : Address) × (order ≡ ys ++ y ∷ [])) → (ys : List Address) × (y : Address) × (order ≡ ys ++ y ∷ [])
  some_order [] e tree order slot h (inl x) = absurd (subst (λ z. AreActs N tree slot z (e ∷ [])) x h)
  some_order (d ∷ acts) e tree order slot h (inl x) = absurd (subst (λ z. AreActs N tree slot z (d ∷ (acts ++ e ∷ []))) x h)
  some_order acts e tree order slot h (inr x) = x

  abbrev Same : Tree N → List Address → (Address → ℕ) → Tree N → List Address → (Address → ℕ) → Type 0
  Same t o f t' o' f' = (t' ≡ t) × (o' ≡ o) × Agree N t f f'

  abbrev U : List (Act N) → Type 0
  U acts = (t : Tree N) (o : List Address) (f : Address → ℕ) (t' : Tree N) (o' : List Address) (f' : Address → ℕ) → Spells N b top acts t o f → Spells N b top acts t' o' f' → Same t o f t' o' f'

  -- one more step
  grown_same : (acts : List (Act N)) (e : Act N) → U acts → (t : Tree N) (o : List Address) (p : Address) (f : Address → ℕ) (t' : Tree N) (o' : List Address) (p' : Address) (f' : Address → ℕ) → Spells N b top (acts ++ e ∷ []) t (o ++ p ∷ []) f → Spells N b top (acts ++ e ∷ []) t' (o' ++ p' ∷ []) f' → LastStep N b top (acts ++ e ∷ []) t o p f → LastStep N b top (acts ++ e ∷ []) t' o' p' f' → Same t (o ++ p ∷ []) f t' (o' ++ p' ∷ []) f'
  grown_same acts e ih t o p f t' o' p' f' whole whole' d d' = (trees, ap (λ x. o' ++ x ∷ []) ways ∙ ap (λ x. x ++ p ∷ []) h.1, agree)
    where
      s : (acts ≡ d.acts) × (e ≡ d.act)
      s = push_same acts d.acts e d.act d.is

      s' : (acts ≡ d'.acts) × (e ≡ d'.act)
      s' = push_same acts d'.acts e d'.act d'.is

      sp : Spells N b top acts d.tree o f
      sp = subst (λ x. Spells N b top x d.tree o f) (sym s.0) d.before

      h : Same d.tree o f d'.tree o' f'
      h = ih d.tree o f d'.tree o' f' sp (subst (λ x. Spells N b top x d'.tree o' f') (sym s'.0) d'.before)

      at_p : IsOpen N d.tree p
      at_p = (work_at N (label_of N d.act), d.growth.was)

      at_p' : IsOpen N d.tree p'
      at_p' = (work_at N (label_of N d'.act), subst (λ x. label_at N x p' ≡ Some (waits (work_at N (label_of N d'.act)))) h.0 d'.growth.was)

      ways : p' ≡ p
      ways = open_slots_apart N b top acts d.tree o f sp p' p at_p' at_p
          (sym (h.2 p' (waits at_p'.0, at_p'.1)) ∙ sym (act_label N t' f' p' d'.act d'.is_act).1 ∙ ap (slot_of N) (sym s'.1 ∙ s.1) ∙ (act_label N t f p d.act d.is_act).1)

      trees : t' ≡ t
      trees = sym (rebuilt (acts ++ e ∷ []) t' o' p' f' d')
          ∙ ap (λ x. put N d'.tree p' (tree_of N (label_of N x))) (sym s'.1 ∙ s.1)
          ∙ ap (λ x. put N x p' (tree_of N (label_of N d.act))) h.0
          ∙ ap (λ x. put N d.tree x (tree_of N (label_of N d.act))) ways
          ∙ rebuilt (acts ++ e ∷ []) t o p f d

      agree : Agree N t f f'
      agree q a = go (address_back N d.tree t p (work_at N (label_of N d.act)) (label_of N d.act) d.growth q a)
        where
          child : (i : ℕ) → IsAddress N t (i ∷ p) → f' (i ∷ p) ≡ f (i ∷ p)
          child i (k, x) =
              let y = child_waits N d.tree t p (work_at N (label_of N d.act)) (label_of N d.act) d.growth i k x in
              let r : i < length (child_works N (label_of N d.act)) = slice_get_within (child_works N (label_of N d.act)) i y.0 y.2 in
              let r' : i < length (child_works N (label_of N d'.act)) = subst (λ z. i < length (child_works N (label_of N z))) (sym s.1 ∙ s'.1) r in
              ap (λ z. f' (i ∷ z)) (sym ways) ∙ sym (act_child t' f' p' d'.act i (whole'.heirs p') d'.is_act r') ∙ ap (λ z. slice_index (slots_of N z) i) (sym s'.1 ∙ s.1) ∙ act_child t f p d.act i (whole.heirs p) d.is_act r

          go : IsAddress N d.tree q ⊎ ((i : ℕ) × (q ≡ i ∷ p)) → f' q ≡ f q
          go (inl x) = h.2 q x
          go (inr (i, x)) = subst (λ z. f' z ≡ f z) (sym x) (child i (subst (IsAddress N t) x a))

  pub one_front : (acts : List (Act N)) → U acts
  one_front = by_push U none more
    where
      none : U []
      none t o f t' o' f' s s' =
          let x = no_order N t f o s.spelled in
          let x' = no_order N t' f' o' s'.spelled in
          let y : t ≡ open_leaf top = first_tree N law b top [] t f (subst (λ z. Spells N b top [] t z f) x s) in
          let y' : t' ≡ open_leaf top = first_tree N law b top [] t' f' (subst (λ z. Spells N b top [] t' z f') x' s') in
          (y' ∙ sym y, x' ∙ sym x, λ q a. root q (subst (λ z. IsAddress N z q) y a))
        where
          root : (q : Address) → IsAddress N (open_leaf top) q → f' q ≡ f q
          root q (l, e) = subst (λ z. f' z ≡ f z) (sym (leaf_only N top l q e).0) (s'.root ∙ sym s.root)

      more : (acts : List (Act N)) (e : Act N) → U acts → U (acts ++ e ∷ [])
      more acts e ih t o f t' o' f' s s' =
          let (ys, y, c) = some_order acts e t o f s.spelled (last_cases o) in
          let (ys', y', c') = some_order acts e t' o' f' s'.spelled (last_cases o') in
          let d = last_step N b top (acts ++ e ∷ []) t ys y f (subst (λ z. Spells N b top (acts ++ e ∷ []) t z f) c s) in
          let d' = last_step N b top (acts ++ e ∷ []) t' ys' y' f' (subst (λ z. Spells N b top (acts ++ e ∷ []) t' z f') c' s') in
          let r = grown_same acts e ih t ys y f t' ys' y' f' (subst (λ z. Spells N b top (acts ++ e ∷ []) t z f) c s) (subst (λ z. Spells N b top (acts ++ e ∷ []) t' z f') c' s') d d' in
          (r.0, c' ∙ r.1 ∙ sym c, r.2)
