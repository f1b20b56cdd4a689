-- A front has at most one list that spells it and is picked.
use Rattle.std.proofs.Common.{ℕ, ◌≡◌, List, [], ◌∷◌, ◌++◌, refl, ap, sym, subst, ◌∙◌}
use Rattle.plan_model.specs.task_networks.Net.{Net}
use Rattle.plan_model.specs.task_networks.Lawful.{IsLawful}
use Rattle.plan_model.specs.task_networks.Tree.{Tree, Address, open_leaf, waits}
use Rattle.plan_model.specs.task_networks.Spelling.{Act, label_of, run, apply, Spells}
use Rattle.plan_model.proofs.task_networks.Lists.{by_push}
use Rattle.slot_machine.specs.Machine.{May, start}
use Rattle.slot_machine.specs.OtherMachine.{TakesAll}
use Rattle.slot_machine.specs.Reached.{SameSlots}
use Rattle.slot_machine.proofs.LabelTrees.{work_at}
use Rattle.slot_machine.proofs.Replaced.{put}
use Rattle.slot_machine.proofs.SpellingRuns.{LastStep, last_step, runs_back, runs_from_spells}
use Rattle.slot_machine.proofs.SpellingSteps.{act_label, slot_of, no_acts}
use Rattle.slot_machine.proofs.Unique.{one_front}
use Rattle.schedules.specs.ruled.Narrowed.{SpellsPicked, PicksOne, after}
use Rattle.schedules.proofs.ruled.TakesPicked.{takes_push}

module _ (N : Net) (law : IsLawful N) (b : ℕ) (top : N.Work) (acts : List (Act N)) (a : Act N) where
  -- the last act of a spelled front may be taken after those before it
  pub may_last : (tree : Tree N) (order : List Address) (slot : Address → ℕ) → Spells N b top (acts ++ a ∷ []) tree order slot
      → May N (after N b top acts) a
  may_last tree order slot s = (runs_back N (start N b top) acts a (runs_from_spells N law b top order (acts ++ a ∷ []) tree slot s).0).1

module _ (N : Net) (law : IsLawful N) (Picks : List (Act N) → Act N → Type 0) (b : ℕ) (top : N.Work) (one : PicksOne N Picks b top) where
  abbrev U : List Address → Type 0
  U order = (tree : Tree N) (acts other : List (Act N)) (slot other_slot : Address → ℕ)
      → SpellsPicked N Picks b top acts tree order slot → SpellsPicked N Picks b top other tree order other_slot → acts ≡ other

  last_same : (order : List Address) (p : Address) → U order → (tree : Tree N) (acts other : List (Act N)) (slot other_slot : Address → ℕ)
      → SpellsPicked N Picks b top acts tree (order ++ p ∷ []) slot → SpellsPicked N Picks b top other tree (order ++ p ∷ []) other_slot
      → LastStep N b top acts tree order p slot → LastStep N b top other tree order p other_slot → acts ≡ other
  last_same order p ih tree acts other slot other_slot s s' d d' = d.is ∙ ap (λ x. x ++ d.act ∷ []) before ∙ ap (λ x. d'.acts ++ x ∷ []) (act d.act d'.act refl refl) ∙ sym d'.is
    where
      labels : label_of N d.act ≡ label_of N d'.act
      labels = let x = (act_label N tree slot p d.act d.is_act).0 in let y = (act_label N tree other_slot p d'.act d'.is_act).0 in cc

      trees : d'.tree ≡ d.tree
      trees = d'.is_put ∙ ap (λ l. put N tree p (open_leaf (work_at N l))) (sym labels) ∙ sym d.is_put

      whole : SpellsPicked N Picks b top (d.acts ++ d.act ∷ []) tree (order ++ p ∷ []) slot
      whole = subst (λ x. SpellsPicked N Picks b top x tree (order ++ p ∷ []) slot) d.is s

      whole' : SpellsPicked N Picks b top (d'.acts ++ d'.act ∷ []) tree (order ++ p ∷ []) other_slot
      whole' = subst (λ x. SpellsPicked N Picks b top x tree (order ++ p ∷ []) other_slot) d'.is s'

      picked : TakesAll N Picks d.acts × Picks d.acts d.act
      picked = (takes_push N Picks d.acts d.act).0 whole.picked

      picked' : TakesAll N Picks d'.acts × Picks d'.acts d'.act
      picked' = (takes_push N Picks d'.acts d'.act).0 whole'.picked

      first : SpellsPicked N Picks b top d.acts d.tree order slot
      first = record { spells = d.before; picked = picked.0 }

      first' : SpellsPicked N Picks b top d'.acts d.tree order other_slot
      first' = record { spells = subst (λ x. Spells N b top d'.acts x order other_slot) trees d'.before; picked = picked'.0 }

      before : d.acts ≡ d'.acts
      before = ih d.tree d.acts d'.acts slot other_slot first first'

      slots : other_slot p ≡ slot p
      slots = (one_front N law b top d.acts d.tree order slot d.tree order other_slot d.before (subst (λ x. Spells N b top x d.tree order other_slot) (sym before) first'.spells)).2 p (waits (work_at N (label_of N d.act)), d.growth.was)

      at_same : slot_of N d.act ≡ slot_of N d'.act
      at_same = (act_label N tree slot p d.act d.is_act).1 ∙ sym slots ∙ sym (act_label N tree other_slot p d'.act d'.is_act).1

      act : (a c : Act N) → a ≡ d.act → c ≡ d'.act → d.act ≡ d'.act
      act (run h w) (run k v) e f =
          let l : label_of N (run h w) ≡ label_of N (run k v) = ap (label_of N) e ∙ labels ∙ sym (ap (label_of N) f) in
          let x : h ≡ k = ap (slot_of N) e ∙ at_same ∙ sym (ap (slot_of N) f) in
          let y : w ≡ v = cc in
          sym e ∙ ap (λ z. run z w) x ∙ ap (λ z. run k z) y ∙ f
      act (run h w) (apply k new m) e f = let l : label_of N (run h w) ≡ label_of N (apply k new m) = ap (label_of N) e ∙ labels ∙ sym (ap (label_of N) f) in absurd cc
      act (apply h new m) (run k v) e f = let l : label_of N (apply h new m) ≡ label_of N (run k v) = ap (label_of N) e ∙ labels ∙ sym (ap (label_of N) f) in absurd cc
      act (apply h new m) (apply k other n) e f = sym e ∙ ap (λ z. apply z new m) x ∙ ap (λ z. apply k new z) y ∙ ap (λ z. apply k z n) news ∙ f
        where
          x : h ≡ k
          x = ap (slot_of N) e ∙ at_same ∙ sym (ap (slot_of N) f)

          y : m ≡ n
          y = let l : label_of N (apply h new m) ≡ label_of N (apply k other n) = ap (label_of N) e ∙ labels ∙ sym (ap (label_of N) f) in cc

          mine : apply k new n ≡ d.act
          mine = sym (ap (λ z. apply z new n) x) ∙ sym (ap (λ z. apply h new z) y) ∙ e

          may : May N (after N b top d.acts) d.act
          may = may_last N law b top d.acts d.act tree (order ++ p ∷ []) slot whole.spells

          may' : May N (after N b top d'.acts) d'.act
          may' = may_last N law b top d'.acts d'.act tree (order ++ p ∷ []) other_slot whole'.spells

          news : new ≡ other
          news = one d.acts d.tree order slot k new other n first
              (subst (May N (after N b top d.acts)) (sym mine) may)
              (subst (λ z. May N (after N b top z) (apply k other n)) (sym before) (subst (May N (after N b top d'.acts)) (sym f) may'))
              (subst (Picks d.acts) (sym mine) picked.1)
              (subst (λ z. Picks z (apply k other n)) (sym before) (subst (Picks d'.acts) (sym f) picked'.1))

  pub one_list : (order : List Address) → U order
  one_list = by_push U (λ tree acts other slot other_slot s s'. no_acts N tree slot acts s.spells.spelled ∙ sym (no_acts N tree other_slot other s'.spells.spelled))
      (λ order p ih tree acts other slot other_slot s s'. last_same order p ih tree acts other slot other_slot s s' (last_step N b top acts tree order p slot s.spells) (last_step N b top other tree order p other_slot s'.spells))

  pub picked_once : (tree : Tree N) (order : List Address) (acts other : List (Act N)) (slot other_slot : Address → ℕ)
      → SpellsPicked N Picks b top acts tree order slot → SpellsPicked N Picks b top other tree order other_slot
      → (acts ≡ other) × SameSlots N tree slot other_slot
  picked_once tree order acts other slot other_slot s s' =
      let e = one_list order tree acts other slot other_slot s s' in
      (e, (one_front N law b top acts tree order slot tree order other_slot s.spells (subst (λ x. Spells N b top x tree order other_slot) (sym e) s'.spells)).2)
