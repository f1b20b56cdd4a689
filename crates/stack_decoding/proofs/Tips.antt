-- What is at the tip of a front is what waits for none; a method there has its new cells above it, which hold nothing.
use Rattle.std.proofs.Common.{ℕ, ◌≡◌, ◌+◌, ◌<◌, inl, inr, List, Some, ap, sym, subst, ◌∙◌, Contains, arith}
use Rattle.std.proofs.Math.Decide.{ℕ_discrete}
use Rattle.htn_base.specs.Different.{AreDifferent}
use Rattle.plan_model.specs.declared.values.Compiled.{Compiled}
use Rattle.plan_model.specs.task_networks.Lawful.{IsLawful}
use Rattle.plan_model.specs.task_networks.Net.{count}
use Rattle.plan_model.specs.task_networks.Tree.{Tree, Address}
use Rattle.plan_model.specs.task_networks.Spelling.{Act, run, apply, others}
use Rattle.plan_model.specs.plan_meaning.Network.{Work, GroundMethod, network}
use Rattle.plan_model.specs.plan_meaning.Solution.{top_work}
use Rattle.plan_model.proofs.task_networks.Lists.{not-in_empty}
use Rattle.plan_model.proofs.task_networks.OtherChildren.{rest_cases, different_rest}
use Rattle.slot_machine.specs.Reached.{HasLeaf}
use Rattle.slot_machine.proofs.OtherChildren.{different-map}
use Rattle.stack_machine.specs.Stack.{IsTotal, AreCellsFrom, behind}
use Rattle.stack_machine.specs.StackMachine.{SpellsCells}
use Rattle.stack_machine.specs.StackLaws.{TipIsTold}
use Rattle.stack_machine.proofs.Heights.{line_of, is_line, high, heights, high_of, heir_lowest}
use Rattle.stack_machine.proofs.StackPlans.{cells_tell_tip}
use Rattle.decoding.specs.FailingAct.{slot_in, new_in, WaitsAt, IsSlotTaken}
use Rattle.stack_decoding.specs.StackSteps.{HasCells, HoldsAtTip}
use Rattle.stack_decoding.specs.StackStepLaws.{HasStackWords}
use Rattle.stack_decoding.proofs.CellSteps.{new_by_line}

module _ (c : Compiled) (b : ℕ) (words : HasStackWords c b) (law : IsLawful (network c)) (total : IsTotal (network c)) (acts : List (Act (network c))) (tree : Tree (network c)) (order : List Address)
    (cell : Address → ℕ) (sp : SpellsCells (network c) b (top_work c) acts tree order cell) where
  told : (tip : ℕ) × TipIsTold (network c) tree order cell tip
  told = cells_tell_tip (network c) law total (top_work c) tree order cell sp.spells.front sp.cells

  at_tip : (h : ℕ) (w : Work) → HoldsAtTip c b tree cell h w → h ≡ told.0
  at_tip h w t =
      let (p, e, f) = t.holds in
      let (low, high) = told.1.tells.range p (w, e) in
      let (q, o, g) = told.1.tells.full told.0 (omega arith) (omega arith) in
      let top = t.highest q o in
      omega arith

  pub not_waiting : (h : ℕ) (w : Work) → HoldsAtTip c b tree cell h w → WaitsAt (network c) tree cell h → ⊥
  not_waiting h w t (p, o, e, waits) = (told.1.unblocked p o).1 (e ∙ at_tip h w t) waits

  pub from_leaf : (h : ℕ) (w : Work) → HasLeaf (network c) tree cell h w → (WaitsAt (network c) tree cell h → ⊥) → HoldsAtTip c b tree cell h w
  from_leaf h w (p, e, f) free = record { holds = (p, e, f); highest = λ q o. (let y = at in let z = (told.1.tells.range q o).1 in omega arith) }
    where
      at : cell p ≡ told.0
      at = (told.1.unblocked p (w, e)).0 (λ waits. free (p, (w, e), f, waits))

  -- a method's new cells lie above its own
  above : (h : ℕ) (new : List ℕ) (g : GroundMethod) → AreCellsFrom (network c) h g new → (x : ℕ) → Contains new x → h < x
  above h new g r x k =
      let (i, m, e) = new_by_line c b words total h new g r x k in
      let (l, n) = (rest_cases ((network c).heir g) (count (network c) g) i).0 m in
      let (j, is) = law.has_heir g (omega arith) in
      let lowest = heir_lowest (network c) total g j is in
      elim (ℕ_discrete (high (network c) total g i) 0) [
        | yes z ↦ absurd (n (is ∙ ap Some ((heights (network c) total g).apart j i (law.heir_is_child g j is) l (lowest ∙ sym z))))
        | no z ↦ omega arith
      ]

  apart : (h : ℕ) (new : List ℕ) (g : GroundMethod) → AreCellsFrom (network c) h g new → AreDifferent new
  apart h new g r = subst AreDifferent (sym (r (line_of (network c) total g) (is_line (network c) total g)))
      (different-map (λ i. h + behind (line_of (network c) total g) i) (others (network c) g) (different_rest ((network c).heir g) (count (network c) g)) one)
    where
      one : (i j : ℕ) → Contains (others (network c) g) i → Contains (others (network c) g) j → h + behind (line_of (network c) total g) i ≡ h + behind (line_of (network c) total g) j → i ≡ j
      one i j d e f = (heights (network c) total g).apart i j ((rest_cases ((network c).heir g) (count (network c) g) i).0 d).0 ((rest_cases ((network c).heir g) (count (network c) g) j).0 e).0
          (let y = high_of (network c) total g (line_of (network c) total g) (is_line (network c) total g) i in let z = high_of (network c) total g (line_of (network c) total g) (is_line (network c) total g) j in omega arith)

  -- so that none is taken
  pub not_taken : (a : Act (network c)) (w : Work) → HasCells c a → HoldsAtTip c b tree cell (slot_in (network c) a) w → IsSlotTaken (network c) tree cell (new_in (network c) a) → ⊥
  not_taken (run h v) w r t (inl (p, o, k)) = not-in_empty (cell p) k
  not_taken (run h v) w r t (inr d) = d tt
  not_taken (apply h new g) w r t (inl (p, o, k)) =
      let up = above h new g r (cell p) k in
      let low = t.highest p o in
      omega arith
  not_taken (apply h new g) w r t (inr d) = d (apart h new g r)
