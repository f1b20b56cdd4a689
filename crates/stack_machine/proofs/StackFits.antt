-- A front's cells are within b exactly where never more than b nodes are pending.
use Rattle.std.proofs.Common.{ℕ, ◌≡◌, ◌<◌, ◌≤◌, ◌⊎◌, ◌↔◌, inl, inr, List, [], ◌∷◌, ◌++◌, length, map, Some, sym, subst, ◌∙◌, Contains, arith}
use Rattle.std.proofs.Math.Decide.{ℕ_discrete}
use Rattle.std.proofs.lemmas.List.{length-map}
use Rattle.std.proofs.lemmas.List.Elements.{Contains-append_left}
use Rattle.htn_base.specs.Different.{AreDifferent}
use Rattle.plan_model.specs.task_networks.Net.{Net, count}
use Rattle.plan_model.specs.task_networks.Lawful.{IsLawful}
use Rattle.plan_model.specs.task_networks.Tree.{Tree, Address, used, waits, label_at, IsAddress, IsOpen}
use Rattle.plan_model.specs.task_networks.Pending.{IsWithin, ArePending}
use Rattle.plan_model.specs.task_networks.Front.{IsFront}
use Rattle.plan_model.specs.task_networks.Spelling.{Act, numbers}
use Rattle.plan_model.proofs.task_networks.Different.{no_more}
use Rattle.plan_model.proofs.task_networks.Lists.{by_push, cut_push_any, Contains-here, Contains-later}
use Rattle.plan_model.proofs.task_networks.Numbers.{length-numbers, to_numbers}
use Rattle.plan_model.proofs.task_networks.Parents.{address_child}
use Rattle.slot_machine.proofs.FrontSteps.{address_grows}
use Rattle.slot_machine.proofs.LabelTrees.{work_at}
use Rattle.slot_machine.proofs.Matching.{parent_used}
use Rattle.slot_machine.proofs.OtherChildren.{map_cases}
use Rattle.slot_machine.proofs.SpellingSteps.{pending_open}
use Rattle.schedules.specs.ruled.Narrowed.{SpellsPicked}
use Rattle.stack_machine.specs.Stack.{IsTotal, AreCells}
use Rattle.stack_machine.proofs.FrontsShrink.{Shrunk, shrink_front}
use Rattle.stack_machine.proofs.Heights.{line_of, is_line}
use Rattle.schedules.proofs.ruled.Following.{pending_iff_grown}
use Rattle.schedules.proofs.ruled.PickedExist.{picked_exactly_where_within}
use Rattle.stack_machine.proofs.StackPicks.{Pick, stack_always, cells_iff_picked}
use Rattle.stack_machine.proofs.StackTells.{HasTip, has_tip, cells_back}

module _ (N : Net) (law : IsLawful N) (total : IsTotal N) where
  child_is : (tree : Tree N) (order : List Address) (top : N.Work) → IsFront N top tree order → (i : ℕ) (p : Address) → IsAddress N tree (i ∷ p) → (m : N.Method) × (label_at N tree p ≡ Some (used m)) × (i < count N m)
  child_is tree order top f i p (l, e) = let (m, g) = parent_used N tree i p l e in (m, g, address_child N tree p m i f.grown g (l, e))

  -- cells are the only ones, on the nodes
  pub one_cells : (top : N.Work) (tree : Tree N) (order : List Address) (cell other : Address → ℕ) → IsFront N top tree order → AreCells N tree cell → AreCells N tree other → (p : Address) → IsAddress N tree p → cell p ≡ other p
  one_cells top tree order cell other f a b [] x = a.root ∙ sym b.root
  one_cells top tree order cell other f a b (i ∷ p) x =
      let (m, g, r) = child_is tree order top f i p x in
      let u = a.children p m i (line_of N total m) g (is_line N total m) r in
      let v = b.children p m i (line_of N total m) g (is_line N total m) r in
      let w = one_cells top tree order cell other f a b p (used m, g) in
      omega arith

  -- no more leaves are open than the tip says
  pub few_open : (tree : Tree N) (cell : Address → ℕ) (tip : ℕ) → HasTip N tree cell tip → (nodes : List Address) → AreDifferent nodes → ((p : Address) → Contains nodes p → IsOpen N tree p) → length nodes ≤ tip
  few_open tree cell tip h nodes d o =
      let k = length-map nodes cell in
      let l = no_more (map cell nodes) (numbers 1 tip) (different_cells nodes d o) (λ x c. (let (q, y, e) = map_cases cell nodes x c in let r = h.range q (o q y) in let r0 = r.0 in let r1 = r.1 in to_numbers 1 tip x (omega arith) (omega arith))) in
      let j = length-numbers 1 tip in
      omega arith
    where
      different_cells : (qs : List Address) → AreDifferent qs → ((q : Address) → Contains qs q → IsOpen N tree q) → AreDifferent (map cell qs)
      different_cells [] d o = tt
      different_cells (q ∷ qs) d o = (
        λ c. (let (v, k, e) = map_cases cell qs (cell q) c in d.0 (subst (Contains qs) (h.apart v q (o v (Contains-later q qs v k)) (o q (Contains-here q qs)) e) k)),
        different_cells qs d.1 (λ v k. o v (Contains-later q qs v k)),
      )

  module _ (b : ℕ) (top : N.Work) where
    abbrev AreLow : Tree N → (Address → ℕ) → Type 0
    AreLow tree cell = (p : Address) → IsAddress N tree p → cell p ≤ b

    abbrev W : List Address → Type 0
    W order = (tree : Tree N) (cell : Address → ℕ) → IsFront N top tree order → AreCells N tree cell → AreLow tree cell → IsWithin N b tree order

    -- after the whole order
    at_end : (order : List Address) (tree : Tree N) (cell : Address → ℕ) → IsFront N top tree order → AreCells N tree cell → AreLow tree cell → (nodes : List Address) → ArePending N tree order nodes → length nodes ≤ b
    at_end order tree cell f c low nodes d =
        let (tip, h) = has_tip N total top order tree cell f c in
        let few = few_open tree cell tip h nodes d.different (λ p k. pending_open N tree order p f.schedule (d.pending p k)) in
        elim (ℕ_discrete tip 0) [
          | yes e ↦ omega arith
          | no e ↦ (let (p, o, g) = h.full tip (omega arith) (omega arith) in let r = low p (waits o.0, o.1) in omega arith)
        ]

    within : (order : List Address) → W order
    within = by_push W none more
      where
        none : W []
        none tree cell f c low [] rest nodes e d = at_end [] tree cell f c low nodes d
        none tree cell f c low (x ∷ taken) rest nodes e d = absurd cc

        more : (order : List Address) (p : Address) → W order → W (order ++ p ∷ [])
        more order p ih tree' cell f c low taken rest nodes e d = go (cut_push_any order p taken rest e)
          where
            s : Shrunk N top tree' order p
            s = shrink_front N top tree' order p f

            go : ((rest' : List Address) × (order ≡ taken ++ rest')) ⊎ (taken ≡ order ++ p ∷ []) → length nodes ≤ b
            go (inr x) = at_end (order ++ p ∷ []) tree' cell f c low nodes (subst (λ z. ArePending N tree' z nodes) x d)
            go (inl (r, x)) =
                let n : Contains taken p → ⊥ = λ k. s.due.fresh (subst (λ z. Contains z p) (sym x) (Contains-append_left taken r p k)) in
                ih s.tree cell s.front (cells_back N total s.tree tree' p (work_at N s.label) s.label s.growth cell c) (λ q a. low q (address_grows N s.tree tree' p (work_at N s.label) s.label s.growth q a)) taken r nodes x
                (record { different = d.different; pending = λ q k. (pending_iff_grown N s.tree tree' p (work_at N s.label) s.label s.growth taken n q).1 (d.pending q k) })

    pub cells_fit : (tree : Tree N) (order : List Address) (cell : Address → ℕ) → IsFront N top tree order → AreCells N tree cell → AreLow tree cell ↔ IsWithin N b tree order
    cells_fit tree order cell f c = (
      λ low. within order tree cell f c low,
      λ w p a.
          let (acts, slot, s) = (picked_exactly_where_within N law b top (Pick N law total b top) (stack_always N law total b top) tree order f).0 w in
          let k = (cells_iff_picked N law total b top acts tree order slot s.spells).0 s.picked in
          let e = one_cells top tree order cell slot f c k p a in
          let r = (s.spells.range p a).1 in
          omega arith,
    )

    -- with b cells
    pub cells_spell : (tree : Tree N) (order : List Address) → IsFront N top tree order → IsWithin N b tree order ↔ ((acts : List (Act N)) × (cell : Address → ℕ) × SpellsPicked N (Pick N law total b top) b top acts tree order cell)
    cells_spell tree order f = picked_exactly_where_within N law b top (Pick N law total b top) (stack_always N law total b top) tree order f
