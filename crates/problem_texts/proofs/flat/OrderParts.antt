-- The formulas on order pairs and on free slots: what style adl says of all slots, style flat says of each.
use Rattle.std.proofs.Common.{ℕ, ◌≡◌, ◌∙◌, List, [], ◌∷◌, ◌==◌, true, false, cond, map, ap, arith}
use Rattle.plan_model.specs.declared.options.Style.TheVariants.{Adl, Flat}
use Rattle.plan_model.specs.declared.terms.Term.{Term}
use Rattle.plan_model.specs.declared.terms.Term.TheVariants.{Var, Obj}
use Rattle.plan_model.specs.declared.terms.Atom.{Atom}
use Rattle.plan_model.specs.declared.terms.Param.{Param}
use Rattle.plan_model.specs.declared.formulas.Formula.{Formula}
use Rattle.plan_model.specs.declared.formulas.Formula.TheVariants.{Holds, Not, Forall}
use Rattle.plan_model.specs.declared.effects.Effect.{Effect}
use Rattle.plan_model.specs.declared.effects.Effect.TheVariants as E
use Rattle.plan_model.specs.declared.values.Compiled.{Compiled}
use Rattle.plan_model.specs.task_networks.Spelling.{numbers}
use Rattle.slot_encoding.specs.EncodedNames.{order_numbers, first_slot}
use Rattle.order_encoder.specs.OrderFormulas.{OrderNumbers, pair_of, wait_parts, clear_parts, copy_parts, free_parts}
use Rattle.pddl_printer.specs.WrittenOut.{placed}
use Rattle.pddl_printer.proofs.written_out.Equations.{parts-Forall, literal-Holds, literal-Not, parts-Each, change-Delete, change-When}
use Rattle.problem_texts.specs.Slots.{slots_of}
use Rattle.problem_texts.proofs.flat.PartLists.{Become, alone}
use Rattle.problem_texts.proofs.flat.OtherParts.{parts, changes}

placed-here : (depth o : ℕ) → placed depth o (Var depth) ≡ Obj o
placed-here depth o = ap (λ q. cond q (Obj o) (Var depth)) (let e : (depth == depth) ≡ true = grind arith in e)

placed-other : (depth o k : ℕ) → (k == depth) ≡ false → placed depth o (Var k) ≡ Var k
placed-other depth o k e = ap (λ q. cond q (Obj o) (Var k)) e

module _ (c : Compiled) (names : List (List ℕ)) (b depth : ℕ) where
  abbrev n : OrderNumbers
  n = order_numbers c names b

  abbrev slot : Param
  slot = record { name = n.x; ty = n.slot_type }

  abbrev pair : Term → Term → Atom
  pair = pair_of n b

  pub waits : (k : ℕ) → (k == depth) ≡ false → Become (parts c b depth) (wait_parts n b depth Adl (Var k)) (wait_parts n b depth Flat (Var k))
  waits k other =
      let body : Formula = Not (Holds (pair (Var depth) (Var k))) in
      alone (Forall (slot ∷ []) body) _
      (parts-Forall (slots_of c b) depth slot body
      ∙ literal-Not (slots_of c b) depth (Forall (slot ∷ []) body) (pair (Var depth) (Var k))
      ∙ (λ i. map (λ o. Not (Holds (pair (placed-here depth o i) (placed-other depth o k other i)))) (numbers (first_slot c) b)))

  pub clears : (k : ℕ) → (k == depth) ≡ false → Become (changes c b depth) (clear_parts n b depth Adl (Var k)) (clear_parts n b depth Flat (Var k))
  clears k other =
      let body : Effect = E.Delete (pair (Var k) (Var depth)) in
      alone (E.Forall (slot ∷ []) body) _
      (parts-Each (slots_of c b) depth slot body
      ∙ change-Delete (slots_of c b) depth (E.Forall (slot ∷ []) body) (pair (Var k) (Var depth))
      ∙ (λ i. map (λ o. E.Delete (pair (placed-other depth o k other i) (placed-here depth o i))) (numbers (first_slot c) b)))

  pub copies : (k child : ℕ) → (k == depth) ≡ false → (child == depth) ≡ false
      → Become (changes c b depth) (copy_parts n b depth Adl (Var k) (Var child)) (copy_parts n b depth Flat (Var k) (Var child))
  copies k child other other_child =
      let body : Effect = E.When (Holds (pair (Var k) (Var depth))) (E.Add (pair (Var child) (Var depth))) in
      alone (E.Forall (slot ∷ []) body) _
      (parts-Each (slots_of c b) depth slot body
      ∙ change-When (slots_of c b) depth (E.Forall (slot ∷ []) body) (pair (Var k) (Var depth)) (pair (Var child) (Var depth))
      ∙ (λ i. map (λ o. E.When (Holds (pair (placed-other depth o k other i) (placed-here depth o i))) (E.Add (pair (placed-other depth o child other_child i) (placed-here depth o i)))) (numbers (first_slot c) b)))

  pub frees : (free : ℕ) → Become (parts c b depth) (free_parts n b depth Adl free) (free_parts n b depth Flat free)
  frees free =
      let atom : Term → Atom = λ t. record { predicate = free; args = t ∷ [] } in
      alone (Forall (slot ∷ []) (Holds (atom (Var depth)))) _
      (parts-Forall (slots_of c b) depth slot (Holds (atom (Var depth)))
      ∙ literal-Holds (slots_of c b) depth (Forall (slot ∷ []) (Holds (atom (Var depth)))) (atom (Var depth))
      ∙ (λ i. map (λ o. Holds (atom (placed-here depth o i))) (numbers (first_slot c) b)))
