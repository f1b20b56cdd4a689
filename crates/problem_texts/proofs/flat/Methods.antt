-- The action of a method: its conditions, and its effect with children and without.
use Rattle.std.proofs.Common.{ℕ, zero, suc, ◌≡◌, ◌-◌, ◌<◌, ◌==◌, Bool, true, false, cond, List, [], ◌∷◌, ◌++◌, map, length, slice_index, codes, decimal, refl, sym, subst₂, arith}
use Rattle.std.proofs.lemmas.List.{length-map, length-append}
use Rattle.plan_model.specs.declared.options.Style.TheVariants.{Adl, Flat}
use Rattle.plan_model.specs.declared.terms.Term.{Term}
use Rattle.plan_model.specs.declared.terms.Term.TheVariants.{Var}
use Rattle.plan_model.specs.declared.terms.Atom.{Atom}
use Rattle.plan_model.specs.declared.terms.Param.{Param}
use Rattle.plan_model.specs.declared.networks.Child.{Child}
use Rattle.plan_model.specs.declared.networks.Pair.{Pair}
use Rattle.plan_model.specs.declared.networks.Constraint.{Constraint}
use Rattle.plan_model.specs.declared.networks.Guard.{Guard}
use Rattle.plan_model.specs.declared.formulas.Formula.TheVariants.{Holds, Equal, Not}
use Rattle.plan_model.specs.declared.effects.Effect.TheVariants as E
use Rattle.plan_model.specs.declared.schemas.MethodPlan.{MethodPlan}
use Rattle.plan_model.specs.declared.values.Compiled.{Compiled}
use Rattle.plan_model.specs.task_networks.Spelling.{numbers}
use Rattle.plan_model.proofs.task_networks.Numbers.{length-numbers}
use Rattle.plan_texts.specs.Types.{EachIs}
use Rattle.slot_encoding.specs.SourceParts.{source_param, moved}
use Rattle.slot_encoding.specs.EncodedNames.{slot_param, guard_predicate, order_numbers}
use Rattle.order_encoder.specs.OrderFormulas.{pair_of}
use Rattle.slot_encoding.specs.EncodedActions.{differ, test, is_free, spare, front, depth, slot_vars, children_slots, held_task, child_atoms, source_condition, method_pre, splitting, method_eff, encoded_method}
use Rattle.slot_encoding.proofs.places.Splitting.{copies_of, splitting_parts}
use Rattle.pddl_printer.specs.WrittenOut.{action}
use Rattle.problem_texts.specs.Slots.{slots_of}
use Rattle.problem_texts.proofs.flat.PartLists.{Become, kept, both, all_kept}
use Rattle.problem_texts.proofs.flat.OtherParts.{parts, changes, parts-Holds, parts-Not, parts-test, changes-Add, changes-Delete}
use Rattle.problem_texts.proofs.flat.OrderParts.{copies}
use Rattle.problem_texts.proofs.flat.Works.{schema_written, source_parts, waits_first, frees_first}

-- the variables of the children's slots are before those of the method's parameters
abbrev pub AreLow : MethodPlan → Type 0
AreLow plan = EachIs (λ x. x < suc (length plan.schema.children - 1)) (slot_vars plan.heir 0 1 (length plan.schema.children))

-- a place past the end reads as 0
at_below : (xs : List ℕ) (m i : ℕ) → 0 < m → EachIs (λ x. x < m) xs → slice_index xs i < m
at_below [] m i some h = some
at_below (x ∷ xs) m zero some h = h.0
at_below (x ∷ xs) m (suc i) some h = at_below xs m i some h.1

module _ (c : Compiled) (names : List (List ℕ)) (b m : ℕ) (plan : MethodPlan) (low : AreLow plan) where
  -- the number of variables in force, and how many of them are of slots
  abbrev pub d : ℕ
  d = depth c names b Adl m plan

  abbrev of_slots : ℕ
  of_slots = front c names b Adl m plan

  -- the variables of the new slots, and those of all children
  abbrev fresh : List ℕ
  fresh = numbers 1 (spare c names b Adl m plan)

  abbrev all_vars : List ℕ
  all_vars = children_slots c names b Adl m plan

  abbrev held : Atom
  held = held_task c names b Adl m plan

  abbrev put : Term → Term
  put = moved names c.hddl.names of_slots

  abbrev free : ℕ → Atom
  free v = is_free c names b Adl v

  abbrev guarded : Guard → Atom
  guarded g = record { predicate = guard_predicate c g.ty; args = put g.term ∷ [] }

  abbrev linked : Pair → Atom
  linked p = pair_of (order_numbers c names b) b (Var (slice_index all_vars p.first)) (Var (slice_index all_vars p.then))

  differ_kept : (vs : List ℕ) → Become (parts c b d) (differ vs) (differ vs)
  differ_kept [] = record { are = refl }
  differ_kept (v ∷ vs) = both (all_kept (λ u. Not (Equal (Var v) (Var u))) vs (λ u. parts-Not c b d (Equal (Var v) (Var u)))) (differ_kept vs)

  tested_kept : (t : Bool) → Become (parts c b d) (cond t (source_condition c names b Adl of_slots plan.schema.pre) []) (cond t (source_condition c names b Flat of_slots plan.schema.pre) [])
  tested_kept true = source_parts c names b d of_slots plan.schema.pre
  tested_kept false = record { are = refl }

  some : 0 < d
  some = omega arith

  pub conditions : Become (parts c b d) (method_pre c names b Adl m plan) (method_pre c names b Flat m plan)
  conditions =
      kept (Holds held) (parts-Holds c b d held)
      (both (waits_first c names b d some)
      (both (all_kept (λ v. Holds (free v)) fresh (λ v. parts-Holds c b d (free v)))
      (both (differ_kept fresh)
      (both (all_kept (λ (con : Constraint). test con.equal (put con.left) (put con.right)) plan.schema.constraints (λ con. parts-test c b d con.equal (put con.left) (put con.right)))
      (both (all_kept (λ (g : Guard). Holds (guarded g)) plan.guards (λ g. parts-Holds c b d (guarded g)))
      (tested_kept plan.tested))))))

  other : (k : ℕ) → k < d → (k == d) ≡ false
  other k l = grind (arith, l)

  slot_low : (i : ℕ) → slice_index all_vars i < d
  slot_low i = let l = at_below all_vars of_slots i (omega arith) low in omega arith

  all_copies : (is : List ℕ) → Become (changes c b d) (copies_of c names b Adl m plan is) (copies_of c names b Flat m plan is)
  all_copies [] = record { are = refl }
  all_copies (i ∷ is) =
      let v : ℕ = slice_index all_vars i in
      both (copies c names b d 0 v (other 0 some) (other v (slot_low i))) (all_copies is)

  split : Become (changes c b d) (splitting c names b Adl m plan) (splitting c names b Flat m plan)
  split = subst₂ (λ xs ys. Become (changes c b d) xs ys) (sym (splitting_parts c names b Adl m plan)) (sym (splitting_parts c names b Flat m plan))
      (kept (E.Delete held) (changes-Delete c b d held)
      (both (all_kept (λ v. E.Delete (free v)) fresh (λ v. changes-Delete c b d (free v)))
      (both (all_kept E.Add (child_atoms c names b Adl m plan all_vars plan.schema.children) (changes-Add c b d))
      (both (all_kept (λ (p : Pair). E.Add (linked p)) plan.schema.pairs (λ p. changes-Add c b d (linked p)))
      (all_copies plan.copiers)))))

  pub change : (children : List Child) → Become (changes c b d) (method_eff c names b Adl m plan children) (method_eff c names b Flat m plan children)
  change [] = frees_first c names b d some held
  change (child ∷ children) = split

  abbrev slots : List Param
  slots = map (λ k. slot_param c names b (codes "htn_h" ++ decimal k)) fresh

  abbrev own : List Param
  own = map (source_param names c.hddl.names) plan.schema.params

  pub in_force : length (slot_param c names b (codes "htn_h") ∷ slots ++ own) ≡ d
  in_force = omega (arith, length-append slots own, length-map fresh (λ k. slot_param c names b (codes "htn_h" ++ decimal k)), length-numbers 1 (spare c names b Adl m plan), length-map plan.schema.params (source_param names c.hddl.names))

  pub method_written : action (slots_of c b) (encoded_method c names b Adl m plan) ≡ encoded_method c names b Flat m plan
  method_written = schema_written c names b _ _ d _ _ _ _ in_force conditions (change plan.schema.children)
