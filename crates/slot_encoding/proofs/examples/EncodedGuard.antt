-- The printed guard: the method that takes a block asks (htn_is_red ?x), and of the blocks b1 and r1 the second is red at the beginning.
use Rattle.std.proofs.Common.{ℕ, ◌≡◌, inl, inr, List, [], ◌∷◌, refl}
use Rattle.std.specs.Prelude.{codes}
use Rattle.plan_model.specs.declared.options.Style.TheVariants.{Adl}
use Rattle.plan_model.specs.declared.terms.Term.TheVariants.{Var}
use Rattle.plan_model.specs.declared.terms.Atom.{Atom}
use Rattle.plan_model.specs.declared.terms.GroundAtom.{GroundAtom}
use Rattle.plan_model.specs.declared.formulas.Formula.TheVariants.{Holds, Not, Forall}
use Rattle.plan_model.specs.Typing.{stay}
use Rattle.slot_encoding.specs.SourceParts.{name}
use Rattle.slot_encoding.specs.EncodedNames.{guard_types}
use Rattle.slot_encoding.specs.EncodedActions.{method_pre}
use Rattle.slot_encoding.specs.EncodedValue.{IsInitial}
use Rattle.plan_model.proofs.plan_meaning.examples.GuardRow.{guarded, guard_method_plan, b1_is_not_red}

-- the one type of a guard is red
red_is_guarded : guard_types guarded ≡ 2 ∷ []
red_is_guarded = refl

-- predicates 0 to 5: htn_top, htn_free, htn_before, htn_t_t, htn_a_paint and htn_is_red
abbrev is_red : Atom
is_red = record { predicate = 5; args = Var 1 ∷ [] }

abbrev true_atom : ℕ → ℕ → GroundAtom
true_atom predicate object = record { predicate = predicate; args = object ∷ [] }

-- whatever the words are: t is held in the slot, no slot comes before it, and the block is red
asks_for_red : (words : List (List ℕ)) → method_pre guarded words 1 Adl 1 guard_method_plan
    ≡ Holds (record { predicate = 3; args = Var 0 ∷ [] }) ∷ Forall (record { name = name words (codes "htn_x"); ty = 1 } ∷ []) (Not (Holds (record { predicate = 2; args = Var 2 ∷ Var 0 ∷ [] }))) ∷ Holds is_red ∷ []
asks_for_red words = refl

-- object 2 is the slot, object 1 is r1; b1, object 0, isn't red
first_atoms : (words : List (List ℕ)) → IsInitial guarded words 1 Adl (true_atom 0 2 ∷ true_atom 5 1 ∷ [])
first_atoms words = (true_atom 5 1 ∷ [], (1 ∷ [], [], inr (b1_is_not_red, inl ((_, refl, inl (inr stay)), [], refl, refl)), refl, refl), refl)
