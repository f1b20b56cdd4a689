-- The printed problem as a PDDL value.
-- Source: this project's encoding, after Alford et al., "Bound to Plan", ICAPS 2016.
use Rattle.std.specs.Prelude.{ℕ, suc, ◌+◌, ◌-◌, ◌≡◌, ◌==◌, ◌&&◌, Bool, cond, List, [], ◌∷◌, ◌++◌, map, length}
use Rattle.std.specs.Str.{bytes_eq}
use Rattle.plan_model.specs.declared.options.Style.{Style}
use Rattle.plan_model.specs.declared.terms.GroundAtom.{GroundAtom}
use Rattle.plan_model.specs.declared.formulas.Formula.TheVariants.{And}
use Rattle.plan_model.specs.declared.schemas.ActionSchema.{ActionSchema}
use Rattle.plan_model.specs.declared.schemas.MethodPlan.{MethodPlan}
use Rattle.plan_model.specs.declared.values.Compiled.{Compiled}
use Rattle.plan_model.specs.declared.values.Pddl.{Pddl}
use Rattle.plan_model.specs.task_networks.Spelling.{numbers}
use Rattle.plan_model.specs.plan_meaning.Network.{InTypeOf}
use Rattle.plan_model.specs.plan_meaning.Compilation.{once, Keeps}
use Rattle.slot_encoding.specs.SourceParts.{renamed}
use Rattle.order_encoder.specs.OrderFormulas.{free_parts}
pub use Rattle.order_encoder.specs.OrderMeaning.{atom}
use Rattle.slot_encoding.specs.EncodedNames.{guard_types, guard_predicate, top_predicate, free_predicate, first_slot, encoded_types, encoded_objects, encoded_predicates, order_numbers}
use Rattle.slot_encoding.specs.EncodedActions.{encoded_method, encoded_check, encoded_action, source_condition}

abbrev pub same_atom : GroundAtom → GroundAtom → Bool
same_atom g k = (g.predicate == k.predicate) && bytes_eq g.args k.args

module _ (c : Compiled) (names : List (List ℕ)) (b : ℕ) (style : Style) where
  -- from number m on
  abbrev pub encoded_methods : ℕ → List MethodPlan → List ActionSchema
  encoded_methods m [] = []
  encoded_methods m (plan ∷ plans) = encoded_method c names b style m plan ∷ encoded_methods (suc m) plans

  abbrev pub encoded_checks : ℕ → List MethodPlan → List ActionSchema
  encoded_checks m [] = []
  encoded_checks m (plan ∷ plans) = cond plan.checked (encoded_check c names b style m plan ∷ encoded_checks (suc m) plans) (encoded_checks (suc m) plans)

  abbrev pub encoded_source : ℕ → List ActionSchema → List ActionSchema
  encoded_source a [] = []
  encoded_source a (s ∷ ss) = encoded_action c names b style a s ∷ encoded_source (suc a) ss

  -- the methods, the top method first, the checks, the source actions
  abbrev pub encoded_actions : List ActionSchema
  encoded_actions = encoded_methods 0 c.methods ++ encoded_checks 0 c.methods ++ encoded_source 0 c.hddl.actions

  -- the first slot holds the top task, the others are free, and the source atoms are true, each written once
  abbrev pub first_atoms : List GroundAtom
  first_atoms =
      atom (top_predicate c) (first_slot c)
      ∷ map (λ k. atom (free_predicate c) (first_slot c + k)) (numbers 1 (b - 1))
      ++ once same_atom c.hddl.init

  -- for each type of a guard its objects, in the order of their declarations
  abbrev pub AreGuardAtoms : List ℕ → List GroundAtom → Type 0
  AreGuardAtoms [] atoms = atoms ≡ []
  AreGuardAtoms (ty ∷ tys) atoms = (members : List ℕ) × (rest : List GroundAtom)
      × Keeps (λ o. InTypeOf c o ty) (numbers 0 (length c.hddl.objects)) members
      × (atoms ≡ map (atom (guard_predicate c ty)) members ++ rest) × AreGuardAtoms tys rest

  abbrev pub IsInitial : List GroundAtom → Type 0
  IsInitial init = (guards : List GroundAtom) × AreGuardAtoms (guard_types c) guards × (init ≡ first_atoms ++ guards)

-- the printed problem of a compiled one, with b slots
pub record IsEncoded (c : Compiled) (b : ℕ) (style : Style) (p : Pddl) : Type 0 where
  pub domain : p.domain ≡ renamed p.names c.hddl.names c.hddl.domain
  pub problem : p.problem ≡ renamed p.names c.hddl.names c.hddl.problem
  pub types : p.types ≡ encoded_types c p.names b
  pub objects : p.objects ≡ encoded_objects c p.names b
  pub predicates : p.predicates ≡ encoded_predicates c p.names b
  pub actions : p.actions ≡ encoded_actions c p.names b style
  pub init : IsInitial c p.names b style p.init
  -- the source goal, and every slot free
  pub goal : p.goal ≡ And (source_condition c p.names b style 0 c.hddl.goal ++ free_parts (order_numbers c p.names b) b 0 style (free_predicate c))
