-- Lists of objects for parameters that are cells, and then for those of the source.
-- Source: this project's.
use Rattle.std.proofs.Common.{ℕ, suc, ◌≡◌, ◌-◌, ◌≤◌, ◌↔◌, List, [], ◌∷◌, ◌++◌, map, length, refl, ap, sym, subst, arith}
use Rattle.plan_model.specs.declared.options.Checks.{Checks}
use Rattle.plan_model.specs.declared.terms.Param.{Param}
use Rattle.plan_model.specs.declared.values.Hddl.{Hddl}
use Rattle.plan_model.specs.declared.values.Compiled.{Compiled}
use Rattle.plan_model.specs.declared.values.Pddl.{Pddl}
use Rattle.plan_model.specs.plan_meaning.Truth.{AreTyped}
use Rattle.plan_model.specs.plan_meaning.Network as Source
use Rattle.plan_model.specs.plan_meaning.ClassicalPlan as Printed
use Rattle.plan_texts.specs.Types.{EachIs}
use Rattle.slot_encoding.specs.SourceParts.{source_param}
use Rattle.slot_encoding.specs.EncodedNames.{slot_type, first_slot}
use Rattle.slot_encoding.proofs.places.SourceFormulas.{typed-source}
use Rattle.stack_encoding.specs.StackNames.{cell_object}
use Rattle.stack_encoding.proofs.places.StackWorded.{IsStackWorded}
use Rattle.stack_encoding.proofs.places.StackTypes.{stack_types_agree}
use Rattle.stack_proof.proofs.machine.CellAtoms.{one_cell}

-- the number of a cell, the lowest included
abbrev pub IsCellNumber : ℕ → ℕ → Type 0
IsCellNumber b k = k ≤ b

pub same_cells : (c : Compiled) (js ks : List ℕ) → map (cell_object c) js ≡ map (cell_object c) ks → js ≡ ks
same_cells c [] [] e = refl
same_cells c [] (k ∷ ks) e = absurd cc
same_cells c (j ∷ js) [] e = absurd cc
same_cells c (j ∷ js) (k ∷ ks) e = let f = one_cell c j k cc in let g = same_cells c js ks cc in cc

module _ (h : Hddl) (mode : Checks) (c : Compiled) (b : ℕ) (p : Pddl) (is : IsStackWorded h mode c b p) where
  abbrev InP : ℕ → ℕ → Type 0
  InP = Printed.InTypeOf p

  to_cell : (o : ℕ) → InP o slot_type → (k : ℕ) × (k ≤ b) × (o ≡ cell_object c k)
  to_cell o t = let (l, r) = ((stack_types_agree h mode c b p is).slots o).0 t in (o - first_slot c, omega arith, omega arith)

  of_cell : (k : ℕ) → k ≤ b → InP (cell_object c k) slot_type
  of_cell k l = ((stack_types_agree h mode c b p is).slots (cell_object c k)).1 (omega arith, omega arith)

  typed_source : (params : List Param) (os : List ℕ) → AreTyped InP (map (source_param p.names c.hddl.names) params) os ↔ AreTyped (Source.InTypeOf c) params os
  typed_source = typed-source p.names c.hddl.names (Source.InTypeOf c) (Printed.InTypeOf p) (stack_types_agree h mode c b p is).source

  -- objects for parameters that are cells, and then for those of the source
  pub record Taken (front params : List Param) (os : List ℕ) : Type 0 where
    pub ks : List ℕ
    pub values : List ℕ
    pub cells : EachIs (IsCellNumber b) ks
    pub long : length ks ≡ length front
    pub typed : AreTyped (Source.InTypeOf c) params values
    pub objects : os ≡ map (cell_object c) ks ++ values

  pub take_apart : (front params : List Param) (os : List ℕ) → EachIs (λ (x : Param). x.ty ≡ slot_type) front → AreTyped (Printed.InTypeOf p) (front ++ map (source_param p.names c.hddl.names) params) os → Taken front params os
  take_apart [] params os e t = record { ks = []; values = os; cells = tt; long = refl; typed = (typed_source params os).0 t; objects = refl }
  take_apart (x ∷ front) params [] e t = absurd t
  take_apart (x ∷ front) params (o ∷ os) e t =
      let (k, l, f) = to_cell o (subst (InP o) e.0 t.0) in
      let r = take_apart front params os e.1 t.1 in
      let g = r.objects in
      record { ks = k ∷ r.ks; values = r.values; cells = (l, r.cells); long = ap suc r.long; typed = r.typed; objects = λ i. f i ∷ g i }

  pub put_together : (front params : List Param) (ks values : List ℕ) → EachIs (λ (x : Param). x.ty ≡ slot_type) front → length ks ≡ length front → EachIs (IsCellNumber b) ks → AreTyped (Source.InTypeOf c) params values
      → AreTyped (Printed.InTypeOf p) (front ++ map (source_param p.names c.hddl.names) params) (map (cell_object c) ks ++ values)
  put_together [] params [] values e l s v = (typed_source params values).1 v
  put_together [] params (k ∷ ks) values e l s v = absurd (omega arith)
  put_together (x ∷ front) params [] values e l s v = absurd (omega arith)
  put_together (x ∷ front) params (k ∷ ks) values e l s v = (subst (InP (cell_object c k)) (sym e.0) (of_cell k s.0), put_together front params ks values e.1 (omega arith) s.1 v)
