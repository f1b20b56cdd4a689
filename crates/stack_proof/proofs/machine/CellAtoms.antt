-- Atoms of different kinds differ, and atoms of different cells.
use Rattle.std.proofs.Common.{ℕ, ◌≡◌, ◌<◌, ◌≤◌, length, ap, arith}
use Rattle.plan_model.specs.declared.terms.GroundAtom.{GroundAtom}
use Rattle.plan_model.specs.declared.values.Compiled.{Compiled}
use Rattle.plan_model.specs.declared.values.Pddl.{Pddl}
use Rattle.plan_model.specs.plan_meaning.Network.{Work}
use Rattle.slot_encoding.specs.EncodedNames.{first_guard}
use Rattle.slot_encoding.proofs.Pieces.{PredicatesDiffer}
use Rattle.plan_proof.proofs.machine.Reading.{IsKnown}
use Rattle.plan_proof.proofs.machine.Atoms.{known_numbered}
use Rattle.stack_encoding.specs.StackNames.{tip_predicate, up_predicate, cell_object}
use Rattle.stack_proof.proofs.machine.StackReading.{held, tip_atom, up_atom}

pub one_cell : (c : Compiled) (x y : ℕ) → cell_object c x ≡ cell_object c y → x ≡ y
one_cell c x y e = omega arith

module _ (c : Compiled) (b : ℕ) (p : Pddl) (d : PredicatesDiffer c) where
  pub held_tip : (x y : ℕ) (w : Work) → IsKnown c w → held c b p x w ≡ tip_atom c b p y → ⊥
  held_tip x y w k e = d.work_from_free w (known_numbered c w k) (ap (λ (g : GroundAtom). g.predicate) e)

  pub held_up : (x y z : ℕ) (w : Work) → IsKnown c w → held c b p x w ≡ up_atom c b p y z → ⊥
  held_up x y z w k e = d.work_from_before w (known_numbered c w k) (ap (λ (g : GroundAtom). g.predicate) e)

  pub tip_up : (x y z : ℕ) → tip_atom c b p x ≡ up_atom c b p y z → ⊥
  tip_up x y z e = let f = ap (λ (g : GroundAtom). g.predicate) e in let q = d.free in let r = d.before in omega arith

  pub same_held : (x y : ℕ) (w v : Work) → IsKnown c w → IsKnown c v → held c b p x w ≡ held c b p y v → (x ≡ y) × (w ≡ v)
  same_held x y w v k l e =
      let h = d.held_once (cell_object c x) (cell_object c y) w v (known_numbered c w k) (known_numbered c v l) e in
      (one_cell c x y h.0, h.1)

  pub same_tip : (x y : ℕ) → tip_atom c b p x ≡ tip_atom c b p y → x ≡ y
  same_tip x y e = let f = ap (λ (g : GroundAtom). g.args) e in one_cell c x y cc

  -- a source atom, and what isn't one
  pub source_held : (x : ℕ) (w : Work) → IsKnown c w → (held c b p x w).predicate < length c.hddl.predicates → ⊥
  source_held x w k l = let f = d.work_from_source w (known_numbered c w k) in omega arith

  pub source_tip : tip_predicate c < length c.hddl.predicates → ⊥
  source_tip l = let x = d.free in omega arith

  pub source_up : up_predicate c < length c.hddl.predicates → ⊥
  source_up l = let x = d.before in omega arith

  -- what has the predicate of a guard, or a later one, and what hasn't
  pub behind_held : (g : GroundAtom) (x : ℕ) (w : Work) → first_guard c ≤ g.predicate → IsKnown c w → g ≡ held c b p x w → ⊥
  behind_held g x w l k e = let f = ap (λ (g : GroundAtom). g.predicate) e in let m = d.work_below_guards w (known_numbered c w k) in omega arith

  pub behind_tip : (g : GroundAtom) (x : ℕ) → first_guard c ≤ g.predicate → g ≡ tip_atom c b p x → ⊥
  behind_tip g x l e = let f = ap (λ (g : GroundAtom). g.predicate) e in omega arith

  pub behind_source : (g : GroundAtom) → first_guard c ≤ g.predicate → g.predicate < length c.hddl.predicates → ⊥
  behind_source g l m = omega arith
