-- Atoms of different kinds differ, and atoms of different slots.
use Rattle.std.proofs.Common.{ℕ, suc, ◌≡◌, ◌↔◌, ◌-◌, ◌<◌, ◌≤◌, List, length, ap, arith}
use Rattle.std.proofs.lemmas.Option.{slice_get_within}
use Rattle.plan_model.specs.declared.options.Style.{Style}
use Rattle.plan_model.specs.declared.terms.GroundAtom.{GroundAtom}
use Rattle.plan_model.specs.declared.values.Compiled.{Compiled}
use Rattle.plan_model.specs.declared.values.Pddl.{Pddl}
use Rattle.plan_model.specs.plan_meaning.Network.{Work, action, check, task}
use Rattle.slot_encoding.specs.EncodedNames.{free_predicate, before_predicate, guard_predicate, first_guard, first_slot}
use Rattle.slot_encoding.specs.EncodedValue.{atom}
use Rattle.slot_encoding.proofs.Pieces.{PredicatesDiffer, IsNumbered, slot_object, IsSlot, IsSlotObject}
use Rattle.plan_proof.proofs.machine.Reading.{IsKnown, held, free_atom, before_atom}

pub known_numbered : (c : Compiled) (w : Work) → IsKnown c w → IsNumbered c w
known_numbered c (action a args) k = let (ps, (s, e, f), t) = k in slice_get_within c.hddl.actions a s e
known_numbered c (check m values) k = (k.0, k.1, k.2)
known_numbered c (task t args) k = k

module _ (c : Compiled) (b : ℕ) (style : Style) (p : Pddl) where
  pub one_slot : (x y : ℕ) → IsSlot c b style p x → IsSlot c b style p y → slot_object c b style p x ≡ slot_object c b style p y → x ≡ y
  one_slot x y s t e = let l = s.0 in let k = t.0 in omega arith

  pub slot_of : (o : ℕ) → IsSlotObject c b style p o ↔ ((x : ℕ) × IsSlot c b style p x × (o ≡ slot_object c b style p x))
  slot_of o = (
    λ s. (let l = s.0 in let r = s.1 in (suc (o - first_slot c), (omega arith, omega arith), omega arith)),
    λ h. (let l = h.1.0 in let r = h.1.1 in let e = h.2 in (omega arith, omega arith)),
  )

  module _ (d : PredicatesDiffer c) where
    pub held_free : (x o : ℕ) (w : Work) → IsKnown c w → held c b style p x w ≡ atom (free_predicate c) o → ⊥
    held_free x o w k e = d.work_from_free w (known_numbered c w k) (ap (λ (g : GroundAtom). g.predicate) e)

    pub held_before : (x : ℕ) (w : Work) (os : List ℕ) → IsKnown c w → held c b style p x w ≡ record { predicate = before_predicate c; args = os } → ⊥
    held_before x w os k e = d.work_from_before w (known_numbered c w k) (ap (λ (g : GroundAtom). g.predicate) e)

    pub free_before : (o : ℕ) (os : List ℕ) → atom (free_predicate c) o ≡ record { predicate = before_predicate c; args = os } → ⊥
    free_before o os e = let f = ap (λ (g : GroundAtom). g.predicate) e in let x = d.free in let y = d.before in omega arith

    pub same_held : (x y : ℕ) (w v : Work) → IsKnown c w → IsKnown c v → IsSlot c b style p x → IsSlot c b style p y → held c b style p x w ≡ held c b style p y v → (x ≡ y) × (w ≡ v)
    same_held x y w v k l s t e =
        let h = d.held_once (slot_object c b style p x) (slot_object c b style p y) w v (known_numbered c w k) (known_numbered c v l) e in
        (one_slot x y s t h.0, h.1)

    pub same_free : (x y : ℕ) → IsSlot c b style p x → IsSlot c b style p y → free_atom c b style p x ≡ free_atom c b style p y → x ≡ y
    same_free x y s t e = let f = ap (λ (g : GroundAtom). g.args) e in one_slot x y s t cc

    pub same_pair : (x y z o : ℕ) → IsSlot c b style p x → IsSlot c b style p z → before_atom c b style p x y ≡ before_atom c b style p z o → (x ≡ z) × (y ≡ o)
    same_pair x y z o s t e = let f = ap (λ (g : GroundAtom). g.args) e in (one_slot x z s t cc, cc)

    -- a source atom, and what isn't one
    pub source_held : (x : ℕ) (w : Work) → IsKnown c w → (held c b style p x w).predicate < length c.hddl.predicates → ⊥
    source_held x w k l = let f = d.work_from_source w (known_numbered c w k) in omega arith

    pub source_free : free_predicate c < length c.hddl.predicates → ⊥
    source_free l = let x = d.free in omega arith

    pub source_before : before_predicate c < length c.hddl.predicates → ⊥
    source_before l = let x = d.before in omega arith

    pub source_guard : (ty : ℕ) → guard_predicate c ty < length c.hddl.predicates → ⊥
    source_guard ty l = let x = d.before in let y = d.guard_from_before ty in omega arith

    -- what has the predicate of a guard, or a later one, and what hasn't
    pub behind_held : (g : GroundAtom) (x : ℕ) (w : Work) → first_guard c ≤ g.predicate → IsKnown c w → g ≡ held c b style p x w → ⊥
    behind_held g x w l k e = let f = ap (λ (g : GroundAtom). g.predicate) e in let m = d.work_below_guards w (known_numbered c w k) in omega arith

    pub behind_free : (g : GroundAtom) (o : ℕ) → first_guard c ≤ g.predicate → g ≡ atom (free_predicate c) o → ⊥
    behind_free g o l e = let f = ap (λ (g : GroundAtom). g.predicate) e in omega arith

    pub behind_before : (g : GroundAtom) (os : List ℕ) → first_guard c ≤ g.predicate → g ≡ record { predicate = before_predicate c; args = os } → ⊥
    behind_before g os l e = let f = ap (λ (g : GroundAtom). g.predicate) e in omega arith

    pub behind_source : (g : GroundAtom) → first_guard c ≤ g.predicate → g.predicate < length c.hddl.predicates → ⊥
    behind_source g l m = omega arith

    pub guard_held : (ty o x : ℕ) (w : Work) → IsKnown c w → atom (guard_predicate c ty) o ≡ held c b style p x w → ⊥
    guard_held ty o x w k e = let f = ap (λ (g : GroundAtom). g.predicate) e in let l = d.guard_from_work ty w (known_numbered c w k) in omega arith

    pub guard_free : (ty o x : ℕ) → atom (guard_predicate c ty) o ≡ atom (free_predicate c) x → ⊥
    guard_free ty o x e = let f = ap (λ (g : GroundAtom). g.predicate) e in let l = d.guard_from_before ty in let z = d.before in let y = d.free in omega arith

    pub guard_before : (ty o : ℕ) (os : List ℕ) → atom (guard_predicate c ty) o ≡ record { predicate = before_predicate c; args = os } → ⊥
    guard_before ty o os e = let f = ap (λ (g : GroundAtom). g.predicate) e in let l = d.guard_from_before ty in omega arith
