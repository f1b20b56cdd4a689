-- A printable problem has a slot: the first one holds the top task at the beginning.
use Rattle.std.proofs.Common.{ℕ, ◌≡◌, ◌≤◌, [], map, length, refl, ap, sym, subst, Contains, arith}
use Rattle.std.proofs.lemmas.List.{length-map}
use Rattle.plan_model.specs.declared.options.Style.{Style}
use Rattle.plan_model.specs.declared.options.Checks.{Checks}
use Rattle.plan_model.specs.declared.types.Object.{Object}
use Rattle.plan_model.specs.declared.terms.GroundAtom.{GroundAtom}
use Rattle.plan_model.specs.declared.terms.Term.TheVariants.{Obj}
use Rattle.plan_model.specs.declared.values.Hddl.{Hddl}
use Rattle.plan_model.specs.declared.values.Compiled.{Compiled}
use Rattle.plan_model.specs.declared.values.Pddl.{Pddl}
use Rattle.plan_texts.specs.Declared.{named}
use Rattle.plan_texts.specs.SpellsPddl.{pddl_words}
use Rattle.plan_texts.specs.Printable.{IsSoundAtom}
use Rattle.plan_texts.specs.PrintableValue.{arities_of, IsPrintable}
use Rattle.plan_texts.proofs.Members.{each-has, contains-has}
use Rattle.slot_encoding.specs.EncodedNames.{top_predicate, first_slot, encoded_objects}
use Rattle.slot_encoding.specs.EncodedValue.{atom, IsEncoded}
use Rattle.slot_encoding.specs.Printed.{IsPrinted}
use Rattle.slot_encoding.proofs.places.ObjectPlaces.{length-objects}

pub slot_of_first : (c : Compiled) (b : ℕ) (p : Pddl) → IsPrintable p → p.objects ≡ encoded_objects c p.names b → Contains p.init (atom (top_predicate c) (first_slot c)) → 1 ≤ b
slot_of_first c b p printable objects there =
    let first : GroundAtom = atom (top_predicate c) (first_slot c) in
    let s = each-has (λ (g : GroundAtom). IsSoundAtom (pddl_words p) (arities_of p) [] g.predicate (map Obj g.args)) p.init first printable.init (contains-has p.init first there) in
    let l = s.2.0 in
    let k = length-map p.objects (λ (x : Object). named p.names x.name) in
    let m = ap length objects in
    let n = length-objects c p.names b in
    omega arith

pub first_there : (c : Compiled) (b : ℕ) (style : Style) (p : Pddl) → IsEncoded c b style p → Contains p.init (atom (top_predicate c) (first_slot c))
first_there c b style p encoded = let (guards, a, e) = encoded.init in subst (λ z. Contains z (atom (top_predicate c) (first_slot c))) (sym e) (0, omega arith, refl)

pub some_slot : (h : Hddl) (mode : Checks) (c : Compiled) (b : ℕ) (style : Style) (p : Pddl) → IsPrinted h mode c b style p → 1 ≤ b
some_slot h mode c b style p is = slot_of_first c b p is.printable is.encoded.objects (first_there c b style p is.encoded)
