use Rattle.std.proofs.Common.{refl, sym, ◌∙◌}
use Rattle.plan_model.specs.Facts.{atom_of}
use Rattle.slot_encoder.proofs.SeenAtoms.{met_numbered, met_keyed}
use Rattle.slot_encoder.proofs.single.Seen.insert.Goals as goal

pub returns-in_ok-insert-in-Some : goal.returns-in_ok-insert-in-Some
returns-in_ok-insert-in-Some c =
    let it = c.in_ok-insert-in-Some in
    let fact = atom_of c.args.predicate c.args.args.now in
    let is = sym c.number_of.ensures ∙ c.in-Some.is in
    met_numbered c.args.self.now _ fact it.field-0 refl c.in-Some.number is refl it.ensures.updates.0 it.ensures.added

pub returns-in_ok-insert-in-None : goal.returns-in_ok-insert-in-None
returns-in_ok-insert-in-None c =
    let it = c.in_ok-insert-in-None in
    let key = c.in_ok-key-in-None in
    let fact = atom_of c.args.predicate c.args.args.now in
    let is = sym c.number_of.ensures ∙ c.in-None.is in
    met_keyed c.args.self.now _ fact it.field-0 refl key.field-0 is key.ensures refl it.ensures.updates.0 it.ensures.added
