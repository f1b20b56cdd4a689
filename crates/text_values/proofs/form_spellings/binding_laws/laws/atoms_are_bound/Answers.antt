use Rattle.text_values.proofs.form_spellings.binding_laws.Atoms.{has_atom_faults, is_atom_bound}
use Rattle.text_values.proofs.form_spellings.binding_laws.laws.atoms_are_bound.Goals as goal

pub returns : goal.returns
returns c = record { faults = has_atom_faults; bound = is_atom_bound }
