-- The two grammars of networks are one.
use Rattle.std.specs.Prelude.{◌↔◌, []}
use Rattle.text_forms.specs.Placed.{Placed}
use Rattle.text_forms.specs.form_grammar.Codes.{Whole}
use Rattle.text_forms.specs.form_grammar.Networks.{network_rows, subs, pairs, cons}
use Rattle.text_forms.specs.form_grammar.Rows.{form}
use Rattle.text_values.specs.form_spellings.SpellsSomeNetwork.{SpellsSomeSubtasks, SpellsSomePairs, SpellsSomeConstraints}
use Rattle.text_values.proofs.form_spellings.Known.{declared_by, all_variables, all_words, have_letters, knows_all}
use Rattle.text_values.proofs.form_spellings.NetworksSpelled.{subtasks_to, pairs_to, constraints_to}
use Rattle.text_values.proofs.form_spellings.NetworksWhole.{subtasks_from, pairs_from, constraints_from}

pub whole_subtasks : (p : Placed) → Whole (form network_rows subs p) ↔ SpellsSomeSubtasks p
whole_subtasks p = (to, from)
  where
    to : Whole (form network_rows subs p) → SpellsSomeSubtasks p
    to h = let g = subtasks_to (declared_by p) (all_variables p) p (knows_all p) h in (declared_by p, all_words p, [], all_variables p, g.1.0, have_letters p, (g.0, g.1.1))

    from : SpellsSomeSubtasks p → Whole (form network_rows subs p)
    from s = subtasks_from s.0 s.3 s.5 s.1 s.2 p s.4 s.6.0 s.6.1

pub whole_pairs : (p : Placed) → Whole (form network_rows pairs p) ↔ SpellsSomePairs p
whole_pairs p = (to, from)
  where
    to : Whole (form network_rows pairs p) → SpellsSomePairs p
    to h = let g = pairs_to (declared_by p) (all_variables p) p (knows_all p) h in (all_words p, g.1.0, (g.0, g.1.1))

    from : SpellsSomePairs p → Whole (form network_rows pairs p)
    from s = pairs_from s.0 p s.1 s.2.0 s.2.1

pub whole_constraints : (p : Placed) → Whole (form network_rows cons p) ↔ SpellsSomeConstraints p
whole_constraints p = (to, from)
  where
    to : Whole (form network_rows cons p) → SpellsSomeConstraints p
    to h = let g = constraints_to (declared_by p) (all_variables p) p (knows_all p) h in (declared_by p, all_variables p, g.1.0, have_letters p, (g.0, g.1.1))

    from : SpellsSomeConstraints p → Whole (form network_rows cons p)
    from s = constraints_from s.0 s.1 s.3 p s.2 s.4.0 s.4.1
