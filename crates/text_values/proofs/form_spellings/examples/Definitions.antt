-- Whole texts and what they spell: a domain without sections, and one of an action whose variable is declared nowhere.
use Rattle.std.proofs.Common.{codes}
use Rattle.text_forms.specs.Placed.{Placed, cut, close, word, list}
use Rattle.text_forms.specs.form_grammar.Codes.{Whole}
use Rattle.text_forms.specs.form_grammar.Definitions.{definition_form}
use Rattle.text_forms.specs.form_grammar.Sections.{hddl, pddl, domain, problem}
use Rattle.text_values.specs.form_spellings.SpellsSomeNetwork.{SpellsSomeSubtasks, SpellsSomePairs}
use Rattle.text_values.specs.form_spellings.SpellsSomeSections.{SpellsSomeDefinition}
use Rattle.text_values.proofs.form_spellings.WholeDefinitions.{whole_definitions}
use Rattle.text_values.proofs.form_spellings.WholeNetworks.{whole_subtasks, whole_pairs}

-- (define (domain d)) with the places of its bytes
abbrev smallest : Placed
smallest = list 0 (word 1 (codes "define") (list 8 (word 9 (codes "domain") (word 16 (codes "d") (close 17))) (close 18))) cut

smallest_whole : Whole (definition_form hddl domain smallest)
smallest_whole = tt

smallest_spells : SpellsSomeDefinition hddl domain smallest
smallest_spells = (whole_definitions hddl domain smallest).0 tt

-- (define (problem d)) has no network: a problem of PDDL, and none of HDDL
abbrev netless : Placed
netless = list 0 (word 1 (codes "define") (list 8 (word 9 (codes "problem") (word 17 (codes "d") (close 18))) (close 19))) cut

pddl_whole : Whole (definition_form pddl problem netless)
pddl_whole = tt

hddl_spells_none : SpellsSomeDefinition hddl problem netless → ⊥
hddl_spells_none s = (whole_definitions hddl problem netless).1 s

-- (define (domain d) (:action a :precondition (p ?x))), where ?x is no parameter: each part spells something, over words of its own
abbrev loose : Placed
loose =
    list 0 (word 1 (codes "define") (list 8 (word 9 (codes "domain") (word 16 (codes "d") (close 17)))
    (list 19 (word 20 (codes ":action") (word 28 (codes "a") (word 30 (codes ":precondition") (list 44 (word 45 (codes "p") (word 47 (codes "?x") (close 49))) (close 50))))) (close 51)))) cut

loose_spells : SpellsSomeDefinition pddl domain loose
loose_spells = (whole_definitions pddl domain loose).0 tt

-- and (x (t ?a)) )
abbrev children : Placed
children = word 0 (codes "and") (list 4 (word 5 (codes "x") (list 7 (word 8 (codes "t") (word 10 (codes "?a") (close 12))) (close 13))) (close 15))

children_spell : SpellsSomeSubtasks children
children_spell = (whole_subtasks children).0 tt

-- x < y ) and < x y ) are pairs, x y < ) is none
abbrev between : Placed
between = word 0 (codes "x") (word 2 (codes "<") (word 4 (codes "y") (close 6)))

between_spells : SpellsSomePairs between
between_spells = (whole_pairs between).0 tt

abbrev ahead : Placed
ahead = word 0 (codes "<") (word 2 (codes "x") (word 4 (codes "y") (close 6)))

ahead_spells : SpellsSomePairs ahead
ahead_spells = (whole_pairs ahead).0 tt

abbrev last : Placed
last = word 0 (codes "x") (word 2 (codes "y") (word 4 (codes "<") (close 6)))

last_spells_none : SpellsSomePairs last → ⊥
last_spells_none s = (whole_pairs last).1 s
