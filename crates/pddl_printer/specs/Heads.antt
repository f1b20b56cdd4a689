-- The sections that a value has in common with the one in which its quantifiers are written out.
-- Source: appendix A (grammar) of Fox and Long, "PDDL2.1", JAIR 20, 2003, level 1; the layout is this project's.
use Rattle.std.specs.Prelude.{map, codes}
use Rattle.text_forms.specs.Lists.{Parts, name, nothing, part}
use Rattle.text_forms.specs.Printing.{headed}
use Rattle.plan_texts.specs.Declared.{named}
use Rattle.plan_texts.specs.SpellsPddl.{pddl_words}
use Rattle.plan_texts.specs.Printed.{all_parts, typed_parts}
use Rattle.plan_texts.specs.PrintedTexts.{parent_words, object_words, predicate_part, fact_part}
use Rattle.plan_model.specs.declared.values.Pddl.{Pddl}

-- those before the actions
abbrev pub domain_head : Pddl → Parts
domain_head c =
    part (headed (codes ":requirements") (part (name (codes ":adl")) nothing))
    (part (headed (codes ":types") (typed_parts (map (parent_words (pddl_words c)) c.types.parents)))
    (part (headed (codes ":constants") (typed_parts (map (object_words (pddl_words c)) c.objects)))
    (part (headed (codes ":predicates") (all_parts (map (predicate_part (pddl_words c)) c.predicates))) nothing)))

-- those before the goal
abbrev pub problem_head : Pddl → Parts
problem_head c =
    part (headed (codes ":domain") (part (name (named c.names c.domain)) nothing))
    (part (headed (codes ":objects") nothing)
    (part (headed (codes ":init") (all_parts (map (fact_part (pddl_words c)) c.init))) nothing))
