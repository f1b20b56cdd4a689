-- The page of a value in either form: its head, which is the same, and what is behind it.
use Rattle.std.proofs.Common.{◌≡◌, List, [], ◌∷◌, Option, None, Some, map, codes, refl, ap}
use Rattle.text_forms.specs.Lists.{Parts, nothing, part, joined}
use Rattle.text_forms.specs.Printing.{headed, page}
use Rattle.plan_texts.specs.Declared.{named}
use Rattle.plan_texts.specs.SpellsPddl.{pddl_words}
use Rattle.plan_texts.specs.Printed.{all_parts, formula_part}
use Rattle.plan_texts.specs.PrintedTexts.{action_part, domain_text, problem_text}
use Rattle.plan_model.specs.declared.schemas.ActionSchema.{ActionSchema}
use Rattle.plan_model.specs.declared.values.Pddl.{Pddl}
use Rattle.pddl_printer.specs.declared.object_range.Range.{Range}
use Rattle.pddl_printer.specs.InForm.{condition_in, action_in, value_in}
use Rattle.pddl_printer.specs.Heads.{domain_head, problem_head}

as_they_are : (actions : List ActionSchema) → map (action_in None) actions ≡ actions
as_they_are [] = refl
as_they_are (a ∷ actions) = ap (λ z. a ∷ z) (as_they_are actions)

abbrev pub action_parts : Option Range → Pddl → List ActionSchema → Parts
action_parts range p actions = all_parts (map (action_part (pddl_words p)) (map (action_in range) actions))

abbrev pub goal_parts : Option Range → Pddl → Parts
goal_parts range p = part (headed (codes ":goal") (part (formula_part (pddl_words p) (condition_in range 0 p.goal) []) nothing)) nothing

pub domain-in : (range : Option Range) (p : Pddl) → page (codes "domain") (named p.names p.domain) (joined (domain_head p) (action_parts range p p.actions)) ≡ domain_text (value_in range p)
domain-in None p = ap (λ actions. page (codes "domain") (named p.names p.domain) (joined (domain_head p) (all_parts (map (action_part (pddl_words p)) actions)))) (as_they_are p.actions)
domain-in (Some r) p = refl

pub problem-in : (range : Option Range) (p : Pddl) → page (codes "problem") (named p.names p.problem) (joined (problem_head p) (goal_parts range p)) ≡ problem_text (value_in range p)
problem-in None p = refl
problem-in (Some r) p = refl
