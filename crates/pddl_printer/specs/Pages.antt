-- A domain text is its start, the lines of its actions, and its end.
-- Source: this project's.
use Rattle.std.specs.Prelude.{ℕ, List, ◌++◌, codes}
use Rattle.text_forms.specs.Printing.{lines}
use Rattle.plan_texts.specs.Declared.{named}
use Rattle.plan_model.specs.declared.values.Pddl.{Pddl}
use Rattle.pddl_printer.specs.Heads.{domain_head}

-- the line with the domain's name, and the sections before the actions
abbrev pub domain_start : Pddl → List ℕ
domain_start p = codes "(define (domain " ++ (named p.names p.domain ++ (codes ")\n" ++ lines (domain_head p)))

abbrev pub domain_end : List ℕ
domain_end = codes ")\n"
