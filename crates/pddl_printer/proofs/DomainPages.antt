-- The domain text of a value in either form: its start, the lines of its actions, and its end.
use Rattle.std.proofs.Common.{ℕ, ◌≡◌, List, ◌++◌, Option, codes, ap, sym, ◌∙◌, append_assoc}
use Rattle.text_forms.specs.Lists.{joined}
use Rattle.text_forms.specs.Printing.{lines}
use Rattle.plan_texts.specs.Declared.{named}
use Rattle.plan_texts.specs.PrintedTexts.{domain_text}
use Rattle.plan_model.specs.declared.values.Pddl.{Pddl}
use Rattle.pddl_printer.specs.declared.object_range.Range.{Range}
use Rattle.pddl_printer.specs.InForm.{value_in}
use Rattle.pddl_printer.specs.Heads.{domain_head}
use Rattle.pddl_printer.specs.Texts.{actions_text}
use Rattle.pddl_printer.specs.Pages.{domain_start, domain_end}
use Rattle.pddl_printer.proofs.Heads.{lines-joined}
use Rattle.pddl_printer.proofs.Lines.{page-is}
use Rattle.pddl_printer.proofs.Forms.{action_parts, domain-in}

start-then : (d w e h a z : List ℕ) → (d ++ (w ++ (e ++ h))) ++ (a ++ z) ≡ d ++ (w ++ (e ++ ((h ++ a) ++ z)))
start-then d w e h a z = simp append_assoc

pub domain-is : (range : Option Range) (p : Pddl) → domain_text (value_in range p) ≡ domain_start p ++ (actions_text p range p.actions ++ domain_end)
domain-is range p =
    let d = codes "(define (domain " in
    let w = named p.names p.domain in
    let h = domain_head p in
    let a = action_parts range p p.actions in
    let start = start-then d w (codes ")\n") (lines h) (lines a) domain_end in
    let whole = ap (λ l. d ++ (w ++ (codes ")\n" ++ (l ++ domain_end)))) (lines-joined h a) in
    sym (start ∙ whole ∙ page-is (codes "(define ") (codes "domain") w (lines (joined h a)) domain_end ∙ domain-in range p)
