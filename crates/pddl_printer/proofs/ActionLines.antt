-- The line of an action from its start, its condition and its end.
use Rattle.std.proofs.Common.{ℕ, ◌≡◌, List, [], ◌++◌, Option, map, length, codes, ap, sym, ◌∙◌, append_assoc}
use Rattle.std.proofs.lemmas.List.{append-nil}
use Rattle.text_forms.specs.Lists.{name, group, nothing, part}
use Rattle.text_forms.specs.Printing.{bytes_behind}
use Rattle.plan_texts.specs.Declared.{named, variable}
use Rattle.plan_texts.specs.SpellsPddl.{pddl_words}
use Rattle.plan_texts.specs.Printed.{params_parts, formula_part, effect_part}
use Rattle.plan_model.specs.declared.schemas.ActionSchema.{ActionSchema}
use Rattle.plan_model.specs.declared.values.Pddl.{Pddl}
use Rattle.pddl_printer.specs.declared.object_range.Range.{Range}
use Rattle.pddl_printer.specs.ActionLines.{action_start, action_condition, action_end}
use Rattle.pddl_printer.specs.Behind.{behind}
use Rattle.pddl_printer.specs.InForm.{condition_in, effect_in}
use Rattle.pddl_printer.specs.Texts.{action_text}
use Rattle.pddl_printer.proofs.Lines.{named-line}

together : (k n a x b f c e z : List ℕ) → (k ++ (n ++ (a ++ (x ++ b)))) ++ (f ++ (c ++ (e ++ z))) ≡ k ++ (n ++ ((a ++ (x ++ (b ++ (f ++ (c ++ (e ++ [])))))) ++ z))
together k n a x b f c e z =
    let u : (k ++ (n ++ (a ++ (x ++ b)))) ++ (f ++ (c ++ (e ++ z))) ≡ k ++ (n ++ ((a ++ (x ++ (b ++ (f ++ (c ++ e))))) ++ z)) = simp append_assoc in
    u ∙ ap (λ w. k ++ (n ++ ((a ++ (x ++ (b ++ (f ++ (c ++ w))))) ++ z))) (sym (append-nil e))

pub action-is : (p : Pddl) (range : Option Range) (a : ActionSchema) → action_start p a.params a.name ++ (action_condition p a.params range a.pre ++ action_end p a.params range a.eff) ≡ action_text p range a
action-is p range a =
    let v = pddl_words p in
    let s = map (variable v) a.params in
    let xs = group (params_parts v a.params) in
    let pre = formula_part v (condition_in range (length a.params) a.pre) s in
    let eff = effect_part v (effect_in range (length a.params) a.eff) s in
    let parts = part (name (codes ":parameters")) (part xs (part (name (codes ":precondition")) (part pre (part (name (codes ":effect")) (part eff nothing))))) in
    together (codes " (:action ") (named p.names a.name) (codes " :parameters") (behind xs) (codes " :precondition") (behind pre) (codes " :effect") (behind eff) (codes ")\n")
    ∙ named-line (codes ":action") (named p.names a.name) (bytes_behind parts)
