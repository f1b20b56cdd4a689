use Rattle.std.proofs.Common.{Option, map, length, sym, subst}
use Rattle.plan_texts.specs.Declared.{variable}
use Rattle.plan_texts.specs.SpellsPddl.{pddl_words}
use Rattle.plan_texts.specs.Printed.{effect_part}
use Rattle.pddl_printer.specs.declared.written.Written.{Written}
use Rattle.pddl_printer.specs.Behind.{behind}
use Rattle.pddl_printer.specs.InForm.{effect_in}
use Rattle.pddl_printer.specs.Measured.{range_of}
use Rattle.text_forms.specs.sheets.Sheets.{Wrote}
use Rattle.text_forms.proofs.sheets.Written.{wrote-then}
use Rattle.pddl_printer.proofs.Groups.{wrote-at}
use Rattle.pddl_printer.proofs.schemas.put_action_end.Goals as goal
use Rattle.pddl_printer.proofs.schemas.put_action_end.Goals.{in-Some, in-None}

pub returns : goal.returns
returns c =
    let v = pddl_words c.args.p.now in
    let xs = c.args.params.now in
    let text = λ (o : Option Written). behind (effect_part v (effect_in (range_of o) (length xs) c.args.effect.now) (map (variable v) xs)) in
    let change : Wrote (text c.args.written) c.put.new.self c.match-written.sheet =
    elim c.match-written.branch [
      | in-Some w ↦ subst (λ t. Wrote (text c.args.written) c.put.new.self t) (sym w.sheet-is) (wrote-at text (sym w.in-Some.is) w.put_written_effect.ensures)
      | in-None w ↦ subst (λ t. Wrote (text c.args.written) c.put.new.self t) (sym w.sheet-is) (wrote-at text (sym w.in-None.is) w.put_effect.ensures)
    ] in
    wrote-then c.put.ensures.wrote (wrote-then change c.put-2.ensures.wrote)
