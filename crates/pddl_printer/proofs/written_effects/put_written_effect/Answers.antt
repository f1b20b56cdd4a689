use Rattle.std.proofs.Common.{map, codes, ap, sym, subst, ◌∙◌}
use Rattle.plan_texts.specs.SpellsPddl.{pddl_words}
use Rattle.plan_texts.specs.Printed.{all_parts, effect_part}
use Rattle.plan_texts.proofs.Equations as printed
use Rattle.pddl_printer.specs.WrittenOut.{joined, effect_parts, effect}
use Rattle.pddl_printer.proofs.written_out.Equations as written
use Rattle.pddl_printer.specs.Behind.{behind}
use Rattle.pddl_printer.specs.Literals.{effects_behind}
use Rattle.pddl_printer.specs.Scopes.{words_in_force}
use Rattle.text_forms.specs.sheets.Sheets.{Wrote}
use Rattle.text_forms.proofs.sheets.Written.{wrote-as}
use Rattle.pddl_printer.proofs.Each.{each-next, each-done}
use Rattle.pddl_printer.proofs.Ranges.{behind-joined}
use Rattle.pddl_printer.proofs.Groups.{wrote-at, wrote-headed, wrote-one}
use Rattle.pddl_printer.proofs.OtherEffects.{effect_of-other}
use Rattle.pddl_printer.proofs.written_effects.put_written_effect.Goals as goal
use Rattle.pddl_printer.proofs.written_effects.put_written_effect.Goals.{in-Some, in-None}

pub loop-part-preserved : goal.loop-part-preserved
loop-part-preserved c =
    let v = pddl_words c.args.p.now in
    let s = words_in_force c.args.p.now c.args.scope.now in
    let r = c.args.of.written.range in
    let d = c.args.of.depth in
    let part = c.part-item.result in
    each-next (λ e. effects_behind v s (effect_parts r d e)) c.as_slice-parts.result.now c.loop-part.part-index part c.loop-part-test.true c.part-item.is c.loop-part.invariant
    (elim c.match-literal_of.branch [
      | in-Some w ↦ subst (λ t. Wrote (effects_behind v s (effect_parts r d part)) c.loop-part.sheet t) (sym w.sheet-is) (wrote-as (w.in-Some.ensures v s d) w.put_each.ensures)
      | in-None w ↦
          subst (λ t. Wrote (effects_behind v s (effect_parts r d part)) c.loop-part.sheet t) (sym w.sheet-is)
          (wrote-at (effects_behind v s) (sym (w.in-None.ensures d)) (wrote-one (effect_part v part s) w.put_effect.ensures))
    ])

pub returns-after-loop-part : goal.returns-after-loop-part
returns-after-loop-part c =
    let v = pddl_words c.args.p.now in
    let s = words_in_force c.args.p.now c.args.scope.now in
    let r = c.args.of.written.range in
    let d = c.args.of.depth in
    let parts = joined (map (effect_parts r d) c.in-And.parts) in
    wrote-at behind (sym (ap (λ e. effect_part v (effect r d e) s) c.in-And.is ∙ ap (λ e. effect_part v e s) (written.effect-And r d c.in-And.parts) ∙ printed.effect-And v parts s))
    (wrote-headed (codes "and") (all_parts (map (λ e. effect_part v e s) parts)) c.put.ensures.wrote (wrote-at (λ es. effects_behind v s (joined (map (effect_parts r d) es))) c.as_slice-parts.ensures.items
    (wrote-as (behind-joined (λ e. effect_part v e s) (effect_parts r d) c.as_slice-parts.result.now)
    (each-done (λ e. effects_behind v s (effect_parts r d e)) c.as_slice-parts.result.now c.loop-part.part-index c.loop-part-test.false c.loop-part.invariant))) c.put-in-And.ensures.wrote)

pub returns-in_default : goal.returns-in_default
returns-in_default c =
    let v = pddl_words c.args.p.now in
    let s = words_in_force c.args.p.now c.args.scope.now in
    let r = c.args.of.written.range in
    let d = c.args.of.depth in
    wrote-at (λ e. behind (effect_part v e s)) (sym (effect_of-other r d c.args.whole.now c.args.whole.now c.in_default.not-And)) c.put_effect-in_default.ensures
