use Rattle.std.proofs.Common.{Bool, true, false, not, ap, ◌∙◌, sym, arith}
use Rattle.std.specs.Option.{is_none}
use Rattle.std.proofs.lemmas.Grind.{common_steps}
use Rattle.name_binding.proofs.SectionLemmas.{types_in_order-next}
use Rattle.name_binding.proofs.section.declared.Goals as goal
use Rattle.name_binding.proofs.section.declared.Goals.{then-is_none+in_ok-declare-2, else-is_none}

pub loop-word-preserved : goal.loop-word-preserved
loop-word-preserved c =
    let place = ap is_none (sym c.get.ensures.place) ∙ ap not c.is_none.ensures in
    let next = λ (none : Bool). types_in_order-next c.args.object.number c.args.words.now c.loop-word.word-index (record { name = record { number = 0 }; variable = false; at = 0 }) c.loop-word.types c.if-is_none.types none c.loop-word-test.true c.loop-word.invariant in
    elim c.if-is_none.branch [
      | then-is_none+in_ok-declare-2 w ↦ next true (place ∙ ap (λ b. not (not b)) w.if-is_none.true) (w.types-is ∙ w.in_ok-declare-2.ensures.declared)
      | else-is_none w ↦ next false (place ∙ ap (λ b. not (not b)) w.if-is_none.false) w.types-is
    ]

pub returns : goal.returns
returns c = grind (arith, common_steps)
