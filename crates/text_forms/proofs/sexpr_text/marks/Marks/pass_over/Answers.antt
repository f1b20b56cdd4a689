use Rattle.std.proofs.Common.{◌≡◌, ◌≤◌, ◌+◌, None, refl, sym, ap, ◌∙◌, subst, arith}
use Rattle.std.proofs.Math.Nat.{min-le_left, min-le_right}
use Rattle.text_forms.specs.Bytes.{opening, closing, letter}
use Rattle.text_forms.specs.Faults.{code_at}
use Rattle.text_forms.specs.declared.sexpr_text.marks.Marks.{Marks}
use Rattle.text_forms.specs.declared.sexpr_text.marks.Place.{Place}
use Rattle.text_forms.specs.sexpr_text.Places.{IsReadTo}
use Rattle.text_forms.specs.sexpr_text.Seen.{class_seen}
use Rattle.text_forms.proofs.sexpr_text.Numbered.{place_number, marks_more, marks_as_before}
use Rattle.text_forms.proofs.sexpr_text.Passed.{GoesOnMarking, passed_opening, passed_closing, passed_word, read_opening, read_closing, read_word, one_less}
use Rattle.text_forms.proofs.sexpr_text.marks.Marks.pass_over.Goals as goal
use Rattle.text_forms.proofs.sexpr_text.marks.Marks.pass_over.Goals.{in-Opening, in-Closing, in-Letter, then-self-eq0+in_ok-push+in_ok-push-2, else-self-eq0}

pub overflow_add-self : goal.overflow_add-self
overflow_add-self c =
    let few = place_number c.args.source.now c.args.self.now.count c.args.place c.requires.read.place in
    let same : c.if-self-eq0.self.count ≡ c.args.self.now.count =
    elim c.if-self-eq0.branch [
      | then-self-eq0+in_ok-push+in_ok-push-2 w ↦ ap (λ m. m.count) w.self-is
      | else-self-eq0 w ↦ ap (λ m. m.count) w.self-is
    ] in
    omega (arith, c.requires.short)

pub returns-clause-read : goal.returns-clause-read
returns-clause-read c =
    let text = c.args.source.now in let p = c.args.place in let old = c.args.self.now in
    let made = c.if-self-eq0.self in
    let new : Marks = record { count = made.count + 1; places = made.places; least = made.least; low = made.low } in
    let one : new.count ≡ old.count + 1 =
    elim c.if-self-eq0.branch [
      | then-self-eq0+in_ok-push+in_ok-push-2 w ↦ ap (λ m. m.count + 1) w.self-is
      | else-self-eq0 w ↦ ap (λ m. m.count + 1) w.self-is
    ] in
    let on : GoesOnMarking p c.match-class.next old new =
    λ text here behind marks. elim c.if-self-eq0.branch [
      | then-self-eq0+in_ok-push+in_ok-push-2 w ↦
          marks_more text old new p c.match-class.next here behind marks one w.min.result w.if-self-eq0.true
          (ap (λ m. m.places.items) w.self-is ∙ w.in_ok-push.ensures.items) (ap (λ m. m.least.items) w.self-is ∙ w.in_ok-push-2.ensures.items)
          (subst (λ n. n ≤ old.low) (sym w.min.ensures) (min-le_left old.low 255)) (ap (λ m. m.low) w.self-is)
      | else-self-eq0 w ↦
          let low : new.low ≡ w.min-self.result = ap (λ m. m.low) w.self-is in
          marks_as_before text old new p c.match-class.next here behind marks one w.if-self-eq0.false
          (ap (λ m. m.places.items) w.self-is) (ap (λ m. m.least.items) w.self-is)
          (subst (λ n. n ≤ old.low) (sym (low ∙ w.min-self.ensures)) (min-le_left old.low c.match-class.next.depth))
          (subst (λ n. n ≤ c.match-class.next.depth) (sym (low ∙ w.min-self.ensures)) (min-le_right old.low c.match-class.next.depth))
    ] in
    elim c.match-class.branch [
      | in-Opening w ↦
          let q : Place = record { at = p.at + 1; depth = p.depth + 1 } in
          let is : class_seen c.args.class ≡ opening = ap class_seen w.in-Opening.is in
          subst (IsReadTo text new) (sym w.next-is)
          (read_opening text old new p q c.requires.read one (subst (λ q. GoesOnMarking p q old new) w.next-is on)
          (passed_opening text p.at c.requires.within (sym is ∙ c.requires.class)) (λ opens l. subst (λ k. code_at opens k ≡ None) is (c.requires.good opens l)) refl)
      | in-Closing w ↦
          let q : Place = record { at = p.at + 1; depth = w.saturating_sub.result } in
          let is : class_seen c.args.class ≡ closing = ap class_seen w.in-Closing.is in
          subst (IsReadTo text new) (sym w.next-is)
          (read_closing text old new p q c.requires.read one (subst (λ q. GoesOnMarking p q old new) w.next-is on)
          (passed_closing text p.at c.requires.within (sym is ∙ c.requires.class)) (λ opens l. subst (λ k. code_at opens k ≡ None) is (c.requires.good opens l))
          (w.saturating_sub.ensures ∙ one_less p.depth))
      | in-Letter w ↦
          let q : Place = record { at = w.word_end.result; depth = p.depth } in
          let is : class_seen c.args.class ≡ letter = ap class_seen w.in-Letter.is in
          let end = w.word_end.ensures in
          subst (IsReadTo text new) (sym w.next-is)
          (read_word text old new p q c.requires.read one (subst (λ q. GoesOnMarking p q old new) w.next-is on)
          (passed_word text p.at w.word_end.result c.requires.within (sym is ∙ c.requires.class) end.later end.within end.tokens end.faults) refl)
    ]
