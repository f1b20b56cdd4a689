use Rattle.std.proofs.Common.{◌≡◌, ◌<◌, ◌+◌, ◌∷◌, ◌++◌, [], inl, inr, Some, refl, sym, ap, ◌∙◌, subst, length, reverse, arith}
use Rattle.std.proofs.lemmas.List.{length-reverse, reverse-append}
use Rattle.std.specs.Prelude.{IfSome, slice_set}
use Rattle.text_forms.proofs.Lists.{few_tokens}
use Rattle.text_forms.specs.Bytes.{opening, closing, letter}
use Rattle.text_forms.specs.Faults.{innermost}
use Rattle.text_forms.specs.Tokens.{start, stop, word}
use Rattle.text_forms.specs.declared.sexpr_text.tokens.Kind.TheVariants.{Start, Stop, Word}
use Rattle.text_forms.specs.declared.sexpr_text.tokens.Piece.{Piece}
use Rattle.text_forms.specs.sexpr_text.Index.{closed, ended}
use Rattle.text_forms.specs.sexpr_text.Places.{IsGoodAt, IsPassed}
use Rattle.text_forms.specs.sexpr_text.Seen.{class_seen, opened}
use Rattle.text_forms.proofs.sexpr_text.Indexed.{GoesOnIndexing, below_innermost, ended_set, enter_more, enter_start, enter_stop, enter_word, entry_of, one_out}
use Rattle.text_forms.proofs.sexpr_text.Passed.{passed_opening, passed_closing, passed_word}
use Rattle.text_forms.proofs.sexpr_text.Popped.{popped}
use Rattle.text_forms.proofs.sexpr_text.index.Index.pass_over.Goals as goal
use Rattle.text_forms.proofs.sexpr_text.index.Index.pass_over.Goals.{in-Opening, in-Letter}

pub overflow_cast-i : goal.overflow_cast-i
overflow_cast-i c = let number = c.requires.read.indexed.number in omega (arith, c.requires.short, few_tokens c.args.source.now)

pub returns-in_ok-push-in-Opening-class-clause-read : goal.returns-in_ok-push-in-Opening-class-clause-read
returns-in_ok-push-in-Opening-class-clause-read c =
    let text = c.args.source.now in let at = c.args.at in let end = c.match-class.end in
    let es = c.args.self.now.entries.items in let js = opened c.args.open_lists.now in
    let next_js = opened c.push-in-Opening-class.new.self in
    let p : Piece = record { kind = Start; span = record { start = at; end = end } } in
    let is : class_seen c.args.class ≡ opening = ap class_seen c.in-Opening-class.is in
    let good : IsGoodAt (length js) opening = subst (λ d. IsGoodAt d opening) (sym (length-reverse c.args.open_lists.now.items)) (subst (IsGoodAt (length c.args.open_lists.now.items)) is c.requires.good) in
    let passed : IsPassed text at end opening =
    elim c.match-class.branch [
      | in-Opening w ↦ subst (λ e. IsPassed text at e opening) (sym w.end-is) (passed_opening text at c.requires.within (sym is ∙ c.requires.class))
      | in-Letter w ↦ absurd (let a = c.in-Opening-class.is in let b = w.in-Letter.is in cc)
    ] in
    let count : c.len-i.result ≡ length es = omega arith in
    let lists : next_js ≡ length es ∷ js = ap reverse c.in_ok-push-in-Opening-class.ensures.items ∙ reverse-append c.args.open_lists.now.items (c.len-i.result ∷ []) ∙ ap (λ n. n ∷ js) count in
    enter_more text at end opening start p es c.push.new.self.items js next_js c.requires.read passed refl refl refl refl good
    (subst (λ xs. GoesOnIndexing p es js xs next_js) (sym c.in_ok-push.ensures.items) (subst (GoesOnIndexing p es js (es ++ entry_of p ∷ [])) (sym lists) (enter_start p es js refl)))
    (ap length lists)

pub returns-in-Some-clause-read : goal.returns-in-Some-clause-read
returns-in-Some-clause-read c =
    let text = c.args.source.now in let at = c.args.at in let end = c.match-class.end in
    let es = c.args.self.now.entries.items in let js = opened c.args.open_lists.now in
    let p : Piece = record { kind = Stop; span = record { start = at; end = end } } in
    let is : class_seen c.args.class ≡ closing = ap class_seen c.in-Closing.is in
    let good : IsGoodAt (length js) closing = subst (λ d. IsGoodAt d closing) (sym (length-reverse c.args.open_lists.now.items)) (subst (IsGoodAt (length c.args.open_lists.now.items)) is c.requires.good) in
    let passed : IsPassed text at end closing =
    elim c.match-class.branch [
      | in-Opening w ↦ subst (λ e. IsPassed text at e closing) (sym w.end-is) (passed_closing text at c.requires.within (sym is ∙ c.requires.class))
      | in-Letter w ↦ absurd (let a = c.in-Closing.is in let b = w.in-Letter.is in cc)
    ] in
    let more = es ++ entry_of p ∷ [] in
    let items : c.push.new.self.items ≡ more = c.in_ok-push.ensures.items in
    let count : c.len-i.result ≡ length es = omega arith in
    let j = c.in-Some.j in
    let out = popped c.args.open_lists.now.len c.args.open_lists.now.items c.pop.new.self.items c.pop.result (let ok = c.args.open_lists.now.ok.0 in omega arith) c.pop.ensures.items c.pop.ensures.variant in
    let some : Some j ≡ innermost js = sym c.in-Some.is ∙ out.0 in
    let below : j < length es + 1 = subst (λ o. IfSome o (λ j. j < length es + 1)) (sym some) (below_innermost (length es) js c.requires.read.indexed.below) in
    let known : j < length c.push.new.self.items = let longer = c.in_ok-push.ensures.len in let ok = c.push.new.self.ok.0 in let ok_before = c.args.self.now.entries.ok.0 in omega arith in
    let made : slice_set c.push.new.self.items j (record { at = c.index_mut.result.now.at; end = c.len-i.result }) ≡ closed (innermost js) (length es) more =
    ended_set c.push.new.self.items j c.len-i.result c.index_mut.result.now known c.index_mut.ensures.value
    ∙ ap (ended j c.len-i.result) items ∙ ap (λ n. ended j n more) count ∙ ap (λ o. closed o (length es) more) some in
    enter_more text at end closing stop p es (slice_set c.push.new.self.items j (record { at = c.index_mut.result.now.at; end = c.len-i.result })) js (opened c.pop.new.self) c.requires.read passed refl refl refl refl good
    (subst (λ xs. GoesOnIndexing p es js xs (opened c.pop.new.self)) (sym made) (subst (GoesOnIndexing p es js (closed (innermost js) (length es) more)) (sym out.1) (enter_stop p es js refl)))
    (ap length out.1 ∙ one_out js)

pub returns-in_default : goal.returns-in_default
returns-in_default c =
    let text = c.args.source.now in let at = c.args.at in let end = c.match-class.end in
    let es = c.args.self.now.entries.items in let js = opened c.args.open_lists.now in
    let p : Piece = record { kind = Word; span = record { start = at; end = end } } in
    let is : class_seen c.args.class ≡ letter =
    elim c.match-class.branch [
      | in-Opening w ↦ absurd (elim w.in-Opening.is [ inl a ↦ c.in_default.not-Opening a | inr b ↦ c.in_default.not-Closing b ])
      | in-Letter w ↦ ap class_seen w.in-Letter.is
    ] in
    let good : IsGoodAt (length js) letter = subst (λ d. IsGoodAt d letter) (sym (length-reverse c.args.open_lists.now.items)) (subst (IsGoodAt (length c.args.open_lists.now.items)) is c.requires.good) in
    let passed : IsPassed text at end letter =
    elim c.match-class.branch [
      | in-Opening w ↦ absurd (elim w.in-Opening.is [ inl a ↦ c.in_default.not-Opening a | inr b ↦ c.in_default.not-Closing b ])
      | in-Letter w ↦
          let ends = w.word_end-end.ensures in
          subst (λ e. IsPassed text at e letter) (sym w.end-is)
          (passed_word text at w.word_end-end.result c.requires.within (sym is ∙ c.requires.class) ends.later ends.within ends.tokens ends.faults)
    ] in
    record {
      later = passed.later;
      read = enter_more text at end letter word p es c.push.new.self.items js js c.requires.read passed refl refl refl refl good
          (subst (λ xs. GoesOnIndexing p es js xs js) (sym c.in_ok-push.ensures.items) (enter_word p es js refl))
          refl;
    }
