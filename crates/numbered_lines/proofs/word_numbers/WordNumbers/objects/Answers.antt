use Rattle.std.proofs.Common.{ℕ, List, Some, None, length, refl, sym, subst}
use Rattle.std.proofs.lemmas.Option.{slice_get_read}
use Rattle.problem_index.specs.Places.{HasWordAt}
use Rattle.numbered_lines.specs.WordNumbers.{object_names, AreObjects}
use Rattle.numbered_lines.proofs.Listed.{made_next, partner}
use Rattle.numbered_lines.proofs.Worded.{found_by}
use Rattle.numbered_lines.proofs.word_numbers.WordNumbers.objects.Goals as goal

pub returns-in-None : goal.returns-in-None
returns-in-None c = λ p are os h.
    let words = c.as_slice-word-items.result.now in
    let i = c.loop-word.word-index in
    let word = c.word-item.result in
    let at = slice_get_read words (length words) i word refl c.loop-word-test.true c.word-item.is in
    let self = c.args.self.now in
    let found = partner (λ (w : List ℕ) (o : ℕ). HasWordAt p.hddl.names (object_names p) w o) words os i word
    (subst (λ (z : List (List ℕ)). AreObjects p z os) (sym c.as_slice-word-items.ensures.items) h) at in
    found_by self.words p.hddl.names self.objects.by_name.items c.as_slice.result.now word None (object_names p) are.words
    c.as_slice.ensures.bytes c.in-None.ensures are.objects found.0 found.1

pub loop-word-preserved : goal.loop-word-preserved
loop-word-preserved c = λ p are.
    let words = c.as_slice-word-items.result.now in
    let i = c.loop-word.word-index in
    let word = c.word-item.result in
    let self = c.args.self.now in
    let object = c.in-Some.object in
    made_next (λ (w : List ℕ) (o : ℕ). HasWordAt p.hddl.names (object_names p) w o) words i word c.loop-word.objects c.push.new.self object
    (slice_get_read words (length words) i word refl c.loop-word-test.true c.word-item.is)
    c.in_ok-push-in-Some.ensures.pushed
    (found_by self.words p.hddl.names self.objects.by_name.items c.as_slice.result.now word (Some object) (object_names p)
    are.words c.as_slice.ensures.bytes c.in-Some.ensures are.objects)
    (c.loop-word.invariant p are)
