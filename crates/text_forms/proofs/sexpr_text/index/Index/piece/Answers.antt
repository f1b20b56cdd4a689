use Rattle.std.proofs.Common.{Some, ap, sym, ◌∙◌}
use Rattle.text_forms.specs.declared.sexpr_text.tokens.Kind.TheVariants.{Start, Stop, Word}
use Rattle.text_forms.specs.sexpr_text.Index.{cut}
use Rattle.text_forms.specs.sexpr_text.Seen.{class_seen}
use Rattle.text_forms.proofs.sexpr_text.Entries.{entry_within, kept, cut_word, cut_within, piece_made}
use Rattle.text_forms.proofs.sexpr_text.index.Index.piece.Goals as goal

pub bounds-source-at : goal.bounds-source-at
bounds-source-at c = entry_within c.args.source.now c.args.i c.in_ok-entry.entry (c.requires.index.each c.args.i c.in_ok-entry.entry (sym c.in_ok-entry.ensures.entry))

pub returns-in-Opening-clause-piece : goal.returns-in-Opening-clause-piece
returns-in-Opening-clause-piece c =
    let e = c.in_ok-entry.entry in
    ap Some (piece_made c.new.result Start c.new.ensures.kind c.new.ensures.start c.new.ensures.end ∙ ap (λ k. cut k e) (sym (ap class_seen c.in-Opening.is) ∙ c.class_of.ensures.class))
    ∙ sym (kept c.args.source.now c.args.i e (c.requires.index.each c.args.i e (sym c.in_ok-entry.ensures.entry)))

pub returns-in-Closing-clause-piece : goal.returns-in-Closing-clause-piece
returns-in-Closing-clause-piece c =
    let e = c.in_ok-entry.entry in let made = c.new-in-Closing.ensures in
    ap Some (piece_made c.new-in-Closing.result Stop made.kind made.start made.end ∙ ap (λ k. cut k e) (sym (ap class_seen c.in-Closing.is) ∙ c.class_of.ensures.class))
    ∙ sym (kept c.args.source.now c.args.i e (c.requires.index.each c.args.i e (sym c.in_ok-entry.ensures.entry)))

pub returns-in_default : goal.returns-in_default
returns-in_default c =
    let text = c.args.source.now in let e = c.in_ok-entry.entry in let p = c.new-in_default.result in let made = c.new-in_default.ensures in
    let entry = c.requires.index.each c.args.i e (sym c.in_ok-entry.ensures.entry) in
    let same = piece_made p Word made.kind made.start made.end ∙ cut_word e c.class_of.result c.in_default.not-Opening c.in_default.not-Closing ∙ ap (λ k. cut k e) c.class_of.ensures.class in
    let there = cut_within text c.args.i e p entry same in
    record { piece = ap Some same ∙ sym (kept text c.args.i e entry); order = there.0; within = there.1 }
