use Rattle.std.proofs.Common.{ap, sym, ◌∙◌, arith}
use Rattle.text_forms.specs.Tokens.{tokens}
use Rattle.text_forms.specs.sexpr_text.Seen.{class_seen}
use Rattle.text_forms.proofs.sexpr_text.Entries.{entry_within, get_none, opening_ends, closes_none}
use Rattle.text_forms.proofs.sexpr_text.Numbered.{close_past}
use Rattle.text_forms.proofs.sexpr_text.index.Index.closing_of.Goals as goal

pub returns-in_err-entry : goal.returns-in_err-entry
returns-in_err-entry c =
    let past = get_none c.args.self.now.entries.items c.args.i (sym c.in_err-entry.ensures.entry) in
    let count = c.requires.index.count in
    record { close = c.from_residual.ensures ∙ sym (close_past (tokens c.args.source.now) 0 c.args.i (omega arith)) }

pub bounds-source-entry : goal.bounds-source-entry
bounds-source-entry c = entry_within c.args.source.now c.args.i c.in_ok-entry.entry (c.requires.index.each c.args.i c.in_ok-entry.entry (sym c.in_ok-entry.ensures.entry))

pub returns-in-Opening : goal.returns-in-Opening
returns-in-Opening c =
    record {
      close = opening_ends c.args.source.now c.args.i c.in_ok-entry.entry c.requires.faultless (c.requires.index.each c.args.i c.in_ok-entry.entry (sym c.in_ok-entry.ensures.entry))
          (sym c.class_of.ensures.class ∙ ap class_seen c.in-Opening.is);
    }

pub returns-in_default : goal.returns-in_default
returns-in_default c =
    record {
      close = closes_none c.args.source.now c.args.i c.in_ok-entry.entry c.class_of.result (c.requires.index.each c.args.i c.in_ok-entry.entry (sym c.in_ok-entry.ensures.entry))
          c.class_of.ensures.class c.in_default.not-Opening;
    }
