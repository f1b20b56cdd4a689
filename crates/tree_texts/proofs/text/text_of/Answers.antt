use Rattle.std.proofs.Common.{subst}
use Rattle.tree_texts.specs.TreeTexts.{IsPrinted}
use Rattle.tree_texts.proofs.text.text_of.Goals as goal

pub returns-in-Whole : goal.returns-in-Whole
returns-in-Whole c =
    let p = subst (IsPrinted c.in_ok-shown.shown c.args.most c.printed.new.into) c.in-Whole.is c.in_ok-printed.ensures.ended in
    record { text = (c.in_ok-shown.shown, c.in_ok-shown.ensures.shown, p.0, p.1) }
