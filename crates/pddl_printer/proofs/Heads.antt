-- The sections of a page: those at its head, and those behind them.
use Rattle.std.proofs.Common.{◌≡◌, ◌∷◌, ◌++◌, refl, ap, ◌∙◌, append_assoc}
use Rattle.text_forms.specs.Lists.{Parts, nothing, part, joined}
use Rattle.text_forms.specs.Printing.{bytes, lines}
use Rattle.text_forms.specs.sheets.Sheets.{Wrote}
use Rattle.text_forms.specs.declared.sheets.sheet.Sheet.{Sheet}
use Rattle.text_forms.proofs.sheets.Written.{wrote-as, wrote-then}

pub lines-joined : (ps qs : Parts) → lines ps ++ lines qs ≡ lines (joined ps qs)
lines-joined nothing qs = refl
lines-joined (part p ps) qs = ap (λ z. 32 ∷ z) (append_assoc (bytes p) (10 ∷ lines ps) (lines qs) ∙ ap (λ z. bytes p ++ (10 ∷ z)) (lines-joined ps qs))

pub wrote-head : (ps qs : Parts) {s t u : Sheet} → Wrote (lines ps) s t → Wrote (lines qs) t u → Wrote (lines (joined ps qs)) s u
wrote-head ps qs v w = wrote-as (lines-joined ps qs) (wrote-then v w)
