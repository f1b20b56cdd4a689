use Rattle.std.proofs.Common.{◌≡◌, ℕ, List, [], ap, subst, ◌∙◌}
use Rattle.std.proofs.Common.{IfOk}
use Rattle.std.specs.Prelude.{unwrap_or}
use Rattle.std.proofs.lemmas.Option.{unwrap_or-slice_get}
use Rattle.htn_base.specs.Escapes.{escaped}
use Rattle.slot_encoding.proofs.slot_declarations.words.own_word.Goals as goal

pub returns-in-None : goal.returns-in-None
returns-in-None c =
    subst (λ (w : List ℕ). IfOk c.esc-in-None.result (λ text. text ≡ escaped w))
    (ap (λ o. unwrap_or o []) c.in-None.ensures.word ∙ unwrap_or-slice_get c.args.source.now c.args.name.number [])
    c.esc-in-None.ensures.escaped
