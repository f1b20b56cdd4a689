use Rattle.std.proofs.Common.{ℕ, subst, sym}
use Rattle.plan_model.specs.declared.values.Pddl.{Pddl}
use Rattle.plan_model.specs.declared.options.Slots.{Slots}
use Rattle.plan_model.specs.declared.options.Style.{Style}
use Rattle.slot_encoding.specs.EncodedValue.{IsEncoded}
use Rattle.slot_encoding.specs.EncodedWords.{HasEncodedWords}
use Rattle.slot_encoding.specs.FirstFree.{HasWordsBy}
use Rattle.slot_encoder.specs.Encodings.{with_actions}
use Rattle.slot_encoder.specs.Encodings.{IsPrintableWhereSound}
use Rattle.slot_encoder.proofs.WholeValues.{value-encoded, value-printable}
use Rattle.slot_encoder.proofs.encoding.encode.Goals as goal

pub returns-in-Ok-clause-encoded : goal.returns-in-Ok-clause-encoded
returns-in-Ok-clause-encoded c =
    let e = c.in_ok-encoding.encoding in
    let v = with_actions e.head c.in-Ok.actions in
    subst (IsEncoded c.args.c.now c.args.slots c.args.style.now) (sym c.into_value.ensures)
    (subst (λ (s : Style). IsEncoded c.args.c.now c.args.slots s v) c.in_ok-encoding.ensures.style
    (subst (λ (b : ℕ). IsEncoded c.args.c.now b e.style v) c.in_ok-encoding.ensures.slots (value-encoded c.args.c.now e c.in_ok-encoding.ensures.encoding c.in_ok-encoding.ensures.rule c.in-Ok.actions c.in-Ok.ensures)))

pub returns-in-Ok-clause-words : goal.returns-in-Ok-clause-words
returns-in-Ok-clause-words c =
    subst (λ (p : Pddl). HasEncodedWords c.args.c.now c.args.slots p.names) (sym c.into_value.ensures)
    (subst (λ (b : ℕ). HasEncodedWords c.args.c.now b c.in_ok-encoding.encoding.head.names) c.in_ok-encoding.ensures.slots
    (subst (λ (rule : Slots). HasWordsBy rule c.args.c.now c.in_ok-encoding.encoding.slots c.in_ok-encoding.encoding.head.names) c.in_ok-encoding.ensures.rule c.in_ok-encoding.ensures.encoding.words))

pub returns-in-Ok-clause-printable : goal.returns-in-Ok-clause-printable
returns-in-Ok-clause-printable c =
    let e = c.in_ok-encoding.encoding in
    subst (IsPrintableWhereSound c.args.c.now c.args.slots) (sym c.into_value.ensures)
    (subst (λ (b : ℕ). IsPrintableWhereSound c.args.c.now b (with_actions e.head c.in-Ok.actions)) c.in_ok-encoding.ensures.slots (value-printable c.args.c.now e c.in_ok-encoding.ensures.encoding c.in_ok-encoding.ensures.rule c.in-Ok.actions c.in-Ok.ensures))
