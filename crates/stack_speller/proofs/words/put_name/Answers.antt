use Rattle.std.proofs.Common.{ℕ, zero, suc, ◌≡◌, ◌∙◌, ◌++◌, codes, slice_get, refl, ap}
use Rattle.plan_model.specs.declared.values.Compiled.{Compiled}
use Rattle.plan_model.specs.plan_meaning.SpelledPlan.{method_by, method_name}
use Rattle.text_forms.proofs.sheets.Written.{wrote-as, wrote-then}
use Rattle.slot_speller.specs.Steps.{name_by}
use Rattle.stack_speller.proofs.words.put_name.Goals as goal

pub returns-in-Some-Check : goal.returns-in-Some-Check
returns-in-Some-Check c =
    let label = rw c.in-Some-Check.field-0-is at c.in-Some-Check.ensures.label in
    wrote-as (ap (name_by c.args.c.now) label)
    (wrote-then c.put-in-Some-Check.ensures.wrote (wrote-as c.method.ensures c.put-in-Some-Check-2.ensures.wrote))

-- no top method
below_top : (c : Compiled) (number : ℕ) → (number ≡ 0 → ⊥)
    → codes "htn_m_" ++ method_by c (slice_get c.methods number) ≡ method_name c number
below_top c zero n = absurd (n refl)
below_top c (suc k) n = refl

pub returns-else-number-eq0 : goal.returns-else-number-eq0
returns-else-number-eq0 c =
    let label = rw c.in-Some-Abstract.field-0-is at c.in-Some-Abstract.ensures.label in
    wrote-as (below_top c.args.c.now c.in-Some-Abstract.number c.if-number-eq0.false ∙ ap (name_by c.args.c.now) label)
    (wrote-then c.put-else-number-eq0.ensures.wrote (wrote-as c.method-else-number-eq0.ensures c.put-else-number-eq0-2.ensures.wrote))
