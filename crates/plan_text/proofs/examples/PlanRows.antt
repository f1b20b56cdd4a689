-- Texts that are read as plans, and the faults of others, by computation.
use Rattle.std.proofs.Common.{ℕ, ◌≡◌, inl, inr, List, [], ◌∷◌, codes, refl, sym, subst}
use Rattle.text_forms.specs.Faults.{fault}
use Rattle.text_forms.specs.Placed.{parts_at, parts_of}
use Rattle.text_forms.specs.Words.{Word}
use Rattle.text_forms.proofs.LeastFault.{least_or_none}
use Rattle.text_forms.specs.form_grammar.Codes.{Whole}
use Rattle.plan_model.specs.declared.steps.GroundAction.{GroundAction}
use Rattle.plan_texts.specs.PlanText.{SpellsPlan, plan_text}
use Rattle.plan_text.specs.Laws.{IsReadBack}
use Rattle.plan_text.specs.Plans.{IsPlanRead, IsPlanFault}
use Rattle.plan_text.proofs.Exactly.{read-back}
use Rattle.plan_text.proofs.Flat.{faultless}
use Rattle.plan_text.proofs.Folded.{printable}
use Rattle.plan_text.proofs.Whole.{spelled-whole}

abbrev step : Word → List Word → GroundAction
step name args = record { name = name; args = args }

-- a comment, a mark, letters in upper case, and reserved words as names
abbrev two_steps : List ℕ
two_steps = codes "; cost = 3\n0: (GO a)\n(and or)\n"

abbrev steps : List GroundAction
steps = step (codes "go") (codes "a" ∷ []) ∷ step (codes "and") (codes "or" ∷ []) ∷ []

spells : SpellsPlan two_steps steps
spells = record {
  parts = parts_of (parts_at two_steps 0);
  clean = refl;
  is = refl;
  spelled = (refl, ((_, refl, refl, (refl, refl, tt)), ((_, refl, refl, (refl, refl, tt)), tt)));
}

pub is_read : IsPlanRead two_steps steps
is_read = record {
  tokens = faultless two_steps steps spells;
  whole = subst Whole (sym (spelled-whole two_steps steps spells)) tt;
  spelled = spells;
  folded = printable two_steps steps spells;
}

pub is_read_back : IsReadBack steps
is_read_back = read-back steps (printable two_steps steps spells)

pub printed : plan_text steps ≡ codes "(go a)\n(and or)\n"
printed = refl

-- a fault of tokens comes first, wherever it stands
pub unclosed : IsPlanFault (codes "?a (b") (fault 2 3)
unclosed = inl (least_or_none (codes "?a (b"))

pub stray : IsPlanFault (codes "(a))") (fault 3 3)
stray = inl (least_or_none (codes "(a))"))

pub word_outside : IsPlanFault (codes "(a) b") (fault 8 4)
word_outside = inr (least_or_none (codes "(a) b"), refl, refl)

pub trailing_mark : IsPlanFault (codes "(a) 0: ;") (fault 8 4)
trailing_mark = inr (least_or_none (codes "(a) 0: ;"), refl, refl)

pub two_marks : IsPlanFault (codes "0: 1: (a)") (fault 8 3)
two_marks = inr (least_or_none (codes "0: 1: (a)"), refl, refl)

pub empty_step : IsPlanFault (codes "()") (fault 8 1)
empty_step = inr (least_or_none (codes "()"), refl, refl)

pub variable : IsPlanFault (codes "(a ?b)") (fault 8 3)
variable = inr (least_or_none (codes "(a ?b)"), refl, refl)

pub list_in_a_step : IsPlanFault (codes "(a (b))") (fault 8 3)
list_in_a_step = inr (least_or_none (codes "(a (b))"), refl, refl)
