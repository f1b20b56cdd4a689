-- What is answered as the grammar says, seen by the contracts of the calls.
use Rattle.std.proofs.Common.{◌≡◌, Ok, Err, Result, refl, sym, ◌∙◌, ap, subst}
use Rattle.text_forms.specs.Placed.{Placed, parts_at}
use Rattle.text_forms.specs.form_grammar.Codes.{Form, Whole, Departs}
use Rattle.gd_reader.specs.declared.stop.Stop.{Stop}
use Rattle.gd_reader.specs.declared.stop.Stop.TheVariants as stops
use Rattle.gd_reader.specs.Forms as plain
use Rattle.gd_reader.specs.Reading.{IsRead, Refuses}
use Rattle.gd_reader.specs.Terms.{Names}
use Rattle.gd_reader.proofs.Exact.{Tells}
use Rattle.hddl_reader.specs.Calls.{ReadsWhole, FaultsDepart}
use Rattle.hddl_reader.specs.Said.{said, AnswersAs}
use Rattle.hddl_reader.specs.SameForms.{IsSameForm}

module _ {X : Type 0} (old : Placed → plain.Form) (f : Placed → Form) (read : Names → Placed → Result X Stop) (answers : AnswersAs f read) where
  pub reads_whole : ReadsWhole f (λ names. IsRead old (read names))
  reads_whole names text i x h = subst Whole (sym (ap said h.gives) ∙ answers names (parts_at text i)) tt

  pub faults_depart : FaultsDepart f (λ names. Refuses old (read names))
  faults_depart names text i file fault h = subst (λ f. Departs f fault.code fault.at) (sym (ap said h.gives) ∙ answers names (parts_at text i)) (refl, refl)

same_said : {X : Type 0} (old : plain.Form) (a : Result X Stop) → Tells old a → IsSameForm old (said a)
same_said old (Ok x) t = record { whole = (λ w. tt, λ w. t.0); begins = (λ b. tt, λ b. t.1) }
same_said old (Err stops.Ends) t = record { whole = (t.0, λ w. absurd w); begins = (λ b. tt, λ b. t.1) }
same_said old (Err (stops.Departs code at)) t = record { whole = (t.0, λ w. absurd w); begins = (t.1, λ b. absurd b) }

-- what a reader tells exactly of a form, and answers as the grammar says
pub same_form : {X : Type 0} (old : plain.Form) (f : Form) (a : Result X Stop) → Tells old a → said a ≡ f → IsSameForm old f
same_form old f a t e = subst (IsSameForm old) e (same_said old a t)
