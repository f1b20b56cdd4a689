-- What is answered of a whole text is what the grammar says of its tokens.
use Rattle.std.proofs.Common.{◌≡◌, ℕ, List, length, Result, Ok, Err, refl, sym, ◌∙◌, ap, subst}
use Rattle.htn_base.specs.declared.name.Name.{Name}
use Rattle.text_forms.specs.Faults.{fault}
use Rattle.text_forms.specs.Placed.{parts_at}
use Rattle.text_forms.specs.form_grammar.Codes.{Whole}
use Rattle.text_forms.specs.form_grammar.Definitions.{definition_form}
use Rattle.text_forms.specs.form_grammar.Texts.{fault_or}
use Rattle.hddl_reader.specs.Said.{said}
use Rattle.gd_reader.specs.declared.stop.Failure.{Failure}
use Rattle.gd_reader.specs.declared.stop.Failure.TheVariants as failures
use Rattle.gd_reader.specs.declared.stop.Stop.{Stop}
use Rattle.gd_reader.specs.declared.stop.Stop.TheVariants.{Ends, Departs}
use Rattle.gd_reader.specs.Answers.{Fails}
use Rattle.gd_reader.specs.Terms.{Names}
use Rattle.hddl_reader.specs.declared.sections.Definition.{Definition}
use Rattle.hddl_reader.specs.declared.sections.Language.{Language}
use Rattle.hddl_reader.specs.declared.raw_sections.RawSections.{RawSections}
use Rattle.hddl_reader.specs.Definitions.{definition_read, language_of, kind_of, refusal, IsRead, Refuses}
use Rattle.hddl_reader.proofs.DefinitionsSaid.{definition_said}

module _ (l : Language) (names : Names) (text : List ℕ) where
  -- an answer as the grammar has it
  form_is : (d : Definition) (a : Result ((Name × RawSections) × Names) Stop) → definition_read l d names (parts_at text 0) ≡ a → said a ≡ definition_form (language_of l) (kind_of d) (parts_at text 0)
  form_is d a e = sym (ap said e) ∙ definition_said l d names (parts_at text 0)

  pub is_read : (d : Definition) (x : Name × RawSections) (left : Names) → definition_read l d names (parts_at text 0) ≡ Ok (x, left) → IsRead l d names text x left
  is_read d x left e = record { whole = subst Whole (form_is d (Ok (x, left)) e) tt; gives = e }

  pub refuses : (d : Definition) (file : ℕ) (e : Failure) → Fails e (definition_read l d names (parts_at text 0)) → Refuses l d text file (refusal file (length text) e)
  refuses d file failures.Memory h = tt
  refuses d file (failures.At Ends) h = (ap (fault_or (fault 5 (length text))) (sym (form_is d (Err Ends) h)), refl)
  refuses d file (failures.At (Departs code at)) h = (ap (fault_or (fault 5 (length text))) (sym (form_is d (Err (Departs code at)) h)), refl)
