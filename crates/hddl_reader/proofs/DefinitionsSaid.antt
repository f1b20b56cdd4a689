-- Domains and problems are answered as the grammar says.
use Rattle.std.proofs.Common.{◌≡◌, ℕ, Bool, true, false, if◌then◌else◌, Result, Ok, Err, Some, None, codes, refl, sym, ◌∙◌, ap}
use Rattle.text_forms.specs.Placed.{Placed, cut, close, word, list}
use Rattle.text_forms.specs.Words.{Word}
use Rattle.text_forms.specs.form_grammar.Codes.{wrong}
use Rattle.text_forms.specs.form_grammar.Definitions.{definition_form}
use Rattle.text_forms.specs.form_grammar.Rows.{go, stop, form}
use Rattle.text_forms.specs.form_grammar.Sections.{SectionDue, section_rows}
use Rattle.text_forms.specs.form_grammar.Sections as grammar
use Rattle.text_forms.specs.form_grammar.Texts.{text_form, one_list, the_end}
use Rattle.gd_reader.specs.declared.stop.Stop.{Stop}
use Rattle.gd_reader.specs.declared.stop.Stop.TheVariants.{Departs}
use Rattle.gd_reader.specs.Answers.{◌>>=◌, word_due, list_due, end_due}
use Rattle.gd_reader.specs.Terms.{Names}
use Rattle.hddl_reader.specs.Said.{said}
use Rattle.hddl_reader.proofs.TermsSaid.{said_then, said_map, at_next}
use Rattle.hddl_reader.specs.declared.sections.Definition.{Definition}
use Rattle.hddl_reader.specs.declared.sections.Definition.TheVariants as definition
use Rattle.hddl_reader.specs.declared.sections.Language.{Language}
use Rattle.hddl_reader.specs.declared.raw_sections.RawSections.{RawSections}
use Rattle.htn_base.specs.declared.name.Name.{Name}
use Rattle.hddl_reader.specs.Networks.{declared, is_word}
use Rattle.hddl_reader.specs.Sections.{sections, no_sections}
use Rattle.hddl_reader.specs.Definitions.{coded, key_due, definition_word, title, definition_inside, nothing_due, definition_read, language_of, kind_of}
use Rattle.hddl_reader.proofs.Answers.{declared_then}
use Rattle.hddl_reader.proofs.SectionsSaid.{sections_said}

title_end_said : {B : Type 0} (q : Placed) (y : B) → said (coded 5 (end_due q) >>= (λ _. Ok y)) ≡ form section_rows grammar.title_end q
unfolding end_due
title_end_said cut y = refl
title_end_said (close at) y = refl
title_end_said (word at w q) y = refl
title_end_said (list at p q) y = refl

name_said : (q : Placed) (names : Names) → said {A = Name × Names} (coded 5 (word_due q) >>= (λ v. declared 5 names v.0 v.1 >>= (λ h. coded 5 (end_due v.2) >>= (λ _. Ok (h.0.name, h.1))))) ≡ form section_rows grammar.title q
unfolding word_due
name_said cut names = refl
name_said (close at) names = refl
name_said (list at p q) names = refl
name_said (word at w q) names = declared_then section_rows 5 names at w (λ h. coded 5 (end_due q) >>= (λ _. Ok (h.0.name, h.1))) grammar.title_end q (λ x. title_end_said q (x.0.name, x.1))

-- a word that is due with code 5
key_then : {B : Type 0} (key : Word) (p : Placed) (k : Placed → Result B Stop) (next : SectionDue) → ((q : Placed) → said (k q) ≡ form section_rows next q) → (due : SectionDue)
    → ((at : ℕ) → form section_rows due (close at) ≡ wrong 5 at) → ((at : ℕ) (p q : Placed) → form section_rows due (list at p q) ≡ wrong 5 at)
    → ((at : ℕ) (w : Word) (q : Placed) → form section_rows due (word at w q) ≡ at_next section_rows (elim (if is_word key w then Some next else None) [ None ↦ stop 5 | Some x ↦ go x ]) at q)
    → said (key_due key p >>= k) ≡ form section_rows due p
unfolding word_due
key_then key cut k next h due c l v = refl
key_then key (close at) k next h due c l v = sym (c at)
key_then key (list at p q) k next h due c l v = sym (l at p q)
key_then key (word at w p) k next h due c l v = by_test (is_word key w) ∙ sym (v at w p)
  where
    by_test : (b : Bool) → said (coded 5 (if b then Ok p else Err (Departs 8 at)) >>= k) ≡ at_next section_rows (elim (if b then Some next else None) [ None ↦ stop 5 | Some x ↦ go x ]) at p
    by_test true = h p
    by_test false = refl

same_word : (d : Definition) → definition_word d ≡ grammar.definition_word (kind_of d)
same_word definition.Domain = refl
same_word definition.Problem = refl

title_said : (d : Definition) (p : Placed) (names : Names) → said (title d names p) ≡ form section_rows (grammar.kind (kind_of d)) p
unfolding title
title_said d p names =
    key_then (definition_word d) p _ grammar.title (λ q. name_said q names) (grammar.kind (kind_of d)) (λ at. refl) (λ at p q. refl)
    (λ at w q. ap (λ key. at_next section_rows (elim (if is_word key w then Some grammar.title else None) [ None ↦ stop 5 | Some x ↦ go x ]) at q) (sym (same_word d)))

header_said : (l : Language) (d : Definition) (q : Placed) (names : Names)
    → said {A = (Name × RawSections) × Names} (coded 5 (list_due q) >>= (λ g. title d names g.0 >>= (λ t. sections l d no_sections t.1 g.1 >>= (λ st. Ok ((t.0, st.0), st.1))))) ≡ form section_rows (grammar.header (language_of l) (kind_of d)) q
unfolding list_due
header_said l d cut names = refl
header_said l d (close at) names = refl
header_said l d (word at w q) names = refl
header_said l d (list at p q) names =
    said_then (title d names p) (λ t. sections l d no_sections t.1 q >>= (λ st. Ok ((t.0, st.0), st.1))) _ _ (title_said d p names) (λ t. said_map (sections l d no_sections t.1 q) _ ∙ sections_said l d q t.1)

inside_said : (l : Language) (d : Definition) (p : Placed) (names : Names) → said (definition_inside l d names p) ≡ form section_rows (grammar.define (language_of l) (kind_of d)) p
unfolding definition_inside
inside_said l d p names =
    key_then (codes "define") p _ (grammar.header (language_of l) (kind_of d)) (λ q. header_said l d q names) (grammar.define (language_of l) (kind_of d)) (λ at. refl) (λ at p q. refl) (λ at w q. refl)

end_said : {B : Type 0} (l : Language) (d : Definition) (q : Placed) (y : B) → said (nothing_due q >>= (λ _. Ok y)) ≡ text_form section_rows (one_list 5 (grammar.define (language_of l) (kind_of d))) the_end q
end_said l d cut y = refl
end_said l d (close at) y = refl
end_said l d (word at w q) y = refl
end_said l d (list at p q) y = refl

-- whatever words the table has and whatever the tokens are
pub definition_said : (l : Language) (d : Definition) (names : Names) (p : Placed) → said (definition_read l d names p) ≡ definition_form (language_of l) (kind_of d) p
unfolding definition_read
definition_said l d names cut = refl
definition_said l d names (close at) = refl
definition_said l d names (word at w p) = refl
definition_said l d names (list at p q) = said_then (definition_inside l d names p) (λ x. nothing_due q >>= (λ _. Ok x)) _ _ (inside_said l d p names) (λ x. end_said l d q x)
