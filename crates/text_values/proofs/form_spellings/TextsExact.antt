-- A whole text: the name of what it defines, and its sections.
use Rattle.std.proofs.Common.{◌≡◌, ◌∙◌, Bool, true, false, if◌then◌else◌, codes, Ok, Err, Result, refl, sym, subst}
use Rattle.htn_base.specs.declared.name.Name.{Name}
use Rattle.text_forms.specs.Lists.{Parts, name, group, nothing, part}
use Rattle.text_forms.specs.Placed.{Placed, cut, close, word, list, parts_of, IsOneList}
use Rattle.text_forms.specs.Printing.{headed}
use Rattle.text_forms.specs.Words.{Word}
use Rattle.plan_texts.specs.Declared.{named}
use Rattle.gd_reader.specs.declared.stop.Stop.{Stop}
use Rattle.gd_reader.specs.declared.stop.Stop.TheVariants.{Departs}
use Rattle.gd_reader.specs.Answers.{◌>>=◌, word_due, list_due, end_due}
use Rattle.gd_reader.specs.Terms.{Names}
use Rattle.gd_reader.proofs.Keeping.{keeps_same}
use Rattle.hddl_reader.specs.declared.sections.Definition.{Definition}
use Rattle.hddl_reader.specs.declared.sections.Language.{Language}
use Rattle.hddl_reader.specs.declared.raw_sections.RawSections.{RawSections}
use Rattle.hddl_reader.specs.Definitions.{coded, key_due, definition_word, title, definition_inside, nothing_due, definition_read}
use Rattle.hddl_reader.specs.Networks.{declared, is_word}
use Rattle.hddl_reader.specs.Sections.{no_sections, sections}
use Rattle.text_values.proofs.form_spellings.KeptWords.{Reads, reads_then, reads_map, reads_by}
use Rattle.text_values.proofs.form_spellings.ListsWhole.{name_is}
use Rattle.text_values.proofs.form_spellings.PartsWhole.{front_is, back_is, within_is}
use Rattle.text_values.proofs.form_spellings.SectionsExact.{SectionsAre, sections_exact}
use Rattle.text_values.proofs.form_spellings.TermsBound.{NameBound}
use Rattle.text_values.proofs.form_spellings.TermsExact.{declared_bound}
use Rattle.text_values.proofs.form_spellings.TermsIn.{same}

-- behind a keyword
behind_key : {X : Type 0} (P : X → Names → Type 0) (key : Word) (names : Names) (f : Placed → Result (X × Names) Stop) (p : Placed)
    → ((w : Word) (q : Placed) → parts_of p ≡ part (name w) (parts_of q) → Reads names (f q) P) → Reads names (key_due key p >>= f) P
unfolding word_due
behind_key P key names f cut h = tt
behind_key P key names f (close at) h = tt
behind_key P key names f (list at p q) h = tt
behind_key P key names f (word at w p) h = go (is_word key w)
  where
    go : (b : Bool) → Reads names (coded 5 (if b then Ok p else Err (Departs 8 at)) >>= f) P
    go true = h w p refl
    go false = tt

-- one word, which is the name
abbrev IsNamed : Parts → Name → Names → Type 0
IsNamed ps n table = (w : Word) → ps ≡ part (name w) nothing → named table n ≡ w

name_exact : (p : Placed) (names : Names) → Reads names (coded 5 (word_due p) >>= (λ v. declared 5 names v.0 v.1 >>= (λ h. coded 5 (end_due v.2) >>= (λ _. Ok (h.0.name, h.1))))) (IsNamed (parts_of p))
unfolding word_due
name_exact cut names = tt
name_exact (close at) names = tt
name_exact (list at p q) names = tt
name_exact (word at w p) names =
    reads_then same (NameBound w) (IsNamed (part (name w) (parts_of p))) names (declared 5 names at w) (λ h. coded 5 (end_due p) >>= (λ _. Ok (h.0.name, h.1))) (declared_bound 5 names at w)
    (λ h. reads_by (λ n table. NameBound w h.0 table → IsNamed (part (name w) (parts_of p)) n table) h.1 (coded 5 (end_due p)) (λ _. Ok (h.0.name, h.1))
    (λ _. (keeps_same h.1, λ table k one u e. one.0 ∙ name_is (front_is e))))

-- what is defined, and its name
abbrev pub IsTitled : Parts → Name → Names → Type 0
IsTitled ps n table = (k w : Word) → ps ≡ part (name k) (part (name w) nothing) → named table n ≡ w

pub title_exact : (p : Placed) (d : Definition) (names : Names) → Reads names (title d names p) (IsTitled (parts_of p))
unfolding title
title_exact p d names =
    behind_key (IsTitled (parts_of p)) (definition_word d) names (λ q. coded 5 (word_due q) >>= (λ v. declared 5 names v.0 v.1 >>= (λ h. coded 5 (end_due v.2) >>= (λ _. Ok (h.0.name, h.1))))) p
    (λ u q e. reads_named u q e)
  where
    reads_named : (u : Word) (q : Placed) → parts_of p ≡ part (name u) (parts_of q) → Reads names (coded 5 (word_due q) >>= (λ v. declared 5 names v.0 v.1 >>= (λ h. coded 5 (end_due v.2) >>= (λ _. Ok (h.0.name, h.1))))) (IsTitled (parts_of p))
    reads_named u q e = weaker _ (name_exact q names)
      where
        weaker : (r : Result (Name × Names) Stop) → Reads names r (IsNamed (parts_of q)) → Reads names r (IsTitled (parts_of p))
        weaker (Ok x) h = (h.0, λ table k key w f. h.1 table k w (back_is (sym e ∙ f)))
        weaker (Err x) h = tt

-- the name and the sections
abbrev pub IsHeaded : Word → Parts → Name × RawSections → Names → Type 0
IsHeaded w ss x table = (named table x.0 ≡ w) × SectionsAre no_sections ss x.1 table

abbrev HeaderIs : Parts → Name × RawSections → Names → Type 0
HeaderIs ps x table = (k w : Word) (ss : Parts) → ps ≡ part (headed k (part (name w) nothing)) ss → IsHeaded w ss x table

header : Language → Definition → Names → Placed → Result ((Name × RawSections) × Names) Stop
header l d names q = coded 5 (list_due q) >>= (λ g. title d names g.0 >>= (λ t. sections l d no_sections t.1 g.1 >>= (λ st. Ok ((t.0, st.0), st.1))))

header_exact : (q : Placed) (l : Language) (d : Definition) (names : Names) → Reads names (header l d names q) (HeaderIs (parts_of q))
unfolding header list_due
header_exact cut l d names = tt
header_exact (close at) l d names = tt
header_exact (word at w p) l d names = tt
header_exact (list at p q) l d names =
    reads_then same (IsTitled (parts_of p)) (HeaderIs (part (group (parts_of p)) (parts_of q))) names (title d names p) (λ t. sections l d no_sections t.1 q >>= (λ st. Ok ((t.0, st.0), st.1))) (title_exact p d names)
    (λ t. reads_map (SectionsAre no_sections (parts_of q)) (λ x table. IsTitled (parts_of p) t.0 table → HeaderIs (part (group (parts_of p)) (parts_of q)) x table) t.1 (sections l d no_sections t.1 q) (λ st. (t.0, st)) (sections_exact q l d no_sections t.1)
    (λ st table is one k w ss e. (one k w (within_is (front_is e)), subst (λ ps. SectionsAre no_sections ps st table) (back_is e) is)))

abbrev InsideIs : Parts → Name × RawSections → Names → Type 0
InsideIs ps x table = (k w : Word) (ss : Parts) → ps ≡ part (name (codes "define")) (part (headed k (part (name w) nothing)) ss) → IsHeaded w ss x table

inside_exact : (p : Placed) (l : Language) (d : Definition) (names : Names) → Reads names (definition_inside l d names p) (InsideIs (parts_of p))
unfolding definition_inside header
inside_exact p l d names = behind_key (InsideIs (parts_of p)) (codes "define") names (header l d names) p (λ u q e. weaker u q e (header l d names q) (header_exact q l d names))
  where
    weaker : (u : Word) (q : Placed) → parts_of p ≡ part (name u) (parts_of q) → (r : Result ((Name × RawSections) × Names) Stop) → Reads names r (HeaderIs (parts_of q)) → Reads names r (InsideIs (parts_of p))
    weaker u q e (Ok x) h = (h.0, λ table k key w ss f. h.1 table k key w ss (back_is (sym e ∙ f)))
    weaker u q e (Err x) h = tt

-- in a text that is one list
abbrev pub DefinitionIs : Placed → Name × RawSections → Names → Type 0
DefinitionIs p x table = (k w : Word) (ss : Parts) → IsOneList p (part (name (codes "define")) (part (headed k (part (name w) nothing)) ss)) → IsHeaded w ss x table

pub definition_exact : (p : Placed) (l : Language) (d : Definition) (names : Names) → Reads names (definition_read l d names p) (DefinitionIs p)
unfolding definition_read
definition_exact cut l d names = tt
definition_exact (close at) l d names = tt
definition_exact (word at w p) l d names = tt
definition_exact (list at p q) l d names =
    reads_then same (InsideIs (parts_of p)) (DefinitionIs (list at p q)) names (definition_inside l d names p) (λ x. nothing_due q >>= (λ _. Ok x)) (inside_exact p l d names)
    (λ x. reads_by (λ y table. InsideIs (parts_of p) x.0 table → DefinitionIs (list at p q) y table) x.1 (nothing_due q) (λ _. Ok x) (λ _. (keeps_same x.1, λ table k is key w ss one. is key w ss one.1)))
