-- A whole text: the sections that were read of it, at rising places.
use Rattle.std.proofs.Common.{◌≡◌, ◌∙◌, Bool, true, false, if◌then◌else◌, codes, Ok, Err, Result, List, refl, sym}
use Rattle.htn_base.specs.declared.name.Name.{Name}
use Rattle.text_forms.specs.Lists.{Parts, name, group, nothing, part}
use Rattle.text_forms.specs.Placed.{Placed, cut, close, word, list, parts_at, parts_of, IsOneList}
use Rattle.text_forms.specs.Printing.{headed}
use Rattle.text_forms.specs.Words.{Word}
use Rattle.text_forms.proofs.Levels.{says_as_placed}
use Rattle.plan_texts.specs.Domains.{IsDefinition}
use Rattle.gd_reader.specs.declared.stop.Stop.{Stop}
use Rattle.gd_reader.specs.declared.stop.Stop.TheVariants.{Departs}
use Rattle.gd_reader.specs.Answers.{◌>>=◌, word_due, list_due}
use Rattle.gd_reader.specs.Terms.{Names, Keeps}
use Rattle.gd_reader.proofs.Keeping.{keeps_same}
use Rattle.hddl_reader.specs.declared.sections.Definition.{Definition}
use Rattle.hddl_reader.specs.declared.sections.Language.{Language}
use Rattle.hddl_reader.specs.declared.raw_sections.RawSections.{RawSections}
use Rattle.hddl_reader.specs.Definitions.{coded, key_due, title, definition_inside, nothing_due, definition_read, IsRead}
use Rattle.hddl_reader.specs.Networks.{is_word}
use Rattle.hddl_reader.specs.Sections.{no_sections, sections}
use Rattle.text_values.proofs.form_spellings.KeptWords.{Reads, reads_then, reads_map, reads_weaken, reads_by}
use Rattle.text_values.proofs.form_spellings.NamesIn.{stands}
use Rattle.text_values.proofs.form_spellings.PartsWhole.{back_is}
use Rattle.text_values.proofs.form_spellings.TermsIn.{same}
use Rattle.text_values.proofs.form_spellings.TextsExact.{IsTitled, title_exact}
use Rattle.text_values.proofs.form_spellings.order.Spans.{Rising, behind_word, inside_list, behind_list, parts_rise}
use Rattle.text_values.proofs.form_spellings.seen.Sections.{SectionsSeen, sections_seen}

-- behind a keyword
behind_key : {X : Type 0} (P : X → Names → Type 0) (key : Word) (names : Names) (f : Placed → Result (X × Names) Stop) (p : Placed) → Rising p
    → ((w : Word) (q : Placed) → parts_of p ≡ part (name w) (parts_of q) → Rising q → Reads names (f q) P) → Reads names (key_due key p >>= f) P
unfolding word_due
behind_key P key names f cut s h = tt
behind_key P key names f (close at) s h = tt
behind_key P key names f (list at p q) s h = tt
behind_key P key names f (word at w p) s h = go (is_word key w)
  where
    go : (b : Bool) → Reads names (coded 5 (if b then Ok p else Err (Departs 8 at)) >>= f) P
    go true = h w p refl (behind_word at w p s)
    go false = tt

-- the sections were read of these
abbrev pub SeenOf : Definition → Parts → Name × RawSections → Names → Type 0
SeenOf d ss x table = (q : Placed) × Rising q × (parts_of q ≡ ss) × SectionsSeen d no_sections q x.1 table

abbrev HeaderSeen : Definition → Parts → Name × RawSections → Names → Type 0
HeaderSeen d ps x table = (k w : Word) (ss : Parts) → ps ≡ part (headed k (part (name w) nothing)) ss → SeenOf d ss x table

header : Language → Definition → Names → Placed → Result ((Name × RawSections) × Names) Stop
header l d names q = coded 5 (list_due q) >>= (λ g. title d names g.0 >>= (λ t. sections l d no_sections t.1 g.1 >>= (λ st. Ok ((t.0, st.0), st.1))))

header_seen : (q : Placed) (l : Language) (d : Definition) (names : Names) → Rising q → Reads names (header l d names q) (HeaderSeen d (parts_of q))
unfolding header list_due
header_seen cut l d names s = tt
header_seen (close at) l d names s = tt
header_seen (word at w p) l d names s = tt
header_seen (list at p q) l d names s =
    reads_then same (IsTitled (parts_of p)) (HeaderSeen d (part (group (parts_of p)) (parts_of q))) names (title d names p) (λ t. sections l d no_sections t.1 q >>= (λ st. Ok ((t.0, st.0), st.1))) (title_exact p d names)
    (λ t. reads_map (SectionsSeen d no_sections q) (λ x table. IsTitled (parts_of p) t.0 table → HeaderSeen d (part (group (parts_of p)) (parts_of q)) x table) t.1 (sections l d no_sections t.1 q) (λ st. (t.0, st)) (sections_seen q l d no_sections t.1)
    (λ st table is one k w ss e. (q, behind_list at p q s, back_is e, is)))

abbrev InsideSeen : Definition → Parts → Name × RawSections → Names → Type 0
InsideSeen d ps x table = (k w : Word) (ss : Parts) → ps ≡ part (name (codes "define")) (part (headed k (part (name w) nothing)) ss) → SeenOf d ss x table

inside_seen : (p : Placed) (l : Language) (d : Definition) (names : Names) → Rising p → Reads names (definition_inside l d names p) (InsideSeen d (parts_of p))
unfolding definition_inside header
inside_seen p l d names s =
    behind_key (InsideSeen d (parts_of p)) (codes "define") names (header l d names) p s
    (λ u q e t. reads_weaken (HeaderSeen d (parts_of q)) (InsideSeen d (parts_of p)) names (header l d names q) (header_seen q l d names t) (λ x table h k w ss f. h k w ss (back_is (sym e ∙ f))))

-- in a text that is one list
abbrev DefinitionSeen : Definition → Placed → Name × RawSections → Names → Type 0
DefinitionSeen d p x table = (k w : Word) (ss : Parts) → IsOneList p (part (name (codes "define")) (part (headed k (part (name w) nothing)) ss)) → SeenOf d ss x table

definition_seen : (p : Placed) (l : Language) (d : Definition) (names : Names) → Rising p → Reads names (definition_read l d names p) (DefinitionSeen d p)
unfolding definition_read
definition_seen cut l d names s = tt
definition_seen (close at) l d names s = tt
definition_seen (word at w p) l d names s = tt
definition_seen (list at p q) l d names s =
    reads_then same (InsideSeen d (parts_of p)) (DefinitionSeen d (list at p q)) names (definition_inside l d names p) (λ x. nothing_due q >>= (λ _. Ok x)) (inside_seen p l d names (inside_list at p q s))
    (λ x. reads_by (λ y table. InsideSeen d (parts_of p) x.0 table → DefinitionSeen d (list at p q) y table) x.1 (nothing_due q) (λ _. Ok x) (λ _. (keeps_same x.1, λ table k is key w ss one. is key w ss one.1)))

-- what was read of a text, by the sections that its tokens show
pub text_seen : (l : Language) (d : Definition) (kind : Word) (text : List _) (names left later : Names) (x : Name × RawSections) → IsRead l d names text x left → Keeps left later → (w : Word) (ss : Parts) → IsDefinition kind text w ss → SeenOf d ss x later
text_seen l d kind text names left later x is keeps w ss i =
    stands (DefinitionSeen d (parts_at text 0)) names left (definition_read l d names (parts_at text 0)) x is.gives (definition_seen (parts_at text 0) l d names (parts_rise text 0)) later keeps kind w ss
    ((says_as_placed text (part (name (codes "define")) (part (headed kind (part (name w) nothing)) ss))).0 i.is)
