-- What holds of the names and places of whole domains and problems.
use Rattle.std.proofs.Common.{ℕ, Bool, true, false, if◌then◌else◌, codes, Ok, Err, Result, Option, Some, None, IfSome, subst}
use Rattle.htn_base.specs.declared.name.Name.{Name}
use Rattle.text_forms.specs.Placed.{Placed, cut, close, word, list}
use Rattle.text_forms.specs.Words.{Word}
use Rattle.gd_reader.specs.declared.stop.Stop.{Stop}
use Rattle.gd_reader.specs.declared.stop.Stop.TheVariants.{Departs}
use Rattle.gd_reader.specs.Answers.{◌>>=◌, word_due, list_due, end_due}
use Rattle.gd_reader.specs.Terms.{Names}
use Rattle.gd_reader.proofs.Keeping.{keeps_same}
use Rattle.hddl_reader.specs.declared.parts.RawParts.{RawParts}
use Rattle.hddl_reader.specs.declared.sections.Definition.{Definition}
use Rattle.hddl_reader.specs.declared.sections.Language.{Language}
use Rattle.hddl_reader.specs.declared.raw_sections.RawSections.{RawSections}
use Rattle.hddl_reader.specs.Definitions.{coded, key_due, definition_word, title, definition_inside, nothing_due, definition_read, domain_of, or_empty, problem_of}
use Rattle.hddl_reader.specs.Networks.{declared, is_word}
use Rattle.hddl_reader.specs.Sections.{no_sections, sections}
use Rattle.text_values.specs.form_spellings.EachPart.{OfDomain, OfProblem}
use Rattle.text_values.proofs.form_spellings.Facts.{Facts, AllSeen}
use Rattle.text_values.proofs.form_spellings.KeptWords.{Reads, reads_then, reads_map, reads_by}
use Rattle.text_values.proofs.form_spellings.NetworksIn.{NameFrom, declared_in}
use Rattle.text_values.proofs.form_spellings.PartsIn.{PartsAre, none_are}
use Rattle.text_values.proofs.form_spellings.SectionsIn.{or_none_each, SectionsAre, Put, none_stand, net_are, params_are, or_true_is, sections_in}
use Rattle.text_values.proofs.form_spellings.TermsIn.{same}

module _ (F : Facts) where
  -- a name that is written somewhere
  abbrev pub Titled : Name → Names → Type 0
  Titled n table = (at : ℕ) × F.Is table false at n

  abbrev pub DefinitionIs : Name × RawSections → Names → Type 0
  DefinitionIs x table = Titled x.0 table × SectionsAre F x.1 table

  behind_key : {X : Type 0} (P : X → Names → Type 0) (key : Word) (names : Names) (f : Placed → Result (X × Names) Stop) (p : Placed) → AllSeen F p → ((q : Placed) → AllSeen F q → Reads names (f q) P) → Reads names (key_due key p >>= f) P
  unfolding word_due
  behind_key P key names f cut s h = tt
  behind_key P key names f (close at) s h = tt
  behind_key P key names f (list at p q) s h = tt
  behind_key P key names f (word at w p) s h = go (is_word key w)
    where
      go : (b : Bool) → Reads names (coded 5 (if b then Ok p else Err (Departs 8 at)) >>= f) P
      go true = h p s.1
      go false = tt

  named_in : (p : Placed) (names : Names) → AllSeen F p → Reads names (coded 5 (word_due p) >>= (λ v. declared 5 names v.0 v.1 >>= (λ h. coded 5 (end_due v.2) >>= (λ _. Ok (h.0.name, h.1))))) Titled
  unfolding word_due
  named_in cut names s = tt
  named_in (close at) names s = tt
  named_in (list at p q) names s = tt
  named_in (word at w p) names s =
      reads_then same (NameFrom F at) Titled names (declared 5 names at w) (λ h. coded 5 (end_due p) >>= (λ _. Ok (h.0.name, h.1))) (declared_in F 5 names at w s.0)
      (λ h. reads_by (λ n table. NameFrom F at h.0 table → Titled n table) h.1 (coded 5 (end_due p)) (λ _. Ok (h.0.name, h.1))
      (λ _. (keeps_same h.1, λ table k one. (h.0.at, subst (λ b. F.Is table b h.0.at h.0.name) one.2 one.0))))

  title_in : (p : Placed) (d : Definition) (names : Names) → AllSeen F p → Reads names (title d names p) Titled
  unfolding title
  title_in p d names s =
      behind_key Titled (definition_word d) names (λ q. coded 5 (word_due q) >>= (λ v. declared 5 names v.0 v.1 >>= (λ h. coded 5 (end_due v.2) >>= (λ _. Ok (h.0.name, h.1))))) p s
      (λ q t. named_in q names t)

  header : Language → Definition → Names → Placed → Result ((Name × RawSections) × Names) Stop
  header l d names q = coded 5 (list_due q) >>= (λ g. title d names g.0 >>= (λ t. sections l d no_sections t.1 g.1 >>= (λ st. Ok ((t.0, st.0), st.1))))

  header_in : (q : Placed) (l : Language) (d : Definition) (names : Names) → AllSeen F q → Reads names (header l d names q) DefinitionIs
  unfolding header list_due
  header_in cut l d names s = tt
  header_in (close at) l d names s = tt
  header_in (word at w p) l d names s = tt
  header_in (list at p q) l d names s =
      reads_then same Titled DefinitionIs names (title d names p) (λ t. sections l d no_sections t.1 q >>= (λ st. Ok ((t.0, st.0), st.1))) (title_in p d names s.1)
      (λ t. reads_map (Put F no_sections) (λ x table. Titled t.0 table → DefinitionIs x table) t.1 (sections l d no_sections t.1 q) (λ st. (t.0, st)) (sections_in F q l d no_sections t.1 s.2) (λ st table is one. (one, is (none_stand F table))))

  inside_in : (p : Placed) (l : Language) (d : Definition) (names : Names) → AllSeen F p → Reads names (definition_inside l d names p) DefinitionIs
  unfolding definition_inside header
  inside_in p l d names s = behind_key DefinitionIs (codes "define") names (header l d names) p s (λ q t. header_in q l d names t)

  pub definition_in : (p : Placed) (l : Language) (d : Definition) (names : Names) → AllSeen F p → Reads names (definition_read l d names p) DefinitionIs
  unfolding definition_read
  definition_in cut l d names s = tt
  definition_in (close at) l d names s = tt
  definition_in (word at w p) l d names s = tt
  definition_in (list at p q) l d names s =
      reads_then same DefinitionIs DefinitionIs names (definition_inside l d names p) (λ x. nothing_due q >>= (λ _. Ok x)) (inside_in p l d names s.1)
      (λ x. reads_by (λ y table. DefinitionIs x.0 table → DefinitionIs y table) x.1 (nothing_due q) (λ _. Ok x) (λ _. (keeps_same x.1, λ table k is. is)))

  pub domain_is : (x : Name × RawSections) (table : Names) → DefinitionIs x table → OfDomain (F.Is table) F.Opens (domain_of x)
  domain_is x table h = record {
    name = h.0;
    types = or_none_each _ x.1.types h.1.types;
    constants = or_none_each _ x.1.constants h.1.constants;
    predicates = or_none_each _ x.1.predicates h.1.predicates;
    tasks = h.1.tasks;
    methods = h.1.methods;
    actions = h.1.actions;
  }

  network_parts : (o : Option RawParts) (table : Names) → IfSome o (λ x. PartsAre F x table) → PartsAre F (or_empty o) table
  network_parts None table h = none_are F table
  network_parts (Some x) table h = h

  pub problem_is : (x : Name × RawSections) (table : Names) → DefinitionIs x table → OfProblem (F.Is table) F.Opens (problem_of x)
  problem_is x table h =
      let n = network_parts x.1.network table h.1.network in
      record {
        name = h.0;
        objects = or_none_each _ x.1.objects h.1.objects;
        params = params_are F (or_empty x.1.network) table n;
        net = net_are F (or_empty x.1.network) table n;
        init = or_none_each _ x.1.init h.1.init;
        goal = or_true_is F table x.1.goal h.1.goal;
      }
