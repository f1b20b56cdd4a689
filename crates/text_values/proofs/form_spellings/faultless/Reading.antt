-- Two texts that spell a sound value are read, and what is read has no fault of names.
use Rattle.std.proofs.Common.{ℕ, ◌≡◌, List, [], codes, Result, Ok, Err, refl, sym, subst}
use Rattle.std.specs.Prelude.{◌++◌}
use Rattle.htn_base.specs.declared.name.Name.{Name}
use Rattle.text_forms.specs.Faults.{IsFaultless}
use Rattle.text_forms.specs.Lists.{Parts, name, nothing, part}
use Rattle.text_forms.specs.Placed.{parts_at}
use Rattle.text_forms.specs.Printing.{headed}
use Rattle.text_forms.specs.Words.{Word}
use Rattle.text_forms.proofs.Levels.{says_as_placed}
use Rattle.text_forms.specs.form_grammar.Codes.{Whole}
use Rattle.text_forms.specs.form_grammar.Definitions.{definition_form}
use Rattle.hddl_reader.specs.Said.{said}
use Rattle.gd_reader.specs.declared.stop.Stop.{Stop}
use Rattle.gd_reader.specs.declared.stop.Stop.TheVariants.{Ends, Departs}
use Rattle.gd_reader.specs.declared.typed_lists.ListKind.TheVariants as list_kind
use Rattle.gd_reader.specs.declared.typed_lists.RawParam.{RawParam}
use Rattle.gd_reader.specs.Terms.{Names, Keeps}
use Rattle.gd_reader.proofs.Keeping.{keeps_same}
use Rattle.hddl_reader.specs.declared.networks.RawNet.{RawNet}
use Rattle.hddl_reader.specs.declared.sections.Definition.{Definition}
use Rattle.hddl_reader.specs.declared.sections.Definition.TheVariants as definition
use Rattle.hddl_reader.specs.declared.sections.Language.{Language}
use Rattle.hddl_reader.specs.declared.sections.Language.TheVariants as language
use Rattle.hddl_reader.specs.declared.sections.RawDomain.{RawDomain}
use Rattle.hddl_reader.specs.declared.sections.RawMethod.{RawMethod}
use Rattle.hddl_reader.specs.declared.sections.RawProblem.{RawProblem}
use Rattle.hddl_reader.specs.declared.raw_sections.RawSections.{RawSections}
use Rattle.hddl_reader.specs.Definitions.{definition_read, domain_of, problem_of, language_of, kind_of, IsRead, IsDomainRead, IsProblemRead}
use Rattle.hddl_reader.proofs.DefinitionsSaid.{definition_said}
use Rattle.hddl_reader.proofs.Refusals.{is_read}
use Rattle.plan_model.specs.declared.types.Object.{Object}
use Rattle.plan_model.specs.declared.values.Hddl.{Hddl}
use Rattle.plan_model.specs.declared.values.Pddl.{Pddl}
use Rattle.plan_texts.specs.Declared.{named}
use Rattle.plan_texts.specs.Domains.{IsDefinition}
use Rattle.plan_texts.specs.SoundValue.{arities}
use Rattle.plan_texts.specs.SpellsHddl.{hddl_words, hddl_domain, hddl_problem, task_words, action_words}
use Rattle.plan_texts.specs.SpellsPddl.{pddl_words, pddl_domain, pddl_problem}
use Rattle.plan_texts.specs.Together.{Together}
use Rattle.plan_texts.specs.Types.{EachIs}
use Rattle.text_values.specs.form_spellings.Bound.{IsBoundParam}
use Rattle.text_values.specs.form_spellings.BoundNetworks.{IsBoundNetwork}
use Rattle.text_values.specs.form_spellings.BoundTexts.{IsBoundDomain, IsBoundHddl, IsBoundPddl}
use Rattle.text_values.specs.form_spellings.EachPart.{OfMethod}
use Rattle.text_values.specs.form_spellings.InOrder.{IsTypedName}
use Rattle.text_values.specs.form_spellings.Places.{IsDomainAt, IsProblemAt, OpensWith, IsNameAt}
use Rattle.text_values.specs.form_spellings.ReadOf.{OfEachWhole, KeepsWords}
use Rattle.text_values.specs.form_spellings.ReadTexts.{AreRead, SpelledHddlIsBound, SpelledPddlIsBound}
use Rattle.text_values.specs.form_spellings.SpelledWhole.{HddlDomainsAreWhole, HddlProblemsAreWhole, PddlDomainsAreWhole, PddlProblemsAreWhole}
use Rattle.text_values.specs.form_spellings.SpellsSomeSections.{IsDefined}
use Rattle.text_values.proofs.form_spellings.order.Definitions.{domain_types, whole_in_order}
use Rattle.text_values.proofs.form_spellings.order.Lists.{typed_names}
use Rattle.text_values.proofs.form_spellings.TextsRead.{read_of, domain_from, pddl_domain_from}
use Rattle.hddl_reader.specs.names.Faults.{HasDomainFault, HasProblemFault, HasNoFault}
use Rattle.text_values.specs.form_spellings.Faultless.{AreFaultless, HasFewTypes, SpelledHddlIsFaultless, SpelledPddlIsFaultless}
use Rattle.text_values.proofs.form_spellings.faultless.Domains.{HasNamedPairs, AreBoundParts, domain_faultless, problem_faultless}
use Rattle.text_values.proofs.form_spellings.faultless.Filled.{pairs_named}
use Rattle.text_values.proofs.form_spellings.faultless.Fresh.{formula_fresh, declares_once}
use Rattle.text_values.proofs.form_spellings.faultless.Parts.{each_more}
use Rattle.text_values.proofs.form_spellings.faultless.Sound.{IsSoundAtAnyLength, sound_hddl, as_hddl, sound_pddl}
use Rattle.text_values.proofs.form_spellings.faultless.Tokens.{definition_faultless}
use Rattle.text_values.proofs.form_spellings.faultless.Types.{HasOneType}

-- a text that is a definition is defined
defined_of : (kind : Word) (text : List ℕ) (w : Word) (ss : Parts) (Are : Parts → Type 0) → IsDefinition kind text w ss → Are ss → IsDefined kind Are (parts_at text 0)
defined_of kind text w ss Are i are = (w, ss, (says_as_placed text (part (name (codes "define")) (part (headed kind (part (name w) nothing)) ss))).0 i.is, i.named, are)

-- The value to which a domain and a problem are bound, constants in front of the problem's own objects.
record AreBoundTo (table : Names) (d : RawDomain) (p : RawProblem) (h : Hddl) : Type 0 where
  constants : List Object
  others : List Object
  objects : h.objects ≡ constants ++ others
  in_domain : IsBoundDomain table d (hddl_domain h constants)
  in_problem : AreBoundParts table (hddl_words h) (task_words h) (action_words h) p (hddl_problem h others) h.top

module _ (l : Language) where
  abbrev IsWhole : Definition → List ℕ → Type 0
  IsWhole d text = Whole (definition_form (language_of l) (kind_of d) (parts_at text 0))

  -- what is whole is read, from any table of words
  read_whole : (d : Definition) (names : Names) (text : List ℕ) → IsWhole d text → (x : Name × RawSections) × (left : Names) × IsRead l d names text x left
  read_whole d names text w = go (definition_read l d names (parts_at text 0)) refl (subst Whole (sym (definition_said l d names (parts_at text 0))) w)
    where
      go : (r : Result ((Name × RawSections) × Names) Stop) → definition_read l d names (parts_at text 0) ≡ r → Whole (said r) → (x : Name × RawSections) × (left : Names) × IsRead l d names text x left
      go (Ok x) e k = (x.0, x.1, is_read l names text d x.0 x.1 e)
      go (Err Ends) e k = absurd k
      go (Err (Departs code at)) e k = absurd k

  module _ (domains_at : OfEachWhole (IsDomainRead l) IsDomainAt) (problems_at : OfEachWhole (IsProblemRead l) IsProblemAt) (h : Hddl) (s : IsSoundAtAnyLength h) (few : HasFewTypes l h.types) where
    -- a domain that was read of a text, in a table that keeps its words
    module _ (text : List ℕ) (before behind table : Names) (d : RawDomain) (r : IsDomainRead l before text (d, behind)) (keeps : Keeps behind table) where
      one_type : EachIs HasOneType d.types
      one_type =
          let types = typed_names table list_kind.Types (domain_of r.0).types refl (domain_types r.0 table (whole_in_order l definition.Domain text before behind table r.0 r.2 keeps)) in
          subst (λ (d : RawDomain). EachIs HasOneType d.types) (sym r.1) (each_more (IsTypedName table) HasOneType (domain_of r.0).types (λ x t. t.one_type) types)

      named_pairs : EachIs (λ (m : RawMethod). HasNamedPairs table m.net) d.methods
      named_pairs =
          let placed = domains_at text before table (d, behind) r keeps in
          each_more (OfMethod (IsNameAt text table) (OpensWith text)) (λ (m : RawMethod). HasNamedPairs table m.net) d.methods (λ m o. pairs_named text table m.net o.3) placed.methods

      domain_named : (cs others : List Object) → h.objects ≡ cs ++ others → IsBoundDomain table d (hddl_domain h cs) → HasNoFault (HasDomainFault l table d)
      domain_named cs others objects b = domain_faultless table d h cs b s others objects l few one_type named_pairs

    problem_named : (domain problem : List ℕ) (table : Names) (d : RawDomain) (p : RawProblem) → AreRead l domain problem table d p → AreBoundTo table d p h → HasNoFault (HasProblemFault table d p)
    problem_named domain problem table d p r b =
        let placed = problems_at problem r.before_problem table (p, r.behind_problem) r.problem_read r.keeps_problem in
        problem_faultless table d h b.constants b.in_domain s b.others b.objects l few
        (one_type domain r.before_domain r.behind_domain table d r.domain_read r.keeps_domain) (named_pairs domain r.before_domain r.behind_domain table d r.domain_read r.keeps_domain)
        p b.in_problem (pairs_named problem table p.net placed.net)

    -- two whole texts are faultless where what is read of them is bound to the value
    whole_are_faultless : KeepsWords (IsProblemRead l) → (domain problem : List ℕ) → IsFaultless domain → IsFaultless problem → IsWhole definition.Domain domain → IsWhole definition.Problem problem
        → (cs others : List Object) → h.objects ≡ cs ++ others
        → ((before behind table : Names) (d : RawDomain) → IsDomainRead l before domain (d, behind) → Keeps behind table → IsBoundDomain table d (hddl_domain h cs))
        → ((table : Names) (d : RawDomain) (p : RawProblem) → AreRead l domain problem table d p → AreBoundTo table d p h)
        → AreFaultless l domain problem
    whole_are_faultless problems_keep domain problem domain_tokens problem_tokens dw pw cs others objects domain_bound bound =
        let dr = read_whole definition.Domain [] domain dw in
        let pr = read_whole definition.Problem dr.1 problem pw in
        let p = problem_of pr.0 in
        let then_read : IsProblemRead l dr.1 problem (p, pr.1) = (pr.0, refl, pr.2) in
        record {
          domain_tokens = domain_tokens;
          problem_tokens = problem_tokens;
          table = pr.1;
          d = domain_of dr.0;
          p = p;
          read = record {
            before_domain = [];
            behind_domain = dr.1;
            domain_read = (dr.0, refl, dr.2);
            keeps_domain = problems_keep problem dr.1 (p, pr.1) then_read;
            before_problem = dr.1;
            behind_problem = pr.1;
            problem_read = then_read;
            keeps_problem = keeps_same pr.1;
          };
          domain_names = λ before behind table d r keeps. domain_named domain before behind table d r keeps cs others objects (domain_bound before behind table d r keeps);
          problem_names = λ table d p r. problem_named domain problem table d p r (bound table d p r);
        }

-- what HDDL texts are bound to, and PDDL texts, in these words
of_hddl : (table : Names) (d : RawDomain) (p : RawProblem) (h : Hddl) → IsBoundHddl table d p h → AreBoundTo table d p h
of_hddl table d p h b = let k = b.in_problem in record {
  constants = b.constants;
  others = b.others;
  objects = b.objects;
  in_domain = b.in_domain;
  in_problem = record { objects = k.objects; init = k.init; goal = k.goal; params = k.top.params_bound; network = k.top.network };
}

of_pddl : (table : Names) (d : RawDomain) (p : RawProblem) (c : Pddl) → IsBoundPddl table d p c → AreBoundTo table d p (as_hddl c)
of_pddl table d p c b = let k = b.in_problem in record {
  constants = b.constants;
  others = b.others;
  objects = b.objects;
  in_domain = b.in_domain;
  in_problem = record {
    objects = k.objects;
    init = k.init;
    goal = k.goal;
    params = subst (λ (rs : List RawParam). Together (IsBoundParam (pddl_words c) table) rs []) (sym k.params) tt;
    network = subst (λ (n : RawNet). IsBoundNetwork (pddl_words c) table [] (action_words (as_hddl c)) [] n [] [] []) (sym k.net) (record { subtasks = tt; written = []; pairs_are = refl; ordering = tt; limits = tt });
  };
}

module _ (whole_domains : HddlDomainsAreWhole) (whole_problems : HddlProblemsAreWhole) (bound : SpelledHddlIsBound) (problems_keep : KeepsWords (IsProblemRead language.Hddl))
    (domains_at : OfEachWhole (IsDomainRead language.Hddl) IsDomainAt) (problems_at : OfEachWhole (IsProblemRead language.Hddl) IsProblemAt) where
  pub hddl_faultless : SpelledHddlIsFaultless
  hddl_faultless domain problem h i shallow_domain shallow_problem sound ordered few =
      let s = sound_hddl h sound ordered in
      let texts = i.texts in
      let dt = texts.domain_text in
      let pt = texts.problem_text in
      let dw = named h.names h.domain in
      let pw = named h.names h.problem in
      let sections = i.sections in
      let x = hddl_domain h sections.constants in
      let own : (before behind table : Names) (d : RawDomain) → IsDomainRead language.Hddl before domain (d, behind) → Keeps behind table → IsBoundDomain table d x = λ before behind table d r keeps. (
      let headed = read_of language.Hddl definition.Domain (codes "domain") domain before behind table r.0 r.2 keeps dw texts.domain_sections dt in
      subst (λ d. IsBoundDomain table d x) (sym r.1) (domain_from r.0.0 r.0.1 texts.domain_sections table headed.1 x sections.in_domain)) in
      let whole_domain = whole_domains x (parts_at domain 0) (declares_once h s sections.constants) (defined_of (codes "domain") domain dw texts.domain_sections _ dt sections.in_domain) in
      let fresh = formula_fresh (hddl_words h) (hddl_words h) refl (arities h) h.goal [] s.value.goal in
      let whole_problem = whole_problems (hddl_words h) (task_words h) (action_words h) (hddl_problem h sections.others) h.top (parts_at problem 0) fresh s.value.top.params.1 (defined_of (codes "problem") problem pw texts.problem_sections _ pt sections.in_problem) in
      whole_are_faultless language.Hddl domains_at problems_at h s few problems_keep domain problem (definition_faultless (codes "domain") domain dw texts.domain_sections dt shallow_domain)
      (definition_faultless (codes "problem") problem pw texts.problem_sections pt shallow_problem) whole_domain whole_problem sections.constants sections.others sections.objects own
      (λ table d p read. of_hddl table d p h (bound domain problem table d p read h i))

module _ (whole_domains : PddlDomainsAreWhole) (whole_problems : PddlProblemsAreWhole) (bound : SpelledPddlIsBound) (problems_keep : KeepsWords (IsProblemRead language.Pddl))
    (domains_at : OfEachWhole (IsDomainRead language.Pddl) IsDomainAt) (problems_at : OfEachWhole (IsProblemRead language.Pddl) IsProblemAt) where
  pub pddl_faultless : SpelledPddlIsFaultless
  pddl_faultless domain problem c i shallow_domain shallow_problem sound few =
      let h = as_hddl c in
      let s = sound_pddl c sound in
      let texts = i.texts in
      let dt = texts.domain_text in
      let pt = texts.problem_text in
      let dw = named c.names c.domain in
      let pw = named c.names c.problem in
      let sections = i.sections in
      let x = pddl_domain c sections.constants in
      let own : (before behind table : Names) (d : RawDomain) → IsDomainRead language.Pddl before domain (d, behind) → Keeps behind table → IsBoundDomain table d x = λ before behind table d r keeps. (
      let headed = read_of language.Pddl definition.Domain (codes "domain") domain before behind table r.0 r.2 keeps dw texts.domain_sections dt in
      subst (λ d. IsBoundDomain table d x) (sym r.1) (pddl_domain_from r.0.0 r.0.1 texts.domain_sections table headed.1 c sections.constants sections.in_domain)) in
      let whole_domain = whole_domains x (parts_at domain 0) (declares_once h s sections.constants) (defined_of (codes "domain") domain dw texts.domain_sections _ dt sections.in_domain) in
      let fresh = formula_fresh (pddl_words c) (pddl_words c) refl (arities h) c.goal [] s.value.goal in
      let whole_problem = whole_problems (pddl_words c) (pddl_problem c sections.others) (parts_at problem 0) fresh (defined_of (codes "problem") problem pw texts.problem_sections _ pt sections.in_problem) in
      whole_are_faultless language.Pddl domains_at problems_at h s few problems_keep domain problem (definition_faultless (codes "domain") domain dw texts.domain_sections dt shallow_domain)
      (definition_faultless (codes "problem") problem pw texts.problem_sections pt shallow_problem) whole_domain whole_problem sections.constants sections.others sections.objects own
      (λ table d p read. of_pddl table d p c (bound domain problem table d p read c i))
