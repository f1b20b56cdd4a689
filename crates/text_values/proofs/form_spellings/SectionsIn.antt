-- What holds of the names and places of the sections of a domain and a problem.
use Rattle.std.proofs.Common.{Bool, true, false, if◌then◌else◌, codes, Ok, Err, Result, List, [], ◌∷◌, ◌++◌, Option, Some, None, IfSome}
use Rattle.text_forms.specs.Placed.{Placed, cut, close, word, list}
use Rattle.plan_texts.specs.Types.{EachIs}
use Rattle.plan_texts.proofs.Places.{each-join}
use Rattle.gd_reader.specs.declared.effects.RawEffect.{RawEffect}
use Rattle.gd_reader.specs.declared.formulas.RawFormula.{RawFormula}
use Rattle.gd_reader.specs.declared.stop.Stop.{Stop}
use Rattle.gd_reader.specs.declared.stop.Stop.TheVariants.{Departs}
use Rattle.gd_reader.specs.declared.term.RawAtom.{RawAtom}
use Rattle.gd_reader.specs.declared.term.RawTerm.{RawTerm}
use Rattle.gd_reader.specs.declared.typed_lists.ListKind.TheVariants as list_kind
use Rattle.gd_reader.specs.Answers.{◌>>=◌, word_due, list_due, end_due, passed}
use Rattle.gd_reader.specs.Formulas.{inside}
use Rattle.gd_reader.specs.Terms.{Names, used}
use Rattle.gd_reader.specs.TypedLists.{listed}
use Rattle.gd_reader.proofs.Keeping.{keeps_same}
use Rattle.hddl_reader.specs.declared.parts.Parted.{Parted}
use Rattle.hddl_reader.specs.declared.parts.Parted.TheVariants as parted
use Rattle.hddl_reader.specs.declared.parts.RawParts.{RawParts}
use Rattle.hddl_reader.specs.declared.sections.Definition.{Definition}
use Rattle.hddl_reader.specs.declared.sections.Language.{Language}
use Rattle.hddl_reader.specs.declared.sections.RawAction.{RawAction}
use Rattle.hddl_reader.specs.declared.sections.RawHead.{RawHead}
use Rattle.hddl_reader.specs.declared.sections.RawMethod.{RawMethod}
use Rattle.hddl_reader.specs.declared.raw_sections.RawSections.{RawSections}
use Rattle.hddl_reader.specs.declared.sections.Section.{Section}
use Rattle.hddl_reader.specs.declared.sections.Section.TheVariants as section
use Rattle.hddl_reader.specs.Networks.{declared, is_word, all_of}
use Rattle.hddl_reader.specs.Parts.{no_parts, keyword_by, parts}
use Rattle.hddl_reader.specs.Sections.{section_of, no_sections, has_section, or_none, or_true, or_nothing, head_of, network_of, action_of, method_of, with_kept, words, dropped_name, predicate_headed, used_names, assignment, fact, facts, named_parts, goal, section_read, may_end, section_inside, sections}
use Rattle.text_values.specs.form_spellings.EachPart.{OfHead, OfNet, OfMethod, OfAction}
use Rattle.text_values.proofs.form_spellings.EffectsIn.{EffectIn, no_effect_in}
use Rattle.text_values.proofs.form_spellings.Facts.{Facts, AllSeen}
use Rattle.text_values.proofs.form_spellings.FormulasIn.{FormulaIn, inside_in, true_in}
use Rattle.text_values.proofs.form_spellings.KeptWords.{Reads, reads_then, reads_map, reads_weaken, reads_by, reads_end}
use Rattle.text_values.proofs.form_spellings.ListsIn.{ParamsIn, listed_in}
use Rattle.text_values.proofs.form_spellings.NetworksIn.{SubIn, OrderIn, ConIn, NameFrom, HeadedIn, EachIn, declared_in, all_of_in}
use Rattle.text_values.proofs.form_spellings.PartsIn.{PartsAre, PutTo, none_are, parts_in}
use Rattle.text_values.proofs.form_spellings.TermsIn.{TermIn, TermsIn, AtomIn, same, used_in}

pub or_none_each : {X : Type 0} (P : X → Type 0) (o : Option (List X)) → IfSome o (EachIs P) → EachIs P (or_none o)
or_none_each P None h = tt
or_none_each P (Some xs) h = h

module _ (F : Facts) where
  abbrev pub HeadIn : RawHead → Names → Type 0
  HeadIn h table = OfHead (F.Is table) F.Opens h

  abbrev pub MethodIn : RawMethod → Names → Type 0
  MethodIn m table = OfMethod (F.Is table) F.Opens m

  abbrev pub ActionIn : RawAction → Names → Type 0
  ActionIn a table = OfAction (F.Is table) F.Opens a

  pub record SectionsAre (st : RawSections) (table : Names) : Type 0 where
    pub types : IfSome st.types (λ xs. ParamsIn F false xs table)
    pub constants : IfSome st.constants (λ xs. ParamsIn F false xs table)
    pub predicates : IfSome st.predicates (λ xs. EachIn F HeadIn xs table)
    pub tasks : EachIn F HeadIn st.tasks table
    pub methods : EachIn F MethodIn st.methods table
    pub actions : EachIn F ActionIn st.actions table
    pub objects : IfSome st.objects (λ xs. ParamsIn F false xs table)
    pub network : IfSome st.network (λ x. PartsAre F x table)
    pub init : IfSome st.init (λ xs. EachIn F (AtomIn F) xs table)
    pub goal : IfSome st.goal (λ f. FormulaIn F f table)

  abbrev pub Put : RawSections → RawSections → Names → Type 0
  Put st y table = SectionsAre st table → SectionsAre y table

  pub none_stand : (table : Names) → SectionsAre no_sections table
  none_stand table = record { types = tt; constants = tt; predicates = tt; tasks = tt; methods = tt; actions = tt; objects = tt; network = tt; init = tt; goal = tt }

  -- what the parts of a head, a network, a method and an action say
  pub net_are : (st : RawParts) (table : Names) → PartsAre F st table → OfNet (F.Is table) F.Opens (network_of st)
  net_are st table h = (or_none_each (λ x. SubIn F x table) st.subs h.subs, or_none_each (λ x. OrderIn F x table) st.pairs h.pairs, or_none_each (λ x. ConIn F x table) st.constraints h.constraints)

  pub params_are : (st : RawParts) (table : Names) → PartsAre F st table → ParamsIn F true (or_none st.params) table
  params_are st table h = or_none_each _ st.params h.params

  pub or_true_is : (table : Names) (o : Option RawFormula) → IfSome o (λ f. FormulaIn F f table) → FormulaIn F (or_true o) table
  or_true_is table None h = true_in F table
  or_true_is table (Some f) h = h

  or_nothing_is : (table : Names) (o : Option RawEffect) → IfSome o (λ e. EffectIn F e table) → EffectIn F (or_nothing o) table
  or_nothing_is table None h = no_effect_in F table
  or_nothing_is table (Some e) h = h

  head_is : (name : RawTerm) (st : RawParts) (table : Names) → TermIn F name table → PartsAre F st table → HeadIn (head_of name st) table
  head_is name st table n h = (n, params_are st table h)

  action_is : (name : RawTerm) (st : RawParts) (table : Names) → TermIn F name table → PartsAre F st table → ActionIn (action_of name st) table
  action_is name st table n h = (head_is name st table n h, or_true_is table st.pre h.pre, or_nothing_is table st.eff h.eff)

  -- a method with its task
  method_is : (name : RawTerm) (st : RawParts) (table : Names) → TermIn F name table → PartsAre F st table → EachIn F MethodIn (with_kept (method_of name st) []) table
  method_is name st table n h = go st.task h.task
    where
      go : (o : Option RawAtom) → IfSome o (λ a. AtomIn F a table) → EachIn F MethodIn (with_kept (let m : Option RawMethod = elim o [ None ↦ None | Some task ↦ Some (record { head = head_of name st; task = task; pre = or_true st.pre; net = network_of st }) ] in m) []) table
      go None t = tt
      go (Some task) t = ((head_is name st table n h, t, or_true_is table st.pre h.pre, net_are st table h), tt)

  predicate_in : HeadedIn F predicate_headed HeadIn
  unfolding predicate_headed
  predicate_in names place at w p opens seen s =
      reads_then same (NameFrom F at) HeadIn names (declared 8 names at w) (λ h. listed list_kind.Predicate h.1 p >>= (λ xs. Ok (record { name = h.0; params = xs.0 }, xs.1))) (declared_in F 8 names at w seen)
      (λ h. reads_map (ParamsIn F true) (λ x table. NameFrom F at h.0 table → HeadIn x table) h.1 (listed list_kind.Predicate h.1 p) (λ xs. record { name = h.0; params = xs }) (listed_in F p list_kind.Predicate h.1 s) (λ xs table is one. (one.0, is)))

  used_names_in : (p : Placed) (names : Names) → AllSeen F p → Reads names (used_names names p) (TermsIn F)
  unfolding used_names
  used_names_in cut names s = tt
  used_names_in (close at) names s = (keeps_same names, λ table k. tt)
  used_names_in (list at p q) names s = tt
  used_names_in (word at w p) names s =
      reads_then same (TermIn F) (TermsIn F) names (used names at w) (λ x. used_names x.1 p >>= (λ xs. Ok (x.0 ∷ xs.0, xs.1))) (used_in F names at w s.0)
      (λ x. reads_map (TermsIn F) (λ ts table. TermIn F x.0 table → TermsIn F ts table) x.1 (used_names x.1 p) (λ ts. x.0 ∷ ts) (used_names_in p x.1 s.1) (λ ts table is one. (one, is)))

  abbrev FactIn : Option RawAtom → Names → Type 0
  FactIn o table = IfSome o (λ a. AtomIn F a table)

  fact_in : (p : Placed) (names : Names) → AllSeen F p → Reads names (fact names p) FactIn
  unfolding fact word_due
  fact_in cut names s = tt
  fact_in (close at) names s = tt
  fact_in (list at p q) names s = tt
  fact_in (word at w p) names s = go (is_word (codes "=") w)
    where
      go : (b : Bool) → Reads names (if b then assignment p >>= (λ _. Ok (None, names)) else used names at w >>= (λ h. used_names h.1 p >>= (λ xs. Ok (Some (record { head = h.0; args = xs.0 }), xs.1)))) FactIn
      go true = reads_by FactIn names (assignment p) (λ _. Ok (None, names)) (λ _. (keeps_same names, λ table k. tt))
      go false =
          reads_then same (TermIn F) FactIn names (used names at w) (λ h. used_names h.1 p >>= (λ xs. Ok (Some (record { head = h.0; args = xs.0 }), xs.1))) (used_in F names at w s.0)
          (λ h. reads_map (TermsIn F) (λ o table. TermIn F h.0 table → FactIn o table) h.1 (used_names h.1 p) (λ xs. Some (record { head = h.0; args = xs })) (used_names_in p h.1 s.1) (λ ts table is one. (one, is)))

  kept : (o : Option RawAtom) (xs : List RawAtom) (table : Names) → FactIn o table → EachIn F (AtomIn F) xs table → EachIn F (AtomIn F) (with_kept o xs) table
  kept None xs table one is = is
  kept (Some a) xs table one is = (one, is)

  facts_in : (p : Placed) (names : Names) → AllSeen F p → Reads names (facts names p) (EachIn F (AtomIn F))
  unfolding facts
  facts_in cut names s = tt
  facts_in (close at) names s = (keeps_same names, λ table k. tt)
  facts_in (word at w p) names s = tt
  facts_in (list at p q) names s =
      reads_then same FactIn (EachIn F (AtomIn F)) names (fact names p) (λ x. facts x.1 q >>= (λ xs. Ok (with_kept x.0 xs.0, xs.1))) (fact_in p names s.1)
      (λ x. reads_map (EachIn F (AtomIn F)) (λ xs table. FactIn x.0 table → EachIn F (AtomIn F) xs table) x.1 (facts x.1 q) (with_kept x.0) (facts_in q x.1 s.2) (λ xs table is one. kept x.0 xs table one is))

  -- a name with its parts
  abbrev NamedIn : RawTerm × RawParts → Names → Type 0
  NamedIn x table = TermIn F x.0 table × PartsAre F x.1 table

  named_in : (kind : Parted) (p : Placed) (names : Names) → AllSeen F p → Reads names (named_parts kind names p) NamedIn
  unfolding named_parts word_due
  named_in kind cut names s = tt
  named_in kind (close at) names s = tt
  named_in kind (list at p q) names s = tt
  named_in kind (word at w p) names s =
      reads_then same (NameFrom F at) NamedIn names (declared 8 names at w) (λ h. parts kind no_parts h.1 p >>= (λ x. Ok ((h.0, x.0), x.1))) (declared_in F 8 names at w s.0)
      (λ h. reads_map (PutTo F no_parts) (λ x table. NameFrom F at h.0 table → NamedIn x table) h.1 (parts kind no_parts h.1 p) (λ x. (h.0, x)) (parts_in F p kind no_parts h.1 s.1) (λ x table is one. (one.0, is (none_are F table))))

  goal_in : (p : Placed) (names : Names) → AllSeen F p → Reads names (goal names p) (FormulaIn F)
  unfolding goal list_due
  goal_in cut names s = tt
  goal_in (close at) names s = tt
  goal_in (word at w p) names s = tt
  goal_in (list at p q) names s =
      reads_then same (FormulaIn F) (FormulaIn F) names (inside names p) (λ f. end_due q >>= (λ _. Ok f)) (inside_in F p names s.1) (λ f. reads_end (λ g table. FormulaIn F f.0 table → FormulaIn F g table) q f (λ _ table is. is))

  -- of a section that is dropped
  same_sections : (st y : RawSections) (names : Names) (r : Result (Unit {0}) Stop) → ((table : Names) → Put st y table) → Reads names (r >>= (λ _. Ok (y, names))) (Put st)
  same_sections st y names r h = reads_by (Put st) names r (λ _. Ok (y, names)) (λ _. (keeps_same names, λ table k. h table))

  section_in : (x : Section) (st : RawSections) (p : Placed) (names : Names) → AllSeen F p → Reads names (section_read x st names p) (Put st)
  unfolding section_read
  section_in section.Requirements st p names s = same_sections st (record st { requirements = true }) names (words p) (λ table h. record { types = h.types; constants = h.constants; predicates = h.predicates; tasks = h.tasks; methods = h.methods; actions = h.actions; objects = h.objects; network = h.network; init = h.init; goal = h.goal })
  section_in section.Functions st p names s = same_sections st (record st { functions = true }) names (passed p) (λ table h. record { types = h.types; constants = h.constants; predicates = h.predicates; tasks = h.tasks; methods = h.methods; actions = h.actions; objects = h.objects; network = h.network; init = h.init; goal = h.goal })
  section_in section.Domain st p names s = same_sections st (record st { domain = true }) names (dropped_name p) (λ table h. record { types = h.types; constants = h.constants; predicates = h.predicates; tasks = h.tasks; methods = h.methods; actions = h.actions; objects = h.objects; network = h.network; init = h.init; goal = h.goal })
  section_in section.Metric st p names s = same_sections st (record st { metric = true }) names (passed p) (λ table h. record { types = h.types; constants = h.constants; predicates = h.predicates; tasks = h.tasks; methods = h.methods; actions = h.actions; objects = h.objects; network = h.network; init = h.init; goal = h.goal })
  section_in section.Types st p names s = reads_map (ParamsIn F false) (Put st) names (listed list_kind.Types names p) (λ x. record st { types = Some x }) (listed_in F p list_kind.Types names s)
      (λ x table is h. record { types = is; constants = h.constants; predicates = h.predicates; tasks = h.tasks; methods = h.methods; actions = h.actions; objects = h.objects; network = h.network; init = h.init; goal = h.goal })
  section_in section.Constants st p names s = reads_map (ParamsIn F false) (Put st) names (listed list_kind.Objects names p) (λ x. record st { constants = Some x }) (listed_in F p list_kind.Objects names s)
      (λ x table is h. record { types = h.types; constants = is; predicates = h.predicates; tasks = h.tasks; methods = h.methods; actions = h.actions; objects = h.objects; network = h.network; init = h.init; goal = h.goal })
  section_in section.Objects st p names s = reads_map (ParamsIn F false) (Put st) names (listed list_kind.Objects names p) (λ x. record st { objects = Some x }) (listed_in F p list_kind.Objects names s)
      (λ x table is h. record { types = h.types; constants = h.constants; predicates = h.predicates; tasks = h.tasks; methods = h.methods; actions = h.actions; objects = is; network = h.network; init = h.init; goal = h.goal })
  section_in section.Predicates st p names s = reads_map (EachIn F HeadIn) (Put st) names (all_of predicate_headed names p) (λ x. record st { predicates = Some x }) (all_of_in F predicate_headed HeadIn predicate_in p names s)
      (λ x table is h. record { types = h.types; constants = h.constants; predicates = is; tasks = h.tasks; methods = h.methods; actions = h.actions; objects = h.objects; network = h.network; init = h.init; goal = h.goal })
  section_in section.Task st p names s = reads_map NamedIn (Put st) names (named_parts parted.Task names p) (λ x. record st { tasks = st.tasks ++ head_of x.0 x.1 ∷ [] }) (named_in parted.Task p names s)
      (λ x table is h. record { types = h.types; constants = h.constants; predicates = h.predicates; tasks = each-join _ st.tasks (head_of x.0 x.1 ∷ []) h.tasks (head_is x.0 x.1 table is.0 is.1, tt); methods = h.methods; actions = h.actions; objects = h.objects; network = h.network; init = h.init; goal = h.goal })
  section_in section.Method st p names s = reads_map NamedIn (Put st) names (named_parts parted.Method names p) (λ x. record st { methods = st.methods ++ with_kept (method_of x.0 x.1) [] }) (named_in parted.Method p names s)
      (λ x table is h. record { types = h.types; constants = h.constants; predicates = h.predicates; tasks = h.tasks; methods = each-join _ st.methods (with_kept (method_of x.0 x.1) []) h.methods (method_is x.0 x.1 table is.0 is.1); actions = h.actions; objects = h.objects; network = h.network; init = h.init; goal = h.goal })
  section_in section.Action st p names s = reads_map NamedIn (Put st) names (named_parts parted.Action names p) (λ x. record st { actions = st.actions ++ action_of x.0 x.1 ∷ [] }) (named_in parted.Action p names s)
      (λ x table is h. record { types = h.types; constants = h.constants; predicates = h.predicates; tasks = h.tasks; methods = h.methods; actions = each-join _ st.actions (action_of x.0 x.1 ∷ []) h.actions (action_is x.0 x.1 table is.0 is.1, tt); objects = h.objects; network = h.network; init = h.init; goal = h.goal })
  section_in section.Network st p names s = reads_map (PutTo F no_parts) (Put st) names (parts parted.Network no_parts names p) (λ x. record st { network = Some x }) (parts_in F p parted.Network no_parts names s)
      (λ x table is h. record { types = h.types; constants = h.constants; predicates = h.predicates; tasks = h.tasks; methods = h.methods; actions = h.actions; objects = h.objects; network = is (none_are F table); init = h.init; goal = h.goal })
  section_in section.Init st p names s = reads_map (EachIn F (AtomIn F)) (Put st) names (facts names p) (λ x. record st { init = Some x }) (facts_in p names s)
      (λ x table is h. record { types = h.types; constants = h.constants; predicates = h.predicates; tasks = h.tasks; methods = h.methods; actions = h.actions; objects = h.objects; network = h.network; init = is; goal = h.goal })
  section_in section.Goal st p names s = reads_map (FormulaIn F) (Put st) names (goal names p) (λ x. record st { goal = Some x }) (goal_in p names s)
      (λ x table is h. record { types = h.types; constants = h.constants; predicates = h.predicates; tasks = h.tasks; methods = h.methods; actions = h.actions; objects = h.objects; network = h.network; init = h.init; goal = is })

  inside_section_in : (l : Language) (d : Definition) (st : RawSections) (p : Placed) (names : Names) → AllSeen F p → Reads names (section_inside l d st names p) (Put st)
  unfolding section_inside word_due
  inside_section_in l d st cut names s = tt
  inside_section_in l d st (close at) names s = tt
  inside_section_in l d st (list at p q) names s = tt
  inside_section_in l d st (word at w p) names s = reads_by (Put st) names (keyword_by (section_of l d w) (has_section st) at w) (λ x. section_read x st names p) (λ x. section_in x st p names s.1)

  pub sections_in : (p : Placed) (l : Language) (d : Definition) (st : RawSections) (names : Names) → AllSeen F p → Reads names (sections l d st names p) (Put st)
  unfolding sections
  sections_in cut l d st names s = tt
  sections_in (close at) l d st names s = go (may_end l d st)
    where
      go : (b : Bool) → Reads names (if b then Ok (st, names) else Err (Departs 8 at)) (Put st)
      go true = (keeps_same names, λ table k h. h)
      go false = tt
  sections_in (word at w p) l d st names s = tt
  sections_in (list at p q) l d st names s =
      reads_then same (Put st) (Put st) names (section_inside l d st names p) (λ r. sections l d r.0 r.1 q) (inside_section_in l d st p names s.1)
      (λ r. reads_weaken (Put r.0) (λ y table. Put st r.0 table → Put st y table) r.1 (sections l d r.0 r.1 q) (sections_in q l d r.0 r.1 s.2) (λ y table is one h. is (one h)))
