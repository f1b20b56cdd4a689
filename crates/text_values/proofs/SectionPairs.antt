-- The sections of a domain and a problem are read alike.
use Rattle.std.proofs.Common.{Bool, true, false, if◌then◌else◌, Ok, Result, List, [], ◌∷◌, ◌++◌, Option, Some, None, option_map, codes}
use Rattle.text_forms.specs.Placed.{Placed, cut, close, word, list}
use Rattle.plan_texts.specs.Together.{Together}
use Rattle.gd_reader.specs.declared.stop.Stop.{Stop}
use Rattle.gd_reader.specs.declared.formulas.RawFormula.{RawFormula}
use Rattle.gd_reader.specs.declared.effects.RawEffect.{RawEffect}
use Rattle.gd_reader.specs.declared.term.RawAtom.{RawAtom}
use Rattle.gd_reader.specs.declared.term.RawTerm.{RawTerm}
use Rattle.gd_reader.specs.declared.typed_lists.ListKind.TheVariants as list_kind
use Rattle.gd_reader.specs.Answers.{◌>>=◌, word_due, list_due, end_due, passed}
use Rattle.gd_reader.specs.Formulas.{inside}
use Rattle.gd_reader.specs.Terms.{Names, used}
use Rattle.gd_reader.specs.TypedLists.{listed}
use Rattle.hddl_reader.specs.declared.parts.Parted.{Parted}
use Rattle.hddl_reader.specs.declared.parts.Parted.TheVariants as parted
use Rattle.hddl_reader.specs.declared.parts.RawParts.{RawParts}
use Rattle.hddl_reader.specs.declared.sections.Definition.{Definition}
use Rattle.hddl_reader.specs.declared.sections.Language.{Language}
use Rattle.hddl_reader.specs.declared.sections.RawHead.{RawHead}
use Rattle.hddl_reader.specs.declared.sections.RawMethod.{RawMethod}
use Rattle.hddl_reader.specs.declared.raw_sections.RawSections.{RawSections}
use Rattle.hddl_reader.specs.declared.sections.Section.{Section}
use Rattle.hddl_reader.specs.declared.sections.Section.TheVariants as section
use Rattle.hddl_reader.specs.Networks.{is_word, declared, all_of}
use Rattle.hddl_reader.specs.Parts.{no_parts, keyword_by, parts}
use Rattle.hddl_reader.specs.Sections.{section_of, has_section, no_sections, or_none, or_true, or_nothing, head_of, network_of, action_of, method_of, with_kept, words, dropped_name, predicate_headed, used_names, assignment, fact, facts, named_parts, goal, section_read, may_end, section_inside, sections}
use Rattle.text_values.proofs.Alike.{AlikeTerm, AlikeAtom, AlikeParams, AlikeFormula, AlikeEffect, AlikeNet, AlikeHead, AlikeMethod, AlikeAction, Both, all, none}
use Rattle.text_values.proofs.Pairs.{Tie, Tied, after, built, weaker, behind_same, here}
use Rattle.text_values.proofs.TermPairs.{TermTie, TermsTie, AtomTie, ended, used_tied}
use Rattle.text_values.proofs.ListPairs.{ParamsTie, listed_tied}
use Rattle.text_values.proofs.FormulaPairs.{FormulaTie, inside_tied}
use Rattle.text_values.proofs.EffectPairs.{nothing_alike}
use Rattle.text_values.proofs.NetworkPairs.{HeadedTied, EachTie, declared_tied, all_of_tied}
use Rattle.text_values.proofs.PartPairs.{AlikeParts, none_alike, keyword_then, may_both, parts_tied}
use Rattle.text_values.proofs.PartPairs as part_pairs

pub or_none_alike : {X : Type 0} (R : X → X → Type 0) (o u : Option (List X)) → Both (Together R) o u → Together R (or_none o) (or_none u)
or_none_alike R None None h = tt
or_none_alike R None (Some ys) h = absurd h
or_none_alike R (Some xs) None h = absurd h
or_none_alike R (Some xs) (Some ys) h = h

pub joined_alike : {X : Type 0} (R : X → X → Type 0) (xs ys vs ws : List X) → Together R xs ys → Together R vs ws → Together R (xs ++ vs) (ys ++ ws)
joined_alike R [] [] vs ws a b = b
joined_alike R [] (y ∷ ys) vs ws a b = absurd a
joined_alike R (x ∷ xs) [] vs ws a b = absurd a
joined_alike R (x ∷ xs) (y ∷ ys) vs ws a b = (a.0, joined_alike R xs ys vs ws a.1 b)

-- a method with this task
abbrev with_task : RawTerm → RawParts → Option RawAtom → Option RawMethod
with_task name st o = option_map (λ task. record { head = head_of name st; task = task; pre = or_true st.pre; net = network_of st }) o

module _ (t u : Names) where
  pub record AlikeSections (x y : RawSections) : Type 0 where
    pub types : Both (AlikeParams t u) x.types y.types
    pub constants : Both (AlikeParams t u) x.constants y.constants
    pub predicates : Both (Together (AlikeHead t u)) x.predicates y.predicates
    pub tasks : Together (AlikeHead t u) x.tasks y.tasks
    pub methods : Together (AlikeMethod t u) x.methods y.methods
    pub actions : Together (AlikeAction t u) x.actions y.actions
    pub objects : Both (AlikeParams t u) x.objects y.objects
    pub network : Both (AlikeParts t u) x.network y.network
    pub init : Both (Together (AlikeAtom t u)) x.init y.init
    pub goal : Both (AlikeFormula t u) x.goal y.goal

  pub none_stand : AlikeSections no_sections no_sections
  none_stand = record { types = tt; constants = tt; predicates = tt; tasks = tt; methods = tt; actions = tt; objects = tt; network = tt; init = tt; goal = tt }

  pub or_true_alike : (o v : Option RawFormula) → Both (AlikeFormula t u) o v → AlikeFormula t u (or_true o) (or_true v)
  or_true_alike None None h = all [] [] none
  or_true_alike None (Some g) h = absurd h
  or_true_alike (Some f) None h = absurd h
  or_true_alike (Some f) (Some g) h = h

  or_nothing_alike : (o v : Option RawEffect) → Both (AlikeEffect t u) o v → AlikeEffect t u (or_nothing o) (or_nothing v)
  or_nothing_alike None None h = nothing_alike t u
  or_nothing_alike None (Some g) h = absurd h
  or_nothing_alike (Some f) None h = absurd h
  or_nothing_alike (Some f) (Some g) h = h

  module _ (a b : RawParts) (h : AlikeParts t u a b) where
    pub net_alike : AlikeNet t u (network_of a) (network_of b)
    net_alike = record { subs = or_none_alike _ a.subs b.subs h.subs; ordered = h.ordered; pairs = or_none_alike _ a.pairs b.pairs h.pairs; constraints = or_none_alike _ a.constraints b.constraints h.constraints }

    pub params_alike : AlikeParams t u (or_none a.params) (or_none b.params)
    params_alike = or_none_alike _ a.params b.params h.params

    module _ (x y : RawTerm) (name : AlikeTerm t u x y) where
      head_alike : AlikeHead t u (head_of x a) (head_of y b)
      head_alike = record { name = name; params = params_alike }

      action_alike : AlikeAction t u (action_of x a) (action_of y b)
      action_alike = record { head = head_alike; pre = or_true_alike a.pre b.pre h.pre; eff = or_nothing_alike a.eff b.eff h.eff }

      method_alike : Together (AlikeMethod t u) (with_kept (method_of x a) []) (with_kept (method_of y b) [])
      method_alike = go a.task b.task h.task
        where
          go : (o v : Option RawAtom) → Both (AlikeAtom t u) o v → Together (AlikeMethod t u) (with_kept (with_task x a o) []) (with_kept (with_task y b v) [])
          go None None e = tt
          go None (Some task) e = absurd e
          go (Some task) None e = absurd e
          go (Some task) (Some other) e = (record { head = head_alike; task = e; pre = or_true_alike a.pre b.pre h.pre; net = net_alike }, tt)

abbrev pub PutTie : RawSections → RawSections → Tie RawSections
PutTie a b x y t u = AlikeSections t u a b → AlikeSections t u x y

abbrev HeadTie : Tie RawHead
HeadTie x y t u = AlikeHead t u x y

predicate_tied : HeadedTied predicate_headed HeadTie
unfolding predicate_headed
predicate_tied n m place at w p =
    after TermTie HeadTie n m (declared 8 n at w) (declared 8 m at w) (λ h. listed list_kind.Predicate h.1 p >>= (λ xs. Ok (record { name = h.0; params = xs.0 }, xs.1))) (λ h. listed list_kind.Predicate h.1 p >>= (λ xs. Ok (record { name = h.0; params = xs.0 }, xs.1)))
    (declared_tied 8 n m at w)
    (λ h g. built ParamsTie (λ x y t u. TermTie h.0 g.0 t u → HeadTie x y t u) h.1 g.1 (listed list_kind.Predicate h.1 p) (listed list_kind.Predicate g.1 p) (λ xs. record { name = h.0; params = xs }) (λ xs. record { name = g.0; params = xs })
    (listed_tied p list_kind.Predicate h.1 g.1) (λ xs ys t u is one. record { name = one; params = is }))

used_names_tied : (p : Placed) (n m : Names) → Tied n m (used_names n p) (used_names m p) TermsTie
unfolding used_names
used_names_tied cut n m = tt
used_names_tied (close at) n m = here TermsTie n m [] [] (λ t u. tt)
used_names_tied (list at p q) n m = tt
used_names_tied (word at w p) n m =
    after TermTie TermsTie n m (used n at w) (used m at w) (λ x. used_names x.1 p >>= (λ xs. Ok (x.0 ∷ xs.0, xs.1))) (λ x. used_names x.1 p >>= (λ xs. Ok (x.0 ∷ xs.0, xs.1))) (used_tied n m at w)
    (λ x y. built TermsTie (λ xs ys t u. TermTie x.0 y.0 t u → TermsTie xs ys t u) x.1 y.1 (used_names x.1 p) (used_names y.1 p) (λ xs. x.0 ∷ xs) (λ ys. y.0 ∷ ys) (used_names_tied p x.1 y.1) (λ xs ys t u is one. (one, is)))

abbrev FactTie : Tie (Option RawAtom)
FactTie x y t u = Both (AlikeAtom t u) x y

fact_tied : (p : Placed) (n m : Names) → Tied n m (fact n p) (fact m p) FactTie
unfolding fact word_due
fact_tied cut n m = tt
fact_tied (close at) n m = tt
fact_tied (list at p q) n m = tt
fact_tied (word at w p) n m = go (is_word (codes "=") w)
  where
    go : (b : Bool) → Tied n m (if b then assignment p >>= (λ _. Ok (None, n)) else used n at w >>= (λ h. used_names h.1 p >>= (λ xs. Ok (Some (record { head = h.0; args = xs.0 }), xs.1))))
        (if b then assignment p >>= (λ _. Ok (None, m)) else used m at w >>= (λ h. used_names h.1 p >>= (λ xs. Ok (Some (record { head = h.0; args = xs.0 }), xs.1)))) FactTie
    go true = behind_same FactTie n m (assignment p) (λ _. Ok (None, n)) (λ _. Ok (None, m)) (λ _. here FactTie n m None None (λ t u. tt))
    go false =
        after TermTie FactTie n m (used n at w) (used m at w) (λ h. used_names h.1 p >>= (λ xs. Ok (Some (record { head = h.0; args = xs.0 }), xs.1))) (λ h. used_names h.1 p >>= (λ xs. Ok (Some (record { head = h.0; args = xs.0 }), xs.1))) (used_tied n m at w)
        (λ x y. built TermsTie (λ v w t u. TermTie x.0 y.0 t u → FactTie v w t u) x.1 y.1 (used_names x.1 p) (used_names y.1 p) (λ xs. Some (record { head = x.0; args = xs })) (λ ys. Some (record { head = y.0; args = ys })) (used_names_tied p x.1 y.1)
        (λ xs ys t u is one. record { head = one; args = is }))

kept_alike : (x y : Option RawAtom) (xs ys : List RawAtom) (t u : Names) → FactTie x y t u → EachTie AtomTie xs ys t u → EachTie AtomTie (with_kept x xs) (with_kept y ys) t u
kept_alike None None xs ys t u one is = is
kept_alike None (Some b) xs ys t u one is = absurd one
kept_alike (Some a) None xs ys t u one is = absurd one
kept_alike (Some a) (Some b) xs ys t u one is = (one, is)

facts_tied : (p : Placed) (n m : Names) → Tied n m (facts n p) (facts m p) (EachTie AtomTie)
unfolding facts
facts_tied cut n m = tt
facts_tied (close at) n m = here (EachTie AtomTie) n m [] [] (λ t u. tt)
facts_tied (word at w p) n m = tt
facts_tied (list at p q) n m =
    after FactTie (EachTie AtomTie) n m (fact n p) (fact m p) (λ x. facts x.1 q >>= (λ xs. Ok (with_kept x.0 xs.0, xs.1))) (λ x. facts x.1 q >>= (λ xs. Ok (with_kept x.0 xs.0, xs.1))) (fact_tied p n m)
    (λ x y. built (EachTie AtomTie) (λ xs ys t u. FactTie x.0 y.0 t u → EachTie AtomTie xs ys t u) x.1 y.1 (facts x.1 q) (facts y.1 q) (with_kept x.0) (with_kept y.0) (facts_tied q x.1 y.1) (λ xs ys t u is one. kept_alike x.0 y.0 xs ys t u one is))

abbrev NamedTie : Tie (RawTerm × RawParts)
NamedTie x y t u = AlikeTerm t u x.0 y.0 × AlikeParts t u x.1 y.1

named_tied : (kind : Parted) (p : Placed) (n m : Names) → Tied n m (named_parts kind n p) (named_parts kind m p) NamedTie
unfolding named_parts word_due
named_tied kind cut n m = tt
named_tied kind (close at) n m = tt
named_tied kind (list at p q) n m = tt
named_tied kind (word at w p) n m =
    after TermTie NamedTie n m (declared 8 n at w) (declared 8 m at w) (λ h. parts kind no_parts h.1 p >>= (λ x. Ok ((h.0, x.0), x.1))) (λ h. parts kind no_parts h.1 p >>= (λ x. Ok ((h.0, x.0), x.1))) (declared_tied 8 n m at w)
    (λ h g. built (part_pairs.PutTie no_parts no_parts) (λ x y t u. TermTie h.0 g.0 t u → NamedTie x y t u) h.1 g.1 (parts kind no_parts h.1 p) (parts kind no_parts g.1 p) (λ x. (h.0, x)) (λ x. (g.0, x)) (parts_tied p kind no_parts no_parts h.1 g.1)
    (λ x y t u is one. (one, is (none_alike t u))))

goal_tied : (p : Placed) (n m : Names) → Tied n m (goal n p) (goal m p) FormulaTie
unfolding goal list_due
goal_tied cut n m = tt
goal_tied (close at) n m = tt
goal_tied (word at w p) n m = tt
goal_tied (list at p q) n m =
    after FormulaTie FormulaTie n m (inside n p) (inside m p) (λ f. end_due q >>= (λ _. Ok f)) (λ f. end_due q >>= (λ _. Ok f)) (inside_tied p n m) (λ f g. ended (λ h k t u. FormulaTie f.0 g.0 t u → FormulaTie h k t u) q f g (λ t u is. is))

-- a section that is dropped
dropped : (a b x y : RawSections) (n m : Names) (r : Result (Unit {0}) Stop) → ((t u : Names) → PutTie a b x y t u) → Tied n m (r >>= (λ _. Ok (x, n))) (r >>= (λ _. Ok (y, m))) (PutTie a b)
dropped a b x y n m r h = behind_same (PutTie a b) n m r (λ _. Ok (x, n)) (λ _. Ok (y, m)) (λ _. here (PutTie a b) n m x y h)

section_tied : (x : Section) (a b : RawSections) (p : Placed) (n m : Names) → Tied n m (section_read x a n p) (section_read x b m p) (PutTie a b)
unfolding section_read
section_tied section.Requirements a b p n m = dropped a b (record a { requirements = true }) (record b { requirements = true }) n m (words p) (λ t u h. record { types = h.types; constants = h.constants; predicates = h.predicates; tasks = h.tasks; methods = h.methods; actions = h.actions; objects = h.objects; network = h.network; init = h.init; goal = h.goal })
section_tied section.Functions a b p n m = dropped a b (record a { functions = true }) (record b { functions = true }) n m (passed p) (λ t u h. record { types = h.types; constants = h.constants; predicates = h.predicates; tasks = h.tasks; methods = h.methods; actions = h.actions; objects = h.objects; network = h.network; init = h.init; goal = h.goal })
section_tied section.Domain a b p n m = dropped a b (record a { domain = true }) (record b { domain = true }) n m (dropped_name p) (λ t u h. record { types = h.types; constants = h.constants; predicates = h.predicates; tasks = h.tasks; methods = h.methods; actions = h.actions; objects = h.objects; network = h.network; init = h.init; goal = h.goal })
section_tied section.Metric a b p n m = dropped a b (record a { metric = true }) (record b { metric = true }) n m (passed p) (λ t u h. record { types = h.types; constants = h.constants; predicates = h.predicates; tasks = h.tasks; methods = h.methods; actions = h.actions; objects = h.objects; network = h.network; init = h.init; goal = h.goal })
section_tied section.Types a b p n m =
    built ParamsTie (PutTie a b) n m (listed list_kind.Types n p) (listed list_kind.Types m p) (λ x. record a { types = Some x }) (λ x. record b { types = Some x }) (listed_tied p list_kind.Types n m)
    (λ x y t u is h. record { types = is; constants = h.constants; predicates = h.predicates; tasks = h.tasks; methods = h.methods; actions = h.actions; objects = h.objects; network = h.network; init = h.init; goal = h.goal })
section_tied section.Constants a b p n m =
    built ParamsTie (PutTie a b) n m (listed list_kind.Objects n p) (listed list_kind.Objects m p) (λ x. record a { constants = Some x }) (λ x. record b { constants = Some x }) (listed_tied p list_kind.Objects n m)
    (λ x y t u is h. record { types = h.types; constants = is; predicates = h.predicates; tasks = h.tasks; methods = h.methods; actions = h.actions; objects = h.objects; network = h.network; init = h.init; goal = h.goal })
section_tied section.Objects a b p n m =
    built ParamsTie (PutTie a b) n m (listed list_kind.Objects n p) (listed list_kind.Objects m p) (λ x. record a { objects = Some x }) (λ x. record b { objects = Some x }) (listed_tied p list_kind.Objects n m)
    (λ x y t u is h. record { types = h.types; constants = h.constants; predicates = h.predicates; tasks = h.tasks; methods = h.methods; actions = h.actions; objects = is; network = h.network; init = h.init; goal = h.goal })
section_tied section.Predicates a b p n m =
    built (EachTie HeadTie) (PutTie a b) n m (all_of predicate_headed n p) (all_of predicate_headed m p) (λ x. record a { predicates = Some x }) (λ x. record b { predicates = Some x }) (all_of_tied predicate_headed HeadTie predicate_tied p n m)
    (λ x y t u is h. record { types = h.types; constants = h.constants; predicates = is; tasks = h.tasks; methods = h.methods; actions = h.actions; objects = h.objects; network = h.network; init = h.init; goal = h.goal })
section_tied section.Init a b p n m =
    built (EachTie AtomTie) (PutTie a b) n m (facts n p) (facts m p) (λ x. record a { init = Some x }) (λ x. record b { init = Some x }) (facts_tied p n m)
    (λ x y t u is h. record { types = h.types; constants = h.constants; predicates = h.predicates; tasks = h.tasks; methods = h.methods; actions = h.actions; objects = h.objects; network = h.network; init = is; goal = h.goal })
section_tied section.Goal a b p n m =
    built FormulaTie (PutTie a b) n m (goal n p) (goal m p) (λ x. record a { goal = Some x }) (λ x. record b { goal = Some x }) (goal_tied p n m)
    (λ x y t u is h. record { types = h.types; constants = h.constants; predicates = h.predicates; tasks = h.tasks; methods = h.methods; actions = h.actions; objects = h.objects; network = h.network; init = h.init; goal = is })
section_tied section.Network a b p n m =
    built (part_pairs.PutTie no_parts no_parts) (PutTie a b) n m (parts parted.Network no_parts n p) (parts parted.Network no_parts m p) (λ x. record a { network = Some x }) (λ x. record b { network = Some x }) (parts_tied p parted.Network no_parts no_parts n m)
    (λ x y t u is h. record { types = h.types; constants = h.constants; predicates = h.predicates; tasks = h.tasks; methods = h.methods; actions = h.actions; objects = h.objects; network = is (none_alike t u); init = h.init; goal = h.goal })
section_tied section.Task a b p n m =
    built NamedTie (PutTie a b) n m (named_parts parted.Task n p) (named_parts parted.Task m p) (λ x. record a { tasks = a.tasks ++ head_of x.0 x.1 ∷ [] }) (λ x. record b { tasks = b.tasks ++ head_of x.0 x.1 ∷ [] }) (named_tied parted.Task p n m)
    (λ x y t u is h. record { types = h.types; constants = h.constants; predicates = h.predicates; tasks = joined_alike _ a.tasks b.tasks (head_of x.0 x.1 ∷ []) (head_of y.0 y.1 ∷ []) h.tasks (head_alike t u x.1 y.1 is.1 x.0 y.0 is.0, tt); methods = h.methods; actions = h.actions; objects = h.objects; network = h.network; init = h.init; goal = h.goal })
section_tied section.Method a b p n m =
    built NamedTie (PutTie a b) n m (named_parts parted.Method n p) (named_parts parted.Method m p) (λ x. record a { methods = a.methods ++ with_kept (method_of x.0 x.1) [] }) (λ x. record b { methods = b.methods ++ with_kept (method_of x.0 x.1) [] }) (named_tied parted.Method p n m)
    (λ x y t u is h. record { types = h.types; constants = h.constants; predicates = h.predicates; tasks = h.tasks; methods = joined_alike _ a.methods b.methods (with_kept (method_of x.0 x.1) []) (with_kept (method_of y.0 y.1) []) h.methods (method_alike t u x.1 y.1 is.1 x.0 y.0 is.0); actions = h.actions; objects = h.objects; network = h.network; init = h.init; goal = h.goal })
section_tied section.Action a b p n m =
    built NamedTie (PutTie a b) n m (named_parts parted.Action n p) (named_parts parted.Action m p) (λ x. record a { actions = a.actions ++ action_of x.0 x.1 ∷ [] }) (λ x. record b { actions = b.actions ++ action_of x.0 x.1 ∷ [] }) (named_tied parted.Action p n m)
    (λ x y t u is h. record { types = h.types; constants = h.constants; predicates = h.predicates; tasks = h.tasks; methods = h.methods; actions = joined_alike _ a.actions b.actions (action_of x.0 x.1 ∷ []) (action_of y.0 y.1 ∷ []) h.actions (action_alike t u x.1 y.1 is.1 x.0 y.0 is.0, tt); objects = h.objects; network = h.network; init = h.init; goal = h.goal })

inside_section : (l : Language) (d : Definition) (a b : RawSections) (p : Placed) (n m : Names) → Tied n m (section_inside l d a n p) (section_inside l d b m p) (PutTie a b)
unfolding section_inside
inside_section l d a b p n m =
    behind_same (PutTie a b) n m (word_due p) (λ v. keyword_by (section_of l d v.1) (has_section a) v.0 v.1 >>= (λ x. section_read x a n v.2)) (λ v. keyword_by (section_of l d v.1) (has_section b) v.0 v.1 >>= (λ x. section_read x b m v.2))
    (λ v. keyword_then (PutTie a b) n m (section_of l d v.1) (has_section a) (has_section b) v.0 v.1 (λ x. section_read x a n v.2) (λ x. section_read x b m v.2) (λ x. section_tied x a b v.2 n m))

pub sections_tied : (p : Placed) (l : Language) (d : Definition) (a b : RawSections) (n m : Names) → Tied n m (sections l d a n p) (sections l d b m p) (PutTie a b)
unfolding sections
sections_tied cut l d a b n m = tt
sections_tied (close at) l d a b n m = may_both (PutTie a b) n m a b at (may_end l d a) (may_end l d b) (λ t u h. h)
sections_tied (word at w p) l d a b n m = tt
sections_tied (list at p q) l d a b n m =
    after (PutTie a b) (PutTie a b) n m (section_inside l d a n p) (section_inside l d b m p) (λ r. sections l d r.0 r.1 q) (λ r. sections l d r.0 r.1 q) (inside_section l d a b p n m)
    (λ r s. weaker (PutTie r.0 s.0) (λ v w t u. PutTie a b r.0 s.0 t u → PutTie a b v w t u) r.1 s.1 (sections l d r.0 r.1 q) (sections l d s.0 s.1 q) (sections_tied q l d r.0 s.0 r.1 s.1) (λ v w t u is one h. is (one h)))
