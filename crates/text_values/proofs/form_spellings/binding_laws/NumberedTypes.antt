-- Each type that is written in a domain or a problem without faults has a number.
use Rattle.std.proofs.Common.{ℕ, ◌≡◌, ◌≤◌, inl, inr, List, [], ◌∷◌, ◌++◌, map, length, refl, sym, ap, subst, ◌∙◌, arith}
use Rattle.std.specs.Prelude.{◌⊎◌, flat_map}
use Rattle.htn_base.specs.Different.{AreDifferent}
use Rattle.gd_reader.specs.Terms.{Names}
use Rattle.gd_reader.specs.declared.term.RawAtom.{RawAtom}
use Rattle.gd_reader.specs.declared.term.RawTerm.{RawTerm}
use Rattle.gd_reader.specs.declared.typed_lists.RawParam.{RawParam}
use Rattle.hddl_reader.specs.declared.networks.RawCon.{RawCon}
use Rattle.hddl_reader.specs.declared.networks.RawNet.{RawNet}
use Rattle.hddl_reader.specs.declared.networks.RawSub.{RawSub}
use Rattle.hddl_reader.specs.declared.sections.Language.{Language}
use Rattle.hddl_reader.specs.declared.sections.RawAction.{RawAction}
use Rattle.hddl_reader.specs.declared.sections.RawDomain.{RawDomain}
use Rattle.hddl_reader.specs.declared.sections.RawHead.{RawHead}
use Rattle.hddl_reader.specs.declared.sections.RawMethod.{RawMethod}
use Rattle.hddl_reader.specs.declared.sections.RawProblem.{RawProblem}
use Rattle.plan_texts.specs.Types.{EachIs}
use Rattle.text_values.specs.form_spellings.EachPart.{OfHead, OfAction, OfMethod}
use Rattle.text_values.specs.form_spellings.InTable.{IsNameIn, AreParamsIn}
use Rattle.hddl_reader.specs.names.Faults.{HasDomainFault, HasProblemFault, HasNoFault}
use Rattle.htn_base.specs.Lists.{One, Has}
use Rattle.hddl_reader.specs.names.Standing.{IsOfNetwork, InAction, InMethod, InDomain, InProblem}
use Rattle.hddl_reader.specs.names.Uses.{Scope, predicate, subtask, task, declares, IsDeclared, IsOfAtom, IsOneOf, variables}
use Rattle.hddl_reader.specs.names.Words.{term_word}
use Rattle.name_binding.specs.declared.faults.Spot.{Spot}
use Rattle.name_binding.specs.Spots.{spot}
use Rattle.name_binding.specs.Kinds.{Kinds, type_number, members_written, kind_faults}
use Rattle.name_binding.specs.Unions.{union_at, unions_said, params_unions, formula_unions, effect_unions}
use Rattle.name_binding.specs.declared.unions.Either.{Either}
use Rattle.hddl_bind.specs.WholeUnions.{head_unions, heads_unions, action_unions, actions_unions, method_unions, methods_unions, domain_unions, problem_unions}
use Rattle.text_values.specs.form_spellings.binding_laws.Formulas.{AreNumberedIn}
use Rattle.text_values.specs.form_spellings.binding_laws.InOrder.{Anywhere, IsTypedName, IsPredicateInOrder, IsHeadInOrder, IsMethodInOrder, IsActionInOrder, IsDomainInOrder, IsProblemInOrder}
use Rattle.text_values.specs.form_spellings.binding_laws.Kinds.{AreTypesOf, AreTermsIn, IsNumbered}
use Rattle.text_values.proofs.form_spellings.binding_laws.Lists.{append_left, append_right, flat_back}
use Rattle.text_values.proofs.form_spellings.binding_laws.Ones.{one_has, has_one, each_has}
use Rattle.text_values.proofs.form_spellings.binding_laws.Written.{has_kind_faults, members_are}
use Rattle.text_values.proofs.form_spellings.binding_laws.WrittenEffects.{effect_written}
use Rattle.text_values.proofs.form_spellings.binding_laws.WrittenFormulas.{IsWritten, wider, list_written, no_atom, formula_written}

-- nothing is declared in a network
no_net : {T : Type 0} (names : Names) (kinds : Kinds) (n : RawNet) (x : RawParam) → IsOfNetwork n (declares x) → T
no_net names kinds n x (inl o) = let s = one_has (λ (s : RawSub). IsOfAtom subtask s.atom (declares x)) n.subs o in no_atom names kinds s.0.atom subtask s.0.atom.args x s.2
no_net names kinds n x (inr o) = let c = one_has (λ (c : RawCon). IsOneOf c.left c.right (declares x)) n.constraints o in no_constraint c.0 c.2
  where
    no_constraint : {T : Type 0} (c : RawCon) → IsOneOf c.left c.right (declares x) → T
    no_constraint c (inl e) = absurd (cc)
    no_constraint c (inr e) = absurd (cc)

module _ (names : Names) (kinds : Kinds) where
  abbrev Written : List Either → RawParam → Type 0
  Written us x = IsWritten names kinds us x

  -- a name with one type
  abbrev IsSingle : RawParam → Type 0
  IsSingle x = AreTermsIn names x.ty × (length x.ty ≤ 1)

  single : (xs : List RawParam) → AreParamsIn names xs → EachIs (IsTypedName names) xs → (x : RawParam) → IsDeclared xs (declares x) → IsSingle x
  single [] is t x d = absurd d
  single (y ∷ xs) is t x (inl e) = let same : x ≡ y = cc in subst IsSingle (sym same) (is.0.1, t.0.one_type)
  single (y ∷ xs) is t x (inr d) = single xs is.1 t.1 x d

  -- of one of a list
  in_one : {X : Type 0} (f : X → List Either) (xs : List X) (y : X) → Has xs y → (x : RawParam) → Written (f y) x → Written (flat_map f xs) x
  in_one f xs y h x w = wider names kinds (f y) (flat_map f xs) (λ e i. flat_back f xs e (has_one (λ z. Has (f z) e) xs y h i)) x w

  in_left : (us vs : List Either) (x : RawParam) → Written us x → Written (us ++ vs) x
  in_left us vs x w = wider names kinds us (us ++ vs) (λ e h. append_left us vs e h) x w

  in_right : (us vs : List Either) (x : RawParam) → Written vs x → Written (us ++ vs) x
  in_right us vs x w = wider names kinds vs (us ++ vs) (λ e h. append_right us vs e h) x w

  in_action : (a : RawAction) (here : Scope) (x : RawParam) → OfAction (IsNameIn names) Anywhere a → IsActionInOrder names a → InAction names a here (declares x) → Written (action_unions kinds a) x
  in_action a here x is o (InAction.parameter s) = in_left (params_unions kinds a.head.params) (formula_unions kinds a.pre ++ effect_unions kinds a.eff) x (list_written names kinds a.head.params is.0.1 o.head.params.variables.types_once x s)
  in_action a here x is o (InAction.precondition s) = in_right (params_unions kinds a.head.params) (formula_unions kinds a.pre ++ effect_unions kinds a.eff) x (in_left (formula_unions kinds a.pre) (effect_unions kinds a.eff) x (formula_written names kinds a.pre (variables names a.head.params) here x is.1 o.pre s))
  in_action a here x is o (InAction.effect s) = in_right (params_unions kinds a.head.params) (formula_unions kinds a.pre ++ effect_unions kinds a.eff) x (in_right (formula_unions kinds a.pre) (effect_unions kinds a.eff) x (effect_written names kinds a.eff (variables names a.head.params) here x is.2 o.eff s))

  in_method : (m : RawMethod) (here : Scope) (x : RawParam) → OfMethod (IsNameIn names) Anywhere m → IsMethodInOrder names m → InMethod names m here (declares x) → Written (method_unions kinds m) x
  in_method m here x is o (InMethod.parameter s) = in_left (params_unions kinds m.head.params) (formula_unions kinds m.pre) x (list_written names kinds m.head.params is.0.1 o.head.params.variables.types_once x s)
  in_method m here x is o (InMethod.of_task e s) = no_atom names kinds m.task task m.task.args x s
  in_method m here x is o (InMethod.precondition s) = in_right (params_unions kinds m.head.params) (formula_unions kinds m.pre) x (formula_written names kinds m.pre (variables names m.head.params) here x is.2 o.pre s)
  in_method m here x is o (InMethod.network e s) = no_net names kinds m.net x s

  module _ (d : RawDomain) (is : IsDomainInOrder names d) where
    abbrev predicates : List Either
    predicates = heads_unions kinds d.predicates

    abbrev tasks : List Either
    tasks = heads_unions kinds d.tasks

    abbrev actions : List Either
    actions = actions_unions kinds d.actions

    abbrev methods : List Either
    methods = methods_unions kinds d.methods

    pub in_domain : (here : Scope) (x : RawParam) → InDomain names d here (declares x) → Written (domain_unions kinds d) x ⊎ IsSingle x
    in_domain here x (InDomain.constant s) = inr (single d.constants is.words.constants is.constants x s)
    in_domain here x (InDomain.of_predicate o) =
        let h = one_has (λ (h : RawHead). IsDeclared h.params (declares x)) d.predicates o in
        inl (in_left predicates (tasks ++ (actions ++ methods)) x (in_one (head_unions kinds) d.predicates h.0 h.1 x
        (list_written names kinds h.0.params (each_has (OfHead (IsNameIn names) Anywhere) d.predicates h.0 is.words.predicates h.1).1 (each_has (IsPredicateInOrder names) d.predicates h.0 is.predicates h.1).params.types_once x h.2)))
    in_domain here x (InDomain.of_task o) =
        let h = one_has (λ (h : RawHead). IsDeclared h.params (declares x)) d.tasks o in
        inl (in_right predicates (tasks ++ (actions ++ methods)) x (in_left tasks (actions ++ methods) x (in_one (head_unions kinds) d.tasks h.0 h.1 x
        (list_written names kinds h.0.params (each_has (OfHead (IsNameIn names) Anywhere) d.tasks h.0 is.words.tasks h.1).1 (each_has (IsHeadInOrder names) d.tasks h.0 is.tasks h.1).params.variables.types_once x h.2))))
    in_domain here x (InDomain.action o) =
        let a = one_has (λ a. InAction names a here (declares x)) d.actions o in
        inl (in_right predicates (tasks ++ (actions ++ methods)) x (in_right tasks (actions ++ methods) x (in_left actions methods x (in_one (action_unions kinds) d.actions a.0 a.1 x
        (in_action a.0 here x (each_has (OfAction (IsNameIn names) Anywhere) d.actions a.0 is.words.actions a.1) (each_has (IsActionInOrder names) d.actions a.0 is.actions a.1) a.2)))))
    in_domain here x (InDomain.method o) =
        let m = one_has (λ m. InMethod names m here (declares x)) d.methods o in
        inl (in_right predicates (tasks ++ (actions ++ methods)) x (in_right tasks (actions ++ methods) x (in_right actions methods x (in_one (method_unions kinds) d.methods m.0 m.1 x
        (in_method m.0 here x (each_has (OfMethod (IsNameIn names) Anywhere) d.methods m.0 is.words.methods m.1) (each_has (IsMethodInOrder names) d.methods m.0 is.methods m.1) m.2)))))

  no_facts : {T : Type 0} (atoms : List RawAtom) (x : RawParam) → One (λ a. IsOfAtom predicate a (declares x)) atoms → T
  no_facts atoms x o = let a = one_has (λ a. IsOfAtom predicate a (declares x)) atoms o in no_atom names kinds a.0 predicate a.0.args x a.2

  module _ (p : RawProblem) (is : IsProblemInOrder names p) where
    pub in_problem : (here : Scope) (x : RawParam) → InProblem names p here (declares x) → Written (problem_unions kinds p) x ⊎ IsSingle x
    in_problem here x (InProblem.object s) = inr (single p.objects is.words.objects is.objects x s)
    in_problem here x (InProblem.parameter s) = inl (in_left (params_unions kinds p.params) (formula_unions kinds p.goal) x (list_written names kinds p.params is.words.params is.params.variables.types_once x s))
    in_problem here x (InProblem.network e s) = no_net names kinds p.net x s
    in_problem here x (InProblem.fact e s) = no_facts p.init x s
    in_problem here x (InProblem.goal s) = inl (in_right (params_unions kinds p.params) (formula_unions kinds p.goal) x (formula_written names kinds p.goal [] here x is.words.goal is.goal s))

-- what has no spot is empty
pub no_spot : (ss : List Spot) → ((code at : ℕ) → Has ss (spot at code) → ⊥) → ss ≡ []
no_spot [] f = refl
no_spot (s ∷ ss) f = absurd (f s.code s.at (inl refl))

-- two or more types are a union
said_has : (at : ℕ) (ms : List ℕ) (n m : ℕ) (ns : List ℕ) → ms ≡ n ∷ m ∷ ns → Has (union_at at ms) (record { at = at; members = ms })
said_has at ms n m ns e = subst (λ ms. Has (union_at at ms) (record { at = at; members = ms })) (sym e) (inl refl)

module _ (names : Names) (d : RawDomain) (kinds : Kinds) (of : AreTypesOf names d kinds) (others : List (List ℕ)) (found : List Either) (stands : (e : Either) → Has found e → Has kinds.unions e.members) where
  abbrev of_types : Kinds
  of_types = record { types = kinds.types; unions = others }

  pub numbered_by : (x : RawParam) → IsWritten names of_types found x ⊎ (AreTermsIn names x.ty × (length x.ty ≤ 1)) → kind_faults kinds x.ty ≡ [] → IsNumbered names kinds x.ty
  numbered_by x (inr s) e = (few x.ty s.1, λ two. let one = s.1 in absurd (omega arith))
    where
      few : (ts : List RawTerm) → length ts ≤ 1 → AreDifferent (map (term_word names) ts)
      few [] l = tt
      few (t ∷ []) l = ((λ c. let n = c.1 in omega arith), tt)
      few (t ∷ u ∷ ts) l = absurd (omega arith)
  numbered_by x (inl w) e = (w.once, λ two. go x.ty refl two)
    where
      go : (ts : List RawTerm) → x.ty ≡ ts → 2 ≤ length ts → Has kinds.unions (members_written kinds ts)
      go [] f two = absurd (omega arith)
      go (t ∷ []) f two = absurd (omega arith)
      go (t ∷ u ∷ ts) f two =
          let are = members_are names d kinds of (t ∷ u ∷ ts) (subst (AreTermsIn names) f w.types_in) (ap (kind_faults kinds) (sym f) ∙ e) (subst (λ ts. AreDifferent (map (term_word names) ts)) f w.once) in
          let said = said_has t.at (members_written kinds (t ∷ u ∷ ts)) (type_number kinds t) (type_number kinds u) (map (type_number kinds) ts) are in
          stands (record { at = t.at; members = members_written kinds (t ∷ u ∷ ts) }) (w.unions (record { at = t.at; members = members_written kinds (t ∷ u ∷ ts) }) (subst (λ us. Has (unions_said kinds us) (record { at = t.at; members = members_written kinds (t ∷ u ∷ ts) })) (sym f) said))

  terms_in : (x : RawParam) → IsWritten names of_types found x ⊎ (AreTermsIn names x.ty × (length x.ty ≤ 1)) → AreTermsIn names x.ty
  terms_in x (inl w) = w.types_in
  terms_in x (inr s) = s.0

  -- in a domain without faults
  pub numbered_in_domain : (l : Language) → HasNoFault (HasDomainFault l names d) → ((here : Scope) (x : RawParam) → InDomain names d here (declares x) → IsWritten names of_types found x ⊎ (AreTermsIn names x.ty × (length x.ty ≤ 1))) → AreNumberedIn names kinds (InDomain names d)
  numbered_in_domain l none written here x s =
      let w = written here x s in
      numbered_by x w (no_spot (kind_faults kinds x.ty) (λ code at h. none at 11 (HasDomainFault.unknown_type (here, x, s, ((has_kind_faults names d kinds x.ty code at of (terms_in x w)).0 h).1))))

  -- and in a problem without faults
  pub numbered_in_problem : (p : RawProblem) → HasNoFault (HasProblemFault names d p) → ((here : Scope) (x : RawParam) → InProblem names p here (declares x) → IsWritten names of_types found x ⊎ (AreTermsIn names x.ty × (length x.ty ≤ 1))) → AreNumberedIn names kinds (InProblem names p)
  numbered_in_problem p none written here x s =
      let w = written here x s in
      numbered_by x w (no_spot (kind_faults kinds x.ty) (λ code at h. none at 11 (HasProblemFault.unknown_type (here, x, s, ((has_kind_faults names d kinds x.ty code at of (terms_in x w)).0 h).1))))
