-- The faults of the parts of a problem by numbers and in words.
use Rattle.std.proofs.Common.{ℕ, ◌≡◌, inl, inr, List, [], ◌∷◌, ◌++◌, Option}
use Rattle.std.specs.Prelude.{◌⊎◌, ◌↔◌}
use Rattle.text_forms.specs.Words.{Word}
use Rattle.gd_reader.specs.Terms.{Names}
use Rattle.gd_reader.specs.declared.term.RawAtom.{RawAtom}
use Rattle.hddl_reader.specs.declared.sections.RawDomain.{RawDomain}
use Rattle.hddl_reader.specs.declared.sections.RawProblem.{RawProblem}
use Rattle.text_values.specs.form_spellings.EachName.{OfAtom}
use Rattle.text_values.specs.form_spellings.InTable.{IsNameIn}
use Rattle.htn_base.specs.Lists.{One, Has}
use Rattle.hddl_reader.specs.names.Standing.{IsOfNetwork, InProblem}
use Rattle.hddl_reader.specs.names.Uses.{Scope, Use, predicate, IsDeclared, IsOfAtom, variables, InFormula}
use Rattle.name_binding.specs.declared.faults.Spot.{Spot}
use Rattle.name_binding.specs.Typed.{params_faults}
use Rattle.name_binding.specs.declared.known.Known.{Known}
use Rattle.name_binding.specs.Atoms.{atom_faults}
use Rattle.name_binding.specs.Formulas.{formula_faults}
use Rattle.hddl_bind.specs.Callables.{Declared}
use Rattle.hddl_bind.specs.Cycle.{IsCycle}
use Rattle.hddl_bind.specs.Networks.{network_faults}
use Rattle.hddl_bind.specs.Facts.{facts_faults}
use Rattle.hddl_bind.specs.ProblemParts.{top_scope, top_faults, parts_faults}
use Rattle.text_values.specs.form_spellings.binding_laws.Calls.{AreCallablesOf}
use Rattle.text_values.specs.form_spellings.binding_laws.InOrder.{IsProblemInOrder}
use Rattle.text_values.specs.form_spellings.binding_laws.Known.{IsKnownOf}
use Rattle.text_values.specs.form_spellings.binding_laws.Schemas.{IsOrderFault, HasPartFaults, OfAllLookups}
use Rattle.text_values.proofs.form_spellings.binding_laws.Atoms.{AtomAt, atom_there, atom_back}
use Rattle.text_values.proofs.form_spellings.binding_laws.FormulaFaults.{has_formula_faults, params_there, params_back}
use Rattle.text_values.proofs.form_spellings.binding_laws.FromOrder.{network_in}
use Rattle.text_values.proofs.form_spellings.binding_laws.Layers.{declared_words, declared_in}
use Rattle.text_values.proofs.form_spellings.binding_laws.Lists.{append_there, append_left, append_right}
use Rattle.text_values.proofs.form_spellings.binding_laws.Ones.{each_wider}
use Rattle.text_values.proofs.form_spellings.binding_laws.SchemaFaults.{Q, here_is, wider, all_there, all_back, net_there, net_back}
use Rattle.text_values.proofs.form_spellings.binding_laws.Somewhere.{Somewhere}

module _ (names : Names) (d : RawDomain) (objects : List Word) (known : Known) (of : IsKnownOf names d objects known) (callables : Declared) (ofc : AreCallablesOf names d callables) (p : RawProblem) (is : IsProblemInOrder names p) (cycle : Option ℕ) (right : IsCycle p.net cycle) (code at : ℕ) where
  abbrev Uses : Scope → Use → Type 0
  Uses = Q names d objects known of code at

  abbrev place : Spot
  place = here_is names d objects known of code at

  abbrev own : List Spot
  own = params_faults known.types p.objects

  abbrev facts : List Spot
  facts = facts_faults known p.init

  abbrev goal : List Spot
  goal = formula_faults known [] p.goal

  abbrev params : List Spot
  params = params_faults known.types p.params

  abbrev net : List Spot
  net = network_faults callables known.objects (top_scope p) p.net cycle

  to_problem : (P : Scope → Use → Type 0) → ((here : Scope) (u : Use) → P here u → InProblem names p here u) → Somewhere Uses P → Somewhere Uses (InProblem names p)
  to_problem P f s = wider names d objects known of code at P (InProblem names p) f s

  abbrev OfFact : RawAtom → Scope → Use → Type 0
  OfFact a = AtomAt names d objects known of [] a

  facts_there : Has facts place → Somewhere Uses (λ here u. One (λ a. OfFact a here u) p.init)
  facts_there h = all_there names d objects known of code at (atom_faults known []) OfFact p.init (each_wider (OfAtom (IsNameIn names)) (λ a. Has (atom_faults known [] a) place → Somewhere Uses (OfFact a)) p.init (λ a i. atom_there names d objects known of [] a code at tt i) is.words.init) h

  facts_back : Somewhere Uses (λ here u. One (λ a. OfFact a here u) p.init) → Has facts place
  facts_back s = all_back names d objects known of code at (atom_faults known []) OfFact p.init (each_wider (OfAtom (IsNameIn names)) (λ a. Somewhere Uses (OfFact a) → Has (atom_faults known [] a) place) p.init (λ a i. atom_back names d objects known of [] a code at tt i) is.words.init) s

  -- no variable is in force in any of them
  no_variable : (here : Scope) (u : Use) (atoms : List RawAtom) → One (λ a. OfFact a here u) atoms → (here ≡ []) × One (λ a. IsOfAtom predicate a u) atoms
  no_variable here u [] o = absurd o
  no_variable here u (a ∷ atoms) (inl o) = (o.0, inl o.1)
  no_variable here u (a ∷ atoms) (inr o) = let f = no_variable here u atoms o in (f.0, inr f.1)

  each_empty : (here : Scope) (u : Use) (atoms : List RawAtom) → here ≡ [] → One (λ a. IsOfAtom predicate a u) atoms → One (λ a. OfFact a here u) atoms
  each_empty here u [] e o = absurd o
  each_empty here u (a ∷ atoms) e (inl o) = inl (e, o)
  each_empty here u (a ∷ atoms) e (inr o) = inr (each_empty here u atoms e o)

  goal_has : Has goal place ↔ Somewhere Uses (InFormula names p.goal [])
  goal_has = has_formula_faults names d objects known [] p.goal code at of tt is.words.goal

  abbrev outer : List Word
  outer = variables names p.params

  abbrev InNet : Scope → Use → Type 0
  InNet here u = (here ≡ outer) × IsOfNetwork p.net u

  said_there : Has net place → Somewhere Uses InNet ⊎ IsOrderFault names p.net code at
  said_there h =
      net_there names d objects known of code at callables ofc (top_scope p) (declared_in names p.params is.words.params) outer (declared_words names p.params) p.net
      (network_in names ofc.differ p.net is.words.net is.net.ids_in_order) cycle right h

  said_back : Somewhere Uses InNet ⊎ IsOrderFault names p.net code at → Has net place
  said_back s =
      net_back names d objects known of code at callables ofc (top_scope p) (declared_in names p.params is.words.params) outer (declared_words names p.params) p.net
      (network_in names ofc.differ p.net is.words.net is.net.ids_in_order) cycle right s

  abbrev Fault : Type 0
  Fault = Somewhere Uses (InProblem names p) ⊎ IsOrderFault names p.net code at

  top_there : Has (top_faults known callables p cycle) place → Fault
  top_there h = elim (append_there params net place h) [
    | inl i ↦ inl (to_problem (λ here u. IsDeclared p.params u) (λ here u s. InProblem.parameter s) (params_there names d objects known of code at p.params is.words.params i))
    | inr i ↦ elim (said_there i) [
      | inl s ↦ inl (to_problem InNet (λ here u s. InProblem.network s.0 s.1) s)
      | inr f ↦ inr f
    ]
  ]

  abbrev top : List Spot
  top = top_faults known callables p cycle

  there : Has (parts_faults known callables p cycle) place → Fault
  there h = elim (append_there own (facts ++ (goal ++ top)) place h) [
    | inl i ↦ inl (to_problem (λ here u. IsDeclared p.objects u) (λ here u s. InProblem.object s) (params_there names d objects known of code at p.objects is.words.objects i))
    | inr i ↦ elim (append_there facts (goal ++ top) place i) [
      | inl j ↦ inl (to_problem (λ here u. One (λ a. OfFact a here u) p.init) (λ here u s. let f = no_variable here u p.init s in InProblem.fact f.0 f.1) (facts_there j))
      | inr j ↦ elim (append_there goal top place j) [
        | inl k ↦ inl (to_problem (InFormula names p.goal []) (λ here u s. InProblem.goal s) (goal_has.0 k))
        | inr k ↦ top_there k
      ]
    ]
  ]

  behind : Has (facts ++ (goal ++ top)) place → Has (parts_faults known callables p cycle) place
  behind h = append_right own (facts ++ (goal ++ top)) place h

  of_top : Has top place → Has (parts_faults known callables p cycle) place
  of_top h = behind (append_right facts (goal ++ top) place (append_right goal top place h))

  back : Fault → Has (parts_faults known callables p cycle) place
  back (inr f) = of_top (append_right params net place (said_back (inr f)))
  back (inl (here, u, InProblem.object s, q)) = append_left own (facts ++ (goal ++ top)) place (params_back names d objects known of code at p.objects is.words.objects (here, u, s, q))
  back (inl (here, u, InProblem.parameter s, q)) = of_top (append_left params net place (params_back names d objects known of code at p.params is.words.params (here, u, s, q)))
  back (inl (here, u, InProblem.network e s, q)) = of_top (append_right params net place (said_back (inl (here, u, (e, s), q))))
  back (inl (here, u, InProblem.fact e s, q)) = behind (append_left facts (goal ++ top) place (facts_back (here, u, each_empty here u p.init e s, q)))
  back (inl (here, u, InProblem.goal s, q)) = behind (append_right facts (goal ++ top) place (append_left goal top place (goal_has.1 (here, u, s, q))))

  pub problem_has : Has (parts_faults known callables p cycle) place ↔ Fault
  problem_has = (there, back)

pub has_part_faults : OfAllLookups HasPartFaults
has_part_faults names d objects known callables p cycle code at of ofc is right = problem_has names d objects known of callables ofc p is cycle right code at
