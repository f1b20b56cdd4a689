-- The faults of a whole network by numbers and in words.
use Rattle.std.proofs.Common.{ℕ, ◌≡◌, inl, inr, List, [], ◌∷◌, ◌++◌, map, Option, Some, None, refl, sym, ap, subst, ◌∙◌}
use Rattle.std.specs.Prelude.{flat_map}
use Rattle.text_forms.specs.Words.{Word}
use Rattle.gd_reader.specs.Terms.{Names}
use Rattle.gd_reader.specs.declared.term.RawTerm.{RawTerm}
use Rattle.hddl_reader.specs.declared.networks.RawCon.{RawCon}
use Rattle.hddl_reader.specs.declared.networks.RawNet.{RawNet}
use Rattle.hddl_reader.specs.declared.networks.RawSub.{RawSub}
use Rattle.hddl_reader.specs.declared.sections.RawDomain.{RawDomain}
use Rattle.plan_texts.specs.Types.{EachIs}
use Rattle.text_values.specs.form_spellings.EachName.{OfAtom}
use Rattle.text_values.specs.form_spellings.InTable.{IsIn, IsNameIn}
use Rattle.htn_base.specs.Lists.{One, Has}
use Rattle.hddl_reader.specs.names.Networks as words
use Rattle.hddl_reader.specs.names.Standing.{IsOfNetwork}
use Rattle.hddl_reader.specs.names.Uses.{Scope, Use, applies, refers, subtask, IsOfAtom, IsOneOf}
use Rattle.hddl_reader.specs.names.Words.{IsSecond}
use Rattle.hddl_reader.proofs.names.Firsts.{one_cycle_is_a_fault}
use Rattle.name_binding.specs.declared.faults.Spot.{Spot}
use Rattle.name_binding.specs.Spots.{spot}
use Rattle.name_binding.specs.Terms.{term_faults, terms_faults}
use Rattle.hddl_bind.specs.Callables.{Declared}
use Rattle.hddl_bind.specs.Calls.{called, call_faults}
use Rattle.hddl_bind.specs.Cycle.{IsCycle, cycle_faults, limit_faults, order_faults}
use Rattle.hddl_bind.specs.Ids.{term_number, term_at, id_at, ids, second_ids}
use Rattle.hddl_bind.specs.Networks.{constraint_faults, child_faults, network_faults}
use Rattle.hddl_bind.specs.Pairs.{pair_faults}
use Rattle.text_values.specs.form_spellings.binding_laws.Calls.{AreCallablesOf, OfAllCallables}
use Rattle.text_values.specs.form_spellings.binding_laws.Kinds.{AreTermsIn}
use Rattle.text_values.specs.form_spellings.binding_laws.Numbers.{words_of}
use Rattle.text_values.specs.form_spellings.binding_laws.Seconds.{declares_at}
use Rattle.text_values.specs.form_spellings.binding_laws.Terms.{AreOfTable}
use Rattle.text_values.specs.form_spellings.binding_laws.Uses.{HasUseFault}
use Rattle.text_values.specs.form_spellings.binding_laws.WholeNetworks.{IsNetworkIn, IsNetworkFault, HasNetworkFaults}
use Rattle.text_values.proofs.form_spellings.binding_laws.CallWords.{has_call_faults}
use Rattle.text_values.proofs.form_spellings.binding_laws.Lists.{append_there, append_left, append_right, flat_there, flat_back}
use Rattle.text_values.proofs.form_spellings.binding_laws.OrderWords.{has_unknown_ids, has_cycle, has_limit}
use Rattle.text_values.proofs.form_spellings.binding_laws.SecondWords.{has_seconds}
use Rattle.text_values.proofs.form_spellings.binding_laws.Somewhere.{Somewhere, at_use}
use Rattle.text_values.proofs.form_spellings.binding_laws.Terms.{has_term_faults}

same_ids : (names : Names) (ss : List RawSub) → map (declares_at term_number term_at names) (ids ss) ≡ words.ids names ss
same_ids names [] = refl
same_ids names (s ∷ ss) = go s.id (same_ids names ss)
  where
    go : (o : Option RawTerm) → map (declares_at term_number term_at names) (ids ss) ≡ words.ids names ss → map (declares_at term_number term_at names) (id_at o ++ ids ss) ≡ words.id_at names o ++ words.ids names ss
    go None e = e
    go (Some t) e = ap (λ ws. declares_at term_number term_at names t ∷ ws) e

module _ (names : Names) (d : RawDomain) (known : Declared) (objects scope : List ℕ) (of : AreCallablesOf names d known) (table : AreOfTable names objects scope) (code at : ℕ) where
  abbrev Q : Scope → Use → Type 0
  Q here u = HasUseFault names d (words_of names objects) here u code at

  abbrev outer : List Word
  outer = words_of names scope

  abbrev With : (Use → Type 0) → Scope → Use → Type 0
  With P here u = (here ≡ outer) × P u

  wider : (P R : Use → Type 0) → ((u : Use) → P u → R u) → Somewhere Q (With P) → Somewhere Q (With R)
  wider P R f (here, u, (e, p), q) = (here, u, (e, f u p), q)

  term_there : (t : RawTerm) → IsIn names t.name → Has (term_faults objects scope t) (spot at code) → Q outer (refers t)
  term_there t is h = (has_term_faults names objects scope t code at table is).0 h

  term_back : (t : RawTerm) → IsIn names t.name → Q outer (refers t) → Has (term_faults objects scope t) (spot at code)
  term_back t is q = (has_term_faults names objects scope t code at table is).1 q

  args_there : (ts : List RawTerm) → AreTermsIn names ts → One (λ t. Has (term_faults objects scope t) (spot at code)) ts → Somewhere Q (With (λ u. One (λ t. u ≡ refers t) ts))
  args_there [] is h = absurd h
  args_there (t ∷ ts) is (inl h) = (outer, refers t, (refl, inl refl), term_there t is.0 h)
  args_there (t ∷ ts) is (inr h) = wider (λ u. One (λ t. u ≡ refers t) ts) (λ u. One (λ t. u ≡ refers t) (t ∷ ts)) (λ u o. inr o) (args_there ts is.1 h)

  args_back : (ts : List RawTerm) → AreTermsIn names ts → Somewhere Q (With (λ u. One (λ t. u ≡ refers t) ts)) → One (λ t. Has (term_faults objects scope t) (spot at code)) ts
  args_back [] is (here, u, (e, p), q) = absurd p
  args_back (t ∷ ts) is (here, u, (e, inl p), q) = inl (term_back t is.0 (at_use Q outer here u (refers t) e p q))
  args_back (t ∷ ts) is (here, u, (e, inr p), q) = inr (args_back ts is.1 (here, u, (e, p), q))

  child_there : (s : RawSub) → OfAtom (IsNameIn names) s.atom → Has (child_faults known objects scope s) (spot at code) → Somewhere Q (With (IsOfAtom subtask s.atom))
  child_there s is h = elim (append_there (call_faults (called known s.atom) s.atom) (terms_faults objects scope s.atom.args) (spot at code) h) [
    | inl i ↦ (outer, applies subtask s.atom, (refl, inl refl), (has_call_faults names d known (words_of names objects) outer s.atom code at of is.0).0 i)
    | inr i ↦ wider (λ u. One (λ t. u ≡ refers t) s.atom.args) (IsOfAtom subtask s.atom) (λ u o. inr o) (args_there s.atom.args is.1 (flat_there (term_faults objects scope) s.atom.args (spot at code) i))
  ]

  child_back : (s : RawSub) → OfAtom (IsNameIn names) s.atom → Somewhere Q (With (IsOfAtom subtask s.atom)) → Has (child_faults known objects scope s) (spot at code)
  child_back s is (here, u, (e, inl p), q) =
      append_left (call_faults (called known s.atom) s.atom) (terms_faults objects scope s.atom.args) (spot at code)
      ((has_call_faults names d known (words_of names objects) outer s.atom code at of is.0).1 (at_use Q outer here u (applies subtask s.atom) e p q))
  child_back s is (here, u, (e, inr p), q) =
      append_right (call_faults (called known s.atom) s.atom) (terms_faults objects scope s.atom.args) (spot at code)
      (flat_back (term_faults objects scope) s.atom.args (spot at code) (args_back s.atom.args is.1 (here, u, (e, p), q)))

  children_there : (ss : List RawSub) → EachIs (λ (s : RawSub). OfAtom (IsNameIn names) s.atom) ss → One (λ s. Has (child_faults known objects scope s) (spot at code)) ss → Somewhere Q (With (λ u. One (λ (s : RawSub). IsOfAtom subtask s.atom u) ss))
  children_there [] is h = absurd h
  children_there (s ∷ ss) is (inl h) = wider (IsOfAtom subtask s.atom) (λ u. One (λ (s : RawSub). IsOfAtom subtask s.atom u) (s ∷ ss)) (λ u o. inl o) (child_there s is.0 h)
  children_there (s ∷ ss) is (inr h) = wider (λ u. One (λ (s : RawSub). IsOfAtom subtask s.atom u) ss) (λ u. One (λ (s : RawSub). IsOfAtom subtask s.atom u) (s ∷ ss)) (λ u o. inr o) (children_there ss is.1 h)

  children_back : (ss : List RawSub) → EachIs (λ (s : RawSub). OfAtom (IsNameIn names) s.atom) ss → Somewhere Q (With (λ u. One (λ (s : RawSub). IsOfAtom subtask s.atom u) ss)) → One (λ s. Has (child_faults known objects scope s) (spot at code)) ss
  children_back [] is (here, u, (e, p), q) = absurd p
  children_back (s ∷ ss) is (here, u, (e, inl p), q) = inl (child_back s is.0 (here, u, (e, p), q))
  children_back (s ∷ ss) is (here, u, (e, inr p), q) = inr (children_back ss is.1 (here, u, (e, p), q))

  limits_there : (cs : List RawCon) → EachIs (λ (c : RawCon). IsIn names c.left.name × IsIn names c.right.name) cs → One (λ c. Has (constraint_faults objects scope c) (spot at code)) cs → Somewhere Q (With (λ u. One (λ (c : RawCon). IsOneOf c.left c.right u) cs))
  limits_there [] is h = absurd h
  limits_there (c ∷ cs) is (inl h) = elim (append_there (term_faults objects scope c.left) (term_faults objects scope c.right) (spot at code) h) [
    | inl i ↦ (outer, refers c.left, (refl, inl (inl refl)), term_there c.left is.0.0 i)
    | inr i ↦ (outer, refers c.right, (refl, inl (inr refl)), term_there c.right is.0.1 i)
  ]
  limits_there (c ∷ cs) is (inr h) = wider (λ u. One (λ (c : RawCon). IsOneOf c.left c.right u) cs) (λ u. One (λ (c : RawCon). IsOneOf c.left c.right u) (c ∷ cs)) (λ u o. inr o) (limits_there cs is.1 h)

  limits_back : (cs : List RawCon) → EachIs (λ (c : RawCon). IsIn names c.left.name × IsIn names c.right.name) cs → Somewhere Q (With (λ u. One (λ (c : RawCon). IsOneOf c.left c.right u) cs)) → One (λ c. Has (constraint_faults objects scope c) (spot at code)) cs
  limits_back [] is (here, u, (e, p), q) = absurd p
  limits_back (c ∷ cs) is (here, u, (e, inl (inl p)), q) = inl (append_left (term_faults objects scope c.left) (term_faults objects scope c.right) (spot at code) (term_back c.left is.0.0 (at_use Q outer here u (refers c.left) e p q)))
  limits_back (c ∷ cs) is (here, u, (e, inl (inr p)), q) = inl (append_right (term_faults objects scope c.left) (term_faults objects scope c.right) (spot at code) (term_back c.right is.0.1 (at_use Q outer here u (refers c.right) e p q)))
  limits_back (c ∷ cs) is (here, u, (e, inr p), q) = inr (limits_back cs is.1 (here, u, (e, p), q))

  module _ (n : RawNet) (cycle : Option ℕ) (is : IsNetworkIn names n) (right : IsCycle n cycle) where
    cycle_there : (o : Option ℕ) → IsCycle n o → Has (cycle_faults o) (spot at code) → (code ≡ 20) × words.CyclicOrder names n at
    cycle_there None c h = absurd h
    cycle_there (Some k) c (inr h) = absurd h
    cycle_there (Some k) c (inl h) =
        (sym (ap (λ (s : Spot). s.code) h), subst (words.CyclicOrder names n) (ap (λ (s : Spot). s.at) h) ((has_cycle names n k is.ordering).0 c))

    cycle_back : (o : Option ℕ) → IsCycle n o → code ≡ 20 → words.CyclicOrder names n at → Has (cycle_faults o) (spot at code)
    cycle_back None c e w = absurd (c at ((has_cycle names n at is.ordering).1 w))
    cycle_back (Some k) c e w = inl (ap (λ y. spot y 20) (one_cycle_is_a_fault names n k at ((has_cycle names n k is.ordering).0 c) w) ∙ ap (spot at) (sym e))

    abbrev unknown : List Spot
    unknown = flat_map (pair_faults n.subs) n.pairs

    abbrev children : List Spot
    children = flat_map (child_faults known objects scope) n.subs

    abbrev limits : List Spot
    limits = flat_map (constraint_faults objects scope) n.constraints

    abbrev Fault : Type 0
    Fault = IsNetworkFault names d known objects scope n code at

    second_there : Has (second_ids n.subs) (spot at code) → (code ≡ 10) × IsSecond [] (words.ids names n.subs) at
    second_there h = subst (λ ws. (code ≡ 10) × IsSecond [] ws at) (same_ids names n.subs) ((has_seconds term_number term_at names [] (ids n.subs) code at is.declared).0 h)

    second_back : (code ≡ 10) × IsSecond [] (words.ids names n.subs) at → Has (second_ids n.subs) (spot at code)
    second_back h = (has_seconds term_number term_at names [] (ids n.subs) code at is.declared).1 (subst (λ ws. (code ≡ 10) × IsSecond [] ws at) (sym (same_ids names n.subs)) h)

    order_there : Has (order_faults n cycle) (spot at code) → Fault
    order_there h = elim (append_there (second_ids n.subs) (unknown ++ (cycle_faults cycle ++ limit_faults n.subs)) (spot at code) h) [
      | inl i ↦ inl (second_there i)
      | inr i ↦ elim (append_there unknown (cycle_faults cycle ++ limit_faults n.subs) (spot at code) i) [
        | inl j ↦ inr (inl ((has_unknown_ids names n code at is.ordering).0 j))
        | inr j ↦ elim (append_there (cycle_faults cycle) (limit_faults n.subs) (spot at code) j) [
          | inl k ↦ inr (inr (inl (cycle_there cycle right k)))
          | inr k ↦ inr (inr (inr (inl ((has_limit n code at).0 k))))
        ]
      ]
    ]

    parts_there : Has (children ++ limits) (spot at code) → Fault
    parts_there h = elim (append_there children limits (spot at code) h) [
      | inl i ↦ inr (inr (inr (inr (wider (λ u. One (λ (s : RawSub). IsOfAtom subtask s.atom u) n.subs) (IsOfNetwork n) (λ u o. inl o) (children_there n.subs is.calls (flat_there (child_faults known objects scope) n.subs (spot at code) i))))))
      | inr i ↦ inr (inr (inr (inr (wider (λ u. One (λ (c : RawCon). IsOneOf c.left c.right u) n.constraints) (IsOfNetwork n) (λ u o. inr o) (limits_there n.constraints is.constraints (flat_there (constraint_faults objects scope) n.constraints (spot at code) i))))))
    ]

    pub whole_there : Has (network_faults known objects scope n cycle) (spot at code) → Fault
    whole_there h = elim (append_there (order_faults n cycle) (children ++ limits) (spot at code) h) [ inl i ↦ order_there i | inr i ↦ parts_there i ]

    in_order : Has (order_faults n cycle) (spot at code) → Has (network_faults known objects scope n cycle) (spot at code)
    in_order h = append_left (order_faults n cycle) (children ++ limits) (spot at code) h

    in_parts : Has (children ++ limits) (spot at code) → Has (network_faults known objects scope n cycle) (spot at code)
    in_parts h = append_right (order_faults n cycle) (children ++ limits) (spot at code) h

    behind_ids : Has (unknown ++ (cycle_faults cycle ++ limit_faults n.subs)) (spot at code) → Has (order_faults n cycle) (spot at code)
    behind_ids h = append_right (second_ids n.subs) (unknown ++ (cycle_faults cycle ++ limit_faults n.subs)) (spot at code) h

    behind_pairs : Has (cycle_faults cycle ++ limit_faults n.subs) (spot at code) → Has (order_faults n cycle) (spot at code)
    behind_pairs h = behind_ids (append_right unknown (cycle_faults cycle ++ limit_faults n.subs) (spot at code) h)

    pub whole_back : Fault → Has (network_faults known objects scope n cycle) (spot at code)
    whole_back (inl f) = in_order (append_left (second_ids n.subs) (unknown ++ (cycle_faults cycle ++ limit_faults n.subs)) (spot at code) (second_back f))
    whole_back (inr (inl f)) = in_order (behind_ids (append_left unknown (cycle_faults cycle ++ limit_faults n.subs) (spot at code) ((has_unknown_ids names n code at is.ordering).1 f)))
    whole_back (inr (inr (inl f))) = in_order (behind_pairs (append_left (cycle_faults cycle) (limit_faults n.subs) (spot at code) (cycle_back cycle right f.0 f.1)))
    whole_back (inr (inr (inr (inl f)))) = in_order (behind_pairs (append_right (cycle_faults cycle) (limit_faults n.subs) (spot at code) ((has_limit n code at).1 f)))
    whole_back (inr (inr (inr (inr (here, u, (e, inl p), q))))) = in_parts (append_left children limits (spot at code) (flat_back (child_faults known objects scope) n.subs (spot at code) (children_back n.subs is.calls (here, u, (e, p), q))))
    whole_back (inr (inr (inr (inr (here, u, (e, inr p), q))))) = in_parts (append_right children limits (spot at code) (flat_back (constraint_faults objects scope) n.constraints (spot at code) (limits_back n.constraints is.constraints (here, u, (e, p), q))))

pub has_network_faults : OfAllCallables (λ names d known. (objects scope : List ℕ) → HasNetworkFaults names d known objects scope)
has_network_faults names d known objects scope n cycle code at of table is right =
    (whole_there names d known objects scope of table code at n cycle is right, whole_back names d known objects scope of table code at n cycle is right)
