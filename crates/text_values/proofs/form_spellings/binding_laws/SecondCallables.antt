-- Tasks and actions that are declared for the second time, by numbers and in words.
use Rattle.std.proofs.Common.{ℕ, suc, ◌≡◌, Bool, true, false, cond, nat_lt, inl, inr, List, [], ◌∷◌, ◌++◌, map, Option, Some, None, refl, sym, ap, subst, ◌∙◌, arith}
use Rattle.std.specs.Prelude.{◌⊎◌, ◌↔◌, flat_map}
use Rattle.std.proofs.lemmas.Bool.{lt-ltb, ltb-true}
use Rattle.gd_reader.specs.Terms.{Names}
use Rattle.hddl_reader.specs.declared.sections.RawDomain.{RawDomain}
use Rattle.hddl_reader.specs.declared.sections.RawHead.{RawHead}
use Rattle.plan_model.specs.declared.networks.Head.{Head}
use Rattle.plan_model.specs.declared.networks.Head.TheVariants.{Task, Action}
use Rattle.text_values.specs.form_spellings.InTable.{IsIn}
use Rattle.htn_base.specs.Lists.{One, Each, Has}
use Rattle.hddl_reader.specs.names.Words.{WordAt, head_at, IsSameEarlier, IsSecond}
use Rattle.name_binding.specs.declared.faults.Spot.{Spot}
use Rattle.name_binding.specs.Spots.{spot}
use Rattle.hddl_bind.specs.declared.callables.Callable.{Callable}
use Rattle.hddl_bind.specs.Callables.{Declared, declared, heads, callable, callables_from, first_called, stands_for, is_behind, second_in, second_callables}
use Rattle.text_values.specs.form_spellings.binding_laws.Calls.{AreCallablesOf, HasSecondCallables, OfAllCallables}
use Rattle.text_values.proofs.form_spellings.binding_laws.CallWords.{Answer, answer, NoEarlier, each_at, has_left, has_right, ins, inh, upt, uph}
use Rattle.text_values.proofs.form_spellings.binding_laws.Lists.{append_there, append_left, append_right, flat_there, flat_back}
use Rattle.text_values.proofs.form_spellings.binding_laws.Ones.{one_has, has_one, one_either, one_left, one_right, one_mapped, mapped_one, each_has}

module _ (names : Names) (d : RawDomain) (known : Declared) (of : AreCallablesOf names d known) where
  abbrev all : List RawHead
  all = d.tasks ++ heads d.actions

  abbrev known_here : Declared
  known_here = declared d.tasks d.actions

  -- a declaration of the same word stands earlier in the text
  abbrev Earlier : RawHead → Type 0
  Earlier h = One (λ (g : RawHead). IsSameEarlier (head_at names h) (head_at names g)) all

  abbrev found : RawHead → Option Callable
  found h = stands_for known_here h.name.name.number

  module _ (h : RawHead) (member : Has all h) where
    is_in : IsIn names h.name.name
    is_in = each_has (λ (h : RawHead). IsIn names h.name.name) all h of.words_in member

    abbrev Answered : Option Callable → Type 0
    Answered o = Answer names of.differ h.name.name.number is_in d.tasks (heads d.actions) (ins names d known of) (inh names d known of) (upt names d known of) (uph names d known of) of.apart o

    answered : Answered (found h)
    answered =
        answer names of.differ h.name.name.number is_in d.tasks (heads d.actions) (ins names d known of) (inh names d known of) (upt names d known of) (uph names d known of) of.apart
        (first_called h.name.name.number (callables_from Task 0 d.tasks)) (first_called h.name.name.number (callables_from Action 0 (heads d.actions))) refl refl

    behind_there : (o : Option Callable) → Answered o → is_behind o h.name.at ≡ true → Earlier h
    behind_there None w e = absurd (cc)
    behind_there (Some z) (inl s) e = has_one (λ (g : RawHead). IsSameEarlier (head_at names h) (head_at names g)) all s.0 (has_left d.tasks (heads d.actions) s.0 s.1) (s.2.0, let l = ltb-true z.at h.name.at e in let p = s.5 in omega arith)
    behind_there (Some z) (inr s) e = has_one (λ (g : RawHead). IsSameEarlier (head_at names h) (head_at names g)) all s.0 (has_right d.tasks (heads d.actions) s.0 s.1) (s.2.0, let l = ltb-true z.at h.name.at e in let p = s.5 in omega arith)

    before : (z : Callable) (g : RawHead) → g.name.at ≡ z.at → Each (NoEarlier names of.differ h.name.name.number is_in g) all → Earlier h → nat_lt z.at h.name.at ≡ true
    before z g p first e =
        let f = one_has (λ (g : RawHead). IsSameEarlier (head_at names h) (head_at names g)) all e in
        let l = each_at (NoEarlier names of.differ h.name.name.number is_in g) all f.0 first f.1 f.2.0 in
        let m = f.2.1 in
        lt-ltb z.at h.name.at (omega arith)

    behind_back : (o : Option Callable) → Answered o → Earlier h → is_behind o h.name.at ≡ true
    behind_back None w e = absurd (w (has_one _ all h member refl))
    behind_back (Some z) (inl s) e = before z s.0 s.5 s.2.1 e
    behind_back (Some z) (inr s) e = before z s.0 s.5 s.2.1 e

    module _ (code at : ℕ) where
      abbrev Fault : Type 0
      Fault = (code ≡ 10) × ((h.name.at ≡ at) × Earlier h)

      if_there : (b : Bool) → is_behind (found h) h.name.at ≡ b → Has (cond b (spot h.name.at 10 ∷ []) []) (spot at code) → Fault
      if_there false e k = absurd k
      if_there true e (inr k) = absurd k
      if_there true e (inl k) = (sym (ap (λ (s : Spot). s.code) k), (ap (λ (s : Spot). s.at) k, behind_there (found h) answered e))

      if_back : (b : Bool) → is_behind (found h) h.name.at ≡ b → Fault → Has (cond b (spot h.name.at 10 ∷ []) []) (spot at code)
      if_back false e f = let g = behind_back (found h) answered f.1.1 in absurd (cc)
      if_back true e f = inl (ap (λ y. spot y 10) f.1.0 ∙ ap (spot at) (sym f.0))

      pub second_there : (head : Head) → Has (second_in known_here (callable head h)) (spot at code) → Fault
      second_there head k = if_there (is_behind (found h) h.name.at) refl k

      pub second_back : (head : Head) → Fault → Has (second_in known_here (callable head h)) (spot at code)
      second_back head f = if_back (is_behind (found h) h.name.at) refl f

  module _ (code at : ℕ) where
    abbrev IsOne : RawHead → Type 0
    IsOne h = (h.name.at ≡ at) × Earlier h

    list_there : (head : ℕ → Head) (k : ℕ) (hs : List RawHead) → ((h : RawHead) → Has hs h → Has all h) → One (λ x. Has (second_in known_here x) (spot at code)) (callables_from head k hs) → (code ≡ 10) × One IsOne hs
    list_there head k [] w o = absurd o
    list_there head k (h ∷ hs) w (inl o) = let f = second_there h (w h (inl refl)) code at (head k) o in (f.0, inl f.1)
    list_there head k (h ∷ hs) w (inr o) = let f = list_there head (suc k) hs (λ g m. w g (inr m)) o in (f.0, inr f.1)

    list_back : (head : ℕ → Head) (k : ℕ) (hs : List RawHead) → ((h : RawHead) → Has hs h → Has all h) → code ≡ 10 → One IsOne hs → One (λ x. Has (second_in known_here x) (spot at code)) (callables_from head k hs)
    list_back head k [] w c o = absurd o
    list_back head k (h ∷ hs) w c (inl o) = inl (second_back h (w h (inl refl)) code at (head k) (c, o))
    list_back head k (h ∷ hs) w c (inr o) = inr (list_back head (suc k) hs (λ g m. w g (inr m)) c o)

    abbrev of_tasks : List Spot
    of_tasks = flat_map (second_in known_here) known_here.tasks

    abbrev of_actions : List Spot
    of_actions = flat_map (second_in known_here) known_here.actions

    both_there : Has (second_callables known_here) (spot at code) → (code ≡ 10) × One IsOne all
    both_there k = elim (append_there of_tasks of_actions (spot at code) k) [
      | inl i ↦ let f = list_there Task 0 d.tasks (has_left d.tasks (heads d.actions)) (flat_there (second_in known_here) known_here.tasks (spot at code) i) in (f.0, one_left IsOne d.tasks (heads d.actions) f.1)
      | inr i ↦ let f = list_there Action 0 (heads d.actions) (has_right d.tasks (heads d.actions)) (flat_there (second_in known_here) known_here.actions (spot at code) i) in (f.0, one_right IsOne d.tasks (heads d.actions) f.1)
    ]

    both_back : (code ≡ 10) → One IsOne all → Has (second_callables known_here) (spot at code)
    both_back c o = elim (one_either IsOne d.tasks (heads d.actions) o) [
      | inl i ↦ append_left of_tasks of_actions (spot at code) (flat_back (second_in known_here) known_here.tasks (spot at code) (list_back Task 0 d.tasks (has_left d.tasks (heads d.actions)) c i))
      | inr i ↦ append_right of_tasks of_actions (spot at code) (flat_back (second_in known_here) known_here.actions (spot at code) (list_back Action 0 (heads d.actions) (has_right d.tasks (heads d.actions)) c i))
    ]

    abbrev said : List WordAt
    said = map (head_at names) all

    abbrev IsAgain : WordAt → Type 0
    IsAgain x = (x.at ≡ at) × (Has [] x.word ⊎ One (IsSameEarlier x) said)

    to_said : (hs : List RawHead) → One IsOne hs → One IsAgain (map (head_at names) hs)
    to_said [] o = absurd o
    to_said (h ∷ hs) (inl o) = inl (o.0, inr (one_mapped (head_at names) (IsSameEarlier (head_at names h)) all o.1))
    to_said (h ∷ hs) (inr o) = inr (to_said hs o)

    from_said : (hs : List RawHead) → One IsAgain (map (head_at names) hs) → One IsOne hs
    from_said [] o = absurd o
    from_said (h ∷ hs) (inl (e, inl o)) = absurd o
    from_said (h ∷ hs) (inl (e, inr o)) = inl (e, mapped_one (head_at names) (IsSameEarlier (head_at names h)) all o)
    from_said (h ∷ hs) (inr o) = inr (from_said hs o)

    pub second_has : Has (second_callables known_here) (spot at code) ↔ ((code ≡ 10) × IsSecond [] said at)
    second_has = (λ k. let f = both_there k in (f.0, to_said all f.1), λ f. both_back f.0 (from_said all f.1))

pub has_second_callables : OfAllCallables HasSecondCallables
has_second_callables names d known code at of = subst (λ k. Has (second_callables k) (spot at code) ↔ ((code ≡ 10) × IsSecond [] (map (head_at names) (d.tasks ++ heads d.actions)) at)) (sym of.are) (second_has names d known of code at)
