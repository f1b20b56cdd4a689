-- Texts have one least fault, and so one refusal for it.
use Rattle.std.proofs.Common.{ℕ, nat_eq, ◌≡◌, ◌<◌, ◌≤◌, ◌⊎◌, if◌then◌else◌, List, [], ◌∷◌, ◌++◌, codes, decimal, Option, Some, slice_get, refl, sym, ap, ◌∙◌, subst, inl, inr, arith}
use Rattle.std.proofs.lemmas.Bool.{cases_lt}
use Rattle.text_forms.specs.Faults.{Fault, fault, IsBefore}
use Rattle.hddl_reader.specs.declared.sections.Language.{Language}
use Rattle.hddl_reader.specs.declared.sections.Language.TheVariants as language
use Rattle.plan_model.specs.declared.options.Checks.{Checks}
use Rattle.plan_model.specs.declared.options.Checks.TheVariants.{Leaf}
use Rattle.plan_model.specs.declared.steps.GroundAction.{GroundAction}
use Rattle.plan_model.specs.declared.values.Compiled.{Compiled}
use Rattle.plan_model.specs.declared.values.Pddl.{Pddl}
use Rattle.plan_text.specs.Plans.{IsPlanFault, IsPlanRead}
use Rattle.hplan_text.specs.declared.values.HPlan.{HPlan}
use Rattle.hplan_text.specs.HPlanFaults as hplans
use Rattle.text_values.specs.FaultWords.{fault_word}
use Rattle.text_values.specs.TextFaults.{HaveNoFault, IsLeastFault}
use Rattle.text_values.proofs.OneFault.{have_one_fault, has_one_plan_fault}
use Rattle.made_transport.specs.Made.{made_domain}
use Rattle.command_words.specs.Names.{Word}
use Rattle.command_words.specs.Words.{TranslationRequest, DecodeRequest, EncodeRequest, MakeRequest, Request, to_translate, to_bound, to_decode, to_encode, to_validate, to_make, to_prune}
use Rattle.htn_cli.specs.Answer.{Output, refuses}
use Rattle.htn_cli.specs.Answers.{IsLeastOf, Refuses, Gives, RefusesFault}
use Rattle.htn_cli.specs.Decoding.{SpellSteps}
use Rattle.htn_cli.specs.Encoding.{SpellHPlan, FindsUnordered}
use Rattle.htn_cli.specs.Faults.{IsFaultAt, limit_code, place_text, fault_text}
use Rattle.htn_cli.specs.Making.{problem_of, translation_for, RefusesMake, GivesMake}
use Rattle.htn_cli.specs.Pruning.{RefusesPrune}
use Rattle.htn_cli.specs.OneAnswer.{TellTheSame}
use Rattle.htn_cli.specs.Problem.{SpellProblem}
use Rattle.htn_cli.specs.Refusal.{counted_word}
use Rattle.htn_cli.specs.Requests.{names_told}
use Rattle.htn_cli.specs.LeastFaults.{IsLeastOfThree, IsLeastWithPlan, IsLeastWithHPlan, of_problem, of_third}
use Rattle.htn_cli.specs.Translation.{RefusesTranslation}
use Rattle.htn_cli.specs.Validation.{Spell}
use Rattle.htn_cli.specs.declared.faults.Counted.{Counted}
use Rattle.htn_cli.specs.declared.faults.Counted.TheVariants.{Depth, Subtasks, Types}
use Rattle.htn_cli.specs.declared.faults.Place.{Place}
use Rattle.htn_cli.specs.declared.refusal.Finding.{Finding}
use Rattle.htn_cli.specs.declared.refusal.Finding.TheVariants as finding
use Rattle.htn_cli.specs.declared.refusal.Limit.TheVariants as limit
use Rattle.htn_cli.specs.declared.refusal.Refusal.{Refusal}
use Rattle.htn_cli.specs.declared.refusal.Refusal.TheVariants as refused

-- two places with one text
pub record AreOnePlace (one other : Place) : Type 0 where
  pub name : one.name.now ≡ other.name.now
  pub at : one.at ≡ other.at

place_same : (one other : Place) → AreOnePlace one other → place_text one ≡ place_text other
place_same one other e = λ i. e.name i ++ codes ":" ++ decimal (e.at i)

fault_same : (one other : Place) (code more : ℕ) → AreOnePlace one other → code ≡ more → fault_text one code ≡ fault_text other more
fault_same one other code more e f = λ i. place_same one other e i ++ codes ": fault " ++ decimal (f i) ++ codes " " ++ fault_word (f i)

abbrev counted_by : ℕ → Counted
counted_by code = if nat_eq code 4 then Depth else (if nat_eq code 21 then Subtasks else Types)

counted_back : (counted : Counted) → counted_by (limit_code counted) ≡ counted
counted_back Depth = refl
counted_back Subtasks = refl
counted_back Types = refl

one_counted : (one other : Counted) → limit_code one ≡ limit_code other → one ≡ other
one_counted one other e = sym (counted_back one) ∙ ap counted_by e ∙ counted_back other

-- The least fault of the third text is one.
pub record HasOneLeast (IsThird : (code at : ℕ) → Type 0) : Type 0 where
  pub one : (code at more place : ℕ) → IsThird code at → IsThird more place → (code ≡ more) × (at ≡ place)

plan_one : (plan : List ℕ) → HasOneLeast (λ code at. IsPlanFault plan (fault code at))
plan_one plan = record { one = λ code at more place f g. let e = (has_one_plan_fault plan).one (fault code at) (fault more place) f g in (ap (λ z. z.code) e, ap (λ z. z.at) e) }

before_both : (f g : Fault) → IsBefore f g → IsBefore g f → (f.code ≡ g.code) × (f.at ≡ g.at)
before_both f g (inl l) (inl k) = absurd (omega (arith, l, k))
before_both f g (inl l) (inr (e, few)) = absurd (omega (arith, l, e))
before_both f g (inr (e, few)) (inl k) = absurd (omega (arith, e, k))
before_both f g (inr (e, few)) (inr (h, less)) = (omega (arith, few, less), e)

-- its phase is that of no later fault, so two least faults are of one phase
hplan_faults : (hplan : List ℕ) (f g : Fault) → hplans.IsLeastFault hplan f → hplans.IsLeastFault hplan g → (f.code ≡ g.code) × (f.at ≡ g.at)
hplan_faults hplan f g x y = go (cases_lt x.phase y.phase) (cases_lt y.phase x.phase)
  where
    go : (x.phase < y.phase) ⊎ (y.phase ≤ x.phase) → (y.phase < x.phase) ⊎ (x.phase ≤ y.phase) → (f.code ≡ g.code) × (f.at ≡ g.at)
    go (inl l) k = absurd (y.none_earlier x.phase f l x.is)
    go (inr l) (inl k) = absurd (x.none_earlier y.phase g k y.is)
    go (inr l) (inr k) =
        let e : x.phase ≡ y.phase = omega (arith, l, k) in
        before_both f g (x.least g (subst (λ z. hplans.IsFault hplan z g) (sym e) y.is)) (y.least f (subst (λ z. hplans.IsFault hplan z f) e x.is))

hplan_one : (hplan : List ℕ) → HasOneLeast (λ code at. hplans.IsLeastFault hplan (fault code at))
hplan_one hplan = record { one = λ code at more place f g. hplan_faults hplan (fault code at) (fault more place) f g }

-- of three texts
module _ (l : Language) (domain problem : List ℕ) (IsThird : (code at : ℕ) → Type 0) where
  one_of_three : HasOneLeast IsThird → (file code at : ℕ) → IsLeastOfThree l domain problem IsThird file code at → (other more place : ℕ) → IsLeastOfThree l domain problem IsThird other more place
      → (file ≡ other) × (code ≡ more) × (at ≡ place)
  one_of_three third file code at (of_problem f) other more place (of_problem g) = (have_one_fault l domain problem).one file code at f other more place g
  one_of_three third file code at (of_problem f) other more place (of_third none g) = absurd ((have_one_fault l domain problem).none none file code at f)
  one_of_three third file code at (of_third none f) other more place (of_problem g) = absurd ((have_one_fault l domain problem).none none other more place g)
  one_of_three third file code at (of_third none f) other more place (of_third also g) = let e = third.one code at more place f g in (refl, e.0, e.1)

  fault_or_none : HaveNoFault l domain problem → ((code at : ℕ) → IsThird code at → ⊥) → (file code at : ℕ) → IsLeastOfThree l domain problem IsThird file code at → ⊥
  fault_or_none free clean file code at (of_problem f) = (have_one_fault l domain problem).none free file code at f
  fault_or_none free clean file code at (of_third none f) = clean code at f

fault_or_read : (l : Language) (domain problem plan : List ℕ) (steps : List GroundAction) → HaveNoFault l domain problem → IsPlanRead plan steps
    → (file code at : ℕ) → IsLeastWithPlan l domain problem plan file code at → ⊥
fault_or_read l domain problem plan steps free read =
    fault_or_none l domain problem (λ code at. IsPlanFault plan (fault code at)) free (λ code at f. (has_one_plan_fault plan).none steps read (fault code at) f)

fault_or_hplan : (r : EncodeRequest) (domain problem hplan : List ℕ) (c : Compiled) (plan : HPlan) → SpellHPlan r domain problem hplan c plan
    → (file code at : ℕ) → IsLeastWithHPlan domain problem hplan file code at → ⊥
fault_or_hplan r domain problem hplan c plan s =
    fault_or_none language.Hddl domain problem (λ code at. hplans.IsLeastFault hplan (fault code at)) s.problem_is.read.faultless (λ code at f. s.read.faultless f.phase (fault code at) f.is)

fault_or_spelled : (domain problem plan : List ℕ) (c : Pddl) (steps : List GroundAction) → Spell domain problem plan c steps
    → (file code at : ℕ) → IsLeastWithPlan language.Pddl domain problem plan file code at → ⊥
fault_or_spelled domain problem plan c steps s = fault_or_read language.Pddl domain problem plan steps s.value.faultless s.list

fault_or_steps : (r : DecodeRequest) (domain problem plan : List ℕ) (c : Compiled) (steps : List GroundAction) → SpellSteps r domain problem plan c steps
    → (file code at : ℕ) → IsLeastWithPlan language.Hddl domain problem plan file code at → ⊥
fault_or_steps r domain problem plan c steps s = fault_or_read language.Hddl domain problem plan steps s.problem_is.read.faultless s.list

one_least : (request : Request) (texts : List (List ℕ)) (file code at : ℕ) → IsLeastOf request texts file code at → (other more place : ℕ) → IsLeastOf request texts other more place
    → (file ≡ other) × (code ≡ more) × (at ≡ place)
one_least (to_translate r) (d ∷ p ∷ []) file code at f other more place g = (have_one_fault language.Hddl d p).one file code at f other more place g
one_least (to_bound r) (d ∷ p ∷ []) file code at f other more place g = (have_one_fault language.Hddl d p).one file code at f other more place g
one_least (to_decode r) (d ∷ p ∷ plan ∷ []) file code at f other more place g = one_of_three language.Hddl d p _ (plan_one plan) file code at f other more place g
one_least (to_encode r) (d ∷ p ∷ hplan ∷ []) file code at f other more place g = one_of_three language.Hddl d p _ (hplan_one hplan) file code at f other more place g
one_least (to_validate r) (d ∷ p ∷ plan ∷ []) file code at f other more place g = one_of_three language.Pddl d p _ (plan_one plan) file code at f other more place g
one_least (to_make r) [] file code at f other more place g = (have_one_fault language.Hddl made_domain (problem_of r)).one file code at f other more place g
one_least (to_prune r) (d ∷ p ∷ []) file code at f other more place g = (have_one_fault language.Hddl d p).one file code at f other more place g
one_least _ _ file code at f other more place g = absurd f

-- two texts that spell a problem have no fault
no_fault : (d p : List ℕ) (checks : Checks) (c : Compiled) → SpellProblem d p checks c → (file code at : ℕ) → IsLeastFault language.Hddl d p file code at → ⊥
no_fault d p checks c s file code at f = (have_one_fault language.Hddl d p).none s.read.faultless file code at f

translation_faultless : (r : TranslationRequest) (d p : List ℕ) (refusal : Refusal) → RefusesTranslation r d p refusal → (file code at : ℕ) → IsLeastFault language.Hddl d p file code at → ⊥
translation_faultless r d p (refused.Finding (finding.NotTotallyOrdered word)) (stack, (c, s, named)) file code at f = no_fault d p r.checks c s file code at f
translation_faultless r d p (refused.Finding (finding.NotTailRecursive words)) (none, (c, s, named)) file code at f = no_fault d p r.checks c s file code at f
translation_faultless r d p (refused.Limit limit.Ground) (none, (c, s, past)) file code at f = no_fault d p r.checks c s file code at f
translation_faultless r d p (refused.Limit limit.Bound) (none, (n, (c, s, bound), past)) file code at f = no_fault d p r.checks c s file code at f
translation_faultless r d p (refused.Limit (limit.Slots m)) (none, (n, (c, s, bound), past)) file code at f = no_fault d p r.checks c s file code at f
translation_faultless r d p (refused.Limit (limit.Output n)) (c, slots, source, long) file code at f = no_fault d p r.checks c source.problem_is file code at f
translation_faultless r d p _ x file code at f = absurd x

prune_faultless : (d p : List ℕ) (refusal : Refusal) → RefusesPrune d p refusal → (file code at : ℕ) → IsLeastFault language.Hddl d p file code at → ⊥
prune_faultless d p (refused.Finding finding.NoSolution) (source, read, cannot) file code at f = (have_one_fault language.Hddl d p).none read.faultless file code at f
prune_faultless d p (refused.Limit (limit.Output n)) (value, spell, long) file code at f = (have_one_fault language.Hddl d p).none spell.read.faultless file code at f
prune_faultless d p _ x file code at f = absurd x

-- of a made problem
module _ (r : MakeRequest) where
  abbrev Least : (file code at : ℕ) → Type 0
  Least = IsLeastFault language.Hddl made_domain (problem_of r)

  gives_made_faultless : (output : Output) → GivesMake r output → (file code at : ℕ) → Least file code at → ⊥
  gives_made_faultless output (texts, actions, bound, width, steps, are, e) file code at f =
      no_fault made_domain (problem_of r) Leaf are.written.compiled are.written.source.problem_is file code at f

  made_faultless : (refusal : Refusal) → RefusesMake r refusal → (file code at : ℕ) → Least file code at → ⊥
  made_faultless (refused.Finding found) (inl x) file code at f = translation_faultless (translation_for r) made_domain (problem_of r) (refused.Finding found) x file code at f
  made_faultless (refused.Finding found) (inr (c, bound, source, is)) file code at f = no_fault made_domain (problem_of r) Leaf c source.problem_is file code at f
  made_faultless (refused.Limit limit.Bound) x file code at f = translation_faultless (translation_for r) made_domain (problem_of r) (refused.Limit limit.Bound) x file code at f
  made_faultless (refused.Limit (limit.Slots n)) (inl x) file code at f = translation_faultless (translation_for r) made_domain (problem_of r) (refused.Limit (limit.Slots n)) x file code at f
  made_faultless (refused.Limit (limit.Slots n)) (inr (c, bound, source, wide, past)) file code at f = no_fault made_domain (problem_of r) Leaf c source.problem_is file code at f
  made_faultless (refused.Limit (limit.Output n)) (inl (c, bound, width, steps, source, counted, long)) file code at f = no_fault made_domain (problem_of r) Leaf c source.problem_is file code at f
  made_faultless (refused.Limit (limit.Output n)) (inr (output, gives, e, long)) file code at f = gives_made_faultless output gives file code at f
  made_faultless _ x file code at f = absurd x

-- a hierarchical plan of a problem that no stack is printed of
unordered_faultless : (r : EncodeRequest) (d p hplan : List ℕ) (found : Finding) → FindsUnordered r d p hplan found → (file code at : ℕ) → IsLeastOf (to_encode r) (d ∷ p ∷ hplan ∷ []) file code at → ⊥
unordered_faultless r d p hplan (finding.NotTotallyOrdered word) (stack, (c, plan, s, named)) file code at f = fault_or_hplan r d p hplan c plan s.spelled file code at f
unordered_faultless r d p hplan _ x file code at f = absurd x

-- texts that are declined have no fault
declined_faultless : (request : Request) (texts : List (List ℕ)) (refusal : Refusal) → Refuses request texts refusal → (file code at : ℕ) → IsLeastOf request texts file code at → ⊥
declined_faultless (to_translate r) (d ∷ p ∷ []) refusal x file code at f = translation_faultless r d p refusal x file code at f
declined_faultless (to_bound r) (d ∷ p ∷ []) (refused.Finding (finding.NotTailRecursive words)) (c, s, named) file code at f = (have_one_fault language.Hddl d p).none s.read.faultless file code at f
declined_faultless (to_bound r) (d ∷ p ∷ []) (refused.Limit limit.Ground) (c, s, past) file code at f = (have_one_fault language.Hddl d p).none s.read.faultless file code at f
declined_faultless (to_bound r) (d ∷ p ∷ []) (refused.Limit limit.Bound) (n, (c, s, bound), past) file code at f = (have_one_fault language.Hddl d p).none s.read.faultless file code at f
declined_faultless (to_decode r) (d ∷ p ∷ plan ∷ []) (refused.Limit (limit.Steps n)) (c, steps, s, e, many) file code at f = fault_or_steps r d p plan c steps s file code at f
declined_faultless (to_decode r) (d ∷ p ∷ plan ∷ []) (refused.Finding (finding.NotTotallyOrdered word)) (stack, (c, steps, s, named)) file code at f = fault_or_steps r d p plan c steps s.spelled file code at f
declined_faultless (to_decode r) (d ∷ p ∷ plan ∷ []) (refused.Finding (finding.NotTailRecursive words)) (none, (c, steps, s, named)) file code at f = fault_or_steps r d p plan c steps s.spelled.spelled file code at f
declined_faultless (to_decode r) (d ∷ p ∷ plan ∷ []) (refused.Limit limit.Ground) (none, (c, steps, s, past)) file code at f = fault_or_steps r d p plan c steps s.spelled.spelled file code at f
declined_faultless (to_decode r) (d ∷ p ∷ plan ∷ []) (refused.Limit limit.Bound) (none, (c, steps, n, s, bound, past)) file code at f = fault_or_steps r d p plan c steps s.spelled.spelled file code at f
declined_faultless (to_decode r) (d ∷ p ∷ plan ∷ []) (refused.Limit (limit.Slots m)) (none, (c, steps, n, s, bound, past)) file code at f = fault_or_steps r d p plan c steps s.spelled.spelled file code at f
declined_faultless (to_decode r) (d ∷ p ∷ plan ∷ []) (refused.Finding (finding.SpellsNoSolution step why)) (c, steps, slots, source, fails) file code at f = fault_or_steps r d p plan c steps source.spelled.spelled file code at f
declined_faultless (to_decode r) (d ∷ p ∷ plan ∷ []) (refused.Limit (limit.Output n)) (c, steps, slots, text, source, have, e, long) file code at f = fault_or_steps r d p plan c steps source.spelled.spelled file code at f
declined_faultless (to_encode r) (d ∷ p ∷ hplan ∷ []) (refused.Limit (limit.Lines n)) (c, plan, s, e, many) file code at f = fault_or_hplan r d p hplan c plan s file code at f
declined_faultless (to_encode r) (d ∷ p ∷ hplan ∷ []) (refused.Finding found) (inl x) file code at f = unordered_faultless r d p hplan found x file code at f
declined_faultless (to_encode r) (d ∷ p ∷ hplan ∷ []) (refused.Finding found) (inr (c, plan, s, is)) file code at f = fault_or_hplan r d p hplan c plan s.spelled.spelled file code at f
declined_faultless (to_encode r) (d ∷ p ∷ hplan ∷ []) (refused.Limit (limit.Slots n)) (none, (c, plan, s, wide, many)) file code at f = fault_or_hplan r d p hplan c plan s.spelled.spelled file code at f
declined_faultless (to_encode r) (d ∷ p ∷ hplan ∷ []) (refused.Limit (limit.Output n)) (c, plan, text, s, is, e, long) file code at f = fault_or_hplan r d p hplan c plan s.spelled.spelled file code at f
declined_faultless (to_validate r) (d ∷ p ∷ plan ∷ []) (refused.Limit (limit.Steps n)) (c, steps, s, e, many) file code at f = fault_or_spelled d p plan c steps s file code at f
declined_faultless (to_validate r) (d ∷ p ∷ plan ∷ []) (refused.Finding (finding.NotAPlan step why)) (c, steps, s, fails) file code at f = fault_or_spelled d p plan c steps s.spelled file code at f
declined_faultless (to_make r) [] refusal x file code at f = made_faultless r refusal x file code at f
declined_faultless (to_prune r) (d ∷ p ∷ []) refusal x file code at f = prune_faultless d p refusal x file code at f
declined_faultless _ _ refusal x file code at f = absurd x

given_faultless : (request : Request) (texts : List (List ℕ)) (output : Output) → Gives request texts output → (file code at : ℕ) → IsLeastOf request texts file code at → ⊥
given_faultless (to_translate r) (d ∷ p ∷ []) output (texts, slots, written, e) file code at f = (have_one_fault language.Hddl d p).none written.source.problem_is.read.faultless file code at f
given_faultless (to_bound r) (d ∷ p ∷ []) output (n, (c, s, bound), small, e) file code at f = (have_one_fault language.Hddl d p).none s.read.faultless file code at f
given_faultless (to_decode r) (d ∷ p ∷ plan ∷ []) output (c, steps, slots, text, source, have, e) file code at f = fault_or_steps r d p plan c steps source.spelled.spelled file code at f
given_faultless (to_encode r) (d ∷ p ∷ hplan ∷ []) output (c, plan, text, s, is, e) file code at f = fault_or_hplan r d p hplan c plan s.spelled.spelled file code at f
given_faultless (to_validate r) (d ∷ p ∷ plan ∷ []) output ((c, steps, s, is), e) file code at f = fault_or_spelled d p plan c steps s.spelled file code at f
given_faultless (to_make r) [] output x file code at f = gives_made_faultless r output x file code at f
given_faultless (to_prune r) (d ∷ p ∷ []) output (value, spell, short, e) file code at f = (have_one_fault language.Hddl d p).none spell.read.faultless file code at f
given_faultless _ _ output x file code at f = absurd x

one_name : (one other : Option Word) (a b : Word) → one ≡ other → one ≡ Some a → other ≡ Some b → a ≡ b
one_name one other a b e f g = let h : Some a ≡ Some b = sym f ∙ e ∙ g in cc

module _ (request : Request) (texts : List (List ℕ)) where
  abbrev At : Place → ℕ → Type 0
  At = IsFaultAt (names_told request) (IsLeastOf request texts)

  one_place : (one other : Place) (code more : ℕ) → At one code → At other more → AreOnePlace one other × (code ≡ more)
  one_place one other code more f g =
      let e = one_least request texts f.file code one.at f.least g.file more other.at g.least in
      (record { name = one_name (slice_get (names_told request) f.file) (slice_get (names_told request) g.file) one.name.now other.name.now (ap (slice_get (names_told request)) e.0) f.name_is g.name_is; at = e.2 }, e.1)

  pub one_fault : (a b : Refusal) → RefusesFault request texts a → RefusesFault request texts b → TellTheSame (refuses a) (refuses b)
  one_fault (refused.Fault place code) (refused.Fault there more) (f, free) (g, also) =
      let s = one_place place there code more f g in
      record { status = refl; line = (let e = fault_same place there code more s.0 s.1 in λ i. e i ++ codes "\n"); output = refl }
  one_fault (refused.Fault place code) (refused.Limit (limit.Text counted there)) (f, free) g = absurd (free counted (one_place place there code (limit_code counted) f g).1)
  one_fault (refused.Limit (limit.Text counted place)) (refused.Fault there more) f (g, free) = absurd (free counted (one_place there place more (limit_code counted) g f).1)
  one_fault (refused.Limit (limit.Text counted place)) (refused.Limit (limit.Text also there)) f g =
      let s = one_place place there (limit_code counted) (limit_code also) f g in
      let word = ap counted_word (one_counted counted also s.1) in
      let at = place_same place there s.0 in
      record { status = refl; line = λ i. codes "limit " ++ word i ++ (codes " " ++ at i) ++ codes "\n"; output = refl }
  one_fault (refused.Fault place code) _ f g = absurd g
  one_fault (refused.Limit (limit.Text counted place)) _ f g = absurd g
  one_fault _ b f g = absurd f

  pub fault_not_declined : (a b : Refusal) → RefusesFault request texts a → Refuses request texts b → ⊥
  fault_not_declined (refused.Fault place code) b (f, free) x = declined_faultless request texts b x f.file code place.at f.least
  fault_not_declined (refused.Limit (limit.Text counted place)) b f x = declined_faultless request texts b x f.file (limit_code counted) place.at f.least
  fault_not_declined _ b f x = absurd f

  pub fault_not_given : (a : Refusal) (output : Output) → RefusesFault request texts a → Gives request texts output → ⊥
  fault_not_given (refused.Fault place code) output (f, free) x = given_faultless request texts output x f.file code place.at f.least
  fault_not_given (refused.Limit (limit.Text counted place)) output f x = given_faultless request texts output x f.file (limit_code counted) place.at f.least
  fault_not_given _ output f x = absurd f
