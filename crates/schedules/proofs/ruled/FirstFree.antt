-- The laws of rules and of first-free slots, from the lemmas.
use Rattle.std.proofs.Common.{ℕ, ◌≡◌, ◌↔◌, List, [], ◌∷◌, ◌++◌, refl, ap, sym, subst}
use Rattle.plan_model.specs.task_networks.Net.{Net}
use Rattle.plan_model.specs.task_networks.Lawful.{IsLawful}
use Rattle.plan_model.specs.task_networks.Tree.{Label, Tree, Address}
use Rattle.plan_model.specs.task_networks.Spelling.{Act, run, apply}
use Rattle.slot_machine.specs.Machine.{SlotState, start, end_of, after_act, Runs, May}
use Rattle.slot_machine.specs.OtherMachine.{AreSame, TakesAll}
use Rattle.slot_machine.proofs.RunSpellings.{runs_iff_spells}
use Rattle.slot_machine.proofs.SpellingRuns.{end-push}
use Rattle.schedules.specs.ruled.Narrowed.{after, SpellsPicked, AgreesWherePicked}
use Rattle.schedules.specs.ruled.SlotRule.{SeesFree, IsRuled, PicksBy, RuledRuns}
use Rattle.schedules.specs.ruled.LowestSlots.{LowestRule}
use Rattle.schedules.specs.ruled.FirstFreeLaws.{PickedAreFollowing, RuledTakesPicked, RuledRunsArePicked, RuledPlansArePicked, SpellsLowest, LowestIsARule, LowestArePicked, LowestExactlyWhereWithin, OneLowestList, FirstFreePlansAreSolutions, OneFirstFreePlan}
use Rattle.schedules.proofs.ruled.Following.{picked_iff_follows}
use Rattle.schedules.proofs.ruled.LowestFronts.{lowest_are_picked}
use Rattle.schedules.proofs.ruled.LowestRule.{lowest_always, lowest_one, lowest_sees_free}
use Rattle.schedules.proofs.ruled.PickedExist.{picked_exactly_where_within}
use Rattle.schedules.proofs.ruled.PickedOnce.{picked_once}
use Rattle.schedules.proofs.ruled.PickedPlans.{picked_plans_are_solutions, one_plan_for_each_schedule}
use Rattle.schedules.proofs.ruled.TakesPicked.{takes_picked, none_taken}

module _ (N : Net) (Rule : (ℕ → Type 0) → ℕ → N.Method → List ℕ → Type 0) where
  abbrev AllRuled : SlotState N → List (Act N) → Type 0
  AllRuled s acts = TakesAll N (λ taken a. IsRuled N Rule (end_of N s taken) a) acts

  ruled_to : (s : SlotState N) (acts : List (Act N)) → RuledRuns N Rule s acts → Runs N s acts × AllRuled s acts
  ruled_to s [] r = (tt, none_taken N (λ taken a. IsRuled N Rule (end_of N s taken) a))
  ruled_to s (c ∷ acts) r = let h = ruled_to (after_act N s c) acts r.1 in ((r.0.0, h.0), each r.0.1 h.1)
    where
      each : IsRuled N Rule s c → AllRuled (after_act N s c) acts → AllRuled s (c ∷ acts)
      each k t [] rest a e = subst (IsRuled N Rule s) (let f : c ≡ a = cc in f) k
      each k t (x ∷ taken) rest a e = subst (λ z. IsRuled N Rule (end_of N (after_act N s z) taken) a) (let f : c ≡ x = cc in f) (t taken rest a (cc))

  ruled_from : (s : SlotState N) (acts : List (Act N)) → Runs N s acts → AllRuled s acts → RuledRuns N Rule s acts
  ruled_from s [] r t = tt
  ruled_from s (c ∷ acts) r t = ((r.0, t [] acts c refl), ruled_from (after_act N s c) acts r.1 (λ taken rest a e. t (c ∷ taken) rest a (ap (λ z. c ∷ z) e)))

  ruled_iff : (s : SlotState N) (acts : List (Act N)) → RuledRuns N Rule s acts ↔ (Runs N s acts × AllRuled s acts)
  ruled_iff s acts = (ruled_to s acts, λ h. ruled_from s acts h.0 h.1)

module _ (N : Net) (law : IsLawful N) where
  module _ (Rule : (ℕ → Type 0) → ℕ → N.Method → List ℕ → Type 0) (sees : SeesFree N Rule) where
    pub picked_are_following : PickedAreFollowing N Rule
    picked_are_following b top acts tree order slot s = picked_iff_follows N law Rule sees b top acts tree order slot s

    pub ruled_takes_picked : (read : List (Act N) → SlotState N) (Takes : List (Act N) → Act N → Type 0)
        → RuledTakesPicked N Rule read Takes
    ruled_takes_picked read Takes b top positive agrees acts = (takes_picked N law (PicksBy N Rule b top) b top positive (λ acts. AreSame N (read acts) (after N b top acts)) (λ taken a. Takes taken a × IsRuled N Rule (read taken) a) picked acts).0
      where
        ruled : (acts : List (Act N)) (a : Act N) → AreSame N (read acts) (after N b top acts)
            → IsRuled N Rule (read acts) a ↔ PicksBy N Rule b top acts a
        ruled acts (run h w) same = (λ k. tt, λ k. tt)
        ruled acts (apply h new m) same = (
          λ k. sees (read acts).free (after N b top acts).free h m new same.free k,
          λ k. sees (after N b top acts).free (read acts).free h m new (λ x. ((same.free x).1, (same.free x).0)) k,
        )

        picked : AgreesWherePicked N (PicksBy N Rule b top) b top (λ acts. AreSame N (read acts) (after N b top acts)) (λ taken a. Takes taken a × IsRuled N Rule (read taken) a)
        picked = record {
          first = agrees.first;
          may = λ acts tree order slot a s same. (
              let x = agrees.may acts tree order slot a s.spells same in
              let y = ruled acts a same in
              (λ k. (x.0 k.0, y.0 k.1), λ k. (x.1 k.0, y.1 k.1)));
          step = λ acts tree order slot a s same m p. step acts tree order slot a s same m;
        }
          where
            step : (acts : List (Act N)) (tree : Tree N) (order : List Address) (slot : Address → ℕ) (a : Act N)
                → SpellsPicked N (PicksBy N Rule b top) b top acts tree order slot
                → AreSame N (read acts) (after N b top acts) → May N (after N b top acts) a
                → AreSame N (read (acts ++ a ∷ [])) (after N b top (acts ++ a ∷ []))
            step acts tree order slot a s same m = subst (AreSame N (read (acts ++ a ∷ []))) (sym (end-push N (start N b top) acts a)) (agrees.step acts tree order slot a s.spells same m)

    pub ruled_runs_are_picked : RuledRunsArePicked N Rule
    ruled_runs_are_picked b top acts positive =
        let x = ruled_iff N Rule (start N b top) acts in
        let y = runs_iff_spells N law b top positive acts in (
          λ r. (let (runs, p) = x.0 r in let (tree, order, slot, s) = y.0 runs in (tree, order, slot, record { spells = s; picked = p })),
          λ h. (let (tree, order, slot, s) = h in x.1 (y.1 (tree, order, slot, s.spells), s.picked)),
        )

    module _ (State : Type 1) (Allows : State → Label N → Type 0) (next : State → Label N → State) (first : State)
        (Goal : State → Type 0) where
      pub ruled_plans_are_picked : RuledPlansArePicked N Rule State Allows next first Goal
      ruled_plans_are_picked b top acts =
          let x = ruled_iff N Rule (start N b top) acts in (
            λ p. (let (runs, q) = x.0 p.run in record { plan = record { run = (runs, p.allowed); free = p.free; goal = p.goal }; picked = q }),
            λ p. record { run = x.1 (p.plan.run.0, p.picked); allowed = p.plan.run.1; free = p.plan.free; goal = p.plan.goal },
          )

  abbrev Pick : ℕ → N.Work → List (Act N) → Act N → Type 0
  Pick b top = PicksBy N (LowestRule N) b top

  pub lowest_is_a_rule : (b : ℕ) (top : N.Work) → LowestIsARule N b top
  lowest_is_a_rule b top = record { always = lowest_always N law b top; one = lowest_one N law b top }

  pub lowest_picked : LowestArePicked N
  lowest_picked b top acts tree order slot s = lowest_are_picked N law b top acts tree order slot s

  both : (b : ℕ) (top : N.Work) (acts : List (Act N)) (tree : Tree N) (order : List Address) (slot : Address → ℕ)
      → SpellsPicked N (Pick b top) b top acts tree order slot ↔ SpellsLowest N b top acts tree order slot
  both b top acts tree order slot = (
    λ s. record { spells = s.spells; lowest = (lowest_picked b top acts tree order slot s.spells).0 s.picked },
    λ s. record { spells = s.spells; picked = (lowest_picked b top acts tree order slot s.spells).1 s.lowest },
  )

  pub lowest_exactly_where_within : LowestExactlyWhereWithin N
  lowest_exactly_where_within b top tree order f =
      let x = picked_exactly_where_within N law b top (Pick b top) (lowest_always N law b top) tree order f in
      (λ w. (let (acts, slot, s) = x.0 w in (acts, slot, (both b top acts tree order slot).0 s)), λ h. x.1 (h.0, h.1, (both b top h.0 tree order h.1).1 h.2))

  pub one_lowest_list : OneLowestList N
  one_lowest_list b top tree order acts other slot other_slot s t = picked_once N law (Pick b top) b top (lowest_one N law b top) tree order acts other slot other_slot ((both b top acts tree order slot).1 s) ((both b top other tree order other_slot).1 t)

  module _ (State : Type 1) (Allows : State → Label N → Type 0) (next : State → Label N → State) (first : State)
      (Goal : State → Type 0) where
    pub first_free_plans_are_solutions : FirstFreePlansAreSolutions N State Allows next first Goal
    first_free_plans_are_solutions b top acts positive =
        let r = ruled_plans_are_picked (LowestRule N) (lowest_sees_free N) State Allows next first Goal b top acts in
        let x = picked_plans_are_solutions N law Pick State Allows next first Goal b top acts positive in (
          λ p. (let (tree, order, slot, s, g) = x.0 (r.0 p) in (tree, order, slot, (both b top acts tree order slot).0 s, g)),
          λ h. (let (tree, order, slot, s, g) = h in r.1 (x.1 (tree, order, slot, (both b top acts tree order slot).1 s, g))),
        )

    pub one_first_free_plan : OneFirstFreePlan N State Allows next first Goal
    one_first_free_plan b top tree order g w =
        let (acts, slot, s, p, only) = one_plan_for_each_schedule N law Pick State Allows next first Goal b top (lowest_always N law b top) (lowest_one N law b top) tree order g w in
        let r = ruled_plans_are_picked (LowestRule N) (lowest_sees_free N) State Allows next first Goal b top acts in
        (acts, slot, (both b top acts tree order slot).0 s, r.1 p, λ other other_slot t. only other other_slot ((both b top other tree order other_slot).1 t))
