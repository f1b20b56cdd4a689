-- A narrowed machine takes exactly what spells a front and is picked.
use Rattle.std.proofs.Common.{ℕ, ◌≡◌, ◌≤◌, ◌⊎◌, ◌↔◌, inl, inr, List, [], ◌∷◌, ◌++◌, refl, ap, subst, ◌∙◌, append_assoc}
use Rattle.plan_model.specs.task_networks.Net.{Net}
use Rattle.plan_model.specs.task_networks.Lawful.{IsLawful}
use Rattle.plan_model.specs.task_networks.Spelling.{Act}
use Rattle.plan_model.proofs.task_networks.Lists.{cut_push, by_push}
use Rattle.slot_machine.specs.Machine.{Runs, start, May}
use Rattle.slot_machine.specs.OtherMachine.{TakesAll}
use Rattle.slot_machine.proofs.RunSpellings.{spells_from_runs, runs_iff_spells}
use Rattle.slot_machine.proofs.SpellingRuns.{runs_push, runs_back}
use Rattle.schedules.specs.ruled.Narrowed.{SpellsPickedFront, AgreesWherePicked, after}

module _ (N : Net) (P : List (Act N) → Act N → Type 0) where
  pub takes_push : (acts : List (Act N)) (a : Act N) → TakesAll N P (acts ++ a ∷ []) ↔ (TakesAll N P acts × P acts a)
  takes_push acts a = (
    λ t. (λ taken rest c e. t taken (rest ++ a ∷ []) c (ap (λ x. x ++ a ∷ []) e ∙ append_assoc taken (c ∷ rest) (a ∷ [])), t acts [] a refl),
    λ h taken rest c e. last h taken rest c (cut_push acts a taken c rest e),
  )
    where
      last : TakesAll N P acts × P acts a → (taken rest : List (Act N)) (c : Act N)
          → ((acts ≡ taken) × (a ≡ c)) ⊎ ((rest' : List (Act N)) × (acts ≡ taken ++ c ∷ rest')) → P taken c
      last h taken rest c (inl (e, f)) = subst (λ x. P x c) e (subst (P acts) f h.1)
      last h taken rest c (inr (r, e)) = h.0 taken r c e

  pub none_taken : TakesAll N P []
  none_taken [] rest a e = absurd cc
  none_taken (x ∷ taken) rest a e = absurd cc

module _ (N : Net) (law : IsLawful N) (Picks : List (Act N) → Act N → Type 0) (b : ℕ) (top : N.Work) (positive : 1 ≤ b)
    (Fits : List (Act N) → Type 0) (Takes : List (Act N) → Act N → Type 0) (agrees : AgreesWherePicked N Picks b top Fits Takes) where
  abbrev RunsPicked : List (Act N) → Type 0
  RunsPicked acts = Runs N (start N b top) acts × TakesAll N Picks acts

  abbrev Same : List (Act N) → Type 0
  Same acts = (TakesAll N Takes acts ↔ RunsPicked acts) × (RunsPicked acts → Fits acts)

  front : (acts : List (Act N)) → RunsPicked acts → SpellsPickedFront N Picks b top acts
  front acts (r, p) = let (tree, order, slot, sp) = spells_from_runs N law b top positive acts r in (tree, order, slot, record { spells = sp; picked = p })

  same : (acts : List (Act N)) → Same acts
  same = by_push Same ((λ x. (tt, none_taken N Picks), λ x. none_taken N Takes), λ x. agrees.first) one_more
    where
      one_more : (acts : List (Act N)) (a : Act N) → Same acts → Same (acts ++ a ∷ [])
      one_more acts a (runs, fits) = ((to, from), after')
        where
          may : (r : RunsPicked acts) → Takes acts a ↔ (May N (after N b top acts) a × Picks acts a)
          may r = let (tree, order, slot, sp) = front acts r in agrees.may acts tree order slot a sp (fits r)

          back : RunsPicked (acts ++ a ∷ []) → (r : RunsPicked acts) × May N (after N b top acts) a × Picks acts a
          back (r, p) = let (r', m) = runs_back N (start N b top) acts a r in let (p', q) = (takes_push N Picks acts a).0 p in ((r', p'), m, q)

          to : TakesAll N Takes (acts ++ a ∷ []) → RunsPicked (acts ++ a ∷ [])
          to x =
              let (y, k) = (takes_push N Takes acts a).0 x in
              let r = runs.0 y in
              let h = (may r).0 k in
              (runs_push N (start N b top) acts a r.0 h.0, (takes_push N Picks acts a).1 (r.1, h.1))

          from : RunsPicked (acts ++ a ∷ []) → TakesAll N Takes (acts ++ a ∷ [])
          from x = let (r, m, q) = back x in (takes_push N Takes acts a).1 (runs.1 r, (may r).1 (m, q))

          after' : RunsPicked (acts ++ a ∷ []) → Fits (acts ++ a ∷ [])
          after' x =
              let (r, m, q) = back x in
              let (tree, order, slot, sp) = front acts r in
              agrees.step acts tree order slot a sp (fits r) m q

  runs_of : (acts : List (Act N)) → SpellsPickedFront N Picks b top acts → RunsPicked acts
  runs_of acts (tree, order, slot, sp) = ((runs_iff_spells N law b top positive acts).1 (tree, order, slot, sp.spells), sp.picked)

  pub takes_picked : (acts : List (Act N))
      → (TakesAll N Takes acts ↔ SpellsPickedFront N Picks b top acts) × (SpellsPickedFront N Picks b top acts → Fits acts)
  takes_picked acts =
      let (runs, fits) = same acts in
      ((λ x. front acts (runs.0 x), λ x. runs.1 (runs_of acts x)), λ x. fits (runs_of acts x))
