-- Another machine takes the same acts, where it agrees at fronts.
use Rattle.std.proofs.Common.{ℕ, ◌≡◌, ◌≤◌, ◌⊎◌, ◌↔◌, inl, inr, List, [], ◌∷◌, ◌++◌, refl, ap, sym, subst, ◌∙◌, append_assoc}
use Rattle.plan_model.specs.task_networks.Net.{Net}
use Rattle.plan_model.specs.task_networks.Lawful.{IsLawful}
use Rattle.plan_model.specs.task_networks.Spelling.{Act}
use Rattle.plan_model.proofs.task_networks.Lists.{cut_push, by_push}
use Rattle.slot_machine.specs.Machine.{SlotState, Runs, start, end_of, May}
use Rattle.slot_machine.specs.Laws.{SpellsFront}
use Rattle.slot_machine.specs.OtherMachine.{AgreesAtFronts, TakesAll, AreSame}
use Rattle.slot_machine.proofs.RunSpellings.{spells_from_runs, runs_iff_spells}
use Rattle.slot_machine.proofs.SpellingRuns.{runs_push, runs_back, end-push}

module _ (N : Net) (law : IsLawful N) (read : List (Act N) → SlotState N) (Takes : List (Act N) → Act N → Type 0) (b : ℕ) (top : N.Work) (positive : 1 ≤ b) (agrees : AgreesAtFronts N read Takes b top) where
  takes_push : (acts : List (Act N)) (a : Act N) → TakesAll N Takes (acts ++ a ∷ []) ↔ (TakesAll N Takes acts × Takes acts a)
  takes_push acts a = (
    λ t. (λ taken rest c e. t taken (rest ++ a ∷ []) c (ap (λ x. x ++ a ∷ []) e ∙ append_assoc taken (c ∷ rest) (a ∷ [])), t acts [] a refl),
    λ h taken rest c e. last h taken rest c (cut_push acts a taken c rest e),
  )
    where
      last : TakesAll N Takes acts × Takes acts a → (taken rest : List (Act N)) (c : Act N) → ((acts ≡ taken) × (a ≡ c)) ⊎ ((rest' : List (Act N)) × (acts ≡ taken ++ c ∷ rest')) → Takes taken c
      last h taken rest c (inl (e, f)) = subst (λ x. Takes x c) e (subst (Takes acts) f h.1)
      last h taken rest c (inr (r, e)) = h.0 taken r c e

  -- runs of the slot machine, and what is read then
  abbrev Same : List (Act N) → Type 0
  Same acts = (TakesAll N Takes acts ↔ Runs N (start N b top) acts) × (Runs N (start N b top) acts → AreSame N (read acts) (end_of N (start N b top) acts))

  none_taken : TakesAll N Takes []
  none_taken [] rest a e = absurd cc
  none_taken (x ∷ taken) rest a e = absurd cc

  same : (acts : List (Act N)) → Same acts
  same = by_push Same ((λ x. tt, λ x. none_taken), λ x. agrees.first) one_more
    where
      one_more : (acts : List (Act N)) (a : Act N) → Same acts → Same (acts ++ a ∷ [])
      one_more acts a (runs, alike) = ((to, from), after')
        where
          s : SlotState N
          s = end_of N (start N b top) acts

          front : Runs N (start N b top) acts → SpellsFront N b top acts
          front r = spells_from_runs N law b top positive acts r

          may : (r : Runs N (start N b top) acts) → Takes acts a ↔ May N s a
          may r = let (tree, order, slot, sp) = front r in agrees.may acts tree order slot a sp (alike r)

          to : TakesAll N Takes (acts ++ a ∷ []) → Runs N (start N b top) (acts ++ a ∷ [])
          to x =
              let (y, k) = (takes_push acts a).0 x in
              let r = runs.0 y in
              runs_push N (start N b top) acts a r ((may r).0 k)

          from : Runs N (start N b top) (acts ++ a ∷ []) → TakesAll N Takes (acts ++ a ∷ [])
          from x =
              let (r, k) = runs_back N (start N b top) acts a x in
              (takes_push acts a).1 (runs.1 r, (may r).1 k)

          after' : Runs N (start N b top) (acts ++ a ∷ []) → AreSame N (read (acts ++ a ∷ [])) (end_of N (start N b top) (acts ++ a ∷ []))
          after' x =
              let (r, k) = runs_back N (start N b top) acts a x in
              let (tree, order, slot, sp) = front r in
              subst (AreSame N (read (acts ++ a ∷ []))) (sym (end-push N (start N b top) acts a)) (agrees.step acts tree order slot a sp (alike r) k)

  pub takes_fronts : (acts : List (Act N)) → (TakesAll N Takes acts ↔ SpellsFront N b top acts) × (SpellsFront N b top acts → AreSame N (read acts) (end_of N (start N b top) acts))
  takes_fronts acts =
      let (runs, alike) = same acts in
      let spelled = runs_iff_spells N law b top positive acts in
      ((λ x. spelled.0 (runs.0 x), λ x. runs.1 (spelled.1 x)), λ x. alike (spelled.1 x))
