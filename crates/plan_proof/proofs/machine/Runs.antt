-- Lists of acts that the printed problem takes are executable runs of the machine.
use Rattle.std.proofs.Common.{ℕ, ◌≡◌, ◌↔◌, ◌≤◌, List, [], ◌∷◌, ◌++◌, map, refl, ap, sym, subst, ◌∙◌}
use Rattle.plan_model.specs.declared.options.Style.{Style}
use Rattle.plan_model.specs.declared.schemas.ActionSchema.{ActionSchema}
use Rattle.plan_model.specs.declared.values.Compiled.{Compiled}
use Rattle.plan_model.specs.declared.values.Pddl.{Pddl}
use Rattle.plan_model.specs.task_networks.Net.{Net}
use Rattle.plan_model.specs.task_networks.Spelling.{Act, run, apply, label_of}
use Rattle.plan_model.specs.task_networks.Executable.{AreAllowed, last_state}
use Rattle.slot_machine.specs.Machine as Machine
use Rattle.slot_machine.specs.Machine.{May, Runs, end_of, start}
use Rattle.slot_machine.proofs.RunSpellings.{runs_iff_spells}
use Rattle.slot_machine.proofs.SpellingRuns.{runs_push, end-push}
use Rattle.slot_machine.proofs.Theorem.{matches_spelling}
use Rattle.plan_model.specs.plan_meaning.Truth.{State, after}
use Rattle.plan_model.specs.plan_meaning.Network.{Work, action, check, task, network}
use Rattle.plan_model.specs.plan_meaning.Solution.{Allows, next, top_work}
use Rattle.plan_proof.proofs.machine.Reading.{Reads, Applies, LeadsBy}
use Rattle.plan_proof.proofs.machine.Facts.{PiecesMean}
use Rattle.plan_proof.proofs.machine.Freeing.{InT}
use Rattle.plan_proof.proofs.machine.Running.{IsTaken, action_to, action_from, check_to, check_from}
use Rattle.plan_proof.proofs.machine.Methods.{method_to, method_from}

module _ (c : Compiled) (b : ℕ) (style : Style) (p : Pddl) (means : PiecesMean c b style p) (positive : 1 ≤ b) where
  abbrev N : Net
  N = network c

  abbrev first : Machine.SlotState N
  first = start N b (top_work c)

  -- the machine has come to t
  abbrev pub IsReached : Machine.SlotState N → Type 1
  IsReached t = (taken : List (Act N)) × Runs N first taken × (end_of N first taken ≡ t)

  pub reached_next : (t : Machine.SlotState N) (act : Act N) → IsReached t → May N t act → IsReached (Machine.after_act N t act)
  reached_next t act (taken, r, e) may = (taken ++ act ∷ [], runs_push N first taken act r (subst (λ z. May N z act) (sym e) may), end-push N first taken act ∙ ap (λ z. Machine.after_act N z act) e)

  -- no slot is held and free
  apart : (t : Machine.SlotState N) → IsReached t → (x : ℕ) (w : Work) → t.holds x w → t.free x → ⊥
  apart t (taken, r, e) = subst (λ (z : Machine.SlotState N). (x : ℕ) (w : Work) → z.holds x w → z.free x → ⊥) e at_end
    where
      at_end : (x : ℕ) (w : Work) → (end_of N first taken).holds x w → (end_of N first taken).free x → ⊥
      at_end x w h f =
          let (tree, order, slot, s) = (runs_iff_spells N means.lawful b (top_work c) positive taken).0 r in
          let m = matches_spelling N means.lawful b (top_work c) taken tree order slot s in
          let (q, is, k) = (m.holds x w).0 h in
          ((m.free x).0 f).2 q (w, is) k

  module _ (S : State) (t : Machine.SlotState N) (T : State) (r : Reads c b style p S t T) (reached : IsReached t) where
    pub act_to : (act : Act N) (a : ActionSchema) (os : List ℕ) → Applies c b style p S act a os → IsTaken c b style p means S t T r act a os
    act_to (run h (action n args)) a os k = action_to c b style p means S t T r h n args a os k.0 k.1
    act_to (run h (check n values)) a os k = check_to c b style p means S t T r h n values a os k.0 k.1
    act_to (run h (task n args)) a os k = absurd k.0
    act_to (apply h new g) a os k = method_to c b style p means S t T r h new g (apart t reached) a os k.0 k.1

    act_from : (act : Act N) → May N t act → Allows c T (label_of N act) → (a : ActionSchema) × (os : List ℕ) × Applies c b style p S act a os
    act_from (run h (action n args)) may al = action_from c b style p means S t T r h n args may al
    act_from (run h (check n values)) may al = check_from c b style p means S t T r h n values may al
    act_from (run h (task n args)) may al = absurd may.simple
    act_from (apply h new g) may al = method_from c b style p means S t T r h new g (apart t reached) may al

  -- P of the printed state is Q of what it reads as
  module _ (P : State → Type 0) (Q : Machine.SlotState N → State → Type 0) (ends : (S : State) (t : Machine.SlotState N) (T : State) → Reads c b style p S t T → P S ↔ Q t T) where
    abbrev Ends : Machine.SlotState N → State → List (Act N) → Type 0
    Ends t T acts = Runs N t acts × AreAllowed N State (Allows c) (next c) T (map (label_of N) acts) × Q (end_of N t acts) (last_state N State (Allows c) (next c) T (map (label_of N) acts))

    pub leads_iff : (acts : List (Act N)) (S : State) (t : Machine.SlotState N) (T : State) → Reads c b style p S t T → IsReached t → LeadsBy c b style p P S acts ↔ Ends t T acts
    leads_iff [] S t T r reached = let e = ends S t T r in (λ k. (tt, tt, e.0 k), λ k. e.1 k.2)
    leads_iff (act ∷ acts) S t T r reached = (
      λ k. (let (a, os, app, more) = k in
          let taken = act_to S t T r reached act a os app in
          let ih = leads_iff acts (after (InT c b style p) S a.eff os) (Machine.after_act N t act) (next c T (label_of N act)) taken.reads (reached_next t act reached taken.may) in
          let rest = ih.0 more in
          ((taken.may, rest.0), (taken.allows, rest.1), rest.2)),
      λ k. (let (runs, allowed, q) = k in
          let (a, os, app) = act_from S t T r reached act runs.0 allowed.0 in
          let taken = act_to S t T r reached act a os app in
          let ih = leads_iff acts (after (InT c b style p) S a.eff os) (Machine.after_act N t act) (next c T (label_of N act)) taken.reads (reached_next t act reached taken.may) in
          (a, os, app, ih.1 (runs.1, allowed.1, q))),
    )

  pub reached_first : IsReached first
  reached_first = ([], tt, refl)
