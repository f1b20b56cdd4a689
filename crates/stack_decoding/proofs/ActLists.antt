-- A front that is spelled with its cells is spelled by acts whose steps these are.
use Rattle.std.proofs.Common.{ℕ, ◌≡◌, List, [], ◌∷◌, ◌++◌, map, refl, ap, sym, subst, ◌∙◌}
use Rattle.plan_model.specs.declared.steps.GroundAction.{GroundAction}
use Rattle.plan_model.specs.declared.values.Compiled.{Compiled}
use Rattle.plan_model.specs.task_networks.Net.{Net}
use Rattle.plan_model.specs.task_networks.Lawful.{IsLawful}
use Rattle.plan_model.specs.task_networks.Tree.{Tree, Address}
use Rattle.plan_model.specs.task_networks.Spelling.{Act, run, apply, IsAct, AreActs, Spells}
use Rattle.plan_model.specs.plan_meaning.Truth.{State}
use Rattle.plan_model.specs.plan_meaning.Network.{network}
use Rattle.plan_model.specs.plan_meaning.Solution.{top_work, Allows, next}
use Rattle.plan_model.specs.plan_meaning.SpelledPlan.{step_of}
use Rattle.stack_machine.specs.Stack.{IsTotal}
use Rattle.stack_machine.specs.StackMachine.{SpellsCells}
use Rattle.stack_machine.proofs.StackPicks.{Pick, cells_iff_picked}
use Rattle.stack_encoding.specs.StackSpelling.{stack_step}
use Rattle.decoding.specs.FailingAct.{IsReading, AreRead}
use Rattle.decoding.proofs.ReadSteps.{Read as SlotRead, spellings_are_read}
use Rattle.decoding.proofs.SoundSteps.{words_apart_are_sound}
use Rattle.stack_decoding.specs.StackSteps.{HasCells, HasArguments, IsStepOf}
use Rattle.stack_decoding.specs.StackStepLaws.{HasStackWords}
use Rattle.stack_decoding.proofs.CellSteps.{arguments, formed, cells_within, step_once}

-- the acts of nodes are one list
module _ (N : Net) (tree : Tree N) (slot : Address → ℕ) where
  one_act : (p : Address) (a other : Act N) → IsAct N tree slot p a → IsAct N tree slot p other → a ≡ other
  one_act p (run h w) (run k v) (e, f) (e', f') = let x : w ≡ v = cc in let y = f ∙ sym f' in λ i. run (y i) (x i)
  one_act p (run h w) (apply k new m) (e, f) (e', f', g') = absurd cc
  one_act p (apply h new m) (run k v) (e, f, g) (e', f') = absurd cc
  one_act p (apply h new m) (apply k more n) (e, f, g) (e', f', g') =
      let x : m ≡ n = cc in
      let y = f ∙ sym f' in
      let z : new ≡ more = cc in
      λ i. apply (y i) (z i) (x i)

  one_list : (order : List Address) (acts other : List (Act N)) → AreActs N tree slot order acts → AreActs N tree slot order other → acts ≡ other
  one_list [] [] [] r q = refl
  one_list [] [] (o ∷ other) r q = absurd q
  one_list [] (a ∷ acts) other r q = absurd r
  one_list (p ∷ order) [] other r q = absurd r
  one_list (p ∷ order) (a ∷ acts) [] r q = absurd q
  one_list (p ∷ order) (a ∷ acts) (o ∷ other) r q = let e = one_act p a o r.0 q.0 in let f = one_list order acts other r.1 q.1 in λ i. e i ∷ f i

module _ (c : Compiled) (b : ℕ) (words : HasStackWords c b) (law : IsLawful (network c)) (total : IsTotal (network c)) where
  abbrev pub Read : List GroundAction → List (Act (network c)) → Type 0
  Read = AreRead (network c) State (Allows c) (next c) GroundAction (HasArguments c b) (IsStepOf c) b

  pub reading : IsReading (network c) State (Allows c) (next c) GroundAction (HasArguments c b) (IsStepOf c) b
  reading = record { named = arguments c b; formed = formed c b words total; one = step_once c b words total }

  pub steps_are : (steps : List GroundAction) (acts : List (Act (network c))) → Read steps acts → steps ≡ map (stack_step c) acts
  steps_are [] [] r = refl
  steps_are [] (a ∷ acts) r = absurd r
  steps_are (s ∷ steps) [] r = absurd r
  steps_are (s ∷ steps) (a ∷ acts) r = let e = r.0.is in let f = steps_are steps acts r.1 in λ i. e i ∷ f i

  has_cells : (steps : List GroundAction) (acts : List (Act (network c))) → Read steps acts → (taken rest : List (Act (network c))) (a : Act (network c)) → acts ≡ taken ++ a ∷ rest → HasCells c a
  has_cells [] [] r [] rest a e = absurd cc
  has_cells [] [] r (t ∷ taken) rest a e = absurd cc
  has_cells [] (d ∷ acts) r taken rest a e = absurd r
  has_cells (s ∷ steps) [] r taken rest a e = absurd r
  has_cells (s ∷ steps) (d ∷ acts) r [] rest a e = subst (HasCells c) (let f : d ≡ a = cc in f) r.0.cells
  has_cells (s ∷ steps) (d ∷ acts) r (t ∷ taken) rest a e = has_cells steps acts r.1 taken rest a cc

  picks : (taken : List (Act (network c))) (a : Act (network c)) → HasCells c a → Pick (network c) law total b (top_work c) taken a
  picks taken (run h w) r = tt
  picks taken (apply h new g) r = r

  picked : (taken : List (Act (network c))) (a : Act (network c)) → Pick (network c) law total b (top_work c) taken a → HasCells c a
  picked taken (run h w) r = tt
  picked taken (apply h new g) r = r

  -- with the cells of acts whose steps are read a front is spelled with its cells
  pub spells_cells : (steps : List GroundAction) (acts : List (Act (network c))) (tree : Tree (network c)) (order : List Address) (cell : Address → ℕ) → Read steps acts
      → Spells (network c) b (top_work c) acts tree order cell → SpellsCells (network c) b (top_work c) acts tree order cell
  spells_cells steps acts tree order cell r s = record {
    spells = s;
    cells = (cells_iff_picked (network c) law total b (top_work c) acts tree order cell s).0 (λ taken rest a e. picks taken a (has_cells steps acts r taken rest a e));
  }

  read_each : (acts : List (Act (network c))) → SlotRead c b (map (step_of c) acts) acts → ((taken rest : List (Act (network c))) (a : Act (network c)) → acts ≡ taken ++ a ∷ rest → HasCells c a)
      → Read (map (stack_step c) acts) acts
  read_each [] r h = tt
  read_each (a ∷ acts) r h = (
    record {
      params = r.0.params;
      has = r.0.has;
      typed = r.0.typed;
      own = r.0.formed.slot.0;
      within = cells_within c b words total a r.0.formed (h [] acts a refl);
      cells = h [] acts a refl;
      is = refl;
    },
    read_each acts r.1 (λ taken rest d e. h (a ∷ taken) rest d (ap (λ z. a ∷ z) e)),
  )

  -- and the steps of such a front are read
  pub read_of : (acts : List (Act (network c))) (tree : Tree (network c)) (order : List Address) (cell : Address → ℕ) → SpellsCells (network c) b (top_work c) acts tree order cell
      → Read (map (stack_step c) acts) acts
  read_of acts tree order cell sp =
      let sound = words_apart_are_sound c b words.few words.apart words.checks in
      let (other, r, s) = (spellings_are_read c b (map (step_of c) acts) tree order cell sound).0 (acts, sp.spells, refl) in
      let e = one_list (network c) tree cell order other acts s.spelled sp.spells.spelled in
      let all = (cells_iff_picked (network c) law total b (top_work c) acts tree order cell sp.spells).1 sp.cells in
      read_each acts (subst (SlotRead c b (map (step_of c) acts)) e r) (λ taken rest a f. picked taken a (all taken rest a f))

  pub read_once : (steps : List GroundAction) (acts other : List (Act (network c))) → Read steps acts → Read steps other → acts ≡ other
  read_once [] [] [] h k = refl
  read_once [] [] (o ∷ other) h k = absurd k
  read_once [] (a ∷ acts) other h k = absurd h
  read_once (s ∷ steps) [] other h k = absurd h
  read_once (s ∷ steps) (a ∷ acts) [] h k = absurd k
  read_once (s ∷ steps) (a ∷ acts) (o ∷ other) h k = let e = step_once c b words total s a o h.0 k.0 in let f = read_once steps acts other h.1 k.1 in λ i. e i ∷ f i
