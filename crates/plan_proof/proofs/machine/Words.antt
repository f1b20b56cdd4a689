-- From acts to the words of steps: what the printed problem is to the compiled one.
use Rattle.std.proofs.Common.{ℕ, ◌≡◌, ◌↔◌, ◌≤◌, List, [], ◌∷◌, map, refl, sym, subst, ◌∙◌, Contains}
use Rattle.plan_model.specs.declared.options.Style.{Style}
use Rattle.plan_model.specs.declared.steps.GroundAction.{GroundAction}
use Rattle.plan_model.specs.declared.values.Compiled.{Compiled}
use Rattle.plan_model.specs.declared.values.Pddl.{Pddl}
use Rattle.plan_model.specs.task_networks.Net.{Net}
use Rattle.plan_model.specs.task_networks.Spelling.{Act, Spells}
use Rattle.slot_machine.proofs.RunSpellings.{runs_iff_spells}
use Rattle.slot_machine.proofs.Theorem.{few_pending_have_spellings, front_is_the_only_one}
use Rattle.plan_model.specs.plan_meaning.Truth.{State, IsTrueIn, after}
use Rattle.plan_model.specs.plan_meaning.ClassicalPlan as Printed
use Rattle.plan_model.specs.plan_meaning.ClassicalPlan.{EndsIn, IsExecutable, IsPlan}
use Rattle.plan_model.specs.plan_meaning.Network.{network}
use Rattle.plan_model.specs.plan_meaning.Solution.{top_work}
use Rattle.plan_model.specs.plan_meaning.SpelledPlan.{step_of}
use Rattle.plan_proof.specs.Headline.{SpellsExecutableFront, SpellsSolution, SpellsOne}
use Rattle.slot_encoding.proofs.Pieces.{StepsAreActs}
use Rattle.plan_proof.proofs.machine.Reading.{LeadsBy}
use Rattle.plan_proof.specs.Faithful.{SpellingsAreWithin, FrontsWithinAreSpelled, IsFaithfulValue}
use Rattle.plan_proof.proofs.machine.Facts.{PiecesMean}
use Rattle.plan_proof.proofs.machine.KnownActs.{AreActs, acts_are}
use Rattle.plan_proof.proofs.machine.Starts.{start_reads}
use Rattle.plan_proof.proofs.machine.Plans.{acts_executable, acts_plans}

module _ (c : Compiled) (b : ℕ) (style : Style) (p : Pddl) (words : StepsAreActs c b style p) where
  abbrev N : Net
  N = network c

  -- steps that lead on are those of acts that do
  to_acts : (P : State → Type 0) (S : State) (steps : List GroundAction) → EndsIn p P S steps → (acts : List (Act N)) × (steps ≡ map (step_of c) acts) × LeadsBy c b style p P S acts
  to_acts P S [] k = ([], refl, k)
  to_acts P S (step ∷ steps) (a, os, app, more) =
      let (act, e, is) = words.to_act S step a os app in
      let (acts, f, rest) = to_acts P (after (Printed.InTypeOf p) S a.eff os) steps more in
      (act ∷ acts, cc, (a, os, (is, app.condition), rest))

  from_acts : (P : State → Type 0) (S : State) (acts : List (Act N)) → LeadsBy c b style p P S acts → EndsIn p P S (map (step_of c) acts)
  from_acts P S [] k = k
  from_acts P S (act ∷ acts) (a, os, app, more) = (a, os, words.from_act S act a os app.0 app.1, from_acts P (after (Printed.InTypeOf p) S a.eff os) acts more)

  -- acts by the words of their steps
  one_list : (acts others : List (Act N)) → AreActs c b style p acts → AreActs c b style p others → map (step_of c) acts ≡ map (step_of c) others → acts ≡ others
  one_list [] [] x y e = refl
  one_list [] (a ∷ others) x y e = absurd cc
  one_list (a ∷ acts) [] x y e = absurd cc
  one_list (act ∷ acts) (other ∷ others) x y e =
      let ((a, os, is), xs) = x in
      let ((a', os', is'), ys) = y in
      let f = (words.one_act act other a a' os os' is is' cc).0 in
      let g = one_list acts others xs ys cc in
      cc

module _ (c : Compiled) (b : ℕ) (style : Style) (p : Pddl) (means : PiecesMean c b style p) (words : StepsAreActs c b style p) (positive : 1 ≤ b) where
  executable : (steps : List GroundAction) → IsExecutable p steps ↔ SpellsExecutableFront c b steps
  executable steps = (to, from)
    where
      to : IsExecutable p steps → SpellsExecutableFront c b steps
      to k =
          let (acts, e, l) = to_acts c b style p words (λ S. Unit {0}) (Contains p.init) steps k in
          let (tree, order, slot, s, x) = (acts_executable c b style p means positive (Contains p.init) (start_reads c b style p means positive) acts).0 l in
          (tree, order, slot, (acts, s, e), x)

      from : SpellsExecutableFront c b steps → IsExecutable p steps
      from (tree, order, slot, (acts, s, e), x) =
          subst (IsExecutable p) (sym e) (from_acts c b style p words (λ S. Unit {0}) (Contains p.init) acts ((acts_executable c b style p means positive (Contains p.init) (start_reads c b style p means positive) acts).1 (tree, order, slot, s, x)))

  plans : (steps : List GroundAction) → IsPlan p steps ↔ SpellsSolution c b steps
  plans steps = (to, from)
    where
      to : IsPlan p steps → SpellsSolution c b steps
      to k =
          let (acts, e, l) = to_acts c b style p words (λ S. IsTrueIn (Printed.InTypeOf p) S p.goal []) (Contains p.init) steps k in
          let (tree, order, slot, s, x) = (acts_plans c b style p means positive (Contains p.init) (start_reads c b style p means positive) acts).0 l in
          (tree, order, slot, (acts, s, e), x)

      from : SpellsSolution c b steps → IsPlan p steps
      from (tree, order, slot, (acts, s, e), x) =
          subst (IsPlan p) (sym e) (from_acts c b style p words (λ S. IsTrueIn (Printed.InTypeOf p) S p.goal []) (Contains p.init) acts ((acts_plans c b style p means positive (Contains p.init) (start_reads c b style p means positive) acts).1 (tree, order, slot, s, x)))

  only_one : (steps : List GroundAction) → SpellsOne c b steps
  only_one steps tree tree' order order' slot slot' (acts, s, e) (acts', s', e') =
      let are = acts_are c b style p means positive acts ((runs_iff_spells (network c) means.lawful b (top_work c) positive acts).1 (tree, order, slot, s)) in
      let are' = acts_are c b style p means positive acts' ((runs_iff_spells (network c) means.lawful b (top_work c) positive acts').1 (tree', order', slot', s')) in
      let f = one_list c b style p words acts' acts are' are (sym e' ∙ e) in
      front_is_the_only_one (network c) means.lawful b (top_work c) acts tree order slot tree' order' slot' s (subst (λ z. Spells (network c) b (top_work c) z tree' order' slot') f s')

  within : SpellingsAreWithin c b
  within steps tree order slot (acts, s, e) = (few_pending_have_spellings (network c) means.lawful b (top_work c) tree order s.front).1 (acts, slot, s)

  spelled : FrontsWithinAreSpelled c b
  spelled tree order front w =
      let (acts, slot, s) = (few_pending_have_spellings (network c) means.lawful b (top_work c) tree order front).0 w in
      (map (step_of c) acts, slot, (acts, s, refl))

  pub faithful_value : IsFaithfulValue c b p
  faithful_value = record { executable = executable; plans = plans; only_one = only_one; within = within; spelled = spelled }
