-- What the printed problem of a stack takes spells executable fronts with their cells, and its plans spell solutions.
-- Source: this project's.
use Rattle.std.proofs.Common.{ℕ, ◌≡◌, ◌≤◌, List, [], ◌∷◌, map, length, refl, ap, sym, subst, Contains, arith}
use Rattle.std.proofs.lemmas.List.{length-map}
use Rattle.plan_model.specs.declared.options.Checks.{Checks}
use Rattle.plan_model.specs.declared.types.Object.{Object}
use Rattle.plan_model.specs.declared.terms.GroundAtom.{GroundAtom}
use Rattle.plan_model.specs.declared.terms.Term.TheVariants.{Obj}
use Rattle.plan_model.specs.declared.steps.GroundAction.{GroundAction}
use Rattle.plan_model.specs.declared.values.Hddl.{Hddl}
use Rattle.plan_model.specs.declared.values.Compiled.{Compiled}
use Rattle.plan_model.specs.declared.values.Pddl.{Pddl}
use Rattle.plan_model.specs.task_networks.Net.{Net}
use Rattle.plan_model.specs.task_networks.Spelling.{Act, label_of}
use Rattle.plan_model.proofs.task_networks.ScheduleLaws.{prepared_is_lawful}
use Rattle.plan_model.specs.plan_meaning.Laws.{AreOrdered}
use Rattle.plan_model.specs.plan_meaning.Truth.{State, IsTrueIn, after}
use Rattle.plan_model.specs.plan_meaning.ClassicalPlan as Printed
use Rattle.plan_model.specs.plan_meaning.ClassicalPlan.{EndsIn, IsExecutable, IsPlan}
use Rattle.plan_model.specs.plan_meaning.Network.{network}
use Rattle.plan_model.specs.plan_meaning.Solution.{next, top_work, initial}
use Rattle.plan_model.proofs.plan_meaning.CompiledNetworks.{prepared}
use Rattle.plan_texts.specs.Declared.{named}
use Rattle.plan_texts.specs.SpellsPddl.{pddl_words}
use Rattle.plan_texts.specs.Printable.{IsSoundAtom}
use Rattle.plan_texts.specs.PrintableValue.{arities_of}
use Rattle.plan_texts.proofs.Members.{each-has, contains-has}
use Rattle.slot_encoding.specs.EncodedNames.{top_predicate}
use Rattle.slot_encoding.specs.EncodedValue.{atom}
use Rattle.slot_encoding.proofs.places.Guards.{guards_declare}
use Rattle.slot_encoding.proofs.places.Predicates.{predicates_differ}
use Rattle.plan_proof.specs.Headline.{SpellsExecutableFrontBy, SpellsSolutionBy}
use Rattle.plan_proof.specs.Faithful.{ExecutablesSpellFrontsBy, PlansSpellSolutionsBy}
use Rattle.plan_proof.proofs.machine.Fits.{fits}
use Rattle.stack_machine.specs.StackMachine.{StackState, first_stack, after_tip}
use Rattle.stack_encoding.specs.StackNames.{cell_object}
use Rattle.stack_encoding.specs.StackSpelling.{stack_step, IsStackSpelling}
use Rattle.stack_encoding.specs.StackPrinted.{IsPrintedStack}
use Rattle.stack_encoding.proofs.places.CellPlaces.{length-objects}
use Rattle.stack_encoding.proofs.places.StackTypes.{stack_sound, stack_compiled}
use Rattle.stack_encoding.proofs.places.StackWorded.{IsStackWorded, stack_well}
use Rattle.stack_proof.proofs.machine.StackReading.{Reads, LeadsBy}
use Rattle.stack_proof.proofs.machine.StackFacts.{StackPieces}
use Rattle.stack_proof.proofs.machine.TipRuns.{act_to}
use Rattle.stack_proof.proofs.machine.TipPlans.{acts_executable, acts_plans}
use Rattle.stack_proof.proofs.machine.KnownActs.{AreActs}
use Rattle.stack_proof.proofs.words.Lines.{line_of, network_is_total}
use Rattle.stack_proof.proofs.words.SourceMeanings.{source_agrees}
use Rattle.stack_proof.proofs.words.FirstGuards.{guard_atoms_agree}
use Rattle.stack_proof.proofs.words.FirstState.{first_reads}
use Rattle.stack_proof.proofs.words.StepWords.{to_act}
use Rattle.stack_proof.proofs.words.StepActs.{from_act, one_act}

module _ (h : Hddl) (mode : Checks) (c : Compiled) (b : ℕ) (p : Pddl) (is : IsStackWorded h mode c b p) where
  abbrev N : Net
  N = network c

  -- acts by the words of their steps
  pub one_list : (acts others : List (Act (network c))) → AreActs c b p acts → AreActs c b p others → map (stack_step c) acts ≡ map (stack_step c) others → acts ≡ others
  one_list [] [] x y e = refl
  one_list [] (a ∷ others) x y e = absurd cc
  one_list (a ∷ acts) [] x y e = absurd cc
  one_list (act ∷ acts) (other ∷ others) x y e =
      let ((a, os, r), xs) = x in
      let ((a', os', s), ys) = y in
      let f = (one_act h mode c b p is act other a a' os os' r s cc).0 in
      let g = one_list acts others xs ys cc in
      cc

  from_acts : (P : State → Type 0) (S : State) (acts : List (Act N)) → LeadsBy c b p P S acts → EndsIn p P S (map (stack_step c) acts)
  from_acts P S [] k = k
  from_acts P S (act ∷ acts) (a, os, app, more) = (a, os, from_act h mode c b p is S act a os app.0 app.1, from_acts P (after (Printed.InTypeOf p) S a.eff os) acts more)

  module _ (ordered : AreOrdered h) where
    -- the pieces of the printed problem mean what they should
    pub stack_pieces : StackPieces c b p
    stack_pieces = record {
      lawful = prepared_is_lawful (network c) (prepared h mode c ordered is.compiled);
      total = network_is_total h mode c ordered is.compiled is.ordered;
      lines = line_of h mode c is.compiled;
      encoded = is.encoded;
      fits = fits h mode c is.sound is.compiled;
      differ = predicates_differ c;
      source = source_agrees h mode c b p is;
      guards_declare = guards_declare mode c (stack_compiled h mode c b p is) (stack_sound h mode c b p is);
    }

    -- steps that lead on are those of acts that do
    to_acts : (P : State → Type 0) (S : State) (t : StackState N) (T : State) → Reads c b p S t T → (steps : List GroundAction) → EndsIn p P S steps → (acts : List (Act N)) × (steps ≡ map (stack_step c) acts) × LeadsBy c b p P S acts
    to_acts P S t T r [] k = ([], refl, k)
    to_acts P S t T r (step ∷ steps) (a, os, app, more) =
        let (act, e, by) = to_act h mode c b p is S t T r step a os app in
        let taken = act_to c b p stack_pieces S t T r act a os (by, app.condition) in
        let (acts, f, rest) = to_acts P (after (Printed.InTypeOf p) S a.eff os) (after_tip N t act) (next c T (label_of N act)) taken.reads steps more in
        (act ∷ acts, cc, (a, os, (by, app.condition), rest))

    module _ (positive : 1 ≤ b) where
      abbrev reads : Reads c b p (Contains p.init) (first_stack (network c) (top_work c)) (initial c)
      reads = first_reads c b p stack_pieces (guard_atoms_agree h mode c b p is) positive

      pub worded_executables : ExecutablesSpellFrontsBy IsStackSpelling c b p
      worded_executables steps = (to, from)
        where
          to : IsExecutable p steps → SpellsExecutableFrontBy IsStackSpelling c b steps
          to k =
              let (acts, e, l) = to_acts (λ S. Unit {0}) (Contains p.init) (first_stack N (top_work c)) (initial c) reads steps k in
              let (tree, order, cell, s, x) = (acts_executable c b p stack_pieces positive (Contains p.init) reads acts).0 l in
              (tree, order, cell, (acts, s, e), x)

          from : SpellsExecutableFrontBy IsStackSpelling c b steps → IsExecutable p steps
          from (tree, order, cell, (acts, s, e), x) =
              subst (IsExecutable p) (sym e) (from_acts (λ S. Unit {0}) (Contains p.init) acts ((acts_executable c b p stack_pieces positive (Contains p.init) reads acts).1 (tree, order, cell, s, x)))

      pub worded_plans : PlansSpellSolutionsBy IsStackSpelling c b p
      worded_plans steps = (to, from)
        where
          to : IsPlan p steps → SpellsSolutionBy IsStackSpelling c b steps
          to k =
              let (acts, e, l) = to_acts (λ S. IsTrueIn (Printed.InTypeOf p) S p.goal []) (Contains p.init) (first_stack N (top_work c)) (initial c) reads steps k in
              let (tree, order, cell, s, x) = (acts_plans c b p stack_pieces positive (Contains p.init) reads acts).0 l in
              (tree, order, cell, (acts, s, e), x)

          from : SpellsSolutionBy IsStackSpelling c b steps → IsPlan p steps
          from (tree, order, cell, (acts, s, e), x) =
              subst (IsPlan p) (sym e) (from_acts (λ S. IsTrueIn (Printed.InTypeOf p) S p.goal []) (Contains p.init) acts ((acts_plans c b p stack_pieces positive (Contains p.init) reads acts).1 (tree, order, cell, s, x)))

-- a printable problem has a cell above the lowest: cell 1 holds the top task at the beginning
pub some_cell : (h : Hddl) (mode : Checks) (c : Compiled) (b : ℕ) (p : Pddl) → IsPrintedStack h mode c b p → 1 ≤ b
some_cell h mode c b p is =
    let first : GroundAtom = atom (top_predicate c) (cell_object c 1) in
    let (guards, a, e) = is.encoded.init in
    let there : Contains p.init first = subst (λ z. Contains z first) (sym e) (0, omega arith, refl) in
    let s = each-has (λ (g : GroundAtom). IsSoundAtom (pddl_words p) (arities_of p) [] g.predicate (map Obj g.args)) p.init first is.printable.init (contains-has p.init first there) in
    let l = s.2.0 in
    let k = length-map p.objects (λ (x : Object). named p.names x.name) in
    let m = ap length is.encoded.objects in
    let n = length-objects c p.names b in
    omega arith

-- of a printed problem
module _ (h : Hddl) (mode : Checks) (c : Compiled) (b : ℕ) (p : Pddl) (ordered : AreOrdered h) (is : IsPrintedStack h mode c b p) where
  pub stack_executables : ExecutablesSpellFrontsBy IsStackSpelling c b p
  stack_executables = worded_executables h mode c b p (stack_well h mode c b p is) ordered (some_cell h mode c b p is)

  pub stack_plans : PlansSpellSolutionsBy IsStackSpelling c b p
  stack_plans = worded_plans h mode c b p (stack_well h mode c b p is) ordered (some_cell h mode c b p is)
