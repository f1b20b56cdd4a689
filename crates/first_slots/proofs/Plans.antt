-- What the plans of the problem with first-free slots are: the spellings of solutions with the lowest free slots, one for each schedule.
use Rattle.std.proofs.Common.{ℕ, ◌↔◌, ◌≤◌, List, [], map, refl, ap, sym, subst, ◌∙◌, Contains}
use Rattle.std.proofs.lemmas.List.Elements.{Contains-append_left}
use Rattle.plan_model.specs.declared.options.Checks.{Checks}
use Rattle.plan_model.specs.declared.options.Style.{Style}
use Rattle.plan_model.specs.declared.steps.GroundAction.{GroundAction}
use Rattle.plan_model.specs.declared.values.Compiled.{Compiled}
use Rattle.plan_model.specs.declared.values.Hddl.{Hddl}
use Rattle.plan_model.specs.declared.values.Pddl.{Pddl}
use Rattle.plan_model.specs.task_networks.Net.{Net}
use Rattle.plan_model.specs.task_networks.Lawful.{IsLawful}
use Rattle.plan_model.specs.task_networks.Tree.{Tree, Address}
use Rattle.plan_model.specs.task_networks.Spelling.{Act, Spells}
use Rattle.plan_model.proofs.task_networks.ScheduleLaws.{prepared_is_lawful}
use Rattle.plan_model.specs.plan_meaning.Truth.{State, IsTrueIn}
use Rattle.plan_model.specs.plan_meaning.ClassicalPlan as Printed
use Rattle.plan_model.specs.plan_meaning.ClassicalPlan.{IsExecutable, IsPlan}
use Rattle.plan_model.specs.plan_meaning.Compilation.{IsCompiled}
use Rattle.plan_model.specs.plan_meaning.Laws.{AreOrdered}
use Rattle.plan_model.specs.plan_meaning.Network.{network}
use Rattle.plan_model.specs.plan_meaning.Solution.{top_work, initial}
use Rattle.plan_model.specs.plan_meaning.SpelledPlan.{step_of}
use Rattle.plan_model.proofs.plan_meaning.CompiledNetworks.{prepared}
use Rattle.plan_texts.specs.PrintedTexts.{domain_text, problem_text}
use Rattle.slot_machine.specs.Machine.{SlotState, start}
use Rattle.slot_machine.specs.OtherMachine.{TakesAll}
use Rattle.slot_machine.proofs.RunSpellings.{runs_iff_spells}
use Rattle.schedules.specs.ruled.LowestSlots.{AreLowest, LowestRule}
use Rattle.schedules.specs.ruled.SlotRule.{PicksBy}
use Rattle.schedules.proofs.ruled.FirstFree.{ruled_runs_are_picked, lowest_picked, lowest_exactly_where_within, one_lowest_list}
use Rattle.schedules.proofs.ruled.LowestRule.{lowest_sees_free}
use Rattle.slot_encoding.specs.EncodedNames.{top_predicate, first_slot, encoded_objects}
use Rattle.slot_encoding.specs.EncodedValue.{atom}
use Rattle.slot_encoding.specs.FirstFree.{less_facts}
use Rattle.slot_encoding.specs.Printed.{IsPrintedFirst}
use Rattle.slot_encoding.proofs.first_free.FirstValue.{first_of}
use Rattle.slot_encoding.proofs.places.WellWorded.{IsWellWorded}
use Rattle.plan_proof.specs.Faithful.{SpellingsAreWithinBy, FrontsWithinAreSpelledBy, IsFaithfulValue, IsFaithfulValueBy}
use Rattle.plan_proof.specs.Headline.{SpellingForm, SpellsExecutableFrontBy, SpellsSolutionBy, SpellsOneBy, IsFaithfulBy, EachHasOneSpelling, EachHasOnePlan}
use Rattle.plan_proof.proofs.machine.Facts.{PiecesMean}
use Rattle.plan_proof.proofs.machine.FirstSlot.{slot_of_first, first_there}
use Rattle.plan_proof.proofs.machine.Plans.{acts_executable, acts_plans}
use Rattle.plan_proof.proofs.machine.PrintedMeans.{worded_means, worded_faithful, faithful_texts}
use Rattle.plan_proof.proofs.machine.Reading.{Reads}
use Rattle.plan_proof.proofs.machine.Runs.{reached_first}
use Rattle.first_slots.specs.LowestSpelling.{IsLowestSpelling}
use Rattle.first_slots.proofs.Less.{start_tells, first_reads}
use Rattle.first_slots.proofs.Plain.{plain_well}
use Rattle.first_slots.proofs.Steps.{AreRuled, ruled_runs, runs_ruled, steps_to, steps_from}

module _ (h : Hddl) (mode : Checks) (c : Compiled) (ordered : AreOrdered h) (compiled : IsCompiled h mode c) where
  law : IsLawful (network c)
  law = prepared_is_lawful (network c) (prepared h mode c ordered compiled)

  -- a schedule has one list of lowest slots at most
  pub one_spelling : (b : ℕ) → EachHasOneSpelling IsLowestSpelling c b
  one_spelling b tree order steps others slot slot' one other =
      let (acts, s, e) = one.spelling in
      let (acts', s', e') = other.spelling in
      let same = (one_lowest_list (network c) law b (top_work c) tree order acts acts' slot slot' (record { spells = s; lowest = one.lowest }) (record { spells = s'; lowest = other.lowest })).0 in
      e' ∙ ap (map (step_of c)) (sym same) ∙ sym e

-- where a form of spelling has one list for each schedule, faithful texts have one plan for each
pub one_plan : (Spelling : SpellingForm) (c : Compiled) (b : ℕ) (domain problem : List ℕ) → IsFaithfulBy Spelling c b domain problem → EachHasOneSpelling Spelling c b → EachHasOnePlan Spelling c b domain problem
one_plan Spelling c b domain problem f one tree order solution w =
    let (steps, slot, s) = f.spelled tree order solution.finished.front w in
    (steps, slot, s, (f.plans steps).1 (tree, order, slot, s, solution), λ others slot' k. one tree order steps others slot slot' s k)

-- the acts that are ruled all along are those of fronts with the lowest slots
module _ (c : Compiled) (law : IsLawful (network c)) (b : ℕ) (positive : 1 ≤ b) (acts : List (Act (network c))) (tree : Tree (network c)) (order : List Address) (slot : Address → ℕ) (s : Spells (network c) b (top_work c) acts tree order slot) where
  abbrev Picked : Type 0
  Picked = TakesAll (network c) (PicksBy (network c) (LowestRule (network c)) b (top_work c)) acts

  pub to_lowest : AreRuled c (start (network c) b (top_work c)) acts → AreLowest (network c) tree slot order
  to_lowest k =
      let runs = (runs_iff_spells (network c) law b (top_work c) positive acts).1 (tree, order, slot, s) in
      let (t, o, f, picked) = (ruled_runs_are_picked (network c) law (LowestRule (network c)) (lowest_sees_free (network c)) b (top_work c) acts positive).0 (ruled_runs c (start (network c) b (top_work c)) acts runs k) in
      (lowest_picked (network c) law b (top_work c) acts tree order slot s).0 picked.picked

  pub from_lowest : AreLowest (network c) tree slot order → AreRuled c (start (network c) b (top_work c)) acts
  from_lowest k =
      let picked : Picked = (lowest_picked (network c) law b (top_work c) acts tree order slot s).1 k in
      runs_ruled c (start (network c) b (top_work c)) acts ((ruled_runs_are_picked (network c) law (LowestRule (network c)) (lowest_sees_free (network c)) b (top_work c) acts positive).1 (tree, order, slot, record { spells = s; picked = picked }))

module _ (h : Hddl) (mode : Checks) (c : Compiled) (b : ℕ) (style : Style) (q : Pddl) (ordered : AreOrdered h) (well : IsWellWorded h mode c b style q) (positive : 1 ≤ b) where
  abbrev N : Net
  N = network c

  abbrev p : Pddl
  p = first_of c b style q

  abbrev means : PiecesMean c b style q
  means = worded_means h mode c b style q ordered well

  abbrev first : State
  first = Contains (first_of c b style q).init

  abbrev begin : SlotState N
  begin = start N b (top_work c)

  reads : Reads c b style q first begin (initial c)
  reads = first_reads c b style q means positive

  executable : (steps : List GroundAction) → IsExecutable p steps ↔ SpellsExecutableFrontBy IsLowestSpelling c b steps
  executable steps = (to, from)
    where
      to : IsExecutable p steps → SpellsExecutableFrontBy IsLowestSpelling c b steps
      to k =
          let (acts, e, leads, ruled) = steps_to h mode c b style q ordered well positive (λ S. Unit {0}) steps first begin (initial c) reads (reached_first c b style q means positive) (start_tells c b style q means) k in
          let (tree, order, slot, s, x) = (acts_executable c b style q means positive first reads acts).0 leads in
          (tree, order, slot, record { spelling = (acts, s, e); lowest = to_lowest c means.lawful b positive acts tree order slot s ruled }, x)

      from : SpellsExecutableFrontBy IsLowestSpelling c b steps → IsExecutable p steps
      from (tree, order, slot, spells, x) =
          let (acts, s, e) = spells.spelling in
          let leads = (acts_executable c b style q means positive first reads acts).1 (tree, order, slot, s, x) in
          subst (IsExecutable p) (sym e)
          (steps_from h mode c b style q ordered well positive (λ S. Unit {0}) acts first begin (initial c) reads (reached_first c b style q means positive) (start_tells c b style q means) leads (from_lowest c means.lawful b positive acts tree order slot s spells.lowest))

  abbrev Goal : State → Type 0
  Goal S = IsTrueIn (Printed.InTypeOf q) S q.goal []

  plans : (steps : List GroundAction) → IsPlan p steps ↔ SpellsSolutionBy IsLowestSpelling c b steps
  plans steps = (to, from)
    where
      to : IsPlan p steps → SpellsSolutionBy IsLowestSpelling c b steps
      to k =
          let (acts, e, leads, ruled) = steps_to h mode c b style q ordered well positive (λ S. Goal S) steps first begin (initial c) reads (reached_first c b style q means positive) (start_tells c b style q means) k in
          let (tree, order, slot, s, x) = (acts_plans c b style q means positive first reads acts).0 leads in
          (tree, order, slot, record { spelling = (acts, s, e); lowest = to_lowest c means.lawful b positive acts tree order slot s ruled }, x)

      from : SpellsSolutionBy IsLowestSpelling c b steps → IsPlan p steps
      from (tree, order, slot, spells, x) =
          let (acts, s, e) = spells.spelling in
          let leads = (acts_plans c b style q means positive first reads acts).1 (tree, order, slot, s, x) in
          subst (IsPlan p) (sym e)
          (steps_from h mode c b style q ordered well positive (λ S. Goal S) acts first begin (initial c) reads (reached_first c b style q means positive) (start_tells c b style q means) leads (from_lowest c means.lawful b positive acts tree order slot s spells.lowest))

  plain : IsFaithfulValue c b q
  plain = worded_faithful h mode c b style q ordered well positive

  only_one : (steps : List GroundAction) → SpellsOneBy IsLowestSpelling c b steps
  only_one steps tree tree' order order' slot slot' s s' = plain.only_one steps tree tree' order order' slot slot' s.spelling s'.spelling

  within : SpellingsAreWithinBy IsLowestSpelling c b
  within steps tree order slot s = plain.within steps tree order slot s.spelling

  spelled : FrontsWithinAreSpelledBy IsLowestSpelling c b
  spelled tree order front w =
      let (acts, slot, s) = (lowest_exactly_where_within N means.lawful b (top_work c) tree order front).0 w in
      (map (step_of c) acts, slot, record { spelling = (acts, s.spells, refl); lowest = s.lowest })

  pub narrowed_faithful : IsFaithfulValueBy IsLowestSpelling c b p
  narrowed_faithful = record { executable = executable; plans = plans; only_one = only_one; within = within; spelled = spelled }

-- of what is printed with first-free slots
module _ (h : Hddl) (mode : Checks) (c : Compiled) (b : ℕ) (style : Style) (p : Pddl) (ordered : AreOrdered h) (is : IsPrintedFirst h mode c b style p) where
  pub some_slot : 1 ≤ b
  some_slot = slot_of_first c b p is.printable (ap (λ (z : Pddl). z.objects) is.encoded.value_is ∙ is.encoded.encoded.objects ∙ ap (λ (z : Pddl). encoded_objects c z.names b) (sym is.encoded.value_is)) there
    where
      there : Contains p.init (atom (top_predicate c) (first_slot c))
      there = subst (λ (z : Pddl). Contains z.init (atom (top_predicate c) (first_slot c))) (sym is.encoded.value_is)
          (Contains-append_left is.encoded.plain.init (less_facts c is.encoded.plain.names b style) (atom (top_predicate c) (first_slot c)) (first_there c b style is.encoded.plain is.encoded.encoded))

  pub first_faithful : IsFaithfulValueBy IsLowestSpelling c b p
  first_faithful = subst (IsFaithfulValueBy IsLowestSpelling c b) (sym is.encoded.value_is) (narrowed_faithful h mode c b style is.encoded.plain ordered (plain_well h mode c b style p is) some_slot)

  pub first_texts : IsFaithfulBy IsLowestSpelling c b (domain_text p) (problem_text p)
  first_texts = faithful_texts IsLowestSpelling c b p is.printable first_faithful
