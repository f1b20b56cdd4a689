-- Lists of steps spell one front with its cells, and each tree with few pending is spelled by one list.
use Rattle.std.proofs.Common.{ℕ, ◌≤◌, List, map, refl, ap, sym, subst, ◌∙◌}
use Rattle.plan_model.specs.declared.options.Checks.{Checks}
use Rattle.plan_model.specs.declared.values.Compiled.{Compiled}
use Rattle.plan_model.specs.declared.values.Hddl.{Hddl}
use Rattle.plan_model.specs.declared.values.Pddl.{Pddl}
use Rattle.plan_model.specs.task_networks.Lawful.{IsLawful}
use Rattle.plan_model.specs.task_networks.Net.{Net}
use Rattle.plan_model.specs.task_networks.Spelling.{Act, Spells}
use Rattle.plan_model.specs.task_networks.Tree.{Tree, Address}
use Rattle.plan_model.specs.plan_meaning.Compilation.{IsCompiled}
use Rattle.plan_model.specs.plan_meaning.Laws.{AreOrdered}
use Rattle.plan_model.specs.plan_meaning.Network.{network}
use Rattle.plan_model.specs.plan_meaning.Solution.{top_work}
use Rattle.plan_model.proofs.plan_meaning.CompiledNetworks.{prepared}
use Rattle.plan_model.proofs.task_networks.ScheduleLaws.{prepared_is_lawful}
use Rattle.slot_machine.proofs.Theorem.{few_pending_have_spellings, front_is_the_only_one}
use Rattle.plan_proof.specs.Faithful.{SpellingsAreWithinBy, FrontsWithinAreSpelledBy, EachSpellsOneBy}
use Rattle.plan_proof.specs.Headline.{EachHasOneSpelling}
use Rattle.stack_machine.specs.Stack.{IsTotal}
use Rattle.stack_machine.specs.StackMachine.{SpellsCells}
use Rattle.stack_machine.proofs.StackPlans.{cells_exactly_where_within, one_cells_list, stack_runs_are_cells}
use Rattle.stack_encoding.specs.StackPrinted.{IsPrintedStack}
use Rattle.stack_encoding.specs.StackSpelling.{stack_step, IsStackSpelling}
use Rattle.stack_encoding.specs.TotalOrder.{IsTotallyOrdered}
use Rattle.stack_encoding.proofs.places.StackWorded.{stack_well}
use Rattle.stack_proof.specs.OneTree.{EachTreeHasOneSpelling}
use Rattle.stack_proof.proofs.machine.KnownActs.{AreActs, acts_are}
use Rattle.stack_proof.proofs.words.Lines.{network_is_total}
use Rattle.stack_proof.proofs.words.StackPlans.{one_list, some_cell, stack_pieces}

module _ (h : Hddl) (mode : Checks) (c : Compiled) (ordered : AreOrdered h) (compiled : IsCompiled h mode c) (is_total : IsTotallyOrdered c) (b : ℕ) where
  abbrev N : Net
  N = network c

  law : IsLawful (network c)
  law = prepared_is_lawful (network c) (prepared h mode c ordered compiled)

  total : IsTotal (network c)
  total = network_is_total h mode c ordered compiled is_total

  pub within : SpellingsAreWithinBy IsStackSpelling c b
  within steps tree order cell (acts, s, e) = (few_pending_have_spellings N law b (top_work c) tree order s.spells.front).1 (acts, cell, s.spells)

  pub spelled : FrontsWithinAreSpelledBy IsStackSpelling c b
  spelled tree order front w =
      let (acts, cell, s) = (cells_exactly_where_within N law total b (top_work c) tree order front).0 w in
      (map (stack_step c) acts, cell, (acts, s, refl))

  -- a tree has one list at most, in one order
  pub one_for_tree : EachTreeHasOneSpelling IsStackSpelling c b
  one_for_tree tree order order' steps others cell cell' (acts, s, e) (acts', s', e') =
      let (f, g) = one_cells_list N law total b (top_work c) tree order order' acts acts' cell cell' s s' in
      (e' ∙ ap (map (stack_step c)) (sym f) ∙ sym e, sym g)

  pub one_for_order : EachHasOneSpelling IsStackSpelling c b
  one_for_order tree order steps others cell cell' s s' = (one_for_tree tree order order steps others cell cell' s s').0

module _ (h : Hddl) (mode : Checks) (c : Compiled) (b : ℕ) (p : Pddl) (ordered : AreOrdered h) (is : IsPrintedStack h mode c b p) where
  -- the acts are those of printed actions
  known : (acts : List (Act (network c))) (tree : Tree (network c)) (order : List Address) (cell : Address → ℕ) → SpellsCells (network c) b (top_work c) acts tree order cell → AreActs c b p acts
  known acts tree order cell s =
      let some : 1 ≤ b = some_cell h mode c b p is in
      acts_are c b p (stack_pieces h mode c b p (stack_well h mode c b p is) ordered) some acts
      ((stack_runs_are_cells (network c) (law h mode c ordered is.compiled is.ordered b) (total h mode c ordered is.compiled is.ordered b) b (top_work c) acts some).1 (tree, order, cell, s))

  pub only_one : EachSpellsOneBy IsStackSpelling c b
  only_one steps tree tree' order order' cell cell' (acts, s, e) (acts', s', e') =
      let f = one_list h mode c b p (stack_well h mode c b p is) acts' acts (known acts' tree' order' cell' s') (known acts tree order cell s) (sym e' ∙ e) in
      front_is_the_only_one (network c) (law h mode c ordered is.compiled is.ordered b) b (top_work c) acts tree order cell tree' order' cell' s.spells (subst (λ z. Spells (network c) b (top_work c) z tree' order' cell') f s'.spells)
