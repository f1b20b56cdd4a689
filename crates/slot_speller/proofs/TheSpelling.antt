-- The greatest of the lowest slots is the width, and the steps spell the tree with them.
use Rattle.std.proofs.Common.{ℕ, ◌≡◌, ◌≤◌, List, map, Some, slice_get, slice_index, ap, sym, subst, ◌∙◌, arith}
use Rattle.plan_model.specs.declared.values.Compiled.{Compiled}
use Rattle.plan_model.specs.task_networks.Lawful.{IsLawful}
use Rattle.plan_model.specs.task_networks.Tree.{Tree, Address, IsAddress}
use Rattle.plan_model.specs.task_networks.Preorder.{preorder}
use Rattle.plan_model.specs.task_networks.Schedule.{IsBegun}
use Rattle.plan_model.specs.task_networks.Pending.{IsWidth}
use Rattle.plan_model.specs.task_networks.Spelling.{Act}
use Rattle.plan_model.specs.plan_meaning.Network.{network}
use Rattle.plan_model.specs.plan_meaning.Solution.{top_work}
use Rattle.plan_model.specs.plan_meaning.SpelledPlan.{step_of}
use Rattle.plan_model.proofs.plan_meaning.CompiledNetworks.{prepared}
use Rattle.plan_model.proofs.task_networks.ScheduleLaws.{prepared_is_lawful}
use Rattle.plan_texts.specs.SoundlyCompiled.{IsSoundlyCompiled}
use Rattle.schedules.specs.ruled.FirstFreeLaws.{SpellsLowest}
use Rattle.schedules.proofs.ruled.FirstFree.{lowest_exactly_where_within}
use Rattle.tree_core.specs.declared.growth.Scheduled.{Scheduled}
use Rattle.tree_core.specs.Tables.{Row}
use Rattle.tree_core.specs.Labels.{labels}
use Rattle.tree_core.proofs.Siblings.{node_address}
use Rattle.slot_speller.specs.declared.slots.Slots.{Slots}
use Rattle.slot_speller.specs.Slots.{IsSetting, IsKept, AreSlotsOf}
use Rattle.slot_speller.specs.Steps.{step_at}
use Rattle.slot_speller.specs.Spelled.{IsFinishedRun, IsWidthOf, IsSpelled}
use Rattle.slot_speller.proofs.Widths.{width_exists, greatest_is_width}
use Rattle.slot_speller.proofs.Keeping.{all_begun}
use Rattle.slot_speller.proofs.StepLaws.{steps_are}

module _ (c : Compiled) (sound : IsSoundlyCompiled c) (run : Scheduled) (slots : Slots) (are : AreSlotsOf c run slots) where
  law : IsLawful (network c)
  law = prepared_is_lawful (network c) (prepared sound.problem sound.checks c sound.ordered sound.compiled)

  module _ (tree : Tree (network c)) (order : List Address) (r : IsFinishedRun c run tree order) where
    found : (w : ℕ) × IsWidth (network c) w tree order
    found = width_exists (network c) tree order

    low : (acts : List (Act (network c))) × (slot : Address → ℕ) × SpellsLowest (network c) found.0 (top_work c) acts tree order slot
    low = (lowest_exactly_where_within (network c) law found.0 (top_work c) tree order r.finished.front).0 found.1.within

    setting : IsSetting c run.tree tree order low.1
    setting = record { lawful = law; rows_are = r.stands.rows; b = found.0; acts = low.0; lowest = low.2 }

    kept : IsKept (network c) tree low.1 order slots
    kept = are.keeps tree order low.1 r.stands setting

    begun : (p : Address) → IsAddress (network c) tree p → IsBegun order p
    begun p a = all_begun (network c) law found.0 (top_work c) low.0 tree order low.1 low.2 p a

    within : (p : Address) → IsAddress (network c) tree p → low.1 p ≤ slots.free.greatest
    within p a = kept.within p a (begun p a)

    width_is : IsWidth (network c) slots.free.greatest tree order
    width_is = greatest_is_width (network c) tree found.0
        (top_work c) low.0 order low.1 low.2.spells found.1 slots.free.greatest within kept.widest.0 kept.widest.1 kept.widest.2

    -- with more slots the same acts spell it
    with_more : (n : ℕ) → slots.free.greatest ≤ n → SpellsLowest (network c) n (top_work c) low.0 tree order low.1
    with_more n l = record {
      spells = record {
        front = low.2.spells.front;
        root = low.2.spells.root;
        range = λ p a. ((low.2.spells.range p a).0, (let m = within p a in omega arith));
        heirs = low.2.spells.heirs;
        apart = low.2.spells.apart;
        spelled = low.2.spells.spelled;
      };
      lowest = low.2.lowest;
    }

    known : (k : ℕ) (p : Address) → slice_get (preorder (network c) tree) k ≡ Some p → slice_index slots.by_node.items k ≡ low.1 p
    known k p e = kept.known k p e (begun p (node_address (network c) tree k p e))

    steps_spell : map (step_at c run.tree slots.by_node.items) run.order ≡ map (step_of c) low.0
    steps_spell =
        ap (λ (rows : List (Row labels)). map (step_at c rows slots.by_node.items) run.order) r.stands.rows
        ∙ steps_are c law tree low.2.spells.front.grown low.1 slots.by_node.items known run.order order low.0 r.stands.places
        low.2.spells.spelled

  pub is_width : (w : ℕ) → w ≡ slots.free.greatest → IsWidthOf c run w
  is_width w e tree order r = subst (λ z. IsWidth (network c) z tree order) (sym e) (width_is tree order r)

  pub is_spelled : (n : ℕ) → slots.free.greatest ≤ n
      → IsSpelled c run n slots.free.greatest (map (step_at c run.tree slots.by_node.items) run.order)
  is_spelled n l tree order r = record {
    width_is = width_is tree order r;
    within = l;
    acts = (low tree order r).0;
    slot = (low tree order r).1;
    lowest = with_more tree order r n l;
    steps_are = steps_spell tree order r;
  }
