use Rattle.std.proofs.Common.{ℕ, ◌≡◌, [], length, get_or}
use Rattle.plan_model.specs.task_networks.Tree.{Tree as DecompositionTree}
use Rattle.plan_model.specs.plan_meaning.Network.{network}
use Rattle.plan_model.specs.declared.values.Compiled.{Compiled}
use Rattle.tree_core.specs.Tables.{table}
use Rattle.tree_core.specs.Labels.{labels, labelled}
use Rattle.schedule_queue.proofs.Listing.{AreBelow}
use Rattle.schedule_queue.proofs.children.Children.of.Given as goal

abbrev pub invariant-loop-address : goal.invariant-loop-address
invariant-loop-address l = record {
  room : length l.by_parent.items ≡ l._address;
  none : (k : ℕ) → get_or l.by_parent.items k [] ≡ [];
}

abbrev pub invariant-loop-address-2 : goal.invariant-loop-address-2
invariant-loop-address-2 l = record {
  room : length l.by_parent.items ≡ length l.tree;
  lists : (c : Compiled) (T : DecompositionTree (network c)) → l.tree ≡ table labels (labelled c T) → (k : ℕ)
      → AreBelow (labelled c T) l.address k (get_or l.by_parent.items k []);
}
