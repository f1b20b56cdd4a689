-- The ids that a sound plan lists are those of its lines.
use Rattle.std.proofs.Common.{ℕ, ◌≡◌, List, [], ◌∷◌, sym, subst}
use Rattle.plan_texts.specs.Types.{Has, EachIs}
use Rattle.plan_texts.proofs.Members.{contains-has}
use Rattle.plan_texts.proofs.SoundProblems.{each-of}
use Rattle.hplan_text.specs.declared.values.HNode.{HNode}
use Rattle.hplan_text.specs.declared.values.HPlan.{HPlan}
use Rattle.hplan_text.specs.Printable.{IsSoundHPlan, task_ids, listed_by}
use Rattle.hplan_text.proofs.LeastFound.{has-left, has-right}

each_listed : (P : ℕ → Type 0) (nodes : List HNode) → ((n : ℕ) → Has (listed_by nodes) n → P n)
    → EachIs (λ (node : HNode). EachIs P node.ids) nodes
each_listed P [] h = tt
each_listed P (node ∷ nodes) h = (
  each-of P node.ids (λ n i. h n (has-left node.ids (listed_by nodes) n (contains-has node.ids n i))),
  each_listed P nodes (λ n i. h n (has-right node.ids (listed_by nodes) n i)),
)

module _ (plan : HPlan) (sound : IsSoundHPlan plan) (ids : List ℕ) (are : ids ≡ task_ids plan) where
  pub root_known : EachIs (Has ids) plan.root
  root_known = each-of (Has ids) plan.root
      (λ n h. subst (λ (z : List ℕ). Has z n) (sym are)
      (sound.known n (has-left plan.root (listed_by plan.nodes) n (contains-has plan.root n h))))

  pub nodes_known : EachIs (λ (node : HNode). EachIs (Has ids) node.ids) plan.nodes
  nodes_known = each_listed (Has ids) plan.nodes
      (λ n h. subst (λ (z : List ℕ). Has z n) (sym are) (sound.known n (has-right plan.root (listed_by plan.nodes) n h)))
