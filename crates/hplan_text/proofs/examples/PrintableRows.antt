-- A plan that is printed and read back, and plans that aren't printable or not sound, by computation.
use Rattle.std.proofs.Common.{ℕ, ◌≡◌, inl, inr, [], ◌∷◌, codes, get_or, ap, refl, subst, lit<, arith}
use Rattle.plan_texts.specs.Types.{Has}
use Rattle.plan_texts.proofs.Members.{each-lacks}
use Rattle.hplan_text.specs.declared.values.HNode.{HNode}
use Rattle.hplan_text.specs.declared.values.HPlan.{HPlan}
use Rattle.hplan_text.specs.HPlanFaults.{Reaches, lists, leads}
use Rattle.hplan_text.specs.Reading.{IsHPlanRead}
use Rattle.hplan_text.specs.Printable.{IsPrintableWord, IsPrintableHPlan, task_ids, all_ids, IsSoundHPlan}
use Rattle.hplan_text.proofs.ReadBack.{read-back}
use Rattle.hplan_text.proofs.examples.HPlanRows.{printed}

abbrev only_node : HNode
only_node = record { line = record { id = 2; name = codes "t"; args = [] }; method = codes "m"; ids = 7 ∷ [] }

abbrev plan : HPlan
plan = record { primitives = record { id = 7; name = codes "go"; args = codes "a" ∷ [] } ∷ []; root = 2 ∷ []; nodes = only_node ∷ [] }

pub printable : IsPrintableHPlan plan
printable = record {
  primitives = (record { id = lit< tt; name = record { some = lit< tt; name = refl; lower = refl }; args = (record { some = lit< tt; name = refl; lower = refl }, tt) }, tt);
  root = (lit< tt, tt);
  nodes = (
    record {
      line = record { id = lit< tt; name = record { some = lit< tt; name = refl; lower = refl }; args = tt };
      method = record { some = lit< tt; name = refl; lower = refl };
      ids = (lit< tt, tt);
    },
    tt,
  );
}

reaches_root : Reaches plan 2
reaches_root = lists (inl refl)

reaches_leaf : Reaches plan 7
reaches_leaf = leads only_node (inl refl) reaches_root (inl refl)

pub sound : IsSoundHPlan plan
sound = record {
  own = (each-lacks (2 ∷ []) 7 ((λ e. omega (arith, e)), tt), (each-lacks [] 2 tt, tt));
  known = known;
  once = (each-lacks (7 ∷ []) 2 ((λ e. omega (arith, e)), tt), (each-lacks [] 7 tt, tt));
  reached = reached;
}
  where
    known : (n : ℕ) → Has (all_ids plan) n → Has (task_ids plan) n
    known n (inl e) = inr (inl e)
    known n (inr (inl e)) = inl e
    known n (inr (inr h)) = absurd h

    reached : (n : ℕ) → Has (task_ids plan) n → Reaches plan n
    reached n (inl e) = subst (Reaches plan) e reaches_leaf
    reached n (inr (inl e)) = subst (Reaches plan) e reaches_root
    reached n (inr (inr h)) = absurd h

pub back : IsHPlanRead (codes "==>\n7 go a\nroot 2\n2 t -> m 7\n<==\n") plan
back = subst (λ t. IsHPlanRead t plan) printed (read-back plan printable sound)

-- a task may be named `root`, and as a marker, but not as the arrow, and not in upper case
pub root_word : IsPrintableWord (codes "root")
root_word = record { some = lit< tt; name = refl; lower = refl }

pub marker_word : IsPrintableWord (codes "<==")
marker_word = record { some = lit< tt; name = refl; lower = refl }

pub arrow : IsPrintableWord (codes "->") → ⊥
arrow p = let e = p.name in cc

pub upper_case : IsPrintableWord (codes "Go") → ⊥
upper_case p = let e : 103 ≡ 71 = ap (λ w. get_or w 0 0) p.lower in omega (arith, e)

-- a task that the root doesn't reach
abbrev nothing_listed : HPlan
nothing_listed = record { primitives = record { id = 0; name = codes "a"; args = [] } ∷ []; root = []; nodes = [] }

none_reached : (n : ℕ) → Reaches nothing_listed n → ⊥
none_reached n (lists h) = h
none_reached n (leads x h r i) = h

pub unreached : IsSoundHPlan nothing_listed → ⊥
unreached s = none_reached 0 (s.reached 0 (inl refl))
