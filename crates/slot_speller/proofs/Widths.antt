-- Each order has a width, and where it is spelled with slots, of which the lowest are enough, the width is the greatest of them.
use Rattle.std.proofs.Common.{ℕ, ◌≡◌, ◌≤◌, inl, inr, List, [], ◌∷◌, ◌++◌, length, map, refl, ap, sym, subst, ◌∙◌}
use Rattle.std.proofs.Common.{Contains, append_assoc, arith}
use Rattle.std.proofs.lemmas.Bool.{cases_lt}
use Rattle.std.proofs.lemmas.List.{length-map}
use Rattle.htn_base.specs.Different.{AreDifferent}
use Rattle.plan_model.specs.task_networks.Net.{Net}
use Rattle.plan_model.specs.task_networks.Tree.{Tree, Address, IsAddress}
use Rattle.plan_model.specs.task_networks.Pending.{IsPending, ArePending, IsWidth}
use Rattle.plan_model.specs.task_networks.PendingComputed.{pending}
use Rattle.plan_model.specs.task_networks.Spelling.{Act, Spells, numbers}
use Rattle.plan_model.proofs.task_networks.Different.{no_more}
use Rattle.plan_model.proofs.task_networks.Lists.{Contains-here, Contains-later}
use Rattle.plan_model.proofs.task_networks.Numbers.{length-numbers, to_numbers}
use Rattle.plan_model.proofs.task_networks.PendingNodes.{pending_iff, pending_different, within_iff}
use Rattle.slot_machine.proofs.OtherChildren.{map_cases}

module _ (N : Net) (tree : Tree N) where
  -- of those that are pending after more of the rest is taken, the most
  pub record HasMost (taken rest : List Address) : Type 0 where
    pub most : ℕ
    pub more : List Address
    pub behind : List Address
    pub parts : rest ≡ more ++ behind
    pub many : length (pending N tree (taken ++ more)) ≡ most
    pub within : (m b : List Address) → rest ≡ m ++ b → length (pending N tree (taken ++ m)) ≤ most

  most_pending : (taken rest : List Address) → HasMost taken rest
  most_pending taken [] = record {
    most = length (pending N tree (taken ++ []));
    more = [];
    behind = [];
    parts = refl;
    many = refl;
    within = none;
  }
    where
      none : (m b : List Address) → [] ≡ m ++ b → length (pending N tree (taken ++ m)) ≤ length (pending N tree (taken ++ []))
      none [] b e = omega arith
      none (p ∷ m) b e = absurd cc
  most_pending taken (x ∷ xs) = go (most_pending (taken ++ x ∷ []) xs)
    where
      now : ℕ
      now = length (pending N tree (taken ++ []))

      go : HasMost (taken ++ x ∷ []) xs → HasMost taken (x ∷ xs)
      go h = elim (cases_lt now h.most) [
        | inl l ↦ record {
          most = h.most;
          more = x ∷ h.more;
          behind = h.behind;
          parts = ap (λ v. x ∷ v) h.parts;
          many = ap (λ v. length (pending N tree v)) (sym (append_assoc taken (x ∷ []) h.more)) ∙ h.many;
          within = within h.most (omega arith) (omega arith);
        }
        | inr l ↦ record {
          most = now;
          more = [];
          behind = x ∷ xs;
          parts = refl;
          many = refl;
          within = within now (omega arith) l;
        }
      ]
        where
          within : (n : ℕ) → now ≤ n → h.most ≤ n → (m b : List Address) → x ∷ xs ≡ m ++ b → length (pending N tree (taken ++ m)) ≤ n
          within n a c [] b e = a
          within n a c (p ∷ m) b e =
              let same : x ≡ p = cc in
              let l = h.within m b cc in
              let f = ap (λ v. length (pending N tree v)) (append_assoc taken (x ∷ []) m) in
              let g = ap (λ z. length (pending N tree (taken ++ z ∷ m))) same in
              omega arith

  pub width_exists : (order : List Address) → (w : ℕ) × IsWidth N w tree order
  width_exists order = go (most_pending [] order)
    where
      go : HasMost [] order → (w : ℕ) × IsWidth N w tree order
      go h = (
        h.most,
        record {
          within = (within_iff N h.most tree order).1 h.within;
          taken = h.more;
          rest = h.behind;
          nodes = pending N tree h.more;
          parts = h.parts;
          pending = record { different = pending_different N tree h.more; pending = λ p c. (pending_iff N tree h.more p).0 c };
          many = h.many;
        },
      )

  module _ (b : ℕ) (top : N.Work) (acts : List (Act N)) (order : List Address) (slot : Address → ℕ)
      (s : Spells N b top acts tree order slot) where
    -- slots of different pending nodes are different
    slots_differ : (taken rest : List Address) → order ≡ taken ++ rest → (nodes : List Address) → ArePending N tree taken nodes
        → AreDifferent (map slot nodes)
    slots_differ taken rest e nodes a = go nodes a.different a.pending
      where
        go : (ps : List Address) → AreDifferent ps → ((p : Address) → Contains ps p → IsPending N tree taken p) → AreDifferent (map slot ps)
        go [] d f = tt
        go (p ∷ ps) d f = (
          λ c. (let (q, k, same) = map_cases slot ps (slot p) c in d.0
              (subst (Contains ps) (s.apart taken rest e q p (f q (Contains-later p ps q k)) (f p (Contains-here p ps)) same) k)),
          go ps d.1
              (λ q k. f q (Contains-later p ps q k)),
        )

    -- where no node has a greater slot than that of one of them, it is the width
    pub greatest_is_width : IsWidth N b tree order → (n : ℕ) → ((p : Address) → IsAddress N tree p → slot p ≤ n)
        → (p : Address) → IsAddress N tree p → slot p ≡ n → IsWidth N n tree order
    greatest_is_width w n within p a e = subst (λ z. IsWidth N z tree order) same w
      where
        fewer : b ≤ n
        fewer =
            let d = slots_differ w.taken w.rest w.parts w.nodes w.pending in
            let l = no_more (map slot w.nodes) (numbers 1 n) d in_range in
            let f = length-map w.nodes slot in
            let g = length-numbers 1 n in
            let h = w.many in
            omega arith
          where
            in_range : (x : ℕ) → Contains (map slot w.nodes) x → Contains (numbers 1 n) x
            in_range x c =
                let (q, k, f) = map_cases slot w.nodes x c in
                let address = (w.pending.pending q k).address in
                let r = (s.range q address).0 in
                let l = within q address in
                to_numbers 1 n x (omega arith) (omega arith)

        same : b ≡ n
        same = let r = (s.range p a).1 in omega (arith, fewer)
