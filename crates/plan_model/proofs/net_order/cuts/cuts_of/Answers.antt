use Rattle.std.proofs.Common.{ℕ, List, Bool, All, ◌≡◌, ◌-◌, ◌+◌, ◌<◌, ◌≤◌, false, length, get_or, [], sym, subst, ap, ◌∙◌, arith}
use Rattle.std.proofs.lemmas.List.{get_or_read}
use Rattle.plan_model.specs.net_order.Marks.{has}
use Rattle.plan_model.proofs.net_order.Ends.{AreCutsFrom, AreMarkedTo, IsReach, reach_more, cuts_left, cuts_taken}
use Rattle.plan_model.proofs.net_order.cuts.cuts_of.Goals as goal
use Rattle.plan_model.proofs.net_order.cuts.cuts_of.Goals.{then-loop-covered-test+else-contains, else-loop-covered-test}

-- what is known at the place in front: the reach behind it, and its own
at_place : (before : List (List Bool)) (line : List ℕ) (place reach n : ℕ) (cuts row : List Bool) → 0 < place → place ≤ length line → All (λ i. i < length before) line
    → row ≡ get_or before (get_or line (place - 1) 0) row → AreCutsFrom before line place reach cuts
    → n ≤ reach → AreMarkedTo before line (place - 1) n → (n < reach → has row (get_or line n 0) ≡ false)
    → (place - 1 < length line) × AreCutsFrom before line (place - 1 + 1) reach cuts × IsReach before line (place - 1) n
at_place before line place reach n cuts row first last children is behind far inside outside =
    let l : place - 1 < length line = omega arith in
    let next : place ≡ place - 1 + 1 = omega arith in
    let read = get_or_read before (get_or line (place - 1) 0) row (children (place - 1) 0 l) is [] in
    let old = subst (λ i. AreCutsFrom before line i reach cuts) next behind in
    (l, old, reach_more before line (place - 1) reach n l old.reach far inside (λ a. ap (λ s. has s (get_or line n 0)) (sym read) ∙ outside a))

pub loop-k-preserved : goal.loop-k-preserved
loop-k-preserved c =
    let before = c.args.before.now in let line = c.args.line.now in let n = c.loop-covered.covered in
    let outside : c.loop-covered.covered < c.loop-k.reach → has c.index-before-line.result (get_or line n 0) ≡ false = λ a. elim c.loop-covered-test.branch [
      | then-loop-covered-test+else-contains w ↦ sym w.contains.ensures ∙ w.if-contains.false
      | else-loop-covered-test w ↦ absurd (let f = w.loop-covered-test.false in omega arith)
    ] in
    let (l, old, reach) = at_place before line c.loop-k.k c.loop-k.reach n c.loop-k.cuts c.index-before-line.result (omega (arith, c.loop-k-test.true)) c.loop-k.auto.k c.requires.children
    c.index-before-line.is c.loop-k.invariant c.loop-covered.invariant.within c.loop-covered.invariant.inside outside in
    cuts_left before line (c.loop-k.k - 1) c.loop-k.reach n c.loop-k.cuts l old reach c.if-k-reach.false

pub loop-k-preserved-then-k-reach : goal.loop-k-preserved-then-k-reach
loop-k-preserved-then-k-reach c =
    let before = c.args.before.now in let line = c.args.line.now in let n = c.loop-covered.covered in
    let outside : c.loop-covered.covered < c.loop-k.reach → has c.index-before-line.result (get_or line n 0) ≡ false = λ a. elim c.loop-covered-test.branch [
      | then-loop-covered-test+else-contains w ↦ sym w.contains.ensures ∙ w.if-contains.false
      | else-loop-covered-test w ↦ absurd (let f = w.loop-covered-test.false in omega arith)
    ] in
    let (l, old, reach) = at_place before line c.loop-k.k c.loop-k.reach n c.loop-k.cuts c.index-before-line.result (omega (arith, c.loop-k-test.true)) c.loop-k.auto.k c.requires.children
    c.index-before-line.is c.loop-k.invariant c.loop-covered.invariant.within c.loop-covered.invariant.inside outside in
    subst (AreCutsFrom before line (c.loop-k.k - 1) n) (sym c.insert.ensures) (cuts_taken before line (c.loop-k.k - 1) c.loop-k.reach n c.loop-k.cuts l old reach c.if-k-reach.true)
