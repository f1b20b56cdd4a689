-- A step is that of one act at most, and what it is to be an act's step.
use Rattle.std.proofs.Common.{ℕ, zero, suc, ◌≡◌, ◌+◌, ◌-◌, ◌≤◌, ◌<◌, ◌^◌, inl, inr, List, [], ◌∷◌, ◌++◌, map, length, refl, ap, sym, subst, ◌∙◌, Contains, arith}
use Rattle.std.proofs.Math.Decide.{ℕ_discrete}
use Rattle.std.proofs.lemmas.List.{length-map}
use Rattle.htn_base.specs.Escapes.{slot_word}
use Rattle.htn_base.proofs.EscapeLemmas.{names_apart}
use Rattle.plan_model.specs.declared.steps.GroundAction.{GroundAction}
use Rattle.plan_model.specs.declared.values.Compiled.{Compiled}
use Rattle.plan_model.specs.task_networks.Order.{Precedes}
use Rattle.plan_model.specs.task_networks.Net.{count}
use Rattle.plan_model.specs.task_networks.Spelling.{Act, run, apply, numbers, others}
use Rattle.plan_model.specs.plan_meaning.Network.{action, check, task, GroundMethod, network}
use Rattle.plan_model.specs.plan_meaning.SpelledPlan.{object_word, step_of}
use Rattle.plan_model.proofs.task_networks.Lists.{Contains-here, Contains-later, head_or_tail, not-in_empty}
use Rattle.plan_model.proofs.task_networks.Numbers.{numbers_to, to_numbers}
use Rattle.plan_model.proofs.task_networks.OtherChildren.{rest_cases}
use Rattle.slot_machine.proofs.OtherChildren.{map_cases, Contains-map}
use Rattle.stack_machine.specs.Stack.{IsTotal, AreCellsFrom, behind}
use Rattle.stack_machine.proofs.Heights.{AreHeights, line_of, is_line, high, heights, high_of, heir_lowest}
use Rattle.stack_encoding.specs.StackSpelling.{cells_of, stack_step}
use Rattle.decoding.specs.FailingAct.{slot_in, IsFormed}
use Rattle.decoding.specs.PrintedSteps.{own_objects, IsNamed}
use Rattle.stack_decoding.specs.StackSteps.{children_of, named_cells, HasCells, AreUpTo, HasArguments, IsStepOf}
use Rattle.stack_decoding.specs.StackStepLaws.{HasStackWords, StepsAreOfOneAct, EachStepIsOfOneAct}
use Rattle.stack_decoding.proofs.StepNames.{as_many, objects_once, IsSameKind, same_kind}

-- lists of one length before others
cut_same : {A : Type 0} (xs ys us vs : List A) → length xs ≡ length ys → xs ++ us ≡ ys ++ vs → us ≡ vs
cut_same [] [] us vs l e = e
cut_same [] (y ∷ ys) us vs l e = absurd (omega arith)
cut_same (x ∷ xs) [] us vs l e = absurd (omega arith)
cut_same (x ∷ xs) (y ∷ ys) us vs l e = cut_same xs ys us vs (omega arith) cc

-- the own cell is one of those that are named
pub own_named : (h n : ℕ) → Contains (cells_of h n) h
own_named h zero = Contains-later (h - 1) (h ∷ []) h (Contains-here h [])
own_named h (suc n) = Contains-here h (numbers (suc h) n)

length-numbers : (i n : ℕ) → length (numbers i n) ≡ n
length-numbers i zero = refl
length-numbers i (suc n) = ap suc (length-numbers (suc i) n)

pub as_many_cells : (h k n : ℕ) → length (cells_of h n) ≡ length (cells_of k n)
as_many_cells h k zero = refl
as_many_cells h k (suc n) = length-numbers h (suc n) ∙ sym (length-numbers k (suc n))

-- the words of cells tell the own one
cell_once : (b : ℕ) → b < 2 ^ 32 → (h k n : ℕ) (us vs : List (List ℕ)) → h ≤ b → k ≤ b → map slot_word (cells_of h n) ++ us ≡ map slot_word (cells_of k n) ++ vs → (h ≡ k) × (us ≡ vs)
cell_once b few h k n us vs r q e = (own n e, cut_same (map slot_word (cells_of h n)) (map slot_word (cells_of k n)) us vs (length-map (cells_of h n) slot_word ∙ as_many_cells h k n ∙ sym (length-map (cells_of k n) slot_word)) e)
  where
    same : slot_word h ≡ slot_word k → h ≡ k
    same f = names_apart.slots h k (omega arith) (omega arith) f

    own : (n : ℕ) → map slot_word (cells_of h n) ++ us ≡ map slot_word (cells_of k n) ++ vs → h ≡ k
    own zero f = same cc
    own (suc n) f = same cc

module _ (c : Compiled) (b : ℕ) where
  -- an act's step is named and has arguments
  pub arguments : (step : GroundAction) (a : Act (network c)) → IsStepOf c b step a → HasArguments c b step
  arguments step a r = record {
    act = a;
    params = r.params;
    has = r.has;
    typed = r.typed;
    cells = named_cells c a;
    many = refl;
    within = r.within;
    name = ap (λ (z : GroundAction). z.name) r.is ∙ name a;
    args = ap (λ (z : GroundAction). z.args) r.is ∙ args a;
  }
    where
      name : (a : Act (network c)) → (stack_step c a).name ≡ (step_of c a).name
      name (run h w) = refl
      name (apply h new g) = refl

      args : (a : Act (network c)) → (stack_step c a).args ≡ map slot_word (named_cells c a) ++ map (object_word c) (own_objects c a)
      args (run h w) = refl
      args (apply h new g) = refl

  pub named : (step : GroundAction) → HasArguments c b step → IsNamed c step
  named step r = (r.act, r.params, r.has, r.name)

  module _ (words : HasStackWords c b) (total : IsTotal (network c)) where
    own_within : (step : GroundAction) (a : Act (network c)) → IsStepOf c b step a → slot_in (network c) a ≤ b
    own_within step a r = r.within (slot_in (network c) a) (own_named (slot_in (network c) a) (children_of c a))

    same_new : (h k : ℕ) (g other : GroundMethod) (new more : List ℕ) → AreCellsFrom (network c) h g new → AreCellsFrom (network c) k other more → h ≡ k → g ≡ other → new ≡ more
    same_new h k g other new more r q e f =
        let line = line_of (network c) total other in
        let is = is_line (network c) total other in
        let r' : AreCellsFrom (network c) k other new = subst (λ z. AreCellsFrom (network c) z other new) e (subst (λ z. AreCellsFrom (network c) h z new) f r) in
        r' line is ∙ sym (q line is)

    one_act : (a other : Act (network c)) → IsSameKind c words.apart words.checks a other → slot_in (network c) a ≡ slot_in (network c) other → own_objects c a ≡ own_objects c other
        → HasCells c a → HasCells c other → a ≡ other
    one_act (run h (action a v)) (run h' (action d w)) k e f r q = λ i. run (e i) (action (k i) (f i))
    one_act (run h (check m v)) (run h' (check n w)) k e f r q = λ i. run (e i) (check (k i) (f i))
    one_act (apply h new g) (apply h' new' g') k e f r q =
        let same : g ≡ g' = (λ i. record { number = k i; values = f i }) in
        let n = same_new h h' g g' new new' r q e same in
        λ i. apply (e i) (n i) (same i)
    one_act (run h (task t v)) other k e f r q = absurd k
    one_act (run h (action a v)) (run h' (check n w)) k e f r q = absurd k
    one_act (run h (action a v)) (run h' (task n w)) k e f r q = absurd k
    one_act (run h (action a v)) (apply h' new' g') k e f r q = absurd k
    one_act (run h (check a v)) (run h' (action n w)) k e f r q = absurd k
    one_act (run h (check a v)) (run h' (task n w)) k e f r q = absurd k
    one_act (run h (check a v)) (apply h' new' g') k e f r q = absurd k
    one_act (apply h new g) (run h' w) k e f r q = absurd k

    -- as many children come of two acts of one printed action
    same_children : (a other : Act (network c)) → IsSameKind c words.apart words.checks a other → children_of c a ≡ children_of c other
    same_children (run h w) (run h' w') k = refl
    same_children (apply h new g) (apply h' new' g') k = as_many c g g' k
    same_children (run h (task t v)) (apply h' new' g') k = absurd k
    same_children (run h (action a v)) (apply h' new' g') k = absurd k
    same_children (run h (check a v)) (apply h' new' g') k = absurd k
    same_children (apply h new g) (run h' w) k = absurd k

    pub step_once : StepsAreOfOneAct c b
    unfolding arguments
    step_once step a other r q =
        let x = arguments step a r in
        let y = arguments step other q in
        let kind = same_kind c words.apart words.checks a other r.params q.params r.has q.has (sym x.name ∙ y.name) in
        let n = same_children a other kind in
        let e = sym x.args ∙ y.args ∙ ap (λ z. map slot_word (cells_of (slot_in (network c) other) z) ++ map (object_word c) (own_objects c other)) (sym n) in
        let (cell, objects) = cell_once b words.few (slot_in (network c) a) (slot_in (network c) other) (children_of c a) (map (object_word c) (own_objects c a)) (map (object_word c) (own_objects c other))
        (own_within step a r) (own_within step other q) e in
        one_act a other kind cell (objects_once c words.apart r.params q.params (own_objects c a) (own_objects c other) r.typed q.typed objects) r.cells q.cells

    -- what a method's new cells are, by the line
    pub new_by_line : (h : ℕ) (new : List ℕ) (g : GroundMethod) → AreCellsFrom (network c) h g new → (x : ℕ) → Contains new x → (i : ℕ) × Contains (others (network c) g) i × (h + high (network c) total g i ≡ x)
    new_by_line h new g r x k =
        let line = line_of (network c) total g in
        let is = is_line (network c) total g in
        let (i, m, e) = map_cases (λ i. h + behind line i) (others (network c) g) x (subst (λ z. Contains z x) (r line is) k) in
        (i, m, ap (λ z. h + z) (sym (high_of (network c) total g line is i)) ∙ e)

    heights_of : (g : GroundMethod) → AreHeights (count (network c) g) (Precedes ((network c).Pair g)) (high (network c) total g)
    heights_of g = heights (network c) total g

    -- a new cell is among those of the children
    new_named : (h : ℕ) (new : List ℕ) (g : GroundMethod) → AreCellsFrom (network c) h g new → (x : ℕ) → Contains new x → (h ≤ x) × Contains (cells_of h (count (network c) g)) x
    new_named h new g r x k =
        let (i, m, e) = new_by_line h new g r x k in
        let l = (rest_cases ((network c).heir g) (count (network c) g) i).0 m in
        let y = (heights_of g).below i l.0 in
        (omega arith, within (count (network c) g) (omega arith) (omega arith))
      where
        within : (n : ℕ) → h ≤ x → x < h + n → Contains (cells_of h n) x
        within zero f l = absurd (omega arith)
        within (suc n) f l = to_numbers h (suc n) x f l

    -- an act's step is that of a formed act
    pub formed : (step : GroundAction) (a : Act (network c)) → IsStepOf c b step a → IsFormed (network c) b a
    formed step (run h (task t v)) r = absurd r.has
    formed step (run h (action a v)) r = record { slot = (r.own, own_within step (run h (action a v)) r); new = λ x k. absurd (not-in_empty x k); form = tt }
    formed step (run h (check m v)) r = record { slot = (r.own, own_within step (run h (check m v)) r); new = λ x k. absurd (not-in_empty x k); form = tt }
    formed step (apply h new g) r = record {
      slot = (r.own, own_within step (apply h new g) r);
      new = λ x k. (let y = new_named h new g r.cells x k in let l = r.own in let m = y.0 in (omega arith, r.within x y.1));
      form = ap length (r.cells (line_of (network c) total g) (is_line (network c) total g)) ∙ length-map (others (network c) g) (λ i. h + behind (line_of (network c) total g) i);
    }

    -- and a formed act that has its cells is up to b
    pub cells_within : (a : Act (network c)) → IsFormed (network c) b a → HasCells c a → AreUpTo c b (named_cells c a)
    cells_within (run h w) f r x k = low h h (f.slot.1) x k
      where
        low : (h top : ℕ) → h ≤ b → (x : ℕ) → Contains ((h - 1) ∷ h ∷ []) x → x ≤ b
        low h top l x k = elim (head_or_tail (h - 1) (h ∷ []) x k) [ inl e ↦ omega arith | inr d ↦ elim (head_or_tail h [] x d) [ inl e ↦ omega arith | inr z ↦ absurd (not-in_empty x z) ] ]
    cells_within (apply h new g) f r x k = go (count (network c) g) refl k
      where
        own : h ≤ b
        own = f.slot.1

        go : (n : ℕ) → count (network c) g ≡ n → Contains (cells_of h n) x → x ≤ b
        go zero e k = elim (head_or_tail (h - 1) (h ∷ []) x k) [ inl e ↦ omega (arith, own) | inr d ↦ elim (head_or_tail h [] x d) [ inl e ↦ omega (arith, own) | inr z ↦ absurd (not-in_empty x z) ] ]
        go (suc n) e k =
            let (low, top) = numbers_to h (suc n) x k in
            let (i, l, y) = (heights_of g).full (x - h) (omega arith) in
            at i l (omega arith)
          where
            at : (i : ℕ) → i < count (network c) g → h + high (network c) total g i ≡ x → x ≤ b
            at i l e = elim (ℕ_discrete (high (network c) total g i) 0) [
              | yes z ↦ omega (arith, own)
              | no m ↦ (
                  let line = line_of (network c) total g in
                  let is = is_line (network c) total g in
                  let other = (rest_cases ((network c).heir g) (count (network c) g) i).1 (l, λ y. m (heir_lowest (network c) total g i y)) in
                  let d = Contains-map (λ i. h + behind line i) (others (network c) g) i other in
                  let d' : Contains new (h + behind line i) = subst (λ z. Contains z (h + behind line i)) (sym (r line is)) d in
                  let z = (f.new (h + behind line i) d').1 in
                  let v = high_of (network c) total g line is i in
                  omega arith)
            ]

pub each_step_is_of_one_act : (c : Compiled) → IsTotal (network c) → EachStepIsOfOneAct c
each_step_is_of_one_act c total b words = step_once c b words total
