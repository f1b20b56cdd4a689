-- The objects and the predicates of the encoding with slots, with what takes other places in that of a stack.
use Rattle.std.proofs.Common.{ℕ, true, ◌≡◌, ◌+◌, ◌≤◌, List, [], ◌∷◌, ◌++◌, map, take, drop, length, get_or, codes, ap, sym, ◌∙◌, append_assoc, arith}
use Rattle.std.proofs.lemmas.List.{take_at, drop_at, get_or_at, length-map, length-append}
use Rattle.plan_model.specs.declared.types.Object.{Object}
use Rattle.plan_model.specs.declared.schemas.Predicate.{Predicate}
use Rattle.plan_model.specs.task_networks.Spelling.{numbers}
use Rattle.slot_encoding.specs.SourceParts.{name}
use Rattle.slot_encoding.specs.EncodedNames.{slot_type, guard_types}
use Rattle.slot_encoding.specs.slot_declarations.Made as slots
use Rattle.slot_encoding.specs.declared.slot_declarations.frame.Frame.{Frame}
use Rattle.stack_encoder.specs.Made as made
use Rattle.stack_encoder.proofs.LowestCell.{slot_0}

-- two neighbours in the middle of a list, and what stands before and behind them
module _ {A : Type 0} (front : List A) (t x y : A) (rest : List A) (n : ℕ) (at : n ≡ length front + 1) where
  abbrev all : List A
  all = front ++ t ∷ x ∷ y ∷ rest

  joined-once : all ≡ (front ++ t ∷ []) ++ x ∷ y ∷ rest
  joined-once = sym (append_assoc front (t ∷ []) (x ∷ y ∷ rest))

  length-front : length (front ++ t ∷ []) ≡ n
  length-front = length-append front (t ∷ []) ∙ sym at

  pub before-two : take n all ≡ front ++ t ∷ []
  before-two = ap (take n) joined-once ∙ take_at (front ++ t ∷ []) (x ∷ y ∷ rest) n length-front

  pub first-of-two : (d : A) → get_or all n d ≡ x
  first-of-two d = ap (λ xs. get_or xs n d) joined-once ∙ get_or_at (front ++ t ∷ []) x (y ∷ rest) d n length-front

  pub second-of-two : (d : A) → get_or all (n + 1) d ≡ y
  second-of-two d =
      ap (λ xs. get_or xs (n + 1) d) (joined-once ∙ sym (append_assoc (front ++ t ∷ []) (x ∷ []) (y ∷ rest)))
      ∙ get_or_at ((front ++ t ∷ []) ++ x ∷ []) y rest d (n + 1) (omega (arith, length-append (front ++ t ∷ []) (x ∷ []), length-front))

  pub behind-two : drop (n + 2) all ≡ rest
  behind-two =
      ap (drop (n + 2)) (joined-once ∙ sym (append_assoc (front ++ t ∷ []) (x ∷ y ∷ []) rest))
      ∙ drop_at ((front ++ t ∷ []) ++ x ∷ y ∷ []) rest (n + 2) (omega (arith, length-append (front ++ t ∷ []) (x ∷ y ∷ []), length-front))

  pub length-two : n + 2 ≤ length all
  length-two = omega (arith, length-append front (t ∷ x ∷ y ∷ rest), at)

regroup : {A : Type 0} (p m a c g : List A) → (((p ++ m) ++ a) ++ c) ++ g ≡ p ++ (m ++ (a ++ (c ++ g)))
regroup p m a c g = append_assoc ((p ++ m) ++ a) c g ∙ append_assoc (p ++ m) a (c ++ g) ∙ append_assoc p m (a ++ (c ++ g))

module _ (f : Frame) where
  -- objects
  abbrev own_objects : List Object
  own_objects = map (slots.object f) f.compiled.now.hddl.objects

  abbrev pub lowest : Object
  lowest = record { name = name f.printed.now (codes "htn_s0"); ty = slot_type; constant = true }

  module _ (xs : List Object) (e : xs ≡ slots.objects f) (n : ℕ) (at : n ≡ length f.compiled.now.hddl.objects) where
    pub own-within : n ≤ length xs
    own-within = omega (arith, at, ap length e, length-append own_objects (map (slots.slot f) (numbers 1 f.slots)), length-map f.compiled.now.hddl.objects (slots.object f))

    pub with-lowest : (take n xs ++ lowest ∷ []) ++ drop n xs ≡ made.objects f
    with-lowest =
        let l : length own_objects ≡ n = omega (arith, at, length-map f.compiled.now.hddl.objects (slots.object f)) in
        let cells = map (slots.slot f) (numbers 1 f.slots) in
        (λ i. (take n (e i) ++ lowest ∷ []) ++ drop n (e i))
        ∙ (λ i. (take_at own_objects cells n l i ++ lowest ∷ []) ++ drop_at own_objects cells n l i)
        ∙ append_assoc own_objects (lowest ∷ []) cells
        ∙ ap (λ word. own_objects ++ record { name = name f.printed.now word; ty = slot_type; constant = true } ∷ cells) (sym slot_0)

  -- predicates
  abbrev pub own_predicates : List Predicate
  own_predicates = map (slots.predicate f) f.compiled.now.hddl.predicates

  abbrev pub top : Predicate
  top = slots.slot_predicate f (codes "htn_top")

  abbrev pub free : Predicate
  free = slots.slot_predicate f (codes "htn_free")

  abbrev pub others : List Predicate
  others = map (slots.task_held f) f.compiled.now.hddl.tasks ++ slots.work_predicates f

  abbrev tip : Predicate
  tip = record { name = name f.printed.now (codes "htn_tip"); params = free.params }

  abbrev up : Predicate
  up = record { name = name f.printed.now (codes "htn_up"); params = (slots.order_predicate f).params }

  of-slots : slots.predicates f ≡ own_predicates ++ top ∷ free ∷ slots.order_predicate f ∷ others
  of-slots =
      regroup own_predicates (top ∷ free ∷ slots.order_predicate f ∷ map (slots.task_held f) f.compiled.now.hddl.tasks) (map (slots.action_held f) f.compiled.now.hddl.actions)
      (slots.checks_held f f.compiled.now.methods) (map (slots.guard_tested f) (guard_types f.compiled.now))

  of-stack : made.predicates f ≡ own_predicates ++ top ∷ tip ∷ up ∷ others
  of-stack =
      regroup own_predicates (top ∷ tip ∷ up ∷ map (slots.task_held f) f.compiled.now.hddl.tasks) (map (slots.action_held f) f.compiled.now.hddl.actions)
      (slots.checks_held f f.compiled.now.methods) (map (slots.guard_tested f) (guard_types f.compiled.now))

  module _ (xs : List Predicate) (e : xs ≡ slots.predicates f) (n : ℕ) (at : n ≡ length f.compiled.now.hddl.predicates + 1) where
    place : n ≡ length own_predicates + 1
    place = omega (arith, at, length-map f.compiled.now.hddl.predicates (slots.predicate f))

    is : xs ≡ own_predicates ++ top ∷ free ∷ slots.order_predicate f ∷ others
    is = e ∙ of-slots

    pub two-within : n + 2 ≤ length xs
    two-within = omega (arith, ap length is, length-two own_predicates top free (slots.order_predicate f) others n place)

    pub with-tip : (d d' : Predicate) → d ≡ get_or xs n d → d' ≡ get_or xs (n + 1) d'
        → ((take n xs ++ record { name = name f.printed.now (codes "htn_tip"); params = d.params } ∷ []) ++ record { name = name f.printed.now (codes "htn_up"); params = d'.params } ∷ []) ++ drop (n + 2) xs ≡ made.predicates f
    with-tip d d' a a' =
        let front = own_predicates in
        let order = slots.order_predicate f in
        let d_is : d ≡ free = a ∙ ap (λ ys. get_or ys n d) is ∙ first-of-two front top free order others n place d in
        let d'_is : d' ≡ order = a' ∙ ap (λ ys. get_or ys (n + 1) d') is ∙ second-of-two front top free order others n place d' in
        let before : take n xs ≡ front ++ top ∷ [] = ap (take n) is ∙ before-two front top free order others n place in
        let behind : drop (n + 2) xs ≡ others = ap (drop (n + 2)) is ∙ behind-two front top free order others n place in
        (λ i. ((before i ++ record { name = name f.printed.now (codes "htn_tip"); params = (d_is i).params } ∷ []) ++ record { name = name f.printed.now (codes "htn_up"); params = (d'_is i).params } ∷ []) ++ behind i)
        ∙ append_assoc ((front ++ top ∷ []) ++ tip ∷ []) (up ∷ []) others
        ∙ append_assoc (front ++ top ∷ []) (tip ∷ []) (up ∷ others)
        ∙ append_assoc front (top ∷ []) (tip ∷ up ∷ others)
        ∙ sym of-stack
