use Rattle.std.proofs.Common.{ℕ, ◌≡◌, ◌<◌, List, Bool, [], ◌∷◌, ◌++◌, length, true, get_or, set, refl, sym, subst, ap, ◌∙◌, arith}
use Rattle.std.proofs.lemmas.List.{get_or_read}
use Rattle.plan_model.specs.net_order.Marks.{IsWithin, IsLeastOutside}
use Rattle.plan_model.proofs.net_order.Walks.{IsPath, path_one, last_within, path_listed, path_longer, path_cycle, path_end, less_listed, less_entered}
use Rattle.plan_model.proofs.net_order.walk.reach.Goals as goal

pub loop-last-init : goal.loop-last-init
loop-last-init c =
    let before = c.args.before.now in
    let path = c.in_ok-push.ensures.items ∙ ap (λ xs. xs ++ c.args.child ∷ []) c.new-path.ensures.items in
    subst (λ s. IsPath before c.args.child c.args.listed.now c.args.listed.now s c.push.new.self.items) (sym c.insert.ensures)
    (subst (IsPath before c.args.child c.args.listed.now c.args.listed.now (set c.args.entered.now c.args.child true)) (sym path)
    (path_one before c.args.child c.args.listed.now c.args.entered.now c.requires.child c.requires.settled c.requires.room c.requires.entered))

pub bounds-before-last : goal.bounds-before-last
bounds-before-last c = last_within c.args.before.now c.args.child c.args.listed.now c.loop-last.listed c.loop-last.entered c.pop.new.self.items c.in-Some.last
    (subst (IsPath c.args.before.now c.args.child c.args.listed.now c.loop-last.listed c.loop-last.entered) c.in-Some.ensures.items c.loop-last.invariant)

pub first_outside-requires-clause-room : goal.first_outside-requires-clause-room
first_outside-requires-clause-room c =
    let before = c.args.before.now in
    let l = last_within before c.args.child c.args.listed.now c.loop-last.listed c.loop-last.entered c.pop.new.self.items c.in-Some.last
    (subst (IsPath before c.args.child c.args.listed.now c.loop-last.listed c.loop-last.entered) c.in-Some.ensures.items c.loop-last.invariant) in
    let row = get_or_read before c.in-Some.last c.index-before-last.result l c.index-before-last.is [] in
    c.loop-last.invariant.settled.room ∙ sym (ap length row ∙ c.requires.square.marks c.in-Some.last l)

pub insert-requires-in-None : goal.insert-requires-in-None
insert-requires-in-None c =
    let l = last_within c.args.before.now c.args.child c.args.listed.now c.loop-last.listed c.loop-last.entered c.pop.new.self.items c.in-Some.last
    (subst (IsPath c.args.before.now c.args.child c.args.listed.now c.loop-last.listed c.loop-last.entered) c.in-Some.ensures.items c.loop-last.invariant) in
    let r = c.loop-last.invariant.settled.room in
    omega arith

pub loop-last-smaller-in-None : goal.loop-last-smaller-in-None
loop-last-smaller-in-None c = less_listed c.loop-last.entered c.loop-last.path.items c.pop.new.self.items c.in-Some.last c.in-Some.ensures.items

pub loop-last-preserved-in-None : goal.loop-last-preserved-in-None
loop-last-preserved-in-None c =
    let before = c.args.before.now in
    let h = subst (IsPath before c.args.child c.args.listed.now c.loop-last.listed c.loop-last.entered) c.in-Some.ensures.items c.loop-last.invariant in
    let l = last_within before c.args.child c.args.listed.now c.loop-last.listed c.loop-last.entered c.pop.new.self.items c.in-Some.last h in
    let row = get_or_read before c.in-Some.last c.index-before-last.result l c.index-before-last.is [] in
    subst (λ s. IsPath before c.args.child c.args.listed.now s c.loop-last.entered c.pop.new.self.items) (sym c.insert-in-None.ensures)
    (path_listed before c.args.child c.args.listed.now c.loop-last.listed c.loop-last.entered c.pop.new.self.items c.in-Some.last h (subst (λ s. IsWithin s c.loop-last.listed) row c.in-None.ensures.least))

other_within : (before : List (List Bool)) (last : ℕ) (row listed : List Bool) (other n : ℕ) → length before ≡ n → last < length before → ((j : ℕ) → j < length before → length (get_or before j []) ≡ n)
    → row ≡ get_or before last row → IsLeastOutside row listed other → IsLeastOutside (get_or before last []) listed other × (other < length before)
other_within before last row listed other n e l marks is least =
    let at = subst (λ s. IsLeastOutside s listed other) (get_or_read before last row l is []) least in
    (at, let c = at.child in let m = marks last l in omega arith)

pub contains-requires : goal.contains-requires
contains-requires c =
    let h = subst (IsPath c.args.before.now c.args.child c.args.listed.now c.loop-last.listed c.loop-last.entered) c.in-Some.ensures.items c.loop-last.invariant in
    let l = last_within c.args.before.now c.args.child c.args.listed.now c.loop-last.listed c.loop-last.entered c.pop.new.self.items c.in-Some.last h in
    let o = (other_within c.args.before.now c.in-Some.last c.index-before-last.result c.loop-last.listed c.in-Some-first_outside.other (length c.args.before.now) refl l c.requires.square.marks c.index-before-last.is c.in-Some-first_outside.ensures.least).1 in
    let r = c.loop-last.invariant.room in
    omega arith

pub returns-then-contains-clause-cyclic : goal.returns-then-contains-clause-cyclic
returns-then-contains-clause-cyclic c e =
    let h = subst (IsPath c.args.before.now c.args.child c.args.listed.now c.loop-last.listed c.loop-last.entered) c.in-Some.ensures.items c.loop-last.invariant in
    let l = last_within c.args.before.now c.args.child c.args.listed.now c.loop-last.listed c.loop-last.entered c.pop.new.self.items c.in-Some.last h in
    let o = other_within c.args.before.now c.in-Some.last c.index-before-last.result c.loop-last.listed c.in-Some-first_outside.other (length c.args.before.now) refl l c.requires.square.marks c.index-before-last.is c.in-Some-first_outside.ensures.least in
    path_cycle c.args.before.now c.args.child c.args.listed.now c.loop-last.listed c.loop-last.entered c.pop.new.self.items c.in-Some.last h c.in-Some-first_outside.other o.1 o.0.inside o.0.outside (sym c.contains.ensures ∙ c.if-contains.true)

pub insert-requires-in-Some-first_outside : goal.insert-requires-in-Some-first_outside
insert-requires-in-Some-first_outside c =
    let h = subst (IsPath c.args.before.now c.args.child c.args.listed.now c.loop-last.listed c.loop-last.entered) c.in-Some.ensures.items c.loop-last.invariant in
    let l = last_within c.args.before.now c.args.child c.args.listed.now c.loop-last.listed c.loop-last.entered c.pop.new.self.items c.in-Some.last h in
    let o = (other_within c.args.before.now c.in-Some.last c.index-before-last.result c.loop-last.listed c.in-Some-first_outside.other (length c.args.before.now) refl l c.requires.square.marks c.index-before-last.is c.in-Some-first_outside.ensures.least).1 in
    let r = c.loop-last.invariant.room in
    omega arith

pub overflow_cast-other : goal.overflow_cast-other
overflow_cast-other c =
    let h = subst (IsPath c.args.before.now c.args.child c.args.listed.now c.loop-last.listed c.loop-last.entered) c.in-Some.ensures.items c.loop-last.invariant in
    let l = last_within c.args.before.now c.args.child c.args.listed.now c.loop-last.listed c.loop-last.entered c.pop.new.self.items c.in-Some.last h in
    let o = (other_within c.args.before.now c.in-Some.last c.index-before-last.result c.loop-last.listed c.in-Some-first_outside.other (length c.args.before.now) refl l c.requires.square.marks c.index-before-last.is c.in-Some-first_outside.ensures.least).1 in
    let s = c.requires.small in
    omega arith

pub loop-last-smaller : goal.loop-last-smaller
loop-last-smaller c =
    let h = subst (IsPath c.args.before.now c.args.child c.args.listed.now c.loop-last.listed c.loop-last.entered) c.in-Some.ensures.items c.loop-last.invariant in
    let l = last_within c.args.before.now c.args.child c.args.listed.now c.loop-last.listed c.loop-last.entered c.pop.new.self.items c.in-Some.last h in
    let o = (other_within c.args.before.now c.in-Some.last c.index-before-last.result c.loop-last.listed c.in-Some-first_outside.other (length c.args.before.now) refl l c.requires.square.marks c.index-before-last.is c.in-Some-first_outside.ensures.least).1 in
    let r = c.loop-last.invariant.room in
    less_entered c.loop-last.entered c.insert-in-Some-first_outside.new.self c.in-Some-first_outside.other (omega arith) (sym c.contains.ensures ∙ c.if-contains.false) c.insert-in-Some-first_outside.ensures
    c.loop-last.path.items c.push-in-Some-first_outside-2.new.self.items c.pop.new.self.items c.in-Some.last c.in-Some.ensures.items
    (c.in_ok-push-in-Some-first_outside-2.ensures.items ∙ ap (λ xs. xs ++ c.in-Some-first_outside.other ∷ []) c.in_ok-push-in-Some-first_outside.ensures.items)

pub loop-last-preserved : goal.loop-last-preserved
loop-last-preserved c =
    let before = c.args.before.now in
    let h = subst (IsPath c.args.before.now c.args.child c.args.listed.now c.loop-last.listed c.loop-last.entered) c.in-Some.ensures.items c.loop-last.invariant in
    let l = last_within c.args.before.now c.args.child c.args.listed.now c.loop-last.listed c.loop-last.entered c.pop.new.self.items c.in-Some.last h in
    let o = other_within c.args.before.now c.in-Some.last c.index-before-last.result c.loop-last.listed c.in-Some-first_outside.other (length c.args.before.now) refl l c.requires.square.marks c.index-before-last.is c.in-Some-first_outside.ensures.least in
    let path = c.in_ok-push-in-Some-first_outside-2.ensures.items ∙ ap (λ xs. xs ++ c.in-Some-first_outside.other ∷ []) c.in_ok-push-in-Some-first_outside.ensures.items in
    subst (λ s. IsPath before c.args.child c.args.listed.now c.loop-last.listed s c.push-in-Some-first_outside-2.new.self.items) (sym c.insert-in-Some-first_outside.ensures)
    (subst (IsPath before c.args.child c.args.listed.now c.loop-last.listed (set c.loop-last.entered c.in-Some-first_outside.other true)) (sym path)
    (path_longer before c.args.child c.args.listed.now c.loop-last.listed c.loop-last.entered c.pop.new.self.items c.in-Some.last h c.in-Some-first_outside.other o.1 o.0.inside o.0.outside))

empty_list : (xs : List ℕ) → length xs ≡ 0 → xs ≡ []
empty_list [] e = refl
empty_list (x ∷ xs) e = absurd (omega arith)

pub returns-clause-reached : goal.returns-clause-reached
returns-clause-reached c e =
    let none : c.loop-last.path.items ≡ [] = empty_list c.loop-last.path.items (let a = c.loop-last.path.ok.0 in let z = c.in_default.ensures.cases.0 in omega arith) in
    path_end c.args.before.now c.args.child c.args.listed.now c.loop-last.listed c.loop-last.entered (subst (IsPath c.args.before.now c.args.child c.args.listed.now c.loop-last.listed c.loop-last.entered) none c.loop-last.invariant)
