use Rattle.std.proofs.Common.{ℕ, ◌≡◌, ◌+◌, ◌<◌, ◌≤◌, ◌⊎◌, inl, inr, List, [], true, length, Contains, drop, get_or, set, refl, subst, sym, ap, ◌∙◌, arith, length-drop}
use Rattle.std.proofs.lemmas.List.{get_or_read, drop_more}
use Rattle.std.proofs.lemmas.List.Elements.{Contains-get_or}
use Rattle.plan_model.proofs.task_networks.Lists.{head_or_tail}
use Rattle.plan_model.specs.net_order.Marks.{has}
use Rattle.plan_model.specs.net_order.Front.{IsFront}
use Rattle.plan_model.proofs.net_order.Closures.{has_added}
use Rattle.plan_model.proofs.net_order.Fronts.{front_listed, front_placed, front_left}
use Rattle.plan_model.proofs.net_order.front.Front.list.Goals as goal

pub loop-other-init : goal.loop-other-init
loop-other-init c =
    let before = c.args.before.now in
    let self = c.args.self.now in
    let room : c.args.child < length c.args.self.now.waiting.items = (let r = c.requires.front.waiting_room in let l = c.requires.child in omega arith) in
    let woken = c.as_slice-other-items.ensures.items ∙ (c.replace-woken.ensures.value ∙ get_or_read self.waiting.items c.args.child c.index_mut.result.now room c.index_mut.ensures.value []) in
    let empty = c.replace-woken.ensures.after ∙ c.new.ensures.empty in
    record {
      listed = refl;
      front = subst (λ xs. IsFront before (Contains xs) c.insert.new.self self.ready (set self.waiting.items c.args.child c.replace-woken.new.dest)) (sym woken)
          (subst (λ s. IsFront before (Contains (get_or self.waiting.items c.args.child [])) s self.ready (set self.waiting.items c.args.child c.replace-woken.new.dest)) (sym c.insert.ensures)
          (subst (λ xs. IsFront before (Contains (get_or self.waiting.items c.args.child [])) (set self.listed c.args.child true) self.ready (set self.waiting.items c.args.child xs)) (sym empty)
          (front_listed before self.listed self.ready self.waiting.items c.requires.front c.args.child c.requires.child)));
    }

pub place-requires-clause-child : goal.place-requires-clause-child
place-requires-clause-child c =
    let items = c.as_slice-other-items.result.now in
    let room : c.args.child < length c.args.self.now.waiting.items = (let r = c.requires.front.waiting_room in let l = c.requires.child in omega arith) in
    let woken = c.as_slice-other-items.ensures.items ∙ (c.replace-woken.ensures.value ∙ get_or_read c.args.self.now.waiting.items c.args.child c.index_mut.result.now room c.index_mut.ensures.value []) in
    c.requires.front.children c.args.child (get_or items c.loop-other.other-index 0) (subst (λ xs. Contains xs (get_or items c.loop-other.other-index 0)) woken (Contains-get_or items c.loop-other.other-index 0 c.loop-other-test.true))

pub place-requires-clause-listed : goal.place-requires-clause-listed
place-requires-clause-listed c = c.loop-other.invariant.front.listed_room

pub place-requires-clause-ready : goal.place-requires-clause-ready
place-requires-clause-ready c = c.loop-other.invariant.front.ready_room

pub place-requires-clause-waiting : goal.place-requires-clause-waiting
place-requires-clause-waiting c = c.loop-other.invariant.front.waiting_room

pub place-requires-clause-low : goal.place-requires-clause-low
place-requires-clause-low c i l t =
    let items = c.as_slice-other-items.result.now in
    let room : c.args.child < length c.args.self.now.waiting.items = (let r = c.requires.front.waiting_room in let m = c.requires.child in omega arith) in
    let woken = c.as_slice-other-items.ensures.items ∙ (c.replace-woken.ensures.value ∙ get_or_read c.args.self.now.waiting.items c.args.child c.index_mut.result.now room c.index_mut.ensures.value []) in
    let inside : c.args.child < length c.args.self.now.listed = (let r = c.requires.front.listed_room in let m = c.requires.child in omega arith) in
    let known = c.requires.front.low c.args.child (get_or items c.loop-other.other-index 0) (subst (λ xs. Contains xs (get_or items c.loop-other.other-index 0)) woken (Contains-get_or items c.loop-other.other-index 0 c.loop-other-test.true)) i l t in
    ap (λ s. has s i) (c.loop-other.invariant.listed ∙ c.insert.ensures) ∙ (has_added c.args.self.now.listed c.args.child i inside).1 (inr known)

left_next : (items : List ℕ) (k : ℕ) → k < length items → (j : ℕ) → Contains (drop k items) j → (j ≡ get_or items k 0) ⊎ Contains (drop (k + 1) items) j
left_next items k l j d = elim (head_or_tail (get_or items k 0) (drop (k + 1) items) j (subst (λ xs. Contains xs j) (drop_more items k 0 l) d)) [ inl e ↦ inl (sym e) | inr f ↦ inr f ]

pub loop-other-preserved : goal.loop-other-preserved
loop-other-preserved c =
    let before = c.args.before.now in
    let items = c.as_slice-other-items.result.now in
    let k = c.loop-other.other-index in
    let front = c.loop-other.self in
    let new = c.place.new.self in
    let listed = c.in_ok-place.ensures.listed in
    let room : c.args.child < length c.args.self.now.waiting.items = (let r = c.requires.front.waiting_room in let m = c.requires.child in omega arith) in
    let woken = c.as_slice-other-items.ensures.items ∙ (c.replace-woken.ensures.value ∙ get_or_read c.args.self.now.waiting.items c.args.child c.index_mut.result.now room c.index_mut.ensures.value []) in
    let child = c.requires.front.children c.args.child (get_or items k 0) (subst (λ xs. Contains xs (get_or items k 0)) woken (Contains-get_or items k 0 c.loop-other-test.true)) in
    record {
      listed = listed ∙ c.loop-other.invariant.listed;
      front = subst (λ s. IsFront before (Contains (drop (k + 1) items)) s new.ready new.waiting.items) (sym listed)
          (front_placed before front.listed front.ready front.waiting.items (get_or items k 0) child (left_next items k c.loop-other-test.true) c.loop-other.invariant.front (c.requires.square.marks (get_or items k 0) child) new.ready new.waiting.items c.in_ok-place.ensures.placed);
    }

pub returns-clause-listed : goal.returns-clause-listed
returns-clause-listed c = c.loop-other.invariant.listed ∙ c.insert.ensures

none_left : (items : List ℕ) (k : ℕ) → length items ≤ k → (j : ℕ) → Contains (drop k items) j → ⊥
none_left items k l j (p, m, e) = let n = length-drop k items in omega arith

pub returns-clause-front : goal.returns-clause-front
returns-clause-front c = front_left c.args.before.now c.loop-other.self.listed c.loop-other.self.ready c.loop-other.self.waiting.items
    (λ j l d. none_left c.as_slice-other-items.result.now c.loop-other.other-index (let t = c.loop-other-test.false in omega arith) j d) c.loop-other.invariant.front
