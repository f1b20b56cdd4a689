use Rattle.std.proofs.Common.{ℕ, List, ◌≡◌, Some, None, Vec, Global, refl, ap, sym, subst, ◌∙◌}
use Rattle.std.proofs.lemmas.Result.{on_ok_weaker, on_err_weaker}
use Rattle.std.specs.Option.{IsSome}
use Rattle.std.specs.Ordering.{nat_cmp}
use Rattle.std.specs.BTreeMap as tree
use Rattle.std.specs.BTreeMap.{BTreeMap}
use Rattle.ground_state.proofs.Lists.{order, query}
use Rattle.state_history.specs.declared.gaps.Gaps.{Gaps}
use Rattle.state_history.specs.Gaps.{AreWithin, number_of}
use Rattle.state_history.proofs.KeptLaws.{near-put, far-put, kept-near, kept-far, turned, entered, same}
use Rattle.state_history.proofs.gaps.Gaps.turn.Goals as goal

pub returns-in-Some-get_mut-clause-turned : goal.returns-in-Some-get_mut-clause-turned
returns-in-Some-get_mut-clause-turned c =
    let old = c.args.self.now in
    let key = c.args.key.items in
    let n = c.in-Some.number in
    let v = c.in-Some-get_mut.flips.now in
    let w = c.turn.new.flips in
    let new : Gaps = record { near = c.get_mut.follows.lender c.turn.new.flips; far = c.args.self.now.far; most = c.args.self.now.most } in
    let e : number_of c.args.self.now.most c.args.key.items ≡ Some c.in-Some.number = sym (c.in-Some.ensures ∙ ap (number_of c.args.self.now.most) c.as_slice.ensures.value) in
    let u = (c.get_mut.follows.holds c.turn.new.flips).3 (subst IsSome c.in-Some-get_mut.ensures.value refl) in
    on_ok_weaker c.turn.result (λ t. turned old new key v.items w.items c.args.gap c.args.truth (kept-near old key n (Some v) e c.in-Some-get_mut.ensures.value) (near-put old new key n (Some w) e refl refl u) t) c.turn.ensures.turned

pub turn-requires-in-Some-get_mut-2 : goal.turn-requires-in-Some-get_mut-2
turn-requires-in-Some-get_mut-2 c =
    let e : number_of c.args.self.now.most c.args.key.items ≡ None = sym (c.in-None.ensures ∙ ap (number_of c.args.self.now.most) c.as_slice.ensures.value) in
    let v = c.in-Some-get_mut-2.flips.now in
    let is = subst (λ (xs : List ℕ). Some c.in-Some-get_mut-2.flips.now ≡ tree.get_by (query xs) c.args.self.now.far) c.as_slice-in-None.ensures.value c.in-Some-get_mut-2.ensures.value in
    subst (AreWithin c.args.gap) (kept-far c.args.self.now c.args.key.items (Some v) e is) c.requires

pub returns-in-Some-get_mut-2-clause-turned : goal.returns-in-Some-get_mut-2-clause-turned
returns-in-Some-get_mut-2-clause-turned c =
    let old = c.args.self.now in
    let key = c.args.key.items in
    let v = c.in-Some-get_mut-2.flips.now in
    let w = c.turn-in-Some-get_mut-2.new.flips in
    let new : Gaps = record { near = c.args.self.now.near; far = c.get_mut-in-None.follows.lender c.turn-in-Some-get_mut-2.new.flips; most = c.args.self.now.most } in
    let e : number_of c.args.self.now.most c.args.key.items ≡ None = sym (c.in-None.ensures ∙ ap (number_of c.args.self.now.most) c.as_slice.ensures.value) in
    let is = subst (λ (xs : List ℕ). Some c.in-Some-get_mut-2.flips.now ≡ tree.get_by (query xs) c.args.self.now.far) c.as_slice-in-None.ensures.value c.in-Some-get_mut-2.ensures.value in
    let put = (c.get_mut-in-None.follows.holds c.turn-in-Some-get_mut-2.new.flips).3 (subst IsSome c.in-Some-get_mut-2.ensures.value refl) in
    let u = subst (λ (xs : List ℕ). tree.UpdatesBy order (query xs) c.args.self.now.far (c.get_mut-in-None.follows.lender c.turn-in-Some-get_mut-2.new.flips) (Some c.turn-in-Some-get_mut-2.new.flips)) c.as_slice-in-None.ensures.value put in
    on_ok_weaker c.turn-in-Some-get_mut-2.result (λ t. turned old new key v.items w.items c.args.gap c.args.truth (kept-far old key (Some v) e is) (far-put old new key (Some w) e refl refl u) t) c.turn-in-Some-get_mut-2.ensures.turned

pub returns-in-Some-get_mut-2-clause-unchanged : goal.returns-in-Some-get_mut-2-clause-unchanged
returns-in-Some-get_mut-2-clause-unchanged c =
    let old = c.args.self.now in
    let key = c.args.key.items in
    let v = c.in-Some-get_mut-2.flips.now in
    let w = c.turn-in-Some-get_mut-2.new.flips in
    let new : Gaps = record { near = c.args.self.now.near; far = c.get_mut-in-None.follows.lender c.turn-in-Some-get_mut-2.new.flips; most = c.args.self.now.most } in
    let e : number_of c.args.self.now.most c.args.key.items ≡ None = sym (c.in-None.ensures ∙ ap (number_of c.args.self.now.most) c.as_slice.ensures.value) in
    let is = subst (λ (xs : List ℕ). Some c.in-Some-get_mut-2.flips.now ≡ tree.get_by (query xs) c.args.self.now.far) c.as_slice-in-None.ensures.value c.in-Some-get_mut-2.ensures.value in
    let put = (c.get_mut-in-None.follows.holds c.turn-in-Some-get_mut-2.new.flips).3 (subst IsSome c.in-Some-get_mut-2.ensures.value refl) in
    let u = subst (λ (xs : List ℕ). tree.UpdatesBy order (query xs) c.args.self.now.far (c.get_mut-in-None.follows.lender c.turn-in-Some-get_mut-2.new.flips) (Some c.turn-in-Some-get_mut-2.new.flips)) c.as_slice-in-None.ensures.value put in
    on_err_weaker c.turn-in-Some-get_mut-2.result (λ t. same old new key w.items (far-put old new key (Some w) e refl refl u) (t ∙ sym (kept-far old key (Some v) e is))) c.turn-in-Some-get_mut-2.ensures.unchanged

pub returns-in_ok-insert-in-Some-clause-turned : goal.returns-in_ok-insert-in-Some-clause-turned
returns-in_ok-insert-in-Some-clause-turned c =
    let old = c.args.self.now in
    let key = c.args.key.items in
    let n = c.in-Some.number in
    let new : Gaps = record { near = c.insert.new.self; far = c.args.self.now.far; most = c.args.self.now.most } in
    let e : number_of c.args.self.now.most c.args.key.items ≡ Some c.in-Some.number = sym (c.in-Some.ensures ∙ ap (number_of c.args.self.now.most) c.as_slice.ensures.value) in
    let u = subst (λ (m : BTreeMap ℕ (Vec ℕ Global)). tree.UpdatesBy nat_cmp (nat_cmp c.in-Some.number) m c.insert.new.self (Some c.in_ok-flips-in-Some.flips)) c.get_mut.follows.holds-at-none c.in_ok-insert-in-Some.ensures.updates in
    entered old new key c.in_ok-flips-in-Some.flips.items c.args.gap c.args.truth (kept-near old key n None e c.in_default.ensures.value) (near-put old new key n (Some c.in_ok-flips-in-Some.flips) e refl refl u) c.in_ok-flips-in-Some.ensures c.requires c.if-not-truth.false

pub returns-in_ok-insert-in-None-clause-turned : goal.returns-in_ok-insert-in-None-clause-turned
returns-in_ok-insert-in-None-clause-turned c =
    let old = c.args.self.now in
    let key = c.args.key.items in
    let new : Gaps = record { near = c.args.self.now.near; far = c.insert-in-None.new.self; most = c.args.self.now.most } in
    let e : number_of c.args.self.now.most c.args.key.items ≡ None = sym (c.in-None.ensures ∙ ap (number_of c.args.self.now.most) c.as_slice.ensures.value) in
    let is = subst (λ (xs : List ℕ). None ≡ tree.get_by (query xs) c.args.self.now.far) c.as_slice-in-None.ensures.value c.in_default-get_mut.ensures.value in
    let u = subst (λ (m : BTreeMap (Vec ℕ Global) (Vec ℕ Global)). tree.UpdatesBy order (query c.args.key.items) m c.insert-in-None.new.self (Some c.in_ok-flips-in-None.flips)) c.get_mut-in-None.follows.holds-at-none c.in_ok-insert-in-None.ensures.updates in
    entered old new key c.in_ok-flips-in-None.flips.items c.args.gap c.args.truth (kept-far old key None e is) (far-put old new key (Some c.in_ok-flips-in-None.flips) e refl refl u) c.in_ok-flips-in-None.ensures c.requires c.if-not-truth-2.false
