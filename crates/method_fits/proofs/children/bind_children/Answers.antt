use Rattle.std.proofs.Common.{ℕ, ◌≡◌, ◌+◌, ◌<◌, ◌≤◌, Some, List, Option, length, get_or, slice_get, nat_eq, eq-eqb, refl, ap, sym, subst, ◌∙◌, arith}
use Rattle.std.specs.Option.{option_map}
use Rattle.std.proofs.lemmas.Bool.{true≢false, eqb-true}
use Rattle.std.proofs.lemmas.Option.{slice_get_read, slice_get-map}
use Rattle.std.proofs.lemmas.List.{length-map}
use Rattle.value_choices.proofs.Settling.{IsLeft}
use Rattle.method_fits.specs.declared.subtask.Subtask.{Subtask}
use Rattle.method_fits.specs.Subtasks.{said_work, said_works}
use Rattle.method_fits.proofs.Steps.{Whole, Rest, next_check, next_child, child_fails, none_there, all_children}
use Rattle.method_fits.proofs.children.bind_children.Goals as goal
use Rattle.method_fits.proofs.children.bind_children.Goals.{then-not-is_check+in-Some+else-not-bind_child, else-not-is_check}

length_said : (said : List Subtask) → length (said_works said) ≡ length said
length_said said = length-map said said_work

said_at : (said : List Subtask) (i : ℕ) (s : Subtask) → i < length said → s ≡ get_or said i s → slice_get (said_works said) i ≡ Some
    (said_work s)
said_at said i s l e = slice_get-map said_work said i ∙ ap (option_map said_work) (slice_get_read said (length said) i s refl l e)

pub returns-in_default : goal.returns-in_default
returns-in_default c = λ m.
    let at = slice_get_read c.args.children.now (length c.args.children.now) c.loop-child.child-index c.child-item.result refl
    c.loop-child-test.true c.child-item.is in
    let past = c.in_default.ensures.lookup.3 in
    let long = length_said c.args.said.now in
    none_there c.args.c.now c.args.children.now (said_works c.args.said.now) c.args.known.now c.loop-child.known m
    c.loop-child.child-index c.loop-child.place (c.loop-child.invariant.settles m)
    c.child-item.result at (λ e. true≢false (sym (c.is_check.ensures.1 e) ∙ c.if-not-is_check.true))
    (let z : length (said_works c.args.said.now) ≤ c.loop-child.place = omega (arith, past, long) in z) c.loop-child.known

pub returns-then-not-bind_child : goal.returns-then-not-bind_child
returns-then-not-bind_child c = λ m.
    let at = slice_get_read c.args.children.now (length c.args.children.now) c.loop-child.child-index c.child-item.result refl
    c.loop-child-test.true c.child-item.is in
    let is = said_at c.args.said.now c.loop-child.place c.in-Some.subtask.now c.in-Some.ensures.lookup.3.0 c.in-Some.ensures.lookup.1 in
    child_fails c.args.c.now c.args.children.now (said_works c.args.said.now) c.args.known.now c.loop-child.known m
    c.loop-child.child-index c.loop-child.place (c.loop-child.invariant.settles m)
    c.child-item.result at (λ e. true≢false (sym (c.is_check.ensures.1 e) ∙ c.if-not-is_check.true))
    (said_work c.in-Some.subtask.now) is c.bind_child.new.known (c.if-not-bind_child.ensures m)

pub loop-child-preserved : goal.loop-child-preserved
loop-child-preserved c =
    let at = slice_get_read c.args.children.now (length c.args.children.now) c.loop-child.child-index c.child-item.result refl
    c.loop-child-test.true c.child-item.is in
    elim c.if-not-is_check.branch [
      | then-not-is_check+in-Some+else-not-bind_child w ↦ record {
        within = (let l = w.in-Some.ensures.lookup.3.0 in let e = w.place-is in omega (arith, l, e));
        settles = λ m. (
            let is = said_at c.args.said.now c.loop-child.place w.in-Some.subtask.now w.in-Some.ensures.lookup.3.0
            w.in-Some.ensures.lookup.1 in
            let many = ap (λ (z : List (Option ℕ)). length z) (sym w.known-is) ∙ c.if-not-is_check.auto.known in
            let next = next_child c.args.c.now c.args.children.now
            (said_works c.args.said.now) c.args.known.now c.loop-child.known m c.loop-child.child-index c.loop-child.place
            (c.loop-child.invariant.settles m)
            c.child-item.result at (λ e. true≢false (sym (c.is_check.ensures.1 e) ∙ w.if-not-is_check.true))
            (said_work w.in-Some.subtask.now) is w.bind_child.new.known many (w.if-not-bind_child.ensures m) in
            let there = subst (λ (z : List (Option ℕ)). IsLeft (Whole c.args.c.now c.args.children.now
            (said_works c.args.said.now) c.args.known.now c.loop-child.known m)
            (Rest c.args.c.now c.args.children.now (said_works c.args.said.now) c.args.known.now c.loop-child.known m
            (c.loop-child.child-index + 1) (c.loop-child.place + 1)) c.args.known.now z) (sym w.known-is) next in
            subst (λ (z : ℕ). IsLeft (Whole c.args.c.now c.args.children.now
            (said_works c.args.said.now) c.args.known.now c.loop-child.known m)
            (Rest c.args.c.now c.args.children.now (said_works c.args.said.now) c.args.known.now c.loop-child.known m
            (c.loop-child.child-index + 1) z) c.args.known.now c.if-not-is_check.known) (sym w.place-is) there);
      }
      | else-not-is_check w ↦ record {
        within = (let l = c.loop-child.invariant.within in let e = w.place-is in omega (arith, l, e));
        settles = λ m. (
            let next = next_check c.args.c.now c.args.children.now
            (said_works c.args.said.now) c.args.known.now c.loop-child.known m c.loop-child.child-index c.loop-child.place
            (c.loop-child.invariant.settles m)
            c.child-item.result at (c.is_check.ensures.0 w.if-not-is_check.false) in
            let there = subst (λ (z : List (Option ℕ)). IsLeft (Whole c.args.c.now c.args.children.now
            (said_works c.args.said.now) c.args.known.now c.loop-child.known m)
            (Rest c.args.c.now c.args.children.now (said_works c.args.said.now) c.args.known.now c.loop-child.known m
            (c.loop-child.child-index + 1) c.loop-child.place) c.args.known.now z) (sym w.known-is) next in
            subst (λ (z : ℕ). IsLeft (Whole c.args.c.now c.args.children.now
            (said_works c.args.said.now) c.args.known.now c.loop-child.known m)
            (Rest c.args.c.now c.args.children.now (said_works c.args.said.now) c.args.known.now c.loop-child.known m
            (c.loop-child.child-index + 1) z) c.args.known.now c.if-not-is_check.known) (sym w.place-is) there);
      }
    ]

pub returns : goal.returns
returns c = λ m.
    let all = c.loop-child-test.false in
    let long = length_said c.args.said.now in
    let within = c.loop-child.invariant.within in
    all_children c.args.c.now c.args.children.now (said_works c.args.said.now) c.args.known.now c.loop-child.known m
    c.loop-child.child-index c.loop-child.place (c.loop-child.invariant.settles m) all
    (nat_eq c.loop-child.place (length c.args.said.now))
    (λ t. (let e = eqb-true c.loop-child.place (length c.args.said.now) t in omega (arith, long, e)))
    (λ l. eq-eqb c.loop-child.place (length c.args.said.now) (let z : c.loop-child.place ≡ length c.args.said.now = omega
    (arith, long, l, within) in z))
