use Rattle.std.proofs.Common.{rules, ◌≡◌, ◌+◌, ◌<◌, ◌≤◌, ◌↔◌, take, Contains, true, List, length, sym, subst, ap, ◌∙◌, true≢false}
use Rattle.std.proofs.lemmas.List.{take_all}
use Rattle.htn_base.proofs.ReadAt.{read_is, none_read}
use Rattle.plan_model.specs.declared.terms.GroundAtom.{GroundAtom}
use Rattle.plan_model.specs.Facts.{atom_of}
use Rattle.plan_model.proofs.task_networks.Lists.{not-in_empty}
use Rattle.state_history.specs.declared.flips.Flips.{Flips}
use Rattle.state_history.specs.Flips.{IsSet, states}
use Rattle.state_history.proofs.HistoryLaws.{first-next}
use Rattle.state_history.proofs.history.History.new.Goals as goal
use Rattle.state_history.proofs.history.History.new.Goals.{in-Some+in_ok-copy_into+in_ok-set, in_default}

pub loop-i-init : goal.loop-i-init
loop-i-init c = record {
  last = c.new-flips.ensures.last;
  init = λ g. (λ x. absurd (true≢false (sym x ∙ c.new-flips.ensures.none 0 g)), λ k. absurd (not-in_empty g k));
}

pub loop-i-preserved : goal.loop-i-preserved
loop-i-preserved c =
    let xs = c.args.init.now in
    let i = c.loop-i.i in
    let old = c.loop-i.flips in
    let within = subst (λ n. c.loop-i.i < n) c.len-i-end.ensures.length c.loop-i-test.true in
    elim c.match-get.branch [
      | in-Some+in_ok-copy_into+in_ok-set w ↦
          let x = w.in-Some.atom in
          let of = atom_of w.atom.inside.predicate in
          let put : of w.as_slice.result.now ≡ x = ap of (w.as_slice.ensures.value ∙ w.in_ok-copy_into.ensures.copied) ∙ w.atom.view_is in
          let is = read_is xs i c.get.result c.get.ensures.fact x w.in-Some.is in
          let set = subst (λ (a : GroundAtom). IsSet c.loop-i.flips a true w.set.new.self) put w.in_ok-set.ensures in
          record {
            last = ap (λ (f : Flips). f.last) w.flips-is ∙ w.in_ok-set.ensures.last ∙ c.loop-i.invariant.last;
            init = subst (λ (f : Flips). (g : GroundAtom) → states f 0 g ↔ Contains (take (c.loop-i.i + 1) c.args.init.now) g) (sym w.flips-is) (first-next xs i x old w.set.new.self within is c.loop-i.invariant.last c.loop-i.invariant.init set);
          }
      | in_default w ↦ absurd (none_read xs i c.get.result c.get.ensures.fact within w.in_default.is)
    ]

pub returns-clause-init : goal.returns-clause-init
returns-clause-init c g =
    let past : length c.args.init.now ≤ c.loop-i.i = search rules in
    subst (λ (xs : List GroundAtom). states c.loop-i.flips 0 g ↔ Contains xs g) (take_all c.loop-i.i c.args.init.now past) (c.loop-i.invariant.init g)
