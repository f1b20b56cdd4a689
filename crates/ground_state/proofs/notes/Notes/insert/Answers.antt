use Rattle.std.proofs.Common.{List, ℕ, ◌+◌, ◌∙◌, Some, refl, sym, subst, arith}
use Rattle.std.specs.Vec.{with_item}
use Rattle.std.specs.BTreeMap as tree
use Rattle.ground_state.specs.declared.notes.Notes.{Notes}
use Rattle.ground_state.specs.Notes.{IsNoted}
use Rattle.ground_state.proofs.Lists.{order, query, far-noted, near-set, with-room}
use Rattle.ground_state.proofs.notes.Notes.insert.Goals as goal
use Rattle.ground_state.proofs.notes.Notes.insert.Goals.{then-number-len+in_ok-resize, else-number-len}

pub returns-in_default-clause-inserted : goal.returns-in_default-clause-inserted
returns-in_default-clause-inserted c =
    far-noted c.args.self.now c.insert.new.self c.args.args.now (Some c.args.truth) (sym c.in_default.ensures.number)
    (subst (λ (list : List ℕ). tree.UpdatesBy order (query list) c.args.self.now.far c.insert.new.self (Some c.args.truth)) c.in_ok-args.ensures.items c.in_ok-insert.ensures.updates)

pub returns-clause-inserted : goal.returns-clause-inserted
returns-clause-inserted c =
    let old = c.args.self.now in
    let n = c.in-Some.number in
    let P : Notes → Type 0 = λ m. IsNoted c.args.self.now c.args.args.now (Some c.args.truth) (record { numbers = m.numbers; near = with_item m.near c.in-Some.number (Some c.args.truth); far = m.far }) in
    elim c.if-number-len.branch [
      | then-number-len+in_ok-resize w ↦
          let same = with-room c.args.self.now.near w.resize.new.self (n + 1) (let l = w.if-number-len.true in let e = c.len.ensures in let k = old.near.ok.0 in omega (arith, l, e, k)) (sym w.resize.new.self.ok.0 ∙ w.in_ok-resize.ensures.len)
          (λ k d l m. w.in_ok-resize.ensures.by_index.0 k d l (let e = old.near.ok.0 in omega (arith, m, e)))
          (λ k d l m. w.in_ok-resize.ensures.by_index.1 k d refl (let e = old.near.ok.0 in omega (arith, l, e)) m) in
          subst P (sym w.self-is) (near-set old w.resize.new.self c.args.args.now n (Some c.args.truth) (sym c.in-Some.ensures.number) same (let l = w.in_ok-resize.ensures.len in let k = w.resize.new.self.ok.0 in omega (arith, l, k)))
      | else-number-len w ↦
          subst P (sym w.self-is) (near-set old c.args.self.now.near c.args.args.now n (Some c.args.truth) (sym c.in-Some.ensures.number) (λ k. refl) (let l = w.if-number-len.false in let e = c.len.ensures in let k = old.near.ok.0 in omega (arith, l, e, k)))
    ]
