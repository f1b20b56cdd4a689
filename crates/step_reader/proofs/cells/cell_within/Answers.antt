use Rattle.std.proofs.Common.{◌≡◌, true≢false, ap, sym, ◌∙◌, arith}
use Rattle.std.proofs.Math.Decide.{ℕ_discrete}
use Rattle.std.proofs.lemmas.Slice.Eq.{bytes_eq-Decides}
use Rattle.htn_base.specs.Escapes.{slot_word}
use Rattle.step_reader.proofs.CellWords.{lowest_word}
use Rattle.step_reader.proofs.cells.cell_within.Goals as goal

pub returns-then-eq : goal.returns-then-eq
returns-then-eq c =
    let same = (bytes_eq-Decides c.args.word.now c.as_slice.result.now).0 (sym c.eq.ensures ∙ c.if-eq.true) in
    (omega arith, same ∙ c.as_slice.ensures ∙ sym lowest_word)

pub returns-in_default : goal.returns-in_default
returns-in_default c k (l, e) = elim (ℕ_discrete k 0) [
  | yes z ↦ (
      let is = e ∙ ap slot_word z ∙ lowest_word ∙ sym c.as_slice.ensures in
      true≢false (sym ((bytes_eq-Decides c.args.word.now c.as_slice.result.now).1 is) ∙ (sym c.eq.ensures ∙ c.if-eq.false)))
  | no n ↦ (
      let fits = c.ranges.cells.fits in
      let found = (c.slot_number.ensures.number k).1 (omega arith, omega arith, e) in
      let same : c.in-Some.cell ≡ k = (let f = sym c.in-Some.is ∙ found in cc) in
      let past = c.if-cell-cells.false in
      omega arith)
]

pub returns-in_default-2 : goal.returns-in_default-2
returns-in_default-2 c k (l, e) = elim (ℕ_discrete k 0) [
  | yes z ↦ (
      let is = e ∙ ap slot_word z ∙ lowest_word ∙ sym c.as_slice.ensures in
      true≢false (sym ((bytes_eq-Decides c.args.word.now c.as_slice.result.now).1 is) ∙ (sym c.eq.ensures ∙ c.if-eq.false)))
  | no n ↦ (
      let fits = c.ranges.cells.fits in
      let found = (c.slot_number.ensures.number k).1 (omega arith, omega arith, e) in
      let f = sym c.in_default.is ∙ found in
      cc)
]
