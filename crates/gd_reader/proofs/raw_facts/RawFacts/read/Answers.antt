use Rattle.std.proofs.Common.{◌≡◌, drop, slice_get, get_or, refl, sym, ap, ◌∙◌, arith, Some}
use Rattle.std.specs.Option.{option_map, unwrap_or}
use Rattle.std.proofs.lemmas.List.{take_all}
use Rattle.std.proofs.lemmas.Option.{slice_get-map, unwrap_or-slice_get}
use Rattle.htn_base.specs.Packed.{Row, row_of}
use Rattle.htn_base.proofs.ReadAt.{next_read, past_read}
use Rattle.gd_reader.specs.RawRows.{term_coded, terms_coded, atom_coded}
use Rattle.gd_reader.proofs.Coding.{few_terms, take_past}
use Rattle.gd_reader.proofs.raw_facts.RawFacts.read.Goals as goal
use Rattle.gd_reader.proofs.raw_facts.RawFacts.read.Goals.{in-Some-term_of_row+in_ok-push, in_default-term_of_row}

pub loop-j-preserved : goal.loop-j-preserved
loop-j-preserved c =
    let row = c.row.inside in
    let terms = terms_coded row.head (drop 1 row.rest) in
    let j = c.loop-j.j in
    let read = c.term_of_row.result in
    let same = ap (λ (r : Row). slice_get (terms_coded r.head (drop 1 r.rest)) j) (sym c.row.view_is) in
    let is : read ≡ slice_get terms j = c.term_of_row.ensures ∙ same in
    elim c.match-term_of_row.branch [
      | in-Some-term_of_row+in_ok-push w ↦
          let next = next_read terms j read is w.in-Some-term_of_row.term w.in-Some-term_of_row.is in
          rw (w.args-is, w.in_ok-push.ensures.items, c.loop-j.invariant, next) refl
      | in_default-term_of_row w ↦
          rw (w.args-is, c.loop-j.invariant) (sym (take_past terms j (past_read terms j read is w.in_default-term_of_row.is)))
    ]

pub returns : goal.returns
returns c =
    let row = row_of c.row.inside.head c.row.inside.rest in
    let terms = terms_coded row.head (drop 1 row.rest) in
    let few = few_terms row.head row.rest in
    let long = c.len-j-end.ensures.length in
    let ended = c.loop-j-test.false in
    let args : c.loop-j.args.items ≡ terms = c.loop-j.invariant ∙ take_all c.loop-j.j terms (omega (arith, few, long, ended)) in
    let code = c.unwrap_or-code.ensures ∙ ap (λ first. unwrap_or first 0) c.get-2.ensures.number ∙ unwrap_or-slice_get row.rest 0 0 in
    let head : c.decoded.result ≡ term_coded row.head (get_or row.rest 0 0) = c.decoded.ensures ∙ ap (term_coded row.head) code in
    let read : slice_get c.self.inside.rows c.args.i ≡ Some row =
    sym c.get.ensures.row ∙ c.in-Some.is ∙ ap (λ r. Some r) (sym c.row.view_is) in
    let there : slice_get c.args.self.now c.args.i ≡ Some (atom_coded row) =
    ap (λ atoms. slice_get atoms c.args.i) (sym c.self.view_is) ∙ slice_get-map atom_coded c.self.inside.rows c.args.i
    ∙ ap (option_map atom_coded) read in
    record { fact = (λ k. Some (record { head = head k; args = args k })) ∙ sym there }
