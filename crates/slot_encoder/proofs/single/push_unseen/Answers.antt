use Rattle.std.proofs.Common.{rules, ℕ, true, false, not, get_or, ◌≡◌, ◌+◌, ◌++◌, ◌∷◌, [], ◌<◌, ◌≤◌, List, length, take, refl, subst, sym, ap, ◌∙◌}
use Rattle.std.proofs.lemmas.List.{append-nil, take_all, take_more}
use Rattle.plan_model.specs.declared.terms.GroundAtom.{GroundAtom}
use Rattle.plan_model.specs.Facts.{atom_of}
use Rattle.htn_base.proofs.ReadAt.{read_is, none_read}
use Rattle.plan_model.specs.plan_meaning.Compilation.{once}
use Rattle.slot_encoding.specs.EncodedValue.{same_atom}
use Rattle.slot_encoder.specs.SeenFacts.{HasMet, is_among}
use Rattle.slot_encoder.proofs.SingleAtoms.{single_next}
use Rattle.slot_encoder.proofs.single.push_unseen.Goals as goal
use Rattle.slot_encoder.proofs.single.push_unseen.Goals.{in-Some+in_ok-copy_into+in_ok-insert+then-branch+in_ok-push, in-Some+in_ok-copy_into+in_ok-insert+else-branch, in_default}

-- the facts so far, and this one
one_more : (xs : List GroundAtom) (i : ℕ) (x : GroundAtom) → i < length xs → x ≡ get_or xs i x → take i xs ++ x ∷ [] ≡ take (i + 1) xs
one_more xs i x l is = ap (λ y. take i xs ++ y ∷ []) is ∙ sym (take_more xs i x l)

pub loop-i-preserved : goal.loop-i-preserved
loop-i-preserved c =
    let xs = c.args.facts.now in
    let i = c.loop-i.i in
    let before = c.args.into.now in
    let within = subst (λ n. i < n) c.len-i-end.ensures.length c.loop-i-test.true in
    elim c.match-get.branch [
      | in-Some+in_ok-copy_into+in_ok-insert+then-branch+in_ok-push w ↦
          let x = w.in-Some.fact in
          let is = read_is xs i c.get.result c.get.ensures.fact x w.in-Some.is in
          let asked : atom_of w.fact.inside.predicate w.as_slice.result.now ≡ x = search rules in
          let put : atom_of w.fact.inside.predicate w.as_slice-then-branch.result.now ≡ x = search rules in
          let met = w.in_ok-insert.ensures (take i xs) c.loop-i.invariant.seen in
          record {
            seen = rw w.seen-is (subst (HasMet w.insert.new.self) (ap (λ a. take i xs ++ a ∷ []) asked ∙ one_more xs i x within is) met.1);
            into = w.into-is ∙ single_next xs i x within is before c.loop-i.into w.push.new.self (is_among x (take i xs)) true c.loop-i.invariant.into refl (sym w.if-branch.true ∙ met.0 ∙ ap (λ a. not (is_among a (take i xs))) asked) (w.in_ok-push.ensures.pushed ∙ ap (λ a. c.loop-i.into ++ a ∷ []) put);
          }
      | in-Some+in_ok-copy_into+in_ok-insert+else-branch w ↦
          let x = w.in-Some.fact in
          let is = read_is xs i c.get.result c.get.ensures.fact x w.in-Some.is in
          let asked : atom_of w.fact.inside.predicate w.as_slice.result.now ≡ x = search rules in
          let met = w.in_ok-insert.ensures (take i xs) c.loop-i.invariant.seen in
          record {
            seen = rw w.seen-is (subst (HasMet w.insert.new.self) (ap (λ a. take i xs ++ a ∷ []) asked ∙ one_more xs i x within is) met.1);
            into = w.into-is ∙ single_next xs i x within is before c.loop-i.into c.loop-i.into (is_among x (take i xs)) false c.loop-i.invariant.into refl (sym w.if-branch.false ∙ met.0 ∙ ap (λ a. not (is_among a (take i xs))) asked) (sym (append-nil c.loop-i.into));
          }
      | in_default w ↦ absurd (none_read xs i c.get.result c.get.ensures.fact within w.in_default.is)
    ]

pub returns : goal.returns
returns c =
    let past : length c.args.facts.now ≤ c.loop-i.i = search rules in
    c.loop-i.invariant.into ∙ ap (λ (xs : List GroundAtom). c.args.into.now ++ once same_atom xs) (take_all c.loop-i.i c.args.facts.now past)
