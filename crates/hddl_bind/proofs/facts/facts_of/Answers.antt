use Rattle.std.proofs.Common.{◌<◌, ◌++◌, ◌∷◌, [], ap, subst, ◌∙◌, arith}
use Rattle.std.specs.Option.{option_map}
use Rattle.std.proofs.lemmas.Grind.{common_steps}
use Rattle.gd_reader.specs.declared.term.RawAtom.{RawAtom}
use Rattle.gd_reader.specs.declared.term.RawTerm.{RawTerm}
use Rattle.plan_model.specs.Facts.{atom_of}
use Rattle.htn_base.proofs.ReadAt.{read_is, none_read}
use Rattle.name_binding.specs.Spots.{noted}
use Rattle.name_binding.specs.Atoms.{atom_faults}
use Rattle.name_binding.specs.Facts.{fact_bound}
use Rattle.hddl_bind.proofs.Steps.{noted_step, map_step}
use Rattle.hddl_bind.proofs.facts.facts_of.Goals as goal
use Rattle.hddl_bind.proofs.facts.facts_of.Goals.{in-Some+in_ok-predicate+in_ok-push, in_default}

pub loop-i-preserved : goal.loop-i-preserved
loop-i-preserved c =
    let xs = c.args.facts.now in
    let i = c.loop-i.i in
    let known = c.args.known.now in
    let within = subst (λ n. i < n) c.len-i-end.ensures.length c.loop-i-test.true in
    let atom : RawTerm → RawAtom = λ head. record { head = head; args = c.read.new.args.items } in
    let read = option_map atom c.in_ok-head.field-0 in
    let e = c.in_ok-head.ensures.fact in
    elim c.match-branch-3.branch [
      | in-Some+in_ok-predicate+in_ok-push w ↦
          let x = atom w.in-Some.head in
          let is = read_is xs i read e x (ap (option_map atom) w.in-Some.is) in
          let bound = c.loop-i.bound in
          let predicate = w.in_ok-predicate.predicate in
          let given = w.as_slice.ensures.value in
          let of = w.in_ok-predicate.ensures.bound
          ∙ ap (λ terms. fact_bound known (record { head = w.in-Some.head; args = terms })) given in
          let faults = w.in_ok-predicate.ensures.faults
          ∙ ap (λ terms. noted c.loop-i.faults.least (atom_faults known [] (record { head = w.in-Some.head; args = terms }))) given in
          let put = w.in_ok-push.ensures.pushed ∙ ap (λ objects. bound ++ atom_of predicate objects ∷ []) w.as_slice-in-Some.ensures.value
          ∙ ap (λ g. bound ++ g ∷ []) of in
          record {
            bound = w.bound-is ∙ map_step xs i x x within is (fact_bound known) bound w.push.new.self c.loop-i.invariant.bound put;
            faults = rw w.faults-is (noted_step xs i x x within is (atom_faults known []) _ _ _ c.loop-i.invariant.faults faults);
          }
      | in_default w ↦ absurd (none_read xs i read e within (ap (option_map atom) w.in_default.is))
    ]

pub returns-clause-bound : goal.returns-clause-bound
returns-clause-bound c = grind (arith, common_steps)

pub returns-clause-faults : goal.returns-clause-faults
returns-clause-faults c = grind (arith, common_steps)
