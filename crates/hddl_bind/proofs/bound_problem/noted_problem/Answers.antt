use Rattle.std.proofs.Common.{◌++◌, ap, sym, subst, ◌∙◌}
use Rattle.hddl_bind.specs.ProblemParts.{parts_bound}
use Rattle.hddl_bind.specs.WholeProblems.{IsStart}
use Rattle.hddl_bind.proofs.WholeTexts.{problem_noted}
use Rattle.hddl_bind.proofs.bound_problem.noted_problem.Goals as goal

pub returns-clause-noted : goal.returns-clause-noted
returns-clause-noted c =
    let d = c.args.d.now in
    let p = c.args.p.now in
    let start = c.in_ok-start.start in
    let names = c.add_names.new.names in
    let parts = c.in_ok-parts.parts in
    let unions = c.in_ok-d.ensures.unions in
    let called = c.add_names.ensures.callables in
    let objects = c.in_ok-add_objects.ensures.added ∙ ap (λ own. d.objects ++ own) c.as_slice.ensures.items in
    let made = c.in_ok-parts.ensures.bound ∙ ap (λ task. parts_bound names.known names.callables start task p) (c.in_ok-task.ensures.same ∙ c.len.ensures.length) in (
      start.number,
      subst (λ names. IsStart names start.number) (sym c.in_ok-words.ensures.words) c.in_ok-start.ensures.number,
      problem_noted d p start.number c.args.faults.now.least c.add_names.new.faults.least c.parts_of.new.faults.least names parts
          (record {
            domain = d.domain;
            types = record { names = d.types.names; parents = d.types.parents; unions = c.in_ok-d.field-0 };
            objects = c.add_objects.new.into;
            predicates = d.predicates;
            tasks = d.tasks;
            actions = d.actions;
            methods = d.methods;
            names = names;
          })
          c.in_ok-add_names.ensures.unions c.in_ok-add_names.ensures.names called c.in_ok-add_names.ensures.faults made c.in_ok-parts.ensures.faults
          (λ i. record {
            domain = d.domain;
            types = record { names = d.types.names; parents = d.types.parents; unions = unions i };
            objects = objects i;
            predicates = d.predicates;
            tasks = d.tasks;
            actions = d.actions;
            methods = d.methods;
            names = record { known = names.known; callables = called i };
          }),
    )
