use Rattle.public_program.proofs.Numbers.{runnable}
use Rattle.public_program.proofs.by_hand.problem.problem_of.Goals as goal

pub returns : goal.returns
returns c = runnable 1
    (record {
      names = c.args.names;
      domain = record { number = 0 };
      problem = record { number = 0 };
      types = c.no_types.result;
      objects = c.args.objects;
      predicates = c.new.result;
      actions = c.args.actions;
      init = c.args.init;
      goal = c.args.goal;
    })
    (record { names = c.requires.names; types = c.no_types.ensures; objects = c.requires.objects; actions = c.requires.actions })
