-- The head with its actions is the encoded value.
use Rattle.std.proofs.Common.{ℕ, List, refl, sym, subst}
use Rattle.plan_model.specs.declared.values.Compiled.{Compiled}
use Rattle.plan_model.specs.declared.values.Pddl.{Pddl}
use Rattle.slot_encoder.specs.Encodings.{with_actions}
use Rattle.stack_encoding.specs.StackValue.{stack_actions, IsStackEncoded}
use Rattle.stack_encoder.specs.Heads.{IsHead}

module _ (c : Compiled) (names : List (List ℕ)) (b : ℕ) (v : Pddl) (is : IsHead c names b v) where
  -- over these words
  plain : IsStackEncoded c b (record {
    names = names;
    domain = v.domain;
    problem = v.problem;
    types = v.types;
    objects = v.objects;
    predicates = v.predicates;
    actions = stack_actions c names b;
    init = v.init;
    goal = v.goal;
  })
  plain = record {
    domain = is.domain;
    problem = is.problem;
    types = is.declared.types;
    objects = is.declared.objects;
    predicates = is.declared.predicates;
    actions = refl;
    init = is.init;
    goal = is.goal;
  }

  pub head-encoded : IsStackEncoded c b (with_actions v (stack_actions c names b))
  head-encoded = subst (IsStackEncoded c b) (λ i. record {
    names = sym is.words i;
    domain = v.domain;
    problem = v.problem;
    types = v.types;
    objects = v.objects;
    predicates = v.predicates;
    actions = stack_actions c names b;
    init = v.init;
    goal = v.goal;
  }) plain
