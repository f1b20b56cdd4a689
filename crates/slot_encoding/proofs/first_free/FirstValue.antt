-- The printed problem with first-free slots, made of the plain one.
use Rattle.std.proofs.Common.{ℕ, ◌≡◌, [], ◌∷◌, ◌++◌, ap, ◌∙◌}
use Rattle.plan_model.specs.declared.options.Style.{Style}
use Rattle.plan_model.specs.declared.values.Compiled.{Compiled}
use Rattle.plan_model.specs.declared.values.Pddl.{Pddl}
use Rattle.slot_encoding.specs.FirstFree.{less, first_actions, less_facts, IsFirstEncoded}
use Rattle.slot_encoding.proofs.ValueOver.{over, is_over}

module _ (c : Compiled) (b : ℕ) (style : Style) where
  abbrev pub first_of : Pddl → Pddl
  first_of plain = record {
    names = plain.names;
    domain = plain.domain;
    problem = plain.problem;
    types = plain.types;
    objects = plain.objects;
    predicates = plain.predicates ++ less c plain.names b style ∷ [];
    actions = first_actions c plain.names b style;
    init = plain.init ++ less_facts c plain.names b style;
    goal = plain.goal;
  }

  -- each is one
  pub is_first : (p : Pddl) (e : IsFirstEncoded c b style p) → p ≡ first_of (over c b style e.plain.names e.plain.init)
  is_first p e = e.value_is ∙ ap first_of (is_over c b style e.plain e.encoded)

  pub names_are : (p : Pddl) (e : IsFirstEncoded c b style p) → p.names ≡ e.plain.names
  names_are p e = ap (λ (z : Pddl). z.names) e.value_is
