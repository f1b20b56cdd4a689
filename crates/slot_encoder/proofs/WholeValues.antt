-- The head with its actions is the encoded value, which is printable.
use Rattle.std.proofs.Common.{ℕ, ◌≡◌, List, ◌++◌, Some, refl, ap, sym, subst, ◌∙◌}
use Rattle.plan_model.specs.declared.options.Slots.{Slots}
use Rattle.plan_model.specs.declared.options.Slots.TheVariants.{Any, First}
use Rattle.plan_model.specs.declared.options.Style.{Style}
use Rattle.plan_model.specs.declared.schemas.ActionSchema.{ActionSchema}
use Rattle.plan_model.specs.declared.values.Compiled.{Compiled}
use Rattle.plan_model.specs.declared.values.Pddl.{Pddl}
use Rattle.slot_encoding.specs.EncodedNames.{encoded_predicates}
use Rattle.slot_encoding.specs.EncodedValue.{IsEncoded, encoded_actions}
use Rattle.slot_encoding.specs.FirstFree.{first_actions, less_facts, IsFirstEncoded, IsEncodedBy, HasWordsBy}
use Rattle.slot_encoding.proofs.words.EncodedIsPrintable.{encoded_printable}
use Rattle.slot_encoder.specs.Rules as rules
use Rattle.slot_encoder.specs.Parts.{IsHead}
use Rattle.slot_encoder.specs.Encodings.{whole, whole_by, whole_in, with_actions, all_actions, value_by, IsEncoding, IsPrintableWhereSound}
use Rattle.slot_encoder.specs.declared.encoding.Encoding.{Encoding}
use Rattle.slot_encoder.specs.declared.split_action.SplitAction.{SplitAction}

-- all but the actions, and the actions, over these words
module _ (c : Compiled) (names : List (List ℕ)) (b : ℕ) (style : Style) (v : Pddl) where
  abbrev with_words : List (List ℕ) → Pddl
  with_words words = record {
    names = words;
    domain = v.domain;
    problem = v.problem;
    types = v.types;
    objects = v.objects;
    predicates = encoded_predicates c names b;
    actions = encoded_actions c names b style;
    init = v.init;
    goal = v.goal;
  }

  plain : (rule : Slots) → IsHead rule c names b style v → IsEncoded c b style (with_words names)
  plain rule is = record {
    domain = is.domain;
    problem = is.problem;
    types = is.types;
    objects = is.objects;
    predicates = refl;
    actions = refl;
    init = is.init;
    goal = is.goal;
  }

  any-encoded : IsHead Any c names b style v → IsEncoded c b style (with_actions v (encoded_actions c names b style))
  any-encoded is = subst (IsEncoded c b style) (λ i. record {
    names = sym is.words i;
    domain = v.domain;
    problem = v.problem;
    types = v.types;
    objects = v.objects;
    predicates = sym is.predicates i;
    actions = encoded_actions c names b style;
    init = v.init;
    goal = v.goal;
  }) (plain Any is)

  first-encoded : IsHead First c names b style v → IsFirstEncoded c b style (record {
    names = v.names;
    domain = v.domain;
    problem = v.problem;
    types = v.types;
    objects = v.objects;
    predicates = v.predicates;
    actions = first_actions c names b style;
    init = v.init ++ less_facts c names b style;
    goal = v.goal;
  })
  first-encoded is = record {
    plain = with_words names;
    encoded = plain First is;
    value_is = λ i. record {
      names = is.words i;
      domain = v.domain;
      problem = v.problem;
      types = v.types;
      objects = v.objects;
      predicates = is.predicates i;
      actions = first_actions c names b style;
      init = v.init ++ less_facts c names b style;
      goal = v.goal;
    };
  }

pub head-encoded : (c : Compiled) (e : Encoding) (rule : Slots) → IsHead rule c e.names e.slots e.style e.head → IsEncodedBy rule c e.slots e.style (value_by rule c e)
head-encoded c e Any is = any-encoded c e.names e.slots e.style e.head is
head-encoded c e First is = first-encoded c e.names e.slots e.style e.head is

-- the finished value, where a method takes any free slots
module _ (c : Compiled) (e : Encoding) where
  pub any_whole : e.rule ≡ Any → (a : SplitAction) → Some (whole_in c e a) ≡ Some (whole a)
  any_whole any a = ap (λ rule. Some (whole_by rule c e.names e.slots e.style a)) any

  module _ (is : IsEncoding c e) (any : e.rule ≡ Any) (actions : List ActionSchema) (all : actions ≡ all_actions c e) where
    pub value-encoded : IsEncoded c e.slots e.style (with_actions e.head actions)
    value-encoded =
        subst (λ xs. IsEncoded c e.slots e.style (with_actions e.head xs)) (sym (all ∙ ap (λ rule. rules.actions rule c e.names e.slots e.style) any))
        (subst (λ rule. IsEncodedBy rule c e.slots e.style (value_by rule c e)) any is.encoded)

    pub value-printable : IsPrintableWhereSound c e.slots (with_actions e.head actions)
    value-printable h mode sound compiled top some unions =
        encoded_printable h mode c e.slots e.style (with_actions e.head actions) sound compiled value-encoded (subst (λ rule. HasWordsBy rule c e.slots e.head.names) any is.words) (record { top = top; some_slot = some; short = is.short; unions = unions })
