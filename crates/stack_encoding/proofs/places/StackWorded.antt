-- What the plans of a stack value rest on.
use Rattle.std.specs.Prelude.{ℕ, map}
use Rattle.htn_base.specs.Different.{AreDifferent}
use Rattle.plan_model.specs.declared.options.Checks.{Checks}
use Rattle.plan_model.specs.declared.schemas.ActionSchema.{ActionSchema}
use Rattle.plan_model.specs.declared.values.Hddl.{Hddl}
use Rattle.plan_model.specs.declared.values.Compiled.{Compiled}
use Rattle.plan_model.specs.declared.values.Pddl.{Pddl}
use Rattle.plan_model.specs.plan_meaning.Compilation.{IsCompiled}
use Rattle.plan_texts.specs.Declared.{named}
use Rattle.plan_texts.specs.Types.{EachIs}
use Rattle.plan_texts.specs.Printable.{IsPlain}
use Rattle.plan_texts.specs.SpellsPddl.{pddl_words}
use Rattle.plan_texts.specs.SoundValue.{IsSoundHddl}
use Rattle.stack_encoding.specs.TotalOrder.{IsTotallyOrdered}
use Rattle.stack_encoding.specs.StackValue.{IsStackEncoded}
use Rattle.stack_encoding.specs.StackPrinted.{IsPrintedStack}

-- it is encoded of a sound, totally ordered problem, and its objects and actions have plain words that differ
pub record IsStackWorded (h : Hddl) (mode : Checks) (c : Compiled) (b : ℕ) (p : Pddl) : Type 0 where
  pub sound : IsSoundHddl h
  pub compiled : IsCompiled h mode c
  pub ordered : IsTotallyOrdered c
  pub encoded : IsStackEncoded c b p
  pub objects : EachIs IsPlain (pddl_words p).objects
  pub objects_differ : AreDifferent (pddl_words p).objects
  pub actions : EachIs IsPlain (map (λ (a : ActionSchema). named p.names a.name) p.actions)
  pub actions_differ : AreDifferent (map (λ (a : ActionSchema). named p.names a.name) p.actions)

pub stack_well : (h : Hddl) (mode : Checks) (c : Compiled) (b : ℕ) (p : Pddl) → IsPrintedStack h mode c b p → IsStackWorded h mode c b p
stack_well h mode c b p is =
    let print = is.printable in
    record { sound = is.sound; compiled = is.compiled; ordered = is.ordered; encoded = is.encoded; objects = print.words.objects; objects_differ = print.words.objects_differ; actions = print.actions_named; actions_differ = print.actions_differ }
