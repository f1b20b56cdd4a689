-- What the plans of an encoded value rest on.
use Rattle.std.specs.Prelude.{ℕ, map}
use Rattle.htn_base.specs.Different.{AreDifferent}
use Rattle.plan_model.specs.declared.options.Style.{Style}
use Rattle.plan_model.specs.declared.options.Checks.{Checks}
use Rattle.plan_model.specs.declared.schemas.ActionSchema.{ActionSchema}
use Rattle.plan_model.specs.declared.values.Hddl.{Hddl}
use Rattle.plan_model.specs.declared.values.Compiled.{Compiled}
use Rattle.plan_model.specs.declared.values.Pddl.{Pddl}
use Rattle.plan_texts.specs.Declared.{named}
use Rattle.plan_texts.specs.Types.{EachIs}
use Rattle.plan_texts.specs.Printable.{IsPlain}
use Rattle.plan_texts.specs.SpellsPddl.{pddl_words}
use Rattle.plan_texts.specs.SoundValue.{IsSoundHddl}
use Rattle.plan_model.specs.plan_meaning.Compilation.{IsCompiled}
use Rattle.slot_encoding.specs.EncodedValue.{IsEncoded}
use Rattle.slot_encoding.specs.Printed.{IsPrinted}

-- it is encoded of a sound problem, and its objects and actions have plain words that differ
pub record IsWellWorded (h : Hddl) (mode : Checks) (c : Compiled) (b : ℕ) (style : Style) (p : Pddl) : Type 0 where
  pub sound : IsSoundHddl h
  pub compiled : IsCompiled h mode c
  pub encoded : IsEncoded c b style p
  pub objects : EachIs IsPlain (pddl_words p).objects
  pub objects_differ : AreDifferent (pddl_words p).objects
  pub actions : EachIs IsPlain (map (λ (a : ActionSchema). named p.names a.name) p.actions)
  pub actions_differ : AreDifferent (map (λ (a : ActionSchema). named p.names a.name) p.actions)

pub printed_well : (h : Hddl) (mode : Checks) (c : Compiled) (b : ℕ) (style : Style) (p : Pddl) → IsPrinted h mode c b style p → IsWellWorded h mode c b style p
printed_well h mode c b style p is = record {
  sound = is.sound;
  compiled = is.compiled;
  encoded = is.encoded;
  objects = is.printable.words.objects;
  objects_differ = is.printable.words.objects_differ;
  actions = is.printable.actions_named;
  actions_differ = is.printable.actions_differ;
}
