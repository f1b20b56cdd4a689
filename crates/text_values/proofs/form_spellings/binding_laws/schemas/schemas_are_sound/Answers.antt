use Rattle.text_values.proofs.form_spellings.binding_laws.PartSound.{has_sound_schemas, has_sound_parts}
use Rattle.text_values.proofs.form_spellings.binding_laws.schemas.schemas_are_sound.Goals as goal

pub returns : goal.returns
returns c = record { domains = has_sound_schemas; problems = has_sound_parts }
