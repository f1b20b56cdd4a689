use Rattle.text_values.proofs.form_spellings.binding_laws.NetworkSound.{has_sound_network}
use Rattle.text_values.proofs.form_spellings.binding_laws.networks.networks_are_sound.Goals as goal

pub returns : goal.returns
returns c = record { sound = has_sound_network }
