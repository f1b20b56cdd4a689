use Rattle.text_values.proofs.form_spellings.PlacesRead.{formulas_placed, effects_placed, lists_placed}
use Rattle.text_values.proofs.form_spellings.PlacesWhole.{domains_placed, problems_placed}
use Rattle.text_values.proofs.form_spellings.places.places_are_those_of_tokens.Goals as goal

pub returns : goal.returns
returns c = record { formulas = formulas_placed; effects = effects_placed; lists = lists_placed; domains = domains_placed; problems = problems_placed }
