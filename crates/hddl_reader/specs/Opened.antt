-- A list with the place of its parenthesis.
use Rattle.std.specs.Prelude.{ℕ, Result, Ok, Err}
use Rattle.text_forms.specs.Placed.{Placed, cut, close, word, list}
use Rattle.gd_reader.specs.declared.stop.Stop.{Stop}
use Rattle.gd_reader.specs.declared.stop.Stop.TheVariants.{Ends, Departs}

-- A list is due. It comes as its place, what is inside and what is behind it.
unfoldable pub opened_due : Placed → Result (ℕ × Placed × Placed) Stop
opened_due cut = Err Ends
opened_due (close at) = Err (Departs 8 at)
opened_due (word at w behind) = Err (Departs 8 at)
opened_due (list at inside behind) = Ok (at, inside, behind)
