-- What reading from the front answers: a value, or where it stops.
use Rattle.std.specs.Prelude.{◌≡◌, ℕ, List, ◌++◌, Option, Some, None, Result, Ok, Err}
use Rattle.text_forms.specs.Placed.{Placed, cut, close, word, list}
use Rattle.text_forms.specs.Words.{Word}
use Rattle.gd_reader.specs.declared.stop.Stop.{Stop}
use Rattle.gd_reader.specs.declared.stop.Stop.TheVariants.{Ends, Departs}
use Rattle.gd_reader.specs.declared.stop.Failure.{Failure}
use Rattle.gd_reader.specs.declared.stop.Failure.TheVariants as failures

-- one answer after another
infixl 10 ◌>>=◌
abbrev pub ◌>>=◌ : {A B : Type 0} → Result A Stop → (A → Result B Stop) → Result B Stop
(Ok x) >>= f = f x
(Err e) >>= f = Err e

abbrev pub Fails : {B : Type 0} → Failure → Result B Stop → Type 0
Fails failures.Memory a = Unit {0}
Fails (failures.At s) a = a ≡ Err s

-- what was returned, seen by a view, is the answer, unless memory ran out
abbrev pub Gives : {A B : Type 0} → (A → B) → Result A Failure → Result B Stop → Type 0
Gives view (Ok x) a = a ≡ Ok (view x)
Gives view (Err e) a = Fails e a

-- the same, with the words of the table behind it
abbrev pub GivesWith : {A N : Type 0} → N → Result A Failure → Result (A × N) Stop → Type 0
GivesWith names result a = Gives (λ x. (x, names)) result a

-- A word is due. It comes with its place and with what is behind it.
unfoldable pub word_due : Placed → Result (ℕ × Word × Placed) Stop
word_due cut = Err Ends
word_due (close at) = Err (Departs 8 at)
word_due (word at w behind) = Ok (at, w, behind)
word_due (list at inside behind) = Err (Departs 8 at)

-- a word, or the end of the list
unfoldable pub word_or_end : Placed → Result (Option (ℕ × Word × Placed)) Stop
word_or_end cut = Err Ends
word_or_end (close at) = Ok None
word_or_end (word at w behind) = Ok (Some (at, w, behind))
word_or_end (list at inside behind) = Err (Departs 8 at)

-- A list is due. It comes as what is inside and what is behind it.
unfoldable pub list_due : Placed → Result (Placed × Placed) Stop
list_due cut = Err Ends
list_due (close at) = Err (Departs 8 at)
list_due (word at w behind) = Err (Departs 8 at)
list_due (list at inside behind) = Ok (inside, behind)

-- a list, or the end of the list in which it stands
unfoldable pub list_or_end : Placed → Result (Option (Placed × Placed)) Stop
list_or_end cut = Err Ends
list_or_end (close at) = Ok None
list_or_end (word at w behind) = Err (Departs 8 at)
list_or_end (list at inside behind) = Ok (Some (inside, behind))

unfoldable pub end_due : Placed → Result (Unit {0}) Stop
end_due cut = Err Ends
end_due (close at) = Ok tt
end_due (word at w behind) = Err (Departs 8 at)
end_due (list at inside behind) = Err (Departs 8 at)

-- words and lists up to the end of their list
unfoldable pub passed : Placed → Result (Unit {0}) Stop
passed cut = Err Ends
passed (close at) = Ok tt
passed (word at w behind) = passed behind
passed (list at inside behind) = passed inside >>= (λ _. passed behind)

-- an answer with a list in front
abbrev pub with_front : {X N : Type 0} → List X → Result (List X × N) Stop → Result (List X × N) Stop
with_front front a = a >>= (λ r. Ok (front ++ r.0, r.1))
