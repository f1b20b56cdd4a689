-- Classical plans and the fault of their form, by computation.
use Rattle.std.proofs.Common.{◌≡◌, Some, None, codes, refl}
use Rattle.text_forms.specs.Faults.{fault}
use Rattle.text_forms.specs.form_grammar.Plans.{steps_fault}

-- whole plans
no_step : steps_fault (codes "") ≡ None
no_step = refl

two_steps : steps_fault (codes "(a b)(c)") ≡ None
two_steps = refl

marked : steps_fault (codes "; cost = 3 (unit cost)\n0: (A)\n(b)\n12: (C d)") ≡ None
marked = refl

reserved_words : steps_fault (codes "(and or)") ≡ None
reserved_words = refl

-- a token that cannot stand there, and a mark behind which nothing comes: 8
mark_alone : steps_fault (codes "0:") ≡ Some (fault 8 0)
mark_alone = refl

trailing_mark : steps_fault (codes "(a) 0:") ≡ Some (fault 8 4)
trailing_mark = refl

two_marks : steps_fault (codes "0: 1: (a)") ≡ Some (fault 8 3)
two_marks = refl

colon_without_digits : steps_fault (codes ": (a)") ≡ Some (fault 8 0)
colon_without_digits = refl

word_outside : steps_fault (codes "(a) x") ≡ Some (fault 8 4)
word_outside = refl

empty_step : steps_fault (codes "()") ≡ Some (fault 8 1)
empty_step = refl

list_in_a_step : steps_fault (codes "(a (b))") ≡ Some (fault 8 3)
list_in_a_step = refl

variable : steps_fault (codes "(?a)") ≡ Some (fault 8 1)
variable = refl

keyword : steps_fault (codes "(a :b)") ≡ Some (fault 8 3)
keyword = refl
