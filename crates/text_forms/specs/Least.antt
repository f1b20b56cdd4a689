-- The least fault of tokens as one number, from the front: for rows, and for whoever looks for it.
use Rattle.std.specs.Prelude.{ℕ, zero, suc, ◌+◌, Option, Some, None, List, [], ◌∷◌}
use Rattle.std.specs.Option.{option_map}
use Rattle.text_forms.specs.Bytes.{Class, blank, opening, closing, letter, bad, classes}
use Rattle.text_forms.specs.Faults.{Fault, fault, innermost, but_innermost, open_after, code_at}

-- how many lists are newer than those of a stack, behind a byte
abbrev pub newer : ℕ → Class → ℕ
newer n opening = suc n
newer zero closing = zero
newer (suc n) closing = n
newer n blank = n
newer n letter = n
newer n bad = n

-- what is left of the stack behind a byte, where n lists are newer
abbrev pub older : ℕ → List ℕ → Class → List ℕ
older n ps opening = ps
older n ps blank = ps
older n ps letter = ps
older n ps bad = ps
older zero ps closing = but_innermost ps
older (suc n) ps closing = ps

abbrev pub innermost_unless : ℕ → List ℕ → Option ℕ
innermost_unless zero ps = innermost ps
innermost_unless (suc n) ps = None

-- the innermost list that is open at the end, if it is one of ps, where n newer ones are open
abbrev pub left_open : ℕ → List ℕ → List Class → Option ℕ
left_open n ps [] = innermost_unless n ps
left_open n ps (c ∷ cs) = left_open (newer n c) (older n ps c) cs

-- a byte's fault, or the list that is left open, which stands at its place or in front of it
abbrev pub settled : ℕ → ℕ → Option ℕ → Fault
settled code at None = fault code at
settled code at (Some p) = fault 2 p

abbrev pub least_by : Option ℕ → ℕ → Option ℕ → Option Fault → Option Fault
least_by None at p next = next
least_by (Some code) at p next = Some (settled code at p)

abbrev pub least : List ℕ → ℕ → List Class → Option Fault
least ps at [] = option_map (fault 2) (innermost ps)
least ps at (c ∷ cs) = least_by (code_at ps c) at (left_open 0 (open_after ps at c) cs) (least (open_after ps at c) (at + 1) cs)

abbrev pub least_fault : List ℕ → Option Fault
least_fault text = least [] 0 (classes text)
