-- Rows of numbers and parts of a list, worked out.
use Rattle.std.proofs.Common.{◌≡◌, [], ◌∷◌, refl}
use Rattle.htn_base.specs.Packed.{row_of, rows_of, parts_from}

two_rows : rows_of (7 ∷ 8 ∷ []) (parts_from 0 (2 ∷ 3 ∷ []) (4 ∷ 5 ∷ 6 ∷ [])) ≡ row_of 7 (4 ∷ 5 ∷ []) ∷ row_of 8 (6 ∷ []) ∷ []
two_rows = refl

a_row_of_a_head_alone : rows_of (7 ∷ 8 ∷ 9 ∷ []) (parts_from 0 (1 ∷ 1 ∷ 2 ∷ []) (4 ∷ 5 ∷ []))
    ≡ row_of 7 (4 ∷ []) ∷ row_of 8 [] ∷ row_of 9 (5 ∷ []) ∷ []
a_row_of_a_head_alone = refl

three_parts : parts_from 0 (2 ∷ 2 ∷ 3 ∷ []) (4 ∷ 5 ∷ 6 ∷ []) ≡ (4 ∷ 5 ∷ []) ∷ [] ∷ (6 ∷ []) ∷ []
three_parts = refl
