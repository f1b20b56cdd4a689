-- What passed between the program and the outside: each call, and what it was answered. Of what a disk really holds nothing is said.
use Rattle.std.specs.Prelude.{List, [], ◌∷◌, ◌++◌, Option, option_map}
use Rattle.outside_io.specs.Calls.{Passed}

-- the calls so far, and then this one, where they are told
abbrev pub with_call : Option (List Passed) → Passed → Option (List Passed)
with_call calls call = option_map (λ told. told ++ call ∷ []) calls
