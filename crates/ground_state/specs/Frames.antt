-- What an environment stands for: the objects of the variables in force, and for how many it has room.
-- Source: this project's.
use Rattle.std.specs.Prelude.{ℕ, List, [], ◌∷◌, ◌++◌, vec_capacity}
use Rattle.ground_state.specs.declared.env.Env.{Env}

pub record Frame : Type 0 where
  pub objects : List ℕ
  pub room : ℕ
  pub arity : ℕ

abbrev pub frame : Env → Frame
frame env = record { objects = env.values.items; room = vec_capacity env.values; arity = vec_capacity env.args }

-- with one more variable in force, which stands for this object
abbrev pub pushed : Frame → ℕ → Frame
pushed f o = record { objects = f.objects ++ o ∷ []; room = f.room; arity = f.arity }

-- with no variable in force
abbrev pub cleared : Frame → Frame
cleared f = record { objects = []; room = f.room; arity = f.arity }
