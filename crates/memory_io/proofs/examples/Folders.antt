-- Folders, worked out.
use Rattle.std.proofs.Common.{◌≡◌, [], ◌∷◌, true, false, Some, None, take, codes, refl}
use Rattle.std.specs.Option.{option_map}
use Rattle.outside_io.specs.Folder.{file_of, with_bytes}

-- a name that is held keeps its place
put_held : with_bytes ((codes "a", codes "123") ∷ (codes "b", codes "45") ∷ []) (codes "a") (codes "6") ≡ (codes "a", codes "6") ∷ (codes "b", codes "45") ∷ []
put_held = refl

-- a new name goes last
put_new : with_bytes ((codes "a", codes "123") ∷ []) (codes "b") (codes "45") ≡ (codes "a", codes "123") ∷ (codes "b", codes "45") ∷ []
put_new = refl

-- a get of at most two bytes
first_two : option_map (take 2) (file_of false ((codes "a", codes "123") ∷ []) (codes "a")) ≡ Some (codes "12")
first_two = refl

-- a name that is not held is no file, and to a lenient folder an empty one
missing : file_of false ((codes "a", codes "123") ∷ []) (codes "b") ≡ None
missing = refl

lenient : file_of true ((codes "a", codes "123") ∷ []) (codes "b") ≡ Some []
lenient = refl
