-- Files that are stored one after another.
use Rattle.std.specs.Prelude.{IsSome, ℕ, ◌≡◌, List, [], ◌∷◌, ◌++◌, Option, Some}
use Rattle.opgen_io.specs.Files.{Files, stored, KeepsOthers}

-- a file's name and its bytes
pub record Store : Type 0 where
  pub name : List ℕ
  pub bytes : List ℕ

-- the files with these stores, in order
abbrev pub stored_all : List Store → Files → Files
stored_all [] files = files
stored_all (s ∷ later) files = stored_all later (stored s.name s.bytes files)

-- the folder has the files with a first part of the stores, whole and in order
pub record HasFirst (stores : List Store) (files : Files) (after : Option Files) : Type 0 where
  pub done : List Store
  pub left : List Store
  pub order : stores ≡ done ++ left
  pub stands : after ≡ Some (stored_all done files)

-- the same, and the next store broke: under its name anything may stand, or nothing
pub record HasBroken (stores : List Store) (files : Files) (after : Option Files) : Type 0 where
  pub done : List Store
  pub broken : Store
  pub left : List Store
  pub order : stores ≡ done ++ broken ∷ left
  pub tells : IsSome after
  pub others : KeepsOthers broken.name (Some (stored_all done files)) after
