-- Which keys may and have to stand in a document of a kind.
use Rattle.std.specs.Prelude.{ℕ, Bool, ◌&&◌, List, Option, Some, None, unwrap_or}
use Rattle.std.specs.List.{list_all, list_any}
use Rattle.std.specs.Str.{bytes_eq}
use Rattle.opgen_document.specs.declared.key.Key.{Key}
use Rattle.opgen_operator.specs.declared.kind.Kind.{Kind}
use Rattle.opgen_document.specs.declared.key.Stand.{Stand}
use Rattle.opgen_document.specs.declared.key.Version.{Version}
use Rattle.opgen_document.specs.Keys.{key_name, shared_stand, may_be, has_to_be}
use Rattle.opgen_document.specs.Document.{has_key}
use Rattle.opgen_entries.specs.kinds.{kinds_of, entry}

abbrev pub stand_in : Version → Kind → Key → Stand
stand_in version one k = unwrap_or (shared_stand k) ((entry one).stand version k)

-- Where the document names no kind, all keys of the version may stand there, and those that all kinds need have to.
abbrev pub may_stand : Version → Option Kind → Key → Bool
may_stand version (Some one) k = may_be (stand_in version one k)
may_stand version None k = has_key version k

abbrev pub is_needed : Version → Option Kind → Key → Bool
is_needed version (Some one) k = has_to_be (stand_in version one k)
is_needed version None k = list_all (λ one. has_to_be (stand_in version one k)) (kinds_of version)

-- one of the keys has the name, and may stand there
abbrev pub is_known : List Key → Version → Option Kind → List ℕ → Bool
is_known ks version named name = list_any (λ k. may_stand version named k && bytes_eq (key_name k) name) ks
