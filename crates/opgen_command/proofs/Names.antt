-- The name of a command, by the word that names it.
use Rattle.std.proofs.Common.{◌≡◌, ℕ, false, List, [], ◌∷◌, map, Some, None, refl, ◌∙◌, ap}
use Rattle.std.specs.Prelude.{IsTrue, slice_get, option_and_then}
use Rattle.std.specs.Str.{bytes_eq}
use Rattle.std.proofs.lemmas.Bool.{false_from_ne_true}
use Rattle.std.proofs.lemmas.Slice.Eq.{bytes_eq-Decides}
use Rattle.clap.specs.Words.{App, Row, is_simple_and_free}
use Rattle.opgen_command.specs.Command.{command_of, command_named, found_by}
use Rattle.opgen_command.specs.Names.{spelling, app_named, found_as}
use Rattle.opgen_command.specs.declared.name.CommandName.{CommandName}
use Rattle.opgen_command.specs.declared.name.CommandName.TheVariants.{Generate, Vectors, Simulate, Workload, Check}

-- a command is one of which `clap` gives the matches and the faults
pub simple : (name : CommandName) (app : App) → app ≡ app_named name → IsTrue (is_simple_and_free app)
simple Generate app e = rw e refl
simple Vectors app e = rw e refl
simple Simulate app e = rw e refl
simple Workload app e = rw e refl
simple Check app e = rw e refl

-- the command of the words, by what `clap` finds in them
pub meaning : (name : CommandName) (app : App) (words : List (List ℕ)) (found : List Row) → app ≡ app_named name
    → found_by app words ≡ Some found → option_and_then (found_as name) (found_by (app_named name) words) ≡ found_as name found
meaning name app words found e is = rw (← e, is) refl

pub no_meaning : (name : CommandName) (app : App) (words : List (List ℕ)) → app ≡ app_named name → found_by app words ≡ None
    → option_and_then (found_as name) (found_by (app_named name) words) ≡ None
no_meaning name app words e is = rw (← e, is) refl

-- the words after the first mean what the command of its name finds in them
spelled : (name : CommandName) (words : List (List ℕ))
    → command_named (spelling name) words ≡ option_and_then (found_as name) (found_by (app_named name) words)
spelled Generate words = refl
spelled Vectors words = refl
spelled Simulate words = refl
spelled Workload words = refl
spelled Check words = refl

differ : (a b : List ℕ) → (a ≡ b → ⊥) → bytes_eq a b ≡ false
differ a b other = false_from_ne_true (bytes_eq a b) (λ same. other ((bytes_eq-Decides a b).0 same))

unspelled : (word : List ℕ) (words : List (List ℕ)) → ((name : CommandName) → word ≡ spelling name → ⊥) → command_named word words ≡ None
unspelled word words other = rw (
  differ word _ (other Generate),
  differ word _ (other Vectors),
  differ word _ (other Simulate),
  differ word _ (other Workload),
  differ word _ (other Check),
) refl

module _ {S : Type 0} (text : S → List ℕ) where
  first_names : (words : List S) (s : S) → Some s ≡ slice_get words 0 → command_of (map text words) ≡ command_named (text s) (map text words)
  first_names [] s first = cc
  first_names (word ∷ words) s first = let same : word ≡ s = cc in rw same refl

  module _ (words : List S) (s : S) (word : List ℕ) (first : Some s ≡ slice_get words 0) (is : word ≡ text s) where
    pub named : (name : CommandName) → word ≡ spelling name
        → command_of (map text words) ≡ option_and_then (found_as name) (found_by (app_named name) (map text words))
    named name spells = let same : text s ≡ spelling name = cc in
        first_names words s first ∙ ap (λ w. command_named w (map text words)) same ∙ spelled name (map text words)

    pub unnamed : ((name : CommandName) → word ≡ spelling name → ⊥) → command_of (map text words) ≡ None
    unnamed other = first_names words s first ∙ unspelled (text s) (map text words) (λ name spells. other name (is ∙ spells))
