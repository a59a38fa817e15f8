-- The compressor of a document without a fault: it has none, or one of heaps of bits, in another version than the first.
use Rattle.std.proofs.Common.{◌≡◌, ℕ, ◌||◌, ◌⊎◌, ⊎_elim, inl, inr, not, Bool, true, false, List, length, Option, Some, None, is_some, option_and_then, subst, refl, ap, sym, ◌∙◌, if◌then◌else◌}
use Rattle.std.specs.Prelude.{pos, codes, IsTrue}
use Rattle.std.specs.Option.{option_map_or}
use Rattle.std.specs.Str.{bytes_eq}
use Rattle.std.proofs.lemmas.Slice.Eq.{bytes_eq-Decides}
use Rattle.toml.specs.Data.{Data, string, Members, as_str}
use Rattle.opgen_operator.specs.declared.kind.Kind.{Kind}
use Rattle.opgen_document.specs.declared.key.Key.TheVariants as key
use Rattle.opgen_document.specs.declared.key.Version.{Version}
use Rattle.opgen_document.specs.declared.key.Version.TheVariants.{First, Second, Third, Fourth}
use Rattle.opgen_document.specs.Document.{value_at, text_in, text_at, counters_at, IsCompressorAsWritten, version_of, since_second}
use Rattle.opgen_document.specs.Types.{is_wrong}
use Rattle.opgen_document.specs.Keys.{may_be}
use Rattle.opgen_document.specs.Ranges.{compressor_outside, compressor_outside_in, compressor_at_outside}
use Rattle.opgen_ports.specs.Recipes.{compressor_of, has_counters, is_of_bits}
use Rattle.opgen_ports.proofs.Marks.{has_counters-of, of_bits}
use Rattle.opgen_entries.specs.kinds.{kind_of, entry}
use Rattle.opgen_spec.specs.Made.{is_heap, is_kind_made}
use Rattle.opgen_spec.proofs.Fine.{AreFine, typed, own_range}
use Rattle.opgen_spec.proofs.Known.{allowed, compressor_key}
use Rattle.opgen_spec.proofs.Made.{kind_made}
use Rattle.opgen_spec.proofs.Versions.{fourth_or}

-- a compressor that is there
pub record IsTaken (ms : Members) : Type 0 where
  pub later : version_of ms ≡ First → ⊥
  pub typed : is_wrong ms key.Compressor ≡ false
  pub ranged : option_and_then (λ _. compressor_outside (text_at ms key.Compressor)) (value_at ms key.Compressor) ≡ None

-- a kind has the key in later versions alone, and its range is that of compressors
pub record IsLater (one : Kind) : Type 0 where
  pub stands : (version : Version) → (entry one).stand version key.Compressor ≡ since_second version
  pub range : (ms : Members) → (entry one).key_outside ms key.Compressor ≡ compressor_at_outside ms
  -- no circuits are made yet of rows
  pub heap : (ms : Members) → is_kind_made one ms ≡ true → is_heap ms ≡ true

not_first : (version : Version) → may_be (since_second version) ≡ true → version ≡ First → ⊥
not_first First may is = cc
not_first Second may is = cc
not_first Third may is = cc
not_first Fourth may is = cc

-- other versions than the fourth have two compressors, and of those of the fourth two are made
two_before : (version : Version) (name : List ℕ) → (version ≡ Fourth → ⊥) → compressor_outside_in version name ≡ compressor_outside name
two_before First name other = refl
two_before Second name other = refl
two_before Third name other = refl
two_before Fourth name other = absurd (other refl)

nothing_outside : {A B : Type 0} (o : Option A) (x : Option B) → x ≡ None → option_and_then (λ _. x) o ≡ None
nothing_outside None x none = refl
nothing_outside (Some a) x none = none

ranged_in : (ms : Members) (one : Kind) → AreFine ms → kind_of ms ≡ Some one → IsLater one
    → option_and_then (λ _. compressor_outside (text_at ms key.Compressor)) (value_at ms key.Compressor) ≡ None
ranged_in ms one f e is =
    ⊎_elim (λ (fourth : version_of ms ≡ Fourth). nothing_outside (value_at ms key.Compressor) (compressor_outside (text_at ms key.Compressor))
    (ap (λ b. if b then None else Some (pos (length (text_at ms key.Compressor)))) (is.heap ms (kind_made ms one f e fourth))))
    (λ (other : version_of ms ≡ Fourth → ⊥). ap (λ x. option_and_then (λ _. x) (value_at ms key.Compressor))
    (sym (is.range ms ∙ two_before (version_of ms) (text_at ms key.Compressor) other)) ∙ own_range ms one key.Compressor f e refl)
    (fourth_or (version_of ms))

taken : (ms : Members) (one : Kind) → AreFine ms → kind_of ms ≡ Some one → IsLater one
    → is_some (value_at ms key.Compressor) ≡ true → IsTaken ms
taken ms one f e is there =
    let may = allowed ms one key.Compressor f e compressor_key refl there in
    record {
      later = not_first (version_of ms) (ap may_be (sym (is.stands (version_of ms))) ∙ may);
      typed = typed ms key.Compressor f refl;
      ranged = ranged_in ms one f e is;
    }

pub compressor_cases : (ms : Members) (one : Kind) → AreFine ms → kind_of ms ≡ Some one → IsLater one
    → (value_at ms key.Compressor ≡ None) ⊎ IsTaken ms
compressor_cases ms one f e is = go (value_at ms key.Compressor) refl
  where
    go : (o : Option Data) → value_at ms key.Compressor ≡ o → (value_at ms key.Compressor ≡ None) ⊎ IsTaken ms
    go None none = inl none
    go (Some d) some = inr (taken ms one f e is (ap is_some some))

without : (ms : Members) → value_at ms key.Compressor ≡ None → counters_at ms ≡ false
without ms none = ap (λ o. bytes_eq (text_in o) (codes "counters")) none

pub first_without : (ms : Members) → (value_at ms key.Compressor ≡ None) ⊎ IsTaken ms → version_of ms ≡ First
    → has_counters (compressor_of (counters_at ms)) ≡ false
first_without ms cases first =
    has_counters-of (counters_at ms) ∙ ⊎_elim (without ms) (λ (t : IsTaken ms). absurd (t.later first)) cases

two_names : (text : List ℕ) → compressor_outside text ≡ None → bytes_eq text (codes "counters") ≡ false → text ≡ codes "dadda"
two_names text h other = go (bytes_eq text (codes "dadda")) refl (bytes_eq text (codes "counters")) other h
  where
    go : (a : Bool) → bytes_eq text (codes "dadda") ≡ a → (b : Bool) → b ≡ false
        → (if a || b then None else Some (pos (length text))) ≡ None → text ≡ codes "dadda"
    go true is b other h = (bytes_eq-Decides text (codes "dadda")).0 is
    go false is false other h = cc
    go false is true other h = cc

counters_written : (ms : Members) → (value_at ms key.Compressor ≡ None) ⊎ IsTaken ms → IsCompressorAsWritten ms (counters_at ms)
counters_written ms cases =
    ⊎_elim (λ (none : value_at ms key.Compressor ≡ None). subst (IsCompressorAsWritten ms) (sym (without ms none)) (inl none))
    (λ (t : IsTaken ms). there (value_at ms key.Compressor) refl t.typed t.ranged) cases
  where
    named : (text : List ℕ) → value_at ms key.Compressor ≡ Some (string text) → compressor_outside text ≡ None → (b : Bool)
        → bytes_eq text (codes "counters") ≡ b → IsCompressorAsWritten ms b
    named text is h true e = is ∙ ap (λ t. Some (string t)) ((bytes_eq-Decides text (codes "counters")).0 e)
    named text is h false e = inr (is ∙ ap (λ t. Some (string t)) (two_names text h e))

    there : (o : Option Data) → value_at ms key.Compressor ≡ o
        → option_map_or (λ d. not (is_some (as_str d)) || false) o false ≡ false
        → option_and_then (λ _. compressor_outside (text_in o)) o ≡ None → IsCompressorAsWritten ms (counters_at ms)
    there None is typed ranged = subst (IsCompressorAsWritten ms) (sym (without ms is)) (inl is)
    there (Some (string text)) is typed ranged =
        subst (IsCompressorAsWritten ms) (sym (ap (λ o. bytes_eq (text_in o) (codes "counters")) is))
        (named text is ranged (bytes_eq text (codes "counters")) refl)
    there (Some _) is typed ranged = cc

pub compressor_written : (ms : Members) → (value_at ms key.Compressor ≡ None) ⊎ IsTaken ms
    → IsTrue (is_of_bits (compressor_of (counters_at ms))) × IsCompressorAsWritten ms (has_counters (compressor_of (counters_at ms)))
compressor_written ms cases =
    (of_bits (counters_at ms), subst (IsCompressorAsWritten ms) (sym (has_counters-of (counters_at ms))) (counters_written ms cases))
