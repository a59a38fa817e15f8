-- The search for the fewest adders, in a document without a fault: it is asked for by the key `extra`.
use Rattle.std.proofs.Common.{◌≡◌, ◌≤◌, Bool, true, false, List, Option, Some, None, is_some, is_none, ap, subst, refl, arith}
use Rattle.std.specs.Prelude.{ℤ, All, IsTrue}
use Rattle.toml.specs.Data.{Data, Members}
use Rattle.opgen_ports.specs.Ranges.{IsWithin}
use Rattle.opgen_document.specs.declared.key.Key.TheVariants as key
use Rattle.opgen_document.specs.declared.key.Version.{Version}
use Rattle.opgen_document.specs.declared.key.Version.TheVariants.{First, Second, Third, Fourth}
use Rattle.opgen_document.specs.Document.{value_at, number_in, count, count_at, IsSearchAsWritten, version_of, needed_before_third, is_searched}
use Rattle.opgen_document.specs.Keys.{has_to_be}
use Rattle.opgen_document.specs.Ranges.{constant_limit, extra_outside}
use Rattle.opgen_spec.proofs.Fine.{IsFine}
use Rattle.opgen_spec.proofs.Ranges.{extra_in, within_more}
use Rattle.opgen_spec.proofs.Versions.{IsEarly}
use Rattle.opgen_spec.proofs.Writing.{extra_written}

-- where the key is there, it has a number of its range
abbrev pub IsExtra : Members → Type 0
IsExtra ms = is_none (value_at ms key.Extra) ≡ false → IsFine ms key.Extra (extra_outside ms)

there : (o : Option Data) → is_some o ≡ true → is_none o ≡ false
there (Some d) h = refl
there None h = cc

some : (o : Option Data) → is_none o ≡ false → is_some o ≡ true
some (Some d) h = refl
some None h = cc

pub extra_few : (ms : Members) → IsExtra ms → IsTrue (is_searched ms) → count_at ms key.Extra ≤ 2
extra_few ms h asked = extra_in ms (h (there (value_at ms key.Extra) asked))

pub no_extra : (ms : Members) → is_searched ms ≡ false → count_at ms key.Extra ≡ 0
no_extra ms none = go (value_at ms key.Extra) none
  where
    go : (o : Option Data) → is_some o ≡ false → count (number_in o) ≡ 0
    go None h = refl
    go (Some d) h = cc

pub search_written : (ms : Members) → IsExtra ms → IsSearchAsWritten ms (is_searched ms) (count_at ms key.Extra)
search_written ms h = by (value_at ms key.Extra) refl
  where
    by : (o : Option Data) → value_at ms key.Extra ≡ o → IsSearchAsWritten ms (is_some o) (count_at ms key.Extra)
    by None none = none
    by (Some d) some = extra_written ms (h (ap is_none some))

-- versions 1 and 2 need the key
needs : (version : Version) → IsEarly version → has_to_be (needed_before_third version) ≡ true
needs First is_early = refl
needs Second is_early = refl
needs Third is_early = absurd is_early
needs Fourth is_early = absurd is_early

pub early_search : (ms : Members) → IsEarly (version_of ms)
    → (has_to_be (needed_before_third (version_of ms)) ≡ true → is_none (value_at ms key.Extra) ≡ false) → IsTrue (is_searched ms)
early_search ms is_early needed = some (value_at ms key.Extra) (needed (needs (version_of ms) is_early))

-- constants and taps, whether they are searched for or not
pub in_limit : (searched : Bool) (ns : List ℤ) → All (IsWithin (constant_limit searched)) ns → All (IsWithin 1048575) ns
in_limit searched ns each = within_more (constant_limit searched) 1048575 ns (most searched) each
  where
    most : (b : Bool) → constant_limit b ≤ 1048575
    most true = omega arith
    most false = omega arith

pub in_search : (searched : Bool) (ns : List ℤ) → IsTrue searched → All (IsWithin (constant_limit searched)) ns → All (IsWithin 2047) ns
in_search searched ns asked each = subst (λ b. All (IsWithin (constant_limit b)) ns) asked each
