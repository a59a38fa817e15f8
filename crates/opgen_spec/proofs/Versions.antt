-- The versions of documents without a fault, and what each has.
use Rattle.std.proofs.Common.{◌≡◌, ℕ, ◌≤◌, ◌<◌, ◌==◌, ◌&&◌, ◌||◌, ◌⊎◌, inl, inr, Bool, true, false, refl, ap, sym, subst, ◌∙◌, arith}
use Rattle.std.specs.Prelude.{ℤ, pos, negsuc, ◌≤ℤ◌}
use borrow.Author.Tests.{eqb-true}
use Rattle.std.proofs.lemmas.Bool.{and_parts}
use Rattle.std.proofs.lemmas.Int.{ints}
use Rattle.toml.specs.Data.{Members}
use Rattle.opgen_ports.specs.Limits.{IsVersion}
use Rattle.opgen_spec.specs.declared.fault.SpecFault.TheVariants as fault
use Rattle.opgen_document.specs.declared.key.Key.TheVariants as key
use Rattle.opgen_document.specs.declared.key.Version.{Version}
use Rattle.opgen_document.specs.declared.key.Version.TheVariants.{First, Second, Third, Fourth}
use Rattle.opgen_document.specs.Document.{number_at, count_at, count, version_in, version_of, version_number, since_third, since_fourth}
use Rattle.opgen_document.specs.Keys.{may_be}
use Rattle.opgen_spec.specs.Faults.{is_version}
use Rattle.opgen_spec.specs.Made.{is_made}
use Rattle.opgen_spec.proofs.Fine.{AreFine, passed}

version_is : (n : ℕ) → is_version (pos n) ≡ true → (n ≡ 1) ⊎ ((n ≡ 2) ⊎ ((n ≡ 3) ⊎ (n ≡ 4)))
version_is n h = go (n == 1) (n == 2) (n == 3) (n == 4) refl refl refl refl h
  where
    go : (a b c d : Bool) → (n == 1) ≡ a → (n == 2) ≡ b → (n == 3) ≡ c → (n == 4) ≡ d → (a || (b || (c || d))) ≡ true
        → (n ≡ 1) ⊎ ((n ≡ 2) ⊎ ((n ≡ 3) ⊎ (n ≡ 4)))
    go true b c d one two three four h = inl (eqb-true n 1 one)
    go false true c d one two three four h = inr (inl (eqb-true n 2 two))
    go false false true d one two three four h = inr (inr (inl (eqb-true n 3 three)))
    go false false false true one two three four h = inr (inr (inr (eqb-true n 4 four)))
    go false false false false one two three four h = cc

numbered : (n : ℤ) → is_version n ≡ true → n ≡ pos (version_number (version_in n))
numbered (pos n) h = by (version_is n h)
  where
    by : (n ≡ 1) ⊎ ((n ≡ 2) ⊎ ((n ≡ 3) ⊎ (n ≡ 4))) → pos n ≡ pos (version_number (version_in (pos n)))
    by (inl one) = rw one refl
    by (inr (inl two)) = rw two refl
    by (inr (inr (inl three))) = rw three refl
    by (inr (inr (inr four))) = rw four refl
numbered (negsuc n) h = cc

-- the number of a document is that of its version, and its circuits are made
read_as : (ms : Members) → AreFine ms → (is_version (number_at ms key.Version) && is_made ms) ≡ true
read_as ms f =
    passed (is_version (number_at ms key.Version) && is_made ms) (fault.BadVersion (number_at ms key.Version)) f.version

number_is : (ms : Members) → AreFine ms → number_at ms key.Version ≡ pos (version_number (version_of ms))
number_is ms f = numbered (number_at ms key.Version) (and_parts (is_version (number_at ms key.Version)) (is_made ms) (read_as ms f)).0

pub made : (ms : Members) → AreFine ms → is_made ms ≡ true
made ms f = (and_parts (is_version (number_at ms key.Version)) (is_made ms) (read_as ms f)).1

pub count_is : (ms : Members) → AreFine ms → count_at ms key.Version ≡ version_number (version_of ms)
count_is ms f = ap count (number_is ms f) ∙ each (version_of ms)
  where
    each : (version : Version) → count (pos (version_number version)) ≡ version_number version
    each First = refl
    each Second = refl
    each Third = refl
    each Fourth = refl

pub counted : (ms : Members) → AreFine ms → IsVersion (count_at ms key.Version)
counted ms f = subst IsVersion (sym (count_is ms f)) (each (version_of ms))
  where
    each : (version : Version) → IsVersion (version_number version)
    each First = inl refl
    each Second = inr (inl refl)
    each Third = inr (inr (inl refl))
    each Fourth = inr (inr (inr refl))

pub bounds : (ms : Members) → AreFine ms → (pos 1 ≤ℤ number_at ms key.Version) × (number_at ms key.Version ≤ℤ pos 4)
bounds ms f = subst (λ n. (pos 1 ≤ℤ n) × (n ≤ℤ pos 4)) (sym (number_is ms f)) (each (version_of ms))
  where
    each : (version : Version) → (pos 1 ≤ℤ pos (version_number version)) × (pos (version_number version) ≤ℤ pos 4)
    each First = (omega (arith, ints), omega (arith, ints))
    each Second = (omega (arith, ints), omega (arith, ints))
    each Third = (omega (arith, ints), omega (arith, ints))
    each Fourth = (omega (arith, ints), omega (arith, ints))

-- version 1 is the number 1
pub one_is_first : (ms : Members) → AreFine ms → count_at ms key.Version ≡ 1 → version_of ms ≡ First
one_is_first ms f e = by (version_of ms) (sym (count_is ms f) ∙ e)
  where
    by : (version : Version) → version_number version ≡ 1 → version ≡ First
    by First e = refl
    by Second e = absurd (omega (arith, e))
    by Third e = absurd (omega (arith, e))
    by Fourth e = absurd (omega (arith, e))

-- version 4 is the number 4
pub fourth_is_four : (ms : Members) → AreFine ms → version_of ms ≡ Fourth → count_at ms key.Version ≡ 4
fourth_is_four ms f is = count_is ms f ∙ ap version_number is

pub not_below : (ms : Members) → AreFine ms → count_at ms key.Version < 4 → version_of ms ≡ Fourth → ⊥
not_below ms f below is = let four = fourth_is_four ms f is in omega (arith, below, four)

-- a version is the fourth, or another
pub fourth_or : (version : Version) → (version ≡ Fourth) ⊎ (version ≡ Fourth → ⊥)
fourth_or First = inr (λ is. cc)
fourth_or Second = inr (λ is. cc)
fourth_or Third = inr (λ is. cc)
fourth_or Fourth = inl refl

-- a key of the fourth version alone is in documents of no other
pub only_fourth : (version : Version) → may_be (since_fourth version) ≡ true → version ≡ Fourth
only_fourth First may = cc
only_fourth Second may = cc
only_fourth Third may = cc
only_fourth Fourth may = refl

-- the first two versions, which are those of documents whose number is below 3
abbrev pub IsEarly : Version → Type 0
IsEarly First = Unit {0}
IsEarly Second = Unit {0}
IsEarly Third = ⊥
IsEarly Fourth = ⊥

pub early : (ms : Members) → AreFine ms → count_at ms key.Version < 3 → IsEarly (version_of ms)
early ms f below = by (version_of ms) (subst (λ n. n < 3) (count_is ms f) below)
  where
    by : (version : Version) → version_number version < 3 → IsEarly version
    by First below = tt
    by Second below = tt
    by Third below = absurd (omega (arith, below))
    by Fourth below = absurd (omega (arith, below))

pub late : (ms : Members) → AreFine ms → (IsEarly (version_of ms) → ⊥) → 3 ≤ count_at ms key.Version
late ms f is_late = subst (λ n. 3 ≤ n) (sym (count_is ms f)) (by (version_of ms) is_late)
  where
    by : (version : Version) → (IsEarly version → ⊥) → 3 ≤ version_number version
    by First is_late = absurd (is_late tt)
    by Second is_late = absurd (is_late tt)
    by Third is_late = omega arith
    by Fourth is_late = omega arith

pub not_in_early : (version : Version) → IsEarly version → may_be (since_third version) ≡ false
not_in_early First is_early = refl
not_in_early Second is_early = refl
not_in_early Third is_early = absurd is_early
not_in_early Fourth is_early = absurd is_early

pub in_late : (version : Version) → may_be (since_third version) ≡ true → IsEarly version → ⊥
in_late First may is_early = cc
in_late Second may is_early = cc
in_late Third may is_early = is_early
in_late Fourth may is_early = is_early
