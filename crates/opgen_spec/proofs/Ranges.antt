-- Numbers that are not out of range, and the fields that they give.
use Rattle.std.proofs.Common.{◌≡◌, ℕ, ◌≤◌, ◌<◌, ◌^◌, Bool, true, false, List, [], ◌∷◌, None, arith, subst}
use Rattle.std.specs.Prelude.{ℤ, pos, negsuc, ◌≤ℤ◌, All}
use Rattle.std.proofs.lemmas.Int.{ints}
use Rattle.std.proofs.lemmas.List.Elements.{All-cons, All-nil}
use Rattle.toml.specs.Data.{Members}
use Rattle.opgen_num.specs.Formats.{fewest_bits}
use Rattle.opgen_ports.specs.Limits.{most_input}
use Rattle.opgen_ports.specs.Ranges.{IsPower, IsNear, IsInput, IsWithin, AreNear}
use Rattle.opgen_ports.proofs.InputPorts.{input_bit}
use Rattle.opgen_ports.proofs.Versions.{input_limit}
use Rattle.opgen_document.specs.declared.key.Key.{Key}
use Rattle.opgen_document.specs.declared.key.Key.TheVariants as key
use Rattle.opgen_document.specs.declared.key.Version.{Version}
use Rattle.opgen_document.specs.declared.key.Version.TheVariants.{First, Second, Third, Fourth}
use Rattle.opgen_document.specs.Document.{version_of, number_at, flag_at, count_at, count, small, format_at, unsigned_at}
use Rattle.opgen_document.specs.Ranges.{bits_outside, width_outside, near_outside, power_outside_in, power_outside, extra_outside}
use Rattle.opgen_document.proofs.Ranges.{inside, counted, small_same}
use Rattle.opgen_spec.proofs.Fine.{AreFine, IsFine}
use Rattle.opgen_spec.proofs.Versions.{IsEarly, early}

-- a number within bounds stays within them in 32 bits
pub power_small : (n : ℤ) → IsPower n → IsPower (small n)
power_small n is = subst IsPower (small_same n is.0 is.1) is

near_small : (n : ℤ) → IsNear n → IsNear (small n)
near_small n (least, most) = subst IsNear (small_same n (omega (arith, ints, least)) (omega (arith, ints, most))) (least, most)

wider : (n : ℤ) → IsNear n → IsPower n
wider n (least, most) = (omega (arith, ints, least), omega (arith, ints, most))

pub near_bounds : (ms : Members) (k : Key) → IsFine ms k (near_outside ms k) → IsNear (number_at ms k)
near_bounds ms k h = inside (negsuc 31) (pos 32) (number_at ms k) h.within

pub near_in : (ms : Members) (k : Key) → IsFine ms k (near_outside ms k) → IsNear (small (number_at ms k))
near_in ms k h = near_small (number_at ms k) (near_bounds ms k h)

pub near_power : (ms : Members) (k : Key) → IsFine ms k (near_outside ms k) → IsPower (small (number_at ms k))
near_power ms k h = wider (small (number_at ms k)) (near_in ms k h)

-- the bounds of each version
pub power_bounds : (ms : Members) (k : Key) → IsFine ms k (power_outside ms k) → IsPower (number_at ms k)
power_bounds ms k h = by (version_of ms) h.within
  where
    by : (version : Version) → power_outside_in version ms k ≡ None → IsPower (number_at ms k)
    by First none = wider (number_at ms k) (inside (negsuc 31) (pos 32) (number_at ms k) none)
    by Second none = wider (number_at ms k) (inside (negsuc 31) (pos 32) (number_at ms k) none)
    by Third none = inside (negsuc 63) (pos 64) (number_at ms k) none
    by Fourth none = inside (negsuc 63) (pos 64) (number_at ms k) none

pub power_in : (ms : Members) (k : Key) → IsFine ms k (power_outside ms k) → IsPower (small (number_at ms k))
power_in ms k h = power_small (number_at ms k) (power_bounds ms k h)

-- those of the first two versions
pub power_near : (ms : Members) (k : Key) → IsEarly (version_of ms) → IsFine ms k (power_outside ms k) → IsNear (small (number_at ms k))
power_near ms k is_early h = near_small (number_at ms k) (by (version_of ms) is_early h.within)
  where
    by : (version : Version) → IsEarly version → power_outside_in version ms k ≡ None → IsNear (number_at ms k)
    by First is_early none = inside (negsuc 31) (pos 32) (number_at ms k) none
    by Second is_early none = inside (negsuc 31) (pos 32) (number_at ms k) none
    by Third is_early none = absurd is_early
    by Fourth is_early none = absurd is_early

-- lowest bits as a version has them
pub one_near : (ms : Members) (k : Key) → AreFine ms → IsFine ms k (power_outside ms k)
    → AreNear (count_at ms key.Version) (small (number_at ms k) ∷ [])
one_near ms k f h below = All-cons IsNear (small (number_at ms k)) [] (power_near ms k (early ms f below) h) (All-nil IsNear)

pub two_near : (ms : Members) (k l : Key) → AreFine ms → IsFine ms k (power_outside ms k) → IsFine ms l (power_outside ms l)
    → AreNear (count_at ms key.Version) (small (number_at ms k) ∷ small (number_at ms l) ∷ [])
two_near ms k l f h g below =
    All-cons IsNear (small (number_at ms k)) (small (number_at ms l) ∷ []) (power_near ms k (early ms f below) h) (one_near ms l f g below)

pub three_near : (ms : Members) (k l m : Key) → AreFine ms → IsFine ms k (power_outside ms k) → IsFine ms l (power_outside ms l)
    → IsFine ms m (power_outside ms m)
    → AreNear (count_at ms key.Version) (small (number_at ms k) ∷ small (number_at ms l) ∷ small (number_at ms m) ∷ [])
three_near ms k l m f h g i below =
    All-cons IsNear (small (number_at ms k)) (small (number_at ms l) ∷ small (number_at ms m) ∷ [])
    (power_near ms k (early ms f below) h) (two_near ms l m f g i below)

-- the width of an input
pub bits_in : (signed : Bool) (most : ℕ) (n : ℤ) → most < 2 ^ 32 → bits_outside signed most n ≡ None
    → (fewest_bits signed ≤ count n) × (count n ≤ most)
bits_in true most n few none = let bounds = inside (pos 2) (pos most) n none in counted n 2 most bounds.0 bounds.1 few
bits_in false most n few none = let bounds = inside (pos 1) (pos most) n none in counted n 1 most bounds.0 bounds.1 few

pub bits_bounds : (signed : Bool) (most : ℕ) (n : ℤ) → bits_outside signed most n ≡ None → (pos 1 ≤ℤ n) × (n ≤ℤ pos most)
bits_bounds true most n none =
    let (least, greatest) = inside (pos 2) (pos most) n none in
    (omega (arith, ints, least), greatest)
bits_bounds false most n none = inside (pos 1) (pos most) n none

pub width_in : (most : ℕ) (ms : Members) (k : Key) → most < 2 ^ 32 → IsFine ms k (width_outside most ms k)
    → (fewest_bits (flag_at ms key.Signed) ≤ count_at ms k) × (count_at ms k ≤ most)
width_in most ms k few h = bits_in (flag_at ms key.Signed) most (number_at ms k) few h.within

pub width_bounds : (most : ℕ) (ms : Members) (k : Key) → IsFine ms k (width_outside most ms k)
    → (pos 1 ≤ℤ number_at ms k) × (number_at ms k ≤ℤ pos most)
width_bounds most ms k h = bits_bounds (flag_at ms key.Signed) most (number_at ms k) h.within

-- the most bits that an input of the document's version may have
abbrev pub widest : Members → ℕ
widest ms = most_input (count_at ms key.Version)

pub few_bits : (ms : Members) → widest ms < 2 ^ 32
few_bits ms = omega (arith, input_limit (count_at ms key.Version))

pub width_few : (ms : Members) (k : Key) → IsFine ms k (width_outside (widest ms) ms k) → count_at ms k ≤ widest ms
width_few ms k h = (width_in (widest ms) ms k (few_bits ms) h).1

pub input_in : (ms : Members) (w l : Key) → IsFine ms w (width_outside (widest ms) ms w) → IsPower (small (number_at ms l))
    → IsInput (format_at ms w l)
input_in ms w l width lsb =
    let (fewest, most) = width_in (widest ms) ms w (few_bits ms) width in
    record {
      fewest = fewest;
      most = omega (arith, most, input_limit (count_at ms key.Version));
      lsb = lsb;
    }

pub unsigned_in : (ms : Members) (w l : Key) → IsFine ms w (width_outside (widest ms) ms w) → IsPower (small (number_at ms l))
    → IsInput (unsigned_at ms w l)
unsigned_in ms w l width lsb =
    let h = input_in ms w l width lsb in
    record { fewest = input_bit (format_at ms w l) h; most = h.most; lsb = h.lsb }

pub extra_in : (ms : Members) → IsFine ms key.Extra (extra_outside ms) → count_at ms key.Extra ≤ 2
extra_in ms h =
    let (least, most) = inside (pos 0) (pos 2) (number_at ms key.Extra) h.within in
    (counted (number_at ms key.Extra) 0 2 least most (omega arith)).1

-- numbers within a limit are within a greater one
pub within_more : (limit greater : ℕ) (ns : List ℤ) → limit ≤ greater → All (IsWithin limit) ns → All (IsWithin greater) ns
within_more limit greater ns wider each k d lt = let within = each k d lt in omega (arith, wider, within)
