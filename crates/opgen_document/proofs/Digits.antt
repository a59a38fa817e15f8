-- Reading digits one by one.
use Rattle.std.proofs.Common.{◌≡◌, ℕ, suc, ◌+◌, ◌*◌, ◌-◌, ◌^◌, ◌≤◌, ◌<◌, List, length, drop, get_or, ap, sym, ◌∙◌, arith}
use Rattle.std.proofs.Math.Seq.{drop-cons}
use Rattle.std.proofs.Math.Nat.{pow-succ', one-le-pow, pow-le-pow_right, mul-le-mul_left, mul-le-mul_right}
use Rattle.std.proofs.lemmas.Nat.{pow-add}
use Rattle.opgen_document.specs.Numbers.{digits_from}

-- what is read up to a place, and how far what is left can lead
pub record IsReadSoFar (digits : List ℕ) (start number index : ℕ) : Type 0 where
  pub value : digits_from number (drop index digits) ≡ digits_from start digits
  pub bound : (number + 1) * 10 ^ (length digits - index) ≤ (start + 1) * 10 ^ length digits

entry_of : (n digit p q : ℕ) → digit ≤ 9 → q ≡ 10 * p → (n * 10 + digit + 1) * p ≤ (n + 1) * q
entry_of n digit p q h e =
    let step : n * 10 + digit + 1 ≤ (n + 1) * 10 = omega (arith, h) in
    let wider : (n * 10 + digit + 1) * p ≤ (n + 1) * 10 * p = mul-le-mul_right p step in
    rw e (omega (arith, wider))

entry : (n digit rest : ℕ) → digit ≤ 9 → (n * 10 + digit + 1) * 10 ^ rest ≤ (n + 1) * 10 ^ suc rest
entry n digit rest h = entry_of n digit (10 ^ rest) (10 ^ suc rest) h (pow-succ' 10 rest)

pub read_more : (digits : List ℕ) (start number i next : ℕ) → next ≡ suc i → IsReadSoFar digits start number i → i < length digits
    → get_or digits i 0 ≤ 57 → IsReadSoFar digits start (number * 10 + (get_or digits i 0 - 48)) next
read_more digits start number i next e so_far lt most =
    let left : length digits - i ≡ suc (length digits - suc i) = omega (arith, lt) in
    let cut = drop-cons digits i 0 lt in
    let more = entry number (get_or digits i 0 - 48) (length digits - suc i) (omega (arith, most)) in
    let before : (number + 1) * 10 ^ suc (length digits - suc i) ≤ (start + 1) * 10 ^ length digits = rw left at so_far.bound in
    rw e (record {
      value = ap (digits_from number) (sym cut) ∙ so_far.value;
      bound = omega (arith, more, before);
    })

-- what was read is below ten to the ninth
positive : (k : ℕ) → 1 ≤ 10 ^ k
positive k = one-le-pow k 10 (omega arith)

pub small : (digits : List ℕ) (start number i : ℕ) → IsReadSoFar digits start number i → (start + 1) * 10 ^ length digits ≤ 10 ^ 9
    → number < 10 ^ 9
small digits start number i so_far most =
    let one = mul-le-mul_left (number + 1) (positive (length digits - i)) in
    let bound = so_far.bound in
    omega (arith, one, bound, most)

pub joined : (n a b : ℕ) → n + 1 ≤ 1 * 10 ^ a → a + b ≤ 9 → (n + 1) * 10 ^ b ≤ 10 ^ 9
joined n a b h most =
    let wider : (n + 1) * 10 ^ b ≤ 10 ^ a * 10 ^ b = mul-le-mul_right (10 ^ b) (omega (arith, h)) in
    let power : 10 ^ a * 10 ^ b ≡ 10 ^ (a + b) = sym (pow-add 10 a b) in
    let all : 10 ^ (a + b) ≤ 10 ^ 9 = pow-le-pow_right (omega arith) most in
    omega (arith, wider, power, all)
