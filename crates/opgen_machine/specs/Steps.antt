-- The steps of a machine: each computes one number of 64 bits from earlier ones and appends it.
use Rattle.std.specs.Prelude.{ℕ, ◌+◌, ◌-◌, ◌*◌, ◌/◌, ◌%◌, ◌^◌, ◌<◌, List, [], ◌∷◌, ◌++◌, slice_index, bit_and, bit_or, bit_xor, if◌then◌else◌, nat_eq}
use Rattle.opgen_machine.specs.declared.step.Step.{Step}
use Rattle.opgen_machine.specs.declared.step.Step.TheVariants.{Constant, Copy, Choose, Look, Turn, Both, Either, Differ, Add, Subtract, Part, Join}

-- the number of a step, over the numbers before it
abbrev pub act : Step → List ℕ → ℕ
act (Constant n) m = n
act (Copy of) m = slice_index m of
act (Choose on one other) m = if nat_eq (slice_index m on) 1 then slice_index m one else slice_index m other
act (Look from on mask) m = slice_index m (from + bit_and (slice_index m on) mask)
act (Turn of mask) m = (mask + (2 ^ 64 - slice_index m of)) % 2 ^ 64
act (Both a b) m = bit_and (slice_index m a) (slice_index m b)
act (Either a b) m = bit_or (slice_index m a) (slice_index m b)
act (Differ a b) m = bit_xor (slice_index m a) (slice_index m b)
act (Add a b mask) m = bit_and ((slice_index m a + slice_index m b) % 2 ^ 64) mask
act (Subtract a b mask) m = bit_and ((slice_index m a + (2 ^ 64 - slice_index m b)) % 2 ^ 64) mask
act (Part of low mask) m = bit_and (slice_index m of / 2 ^ low) mask
act (Join high low shift) m = bit_or (slice_index m high * 2 ^ shift % 2 ^ 64) (slice_index m low)

-- a step reads below a place, and shifts by less than a number's bits
abbrev pub Reads : ℕ → Step → Type 0
Reads n (Constant c) = Unit {0}
Reads n (Copy of) = of < n
Reads n (Choose on one other) = (on < n) × (one < n) × (other < n)
Reads n (Look from on mask) = (on < n) × (from + mask < n)
Reads n (Turn of mask) = of < n
Reads n (Both a b) = (a < n) × (b < n)
Reads n (Either a b) = (a < n) × (b < n)
Reads n (Differ a b) = (a < n) × (b < n)
Reads n (Add a b mask) = (a < n) × (b < n)
Reads n (Subtract a b mask) = (a < n) × (b < n)
Reads n (Part of low mask) = (of < n) × (low < 64)
Reads n (Join high low shift) = (high < n) × (low < n) × (shift < 64)

-- each step reads only what stands before it, where n numbers stand before the first
abbrev pub AreFine : ℕ → List Step → Type 0
AreFine n [] = Unit {0}
AreFine n (s ∷ ss) = Reads n s × AreFine (n + 1) ss

abbrev pub exec : List Step → List ℕ → List ℕ
exec [] m = m
exec (s ∷ ss) m = exec ss (m ++ act s m ∷ [])
