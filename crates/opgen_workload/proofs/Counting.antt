-- One cycle more that is judged.
use Rattle.std.proofs.Common.{◌≡◌, ◌∙◌, ℕ, zero, suc, ◌+◌, ◌<◌, add-one, ap, refl, inl, inr, sym, arith}
use Rattle.opgen_workload.specs.Judged.{Counts}

-- a property leaves one number of places that have it
pub one_count : (P : ℕ → Type 0) (most c d : ℕ) → Counts P most c → Counts P most d → c ≡ d
one_count P zero c d h k = h ∙ sym k
one_count P (suc most) zero zero h k = refl
one_count P (suc most) zero (suc d) h (inl k) = absurd (h.0 k.0)
one_count P (suc most) zero (suc d) h (inr k) = one_count P most zero (suc d) h.1 k.1
one_count P (suc most) (suc c) zero (inl h) k = absurd (k.0 h.0)
one_count P (suc most) (suc c) zero (inr h) k = one_count P most (suc c) zero h.1 k.1
one_count P (suc most) (suc c) (suc d) (inl h) (inl k) = ap suc (one_count P most c d h.1 k.1)
one_count P (suc most) (suc c) (suc d) (inl h) (inr k) = absurd (k.0 h.0)
one_count P (suc most) (suc c) (suc d) (inr h) (inl k) = absurd (h.0 k.0)
one_count P (suc most) (suc c) (suc d) (inr h) (inr k) = one_count P most (suc c) (suc d) h.1 k.1

-- all places have it
pub all_count : (P : ℕ → Type 0) (most : ℕ) → ((place : ℕ) → place < most → P place) → Counts P most most
all_count P zero all = refl
all_count P (suc most) all = inl (all most (omega arith), all_count P most (λ place h. all place (omega (arith, h))))

-- one place more has it, or has it not
pub one_more : (P : ℕ → Type 0) (most count : ℕ) → P most → Counts P most count → Counts P (most + 1) (count + 1)
one_more P most count here h = rw (add-one most, add-one count) (inl (here, h))

pub no_more : (P : ℕ → Type 0) (most count : ℕ) → (P most → ⊥) → Counts P most count → Counts P (most + 1) count
no_more P most zero never h = rw (add-one most) (never, h)
no_more P most (suc count) never h = rw (add-one most) (inr (never, h))
