-- The table that the list of the target `fixed` stands for.
use Rattle.std.proofs.Common.{◌≡◌, ℕ, ◌+◌, ◌-◌, ◌<◌, ◌≤◌, inl, inr, List, [], ◌∷◌, ◌++◌, length, get_or, refl, sym, ap, ◌∙◌, arith}
use Rattle.std.specs.Prelude.{zero, suc}
use Rattle.std.proofs.Math.ListN.{get_or-append}
use Rattle.std.proofs.Math.Seq.{get_or-append_seam}
use Rattle.std.proofs.lemmas.Bool.Decides.{leb_tells}
use Rattle.std.proofs.lemmas.List.{get_or-append-add, length-append}
use Rattle.opgen_net.specs.declared.cell.Class.{Class}
use Rattle.opgen_net.specs.declared.cell.Class.TheVariants.{Wire, Logic, Add, Choice, Table, Register}
use Rattle.opgen_target.specs.Delays.{IsTableWidth}
use Rattle.opgen_target.specs.Program.{fixed_delay, delays_of, fixed_delays}
use Rattle.opgen_target.specs.Tables.{list_table}

delays-long : (class : Class) (n : ℕ) → length (delays_of class n) ≡ n
delays-long class zero = refl
delays-long class (suc n) = rw (length-append (delays_of class n) (fixed_delay class (suc n) ∷ []), delays-long class n) (omega arith)

-- the delay of each width stands at its place
delay-at : (class : Class) (n i : ℕ) → i < n → get_or (delays_of class n) i 0 ≡ fixed_delay class (suc i)
delay-at class zero i below = absurd (omega (arith, below))
delay-at class (suc n) i below = elim (leb_tells (suc i) n) as (λ _. get_or (delays_of class (suc n)) i 0 ≡ fixed_delay class (suc i)) [
  | inl less ↦ get_or-append (delays_of class n) (fixed_delay class (suc n) ∷ []) 0 i (rw (delays-long class n) less.1)
      ∙ delay-at class n i less.1
  | inr more ↦ let last : i ≡ n = omega (arith, below, more.1) in rw last
      (ap (λ k. get_or (delays_of class (suc n)) k 0) (sym (delays-long class n))
      ∙ get_or-append_seam (delays_of class n) (fixed_delay class (suc n)) [] 0)
]

-- past the delays of one class those of the next begin
past : (class : Class) (rest : List ℕ) (i : ℕ) → get_or (delays_of class 128 ++ rest) (128 + i) 0 ≡ get_or rest i 0
past class rest i = rw (← delays-long class 128) (get_or-append-add (delays_of class 128) rest i 0)

before : (width : ℕ) → 1 ≤ width → suc (width - 1) ≡ width
before width positive = omega (arith, positive)

-- the delays of a class, of which others may follow
within : (class : Class) (rest : List ℕ) (width : ℕ) → IsTableWidth width
    → get_or (delays_of class 128 ++ rest) (width - 1) 0 ≡ fixed_delay class width
within class rest width fits = get_or-append (delays_of class 128) rest 0 (width - 1) (rw (delays-long class 128) (omega (arith, fits.0, fits.1)))
    ∙ (delay-at class 128 (width - 1) (omega (arith, fits.0, fits.1))
    ∙ ap (fixed_delay class) (before width fits.0))

-- the list from a class on
abbrev from-table : List ℕ
from-table = delays_of Table 128 ++ delays_of Register 128

abbrev from-choice : List ℕ
from-choice = delays_of Choice 128 ++ from-table

abbrev from-add : List ℕ
from-add = delays_of Add 128 ++ from-choice

abbrev from-logic : List ℕ
from-logic = delays_of Logic 128 ++ from-add

abbrev read : ℕ → ℕ
read k = get_or fixed_delays k 0

-- the place of the delays that begin after so many classes
after : (i : ℕ) → (0 + i ≡ i) × (256 + i ≡ 128 + (128 + i)) × (384 + i ≡ 128 + (128 + (128 + i))) × (512 + i ≡ 128 + (128 + (128 + (128 + i))))
    × (640 + i ≡ 128 + (128 + (128 + (128 + (128 + i)))))
after i = (omega arith, omega arith, omega arith, omega arith, omega arith)

pub table-is : (class : Class) (width : ℕ) → IsTableWidth width → list_table fixed_delays class width ≡ fixed_delay class width
table-is Wire width fits = ap read (after (width - 1)).0 ∙ within Wire from-logic width fits
table-is Logic width fits = past Wire from-logic (width - 1) ∙ within Logic from-add width fits
table-is Add width fits = ap read (after (width - 1)).1 ∙ (past Wire from-logic (128 + (width - 1))
    ∙ (past Logic from-add (width - 1) ∙ within Add from-choice width fits))
table-is Choice width fits = ap read (after (width - 1)).2 ∙ (past Wire from-logic (128 + (128 + (width - 1)))
    ∙ (past Logic from-add (128 + (width - 1)) ∙ (past Add from-choice (width - 1) ∙ within Choice from-table width fits)))
table-is Table width fits = ap read (after (width - 1)).3 ∙ (past Wire from-logic (128 + (128 + (128 + (width - 1))))
    ∙ (past Logic from-add (128 + (128 + (width - 1))) ∙ (past Add from-choice (128 + (width - 1))
    ∙ (past Choice from-table (width - 1) ∙ within Table (delays_of Register 128) width fits))))
table-is Register width fits = ap read (after (width - 1)).4 ∙ (past Wire from-logic (128 + (128 + (128 + (128 + (width - 1)))))
    ∙ (past Logic from-add (128 + (128 + (128 + (width - 1)))) ∙ (past Add from-choice (128 + (128 + (width - 1)))
    ∙ (past Choice from-table (128 + (width - 1)) ∙ (past Table (delays_of Register 128) (width - 1)
    ∙ (delay-at Register 128 (width - 1) (omega (arith, fits.0, fits.1)) ∙ ap (fixed_delay Register) (before width fits.0)))))))
