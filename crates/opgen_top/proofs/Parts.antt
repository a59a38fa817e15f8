-- Parts of lines, and statuses with and without a line.
use Rattle.std.proofs.Common.{◌≡◌, inl, inr, ℕ, ◌-◌, List, ◌++◌, length, take, Option, Some, None, sym, ap, ◌∙◌, arith, append-nil}
use Rattle.opgen_io.specs.Bytes.{TakesPrefix}
use Rattle.opgen_top.specs.Statuses.{ComesWithLine, IsDueStatus, IsSilent, TellsOr}

pub takes-nothing : (taken : Option (List ℕ)) (line : List ℕ) → TakesPrefix taken line taken
takes-nothing None line = tt
takes-nothing (Some held) line =
    let none : length held - length held ≡ 0 = omega arith in
    sym (ap (λ n. held ++ take n line) none ∙ append-nil held)

pub not_four : (result : ℕ) → ComesWithLine result → result ≡ 4 → ⊥
not_four result (inl e) f = omega (arith, e, f)
not_four result (inr (inl e)) f = omega (arith, e, f)
not_four result (inr (inr (inl e))) f = omega (arith, e, f)
not_four result (inr (inr (inr (inl e)))) f = omega (arith, e, f)
not_four result (inr (inr (inr (inr (inl e))))) f = omega (arith, e, f)
not_four result (inr (inr (inr (inr (inr (inl e)))))) f = omega (arith, e, f)
not_four result (inr (inr (inr (inr (inr (inr (inl e))))))) f = omega (arith, e, f)
not_four result (inr (inr (inr (inr (inr (inr (inr e))))))) f = omega (arith, e, f)

not_five : (result : ℕ) → ComesWithLine result → result ≡ 5 → ⊥
not_five result (inl e) f = omega (arith, e, f)
not_five result (inr (inl e)) f = omega (arith, e, f)
not_five result (inr (inr (inl e))) f = omega (arith, e, f)
not_five result (inr (inr (inr (inl e)))) f = omega (arith, e, f)
not_five result (inr (inr (inr (inr (inl e))))) f = omega (arith, e, f)
not_five result (inr (inr (inr (inr (inr (inl e)))))) f = omega (arith, e, f)
not_five result (inr (inr (inr (inr (inr (inr (inl e))))))) f = omega (arith, e, f)
not_five result (inr (inr (inr (inr (inr (inr (inr e))))))) f = omega (arith, e, f)

-- a status that comes with a line is that of the line that was put
pub told_status : (status before now result : ℕ) → TellsOr status before now result → ComesWithLine result → result ≡ status
told_status status before now result (inl e) h = e
told_status status before now result (inr (inl p)) h = absurd (not_four result h p.0)
told_status status before now result (inr (inr e)) h = absurd (not_five result h e)

pub not_silent : (result : ℕ) → ComesWithLine result → IsSilent result → ⊥
not_silent result h (inl e) = not_four result h e
not_silent result h (inr e) = not_five result h e

-- a status other than 3, 4 and 5 comes with a line, and is none of reading
pub due_line : (result : ℕ) → IsDueStatus result → ComesWithLine result
due_line result (inl e) = inl e
due_line result (inr (inl e)) = inr (inl e)
due_line result (inr (inr (inl e))) = inr (inr (inl e))
due_line result (inr (inr (inr (inl e)))) = inr (inr (inr (inr (inl e))))
due_line result (inr (inr (inr (inr (inl e))))) = inr (inr (inr (inr (inr (inl e)))))
due_line result (inr (inr (inr (inr (inr (inl e)))))) = inr (inr (inr (inr (inr (inr (inl e))))))
due_line result (inr (inr (inr (inr (inr (inr e)))))) = inr (inr (inr (inr (inr (inr (inr e))))))

pub not_three : (result : ℕ) → IsDueStatus result → result ≡ 3 → ⊥
not_three result (inl e) f = omega (arith, e, f)
not_three result (inr (inl e)) f = omega (arith, e, f)
not_three result (inr (inr (inl e))) f = omega (arith, e, f)
not_three result (inr (inr (inr (inl e)))) f = omega (arith, e, f)
not_three result (inr (inr (inr (inr (inl e))))) f = omega (arith, e, f)
not_three result (inr (inr (inr (inr (inr (inl e)))))) f = omega (arith, e, f)
not_three result (inr (inr (inr (inr (inr (inr e)))))) f = omega (arith, e, f)
