-- The statuses 2, 3 and 9 have one line each.
use Rattle.std.proofs.Common.{◌≡◌, ◌⊎◌, inl, inr, ℕ, refl, arith}
use Rattle.opgen_top.specs.declared.line.Line.{Line}
use Rattle.opgen_top.specs.declared.line.Line.TheVariants as printed
use Rattle.opgen_top.specs.Lines.{line_status}
use Rattle.opgen_laws.specs.Lines.{HasFixedLine, LinesAreFixed}

-- a status that is none of these
abbrev IsOther : ℕ → Type 0
IsOther status = (status ≡ 0) ⊎ ((status ≡ 1) ⊎ ((status ≡ 6) ⊎ ((status ≡ 7) ⊎ (status ≡ 8))))

not_fixed : (status : ℕ) → IsOther status → (status ≡ 2 → ⊥) × (status ≡ 3 → ⊥) × (status ≡ 9 → ⊥)
not_fixed status (inl e) = (λ f. omega (arith, e, f), λ f. omega (arith, e, f), λ f. omega (arith, e, f))
not_fixed status (inr (inl e)) = (λ f. omega (arith, e, f), λ f. omega (arith, e, f), λ f. omega (arith, e, f))
not_fixed status (inr (inr (inl e))) = (λ f. omega (arith, e, f), λ f. omega (arith, e, f), λ f. omega (arith, e, f))
not_fixed status (inr (inr (inr (inl e)))) = (λ f. omega (arith, e, f), λ f. omega (arith, e, f), λ f. omega (arith, e, f))
not_fixed status (inr (inr (inr (inr e)))) = (λ f. omega (arith, e, f), λ f. omega (arith, e, f), λ f. omega (arith, e, f))

other : (l : Line) → IsOther (line_status l) → HasFixedLine l
other l is =
    let (words, missing, longer) = not_fixed (line_status l) is in record {
      usage = λ e. absurd (words e);
      read_fault = λ e. absurd (missing e);
      too_long = λ e. absurd (longer e);
    }

pub lines_are_fixed : LinesAreFixed
lines_are_fixed (printed.Wrote name latency) = other (printed.Wrote name latency) (inl refl)
lines_are_fixed (printed.WroteVectors name cycles) = other (printed.WroteVectors name cycles) (inl refl)
lines_are_fixed (printed.Simulated rows) = other (printed.Simulated rows) (inl refl)
lines_are_fixed (printed.Worked n signals latency good) = other (printed.Worked n signals latency good) (inl refl)
lines_are_fixed (printed.Good rows) = other (printed.Good rows) (inl refl)
lines_are_fixed (printed.Refused fault) = other (printed.Refused fault) (inr (inl refl))
lines_are_fixed printed.UnknownTarget = other printed.UnknownTarget (inr (inl refl))
lines_are_fixed printed.NotAdjustable = other printed.NotAdjustable (inr (inl refl))
lines_are_fixed (printed.PeriodTooShort need) = other (printed.PeriodTooShort need) (inr (inl refl))
lines_are_fixed printed.TooLarge = other printed.TooLarge (inr (inl refl))
lines_are_fixed printed.Usage = record {
  usage = λ e. refl;
  read_fault = λ e. absurd (omega (arith, e));
  too_long = λ e. absurd (omega (arith, e));
}
lines_are_fixed printed.ReadFault = record {
  usage = λ e. absurd (omega (arith, e));
  read_fault = λ e. refl;
  too_long = λ e. absurd (omega (arith, e));
}
lines_are_fixed (printed.VhdlRefused fault) = other (printed.VhdlRefused fault) (inr (inr (inl refl)))
lines_are_fixed printed.Ports = other printed.Ports (inr (inr (inl refl)))
lines_are_fixed (printed.VectorsRefused fault) = other (printed.VectorsRefused fault) (inr (inr (inr (inl refl))))
lines_are_fixed (printed.BadRow row) = other (printed.BadRow row) (inr (inr (inr (inr refl))))
lines_are_fixed printed.TooLong = record {
  usage = λ e. absurd (omega (arith, e));
  read_fault = λ e. absurd (omega (arith, e));
  too_long = λ e. refl;
}
