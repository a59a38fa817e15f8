-- Answers whose lines may be printed.
use Rattle.std.proofs.Common.{◌≡◌, inl, inr, ℕ, refl, arith}
use Rattle.opgen_top.specs.declared.line.Line.{Line}
use Rattle.opgen_top.specs.declared.line.Line.TheVariants as printed
use Rattle.opgen_top.specs.Answer.{Answer, refusal, status_of}
use Rattle.opgen_top.specs.Lines.{line_status}
use Rattle.opgen_top.specs.Prepared.{IsListed}
use Rattle.opgen_top.specs.Printed.{IsAllowedLine}
use Rattle.opgen_top.specs.Statuses.{ComesWithLine, Refuses}

-- an answer that refuses has no store
pub listed_refusal : (l : Line) → IsAllowedLine l → IsListed (refusal l)
listed_refusal l allowed = record { line = allowed; no_store = λ h. refl }

-- an answer of status 0 is none that refuses
not_zero : (status : ℕ) → status ≡ 0 → Refuses status → ⊥
not_zero status e (inl f) = omega (arith, e, f)
not_zero status e (inr (inl f)) = omega (arith, e, f)
not_zero status e (inr (inr (inl f))) = omega (arith, e, f)
not_zero status e (inr (inr (inr (inl f)))) = omega (arith, e, f)
not_zero status e (inr (inr (inr (inr (inl f))))) = omega (arith, e, f)
not_zero status e (inr (inr (inr (inr (inr (inl f)))))) = omega (arith, e, f)
not_zero status e (inr (inr (inr (inr (inr (inr f)))))) = omega (arith, e, f)

pub listed_success : (a : Answer) → IsAllowedLine a.line → status_of a ≡ 0 → IsListed a
listed_success a allowed ok = record { line = allowed; no_store = λ h. absurd (not_zero (status_of a) ok h) }

-- a status that has a line
pub listed_status : (l : Line) → ComesWithLine (line_status l)
listed_status (printed.Wrote name latency) = inl refl
listed_status (printed.WroteVectors name cycles) = inl refl
listed_status (printed.Simulated rows) = inl refl
listed_status (printed.Worked n signals latency good) = inl refl
listed_status (printed.Good rows) = inl refl
listed_status (printed.Refused fault) = inr (inl refl)
listed_status printed.UnknownTarget = inr (inl refl)
listed_status printed.NotAdjustable = inr (inl refl)
listed_status (printed.PeriodTooShort need) = inr (inl refl)
listed_status printed.TooLarge = inr (inl refl)
listed_status printed.Usage = inr (inr (inl refl))
listed_status printed.ReadFault = inr (inr (inr (inl refl)))
listed_status (printed.VhdlRefused fault) = inr (inr (inr (inr (inl refl))))
listed_status printed.Ports = inr (inr (inr (inr (inl refl))))
listed_status (printed.VectorsRefused fault) = inr (inr (inr (inr (inr (inl refl)))))
listed_status (printed.BadRow row) = inr (inr (inr (inr (inr (inr (inl refl))))))
listed_status printed.TooLong = inr (inr (inr (inr (inr (inr (inr refl))))))
