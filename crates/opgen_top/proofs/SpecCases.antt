-- The cases of what a specification and the targets lead to.
use Rattle.std.proofs.Common.{◌≡◌, inl, inr, ℕ, Bool, true, false, List, Option, Some, None, Result, Ok, Err, refl, sym, subst}
use Rattle.opgen_operator.specs.declared.spec.Spec.{Spec}
use Rattle.opgen_spec.specs.declared.fault.SpecFault.{SpecFault}
use Rattle.opgen_document.specs.Document.{tree}
use Rattle.opgen_spec.specs.Faults.{read}
use Rattle.opgen_target.specs.Delays.{Delays}
use Rattle.opgen_top.specs.declared.line.Line.TheVariants as printed
use Rattle.opgen_top.specs.Answer.{Answer, refusal}
use Rattle.opgen_top.specs.Specified.{IsAnswerToSpec, OnLines, OnReading, OnTable, OnTarget}
use Rattle.opgen_top.specs.Targets.{Device, IsTableOf, first_of_name, takes_lines, tuned}

-- what is said of a specification and a table may be exchanged
pub on_table-map : (spec : Spec) (table : Delays) (a : Answer) (said other : Type 0) → (said → other) → OnTable spec table a said
    → OnTable spec table a other
on_table-map spec table a said other f (inl short) = inl short
on_table-map spec table a said other f (inr (inl large)) = inr (inl large)
on_table-map spec table a said other f (inr (inr h)) = inr (inr (f h))

on_lines-map : (b : Bool) (a : Answer) (said other : Type 0) → (said → other) → OnLines b a said → OnLines b a other
on_lines-map true a said other f h = f h
on_lines-map false a said other f h = h

pub on_target-map : (found : Option Device) (spec : Spec) (a : Answer) (said other : Delays → Type 0)
    → ((table : Delays) → said table → other table)
    → OnTarget found spec a said → OnTarget found spec a other
on_target-map (Some device) spec a said other f h =
    on_lines-map (takes_lines device.adjustable spec.delays) a (said (tuned device.delays spec.delays))
    (other (tuned device.delays spec.delays)) (f (tuned device.delays spec.delays)) h
on_target-map None spec a said other f h = h

pub on_reading-map : (r : Result Spec SpecFault) (a : Answer) (said other : Spec → Type 0) → ((spec : Spec) → said spec → other spec)
    → OnReading r a said → OnReading r a other
on_reading-map (Ok spec) a said other f h = f spec h
on_reading-map (Err fault) a said other f h = h

-- a refusal is one whatever is said of a circuit
pub refusal_answers : (bytes : List ℕ) (devices : List Device) (said : Spec → Delays → Answer → Type 0) (a : Answer)
    → IsAnswerToSpec bytes devices (λ spec table b. ⊥) a
    → IsAnswerToSpec bytes devices said a
refusal_answers bytes devices said a h =
    on_reading-map (read (tree bytes)) a _ _ (λ spec. on_target-map (first_of_name spec.target devices) spec a _ _
    (λ table. on_table-map spec table a ⊥ (said spec table a) (λ no. absurd no))) h

-- by what reads as a specification
pub reading_ok : (r : Result Spec SpecFault) (a : Answer) (said : Spec → Type 0) (spec : Spec) → r ≡ Ok spec → said spec
    → OnReading r a said
reading_ok r a said spec reads h = subst (λ x. OnReading x a said) (sym reads) h

-- by the table of the specification's target
pub on_table_of : (spec : Spec) (devices : List Device) (a : Answer) (said : Delays → Type 0) (table : Delays)
    → IsTableOf spec devices table → said table
    → OnTarget (first_of_name spec.target devices) spec a said
on_table_of spec devices a said table of h =
    let device = of.device in
    subst (λ found. OnTarget found spec a said) (sym of.is_chosen)
    (subst (λ b. OnLines b a (said (tuned device.delays spec.delays))) (sym of.takes) (subst said of.is_tuned h))

-- by the targets one of these cases holds
module _ (devices : List Device) (spec : Spec) (a : Answer) (said : Delays → Type 0) (P : Type 0)
    (by_unknown : first_of_name spec.target devices ≡ None → a ≡ refusal printed.UnknownTarget → P)
    (by_fixed : (device : Device) → first_of_name spec.target devices ≡ Some device → takes_lines device.adjustable spec.delays ≡ false
    → a ≡ refusal printed.NotAdjustable → P)
    (by_table : (table : Delays) → IsTableOf spec devices table → said table → P) where
  of_lines : (device : Device) → first_of_name spec.target devices ≡ Some device → (b : Bool) → takes_lines device.adjustable spec.delays ≡ b
      → OnLines b a (said (tuned device.delays spec.delays)) → P
  of_lines device found true takes h =
      by_table (tuned device.delays spec.delays) record { device = device; is_chosen = found; takes = takes; is_tuned = refl } h
  of_lines device found false takes h = by_fixed device found takes h

  of_target : (found : Option Device) → first_of_name spec.target devices ≡ found → OnTarget found spec a said → P
  of_target (Some device) found h = of_lines device found (takes_lines device.adjustable spec.delays) refl h
  of_target None found h = by_unknown found h

  pub cases_of_target : OnTarget (first_of_name spec.target devices) spec a said → P
  cases_of_target h = of_target (first_of_name spec.target devices) refl h

module _ (bytes : List ℕ) (devices : List Device) (said : Spec → Delays → Answer → Type 0) (a : Answer) where
  abbrev Said : Spec → Type 0
  Said spec = OnTarget (first_of_name spec.target devices) spec a (λ table. OnTable spec table a (said spec table a))

  pub answers_table : (spec : Spec) (table : Delays) → read (tree bytes) ≡ Ok spec → IsTableOf spec devices table
      → OnTable spec table a (said spec table a)
      → IsAnswerToSpec bytes devices said a
  answers_table spec table reads of h =
      reading_ok (read (tree bytes)) a Said spec reads (on_table_of spec devices a (λ t. OnTable spec t a (said spec t a)) table of h)

  -- one of these cases holds
  module _ (P : Type 0) (by_fault : (fault : SpecFault) → read (tree bytes) ≡ Err fault → a ≡ refusal (printed.Refused fault) → P)
      (by_unknown : (spec : Spec) → read (tree bytes) ≡ Ok spec → first_of_name spec.target devices ≡ None
      → a ≡ refusal printed.UnknownTarget → P)
      (by_fixed : (spec : Spec) (device : Device) → read (tree bytes) ≡ Ok spec → first_of_name spec.target devices ≡ Some device
      → takes_lines device.adjustable spec.delays ≡ false → a ≡ refusal printed.NotAdjustable → P)
      (by_table : (spec : Spec) (table : Delays) → read (tree bytes) ≡ Ok spec → IsTableOf spec devices table
      → OnTable spec table a (said spec table a) → P) where
    of_reading : (r : Result Spec SpecFault) → read (tree bytes) ≡ r → OnReading r a Said → P
    of_reading (Ok spec) reads h =
        cases_of_target devices spec a (λ table. OnTable spec table a (said spec table a)) P (by_unknown spec reads)
        (λ device. by_fixed spec device reads)
        (λ table. by_table spec table reads) h
    of_reading (Err fault) reads h = by_fault fault reads h

    pub cases_of_spec : IsAnswerToSpec bytes devices said a → P
    cases_of_spec h = of_reading (read (tree bytes)) refl h
