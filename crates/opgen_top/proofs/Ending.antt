-- From an answer, its stores and its line to what the run gives.
use Rattle.std.proofs.Common.{◌≡◌, ◌⊎◌, inl, inr, ℕ, List, [], ◌++◌, Option, Some, sym, ap, ◌∙◌, subst, arith}
use Rattle.opgen_command.specs.declared.command.Command.{Command}
use Rattle.opgen_io.specs.Bytes.{TakesPrefix}
use Rattle.opgen_io.specs.Counts.{Rose, Stood}
use Rattle.opgen_io.specs.Files.{Files}
use Rattle.opgen_top.specs.declared.line.Line.TheVariants as printed
use Rattle.opgen_top.specs.Answer.{Answer, status_of}
use Rattle.opgen_top.specs.Due.{IsAnswerOf, IsAnswered}
use Rattle.opgen_top.specs.Left.{LeftByFault, LeftByMemory}
use Rattle.opgen_top.specs.Prepared.{Reads, IsPrepared}
use Rattle.opgen_top.specs.Printed.{IsPrinted}
use Rattle.opgen_top.specs.Lines.{line_bytes}
use Rattle.opgen_top.specs.Statuses.{ComesWithLine, IsDueStatus, IsSilent, TellsOr}
use Rattle.opgen_top.specs.Stores.{stored_all, HasBroken, HasFirst}
use Rattle.opgen_top.specs.Targets.{Device}
use Rattle.opgen_top.proofs.Parts.{takes-nothing, told_status, not_silent, not_four, due_line, not_three}
use Rattle.opgen_top.proofs.Storing.{all_done}

-- the line that was put is the one more
pub line_taken : (result : ℕ) (held line : List ℕ) (now : Option (List ℕ)) → ComesWithLine result → IsSilent result
    ⊎ (now ≡ Some (held ++ line)) → now ≡ Some (held ++ line)
line_taken result held line now has (inl silent) = absurd (not_silent result has silent)
line_taken result held line now has (inr taken) = taken

-- stores change no count of reading
pub later_reads : (command : Option Command) (devices : List Device) (told : Option Files) (before : Reads)
    (faults lacks longs later : ℕ) (a : Answer) → later ≡ faults
    → IsPrepared command devices told before (record { faults = faults; lacks = lacks; longs = longs }) a
    → IsPrepared command devices told before (record { faults = later; lacks = lacks; longs = longs }) a
later_reads command devices told before faults lacks longs later a same prepared =
    subst (λ n. IsPrepared command devices told before (record { faults = n; lacks = lacks; longs = longs }) a) (sym same) prepared

-- an answer whose line was put, or was to be
module _ (command : Option Command) (devices : List Device) (told : Option Files) (reads reads_now : Reads) (a : Answer)
    (prepared : IsPrepared command devices told reads reads_now a)
    (result : ℕ) (after : Option Files) (before now : Option (List ℕ)) (puts puts_now : ℕ)
    (tells : TellsOr (status_of a) puts puts_now result)
    (bytes : List ℕ) (said : bytes ≡ line_bytes a.line)
    (taken : (held : List ℕ) → before ≡ Some held → IsSilent result ⊎ (now ≡ Some (held ++ bytes)))
    (part : result ≡ 4 → TakesPrefix before bytes now)
    (stores : (files : Files) → told ≡ Some files → after ≡ Some (stored_all a.stores files)) where
  -- the line is the one more, or a first part of it
  more : (held : List ℕ) → before ≡ Some held → ComesWithLine result → now ≡ Some (held ++ line_bytes a.line)
  more held holds has = line_taken result held bytes now has (taken held holds) ∙ ap (λ b. Some (held ++ b)) said

  part_of : result ≡ 4 → TakesPrefix before (line_bytes a.line) now
  part_of four = subst (λ b. TakesPrefix before b now) said (part four)

  gives : (files : Files) → told ≡ Some files → IsAnswerOf command devices files a → ComesWithLine result
      → IsAnswered command devices files result after before now
  gives files is due has = record {
    answer = a;
    due = due;
    status = told_status (status_of a) puts puts_now result tells has;
    stores = stores files is;
    line = λ held holds. more held holds has;
  }

  pub gives_due : (files : Files) → told ≡ Some files → IsDueStatus result → IsAnswered command devices files result after before now
  gives_due files is status = elim (prepared.due files is) [
    | inl fault ↦ absurd (not_three result status (told_status (status_of a) puts puts_now result tells (due_line result status)
        ∙ ap status_of fault.0))
    | inr due ↦ gives files is due (due_line result status)
  ]

  pub gives_missing : (files : Files) → told ≡ Some files → Stood reads.faults reads_now.faults → result ≡ 3
      → IsAnswered command devices files result after before now
  gives_missing files is stood e = elim (prepared.due files is) [
    | inl fault ↦ let rose = fault.1 in absurd (omega (arith, stood, rose))
    | inr due ↦ gives files is due (inr (inr (inr (inl e))))
  ]

  pub gives_all : (files : Files) → told ≡ Some files → Stood reads.faults reads_now.faults → Stood puts puts_now
      → ComesWithLine (status_of a)
      → (result ≡ 5) ⊎ IsAnswered command devices files result after before now
  gives_all files is stood put has = elim (prepared.due files is) [
    | inl fault ↦ let rose = fault.1 in absurd (omega (arith, stood, rose))
    | inr due ↦ elim tells [
      | inl e ↦ inr (gives files is due (subst ComesWithLine (sym e) has))
      | inr (inl refused) ↦ let rose = refused.1 in absurd (omega (arith, put, rose))
      | inr (inr memory) ↦ inl memory
    ]
  ]

  pub due_now : (files : Files) → told ≡ Some files → result ≡ 0 → IsAnswerOf command devices files a × (status_of a ≡ 0)
  due_now files is ok =
      let status = told_status (status_of a) puts puts_now result tells (inl ok) in
      elim (prepared.due files is) [
        | inl fault ↦ let three = ap status_of fault.0 in absurd (omega (arith, ok, status, three))
        | inr due ↦ (due, sym status ∙ ok)
      ]

  -- the sink counted a fault where the result is 4
  put_counted : ComesWithLine (status_of a) → result ≡ 4 → Rose puts puts_now
  put_counted has four = elim tells [
    | inl e ↦ absurd (not_four (status_of a) has (sym e ∙ four))
    | inr (inl refused) ↦ refused.1
    | inr (inr memory) ↦ absurd (omega (arith, four, memory))
  ]

  pub left_unprinted : (files : Files) (write : Type 0) → told ≡ Some files → ComesWithLine (status_of a) → result ≡ 4
      → LeftByFault command devices files (Rose reads.faults reads_now.faults) write (Rose puts puts_now) after before now
  left_unprinted files write is has four = elim (prepared.due files is) [
    | inl fault ↦ inl record {
      why = fault.1;
      same = stores files is ∙ ap (λ (b : Answer). Some (stored_all b.stores files)) fault.0;
      part = subst (λ (b : Answer). TakesPrefix before (line_bytes b.line) now) fault.0 (part_of four);
    }
    | inr due ↦ inr (a, due, inr record { why = put_counted has four; stores = stores files is; part = part_of four })
  ]

  pub left_memory : (files : Files) → told ≡ Some files → LeftByMemory command devices files after
  left_memory files is = elim (prepared.due files is) [
    | inl fault ↦ inl (stores files is ∙ ap (λ (b : Answer). Some (stored_all b.stores files)) fault.0)
    | inr due ↦ inr (a, due, all_done a.stores files after (stores files is))
  ]

  pub is_printed : ComesWithLine (status_of a) → (result ≡ 5 → now ≡ before) → (Stood puts puts_now → result ≡ 4 → ⊥)
      → (held : List ℕ) → before ≡ Some held → IsPrinted result puts puts_now held now
  is_printed has memory silent held holds = record {
    line = λ h. record {
      line = a.line;
      allowed = prepared.listed.line;
      status_is = told_status (status_of a) puts puts_now result tells h;
      taken = more held holds h;
    };
    part = λ four. record {
      line = a.line;
      allowed = prepared.listed.line;
      part = subst (λ b. TakesPrefix b (line_bytes a.line) now) holds (part_of four);
    };
    no_fault = λ four stood. absurd (silent stood four);
    no_memory = λ five. memory five ∙ holds;
  }

-- a result of 4 or 5 with nothing printed
pub nothing_printed : (result : ℕ) (puts puts_now : ℕ) (before now : Option (List ℕ)) → IsSilent result → now ≡ before → (held : List ℕ)
    → before ≡ Some held → IsPrinted result puts puts_now held now
nothing_printed result puts puts_now before now silent same held holds = record {
  line = λ has. absurd (not_silent result has silent);
  part = λ four. record {
    line = printed.Usage;
    allowed = tt;
    part = subst (λ n. TakesPrefix (Some held) (line_bytes printed.Usage) n) (sym (same ∙ holds))
        (takes-nothing (Some held) (line_bytes printed.Usage));
  };
  no_fault = λ four stood. same ∙ holds;
  no_memory = λ five. same ∙ holds;
}

-- a store of the answer failed
module _ (command : Option Command) (devices : List Device) (told : Option Files) (reads reads_now : Reads) (a : Answer)
    (prepared : IsPrepared command devices told reads reads_now a)
    (after : Option Files) (before now : Option (List ℕ)) (some : a.stores ≡ [] → ⊥) where
  pub left_unstored : (files : Files) (write put : Type 0) → told ≡ Some files → write → HasBroken a.stores files after → now ≡ before
      → LeftByFault command devices files (Rose reads.faults reads_now.faults) write put after before now
  left_unstored files write put is why broken same = elim (prepared.due files is) [
    | inl fault ↦ absurd (some (ap (λ (b : Answer). b.stores) fault.0))
    | inr due ↦ inr (a, due, inl record { why = why; broken = broken; unprinted = same })
  ]

  pub left_first : (files : Files) → told ≡ Some files → HasFirst a.stores files after → LeftByMemory command devices files after
  left_first files is first = elim (prepared.due files is) [
    | inl fault ↦ absurd (some (ap (λ (b : Answer). b.stores) fault.0))
    | inr due ↦ inr (a, due, first)
  ]
