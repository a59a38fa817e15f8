-- From what VHDL and vectors give to what `simulate` answers to its files.
use Rattle.std.proofs.Common.{◌≡◌, ◌⊎◌, inl, inr, ℕ, ◌≤◌, List, [], ◌∷◌, length, Option, Some, Result, Ok, Err, refl, sym, ap, ◌∙◌, subst, arith}
use Rattle.std.specs.Prelude.{◌≢◌}
use Rattle.std.specs.Str.Lines.{lines}
use Rattle.opgen_command.specs.declared.command.Command.TheVariants.{Simulate}
use Rattle.opgen_design.specs.declared.design.Design.{Design}
use Rattle.opgen_design.specs.Run.{input_widths}
use Rattle.opgen_io.specs.Fetched.{fetched}
use Rattle.opgen_io.specs.Files.{Files}
use Rattle.opgen_vec.specs.declared.fault.VecFault.TheVariants as vector_faults
use Rattle.opgen_vec.specs.Reading.{IsReading}
use Rattle.opgen_top.specs.declared.answer.Answer.{Answer as Held}
use Rattle.opgen_top.specs.declared.answer.Refusal.{Refusal}
use Rattle.opgen_top.specs.declared.answer.Refusal.TheVariants as refusals
use Rattle.opgen_top.specs.declared.rows.Rows.{Rows}
use Rattle.opgen_top.specs.declared.line.Line.TheVariants as printed
use Rattle.opgen_top.specs.Answer.{Answer, file as stored_file, refusal, status_of, success}
use Rattle.opgen_top.specs.Due.{most_simulated_bytes, OnFetch, IsAnswerOf}
use Rattle.opgen_top.specs.Prepared.{Reads, Kept, OnAnswer, Fetches, IfRefused, HasSimulated, HoldsRows, IsListed, IsPrepared, answer_of}
use Rattle.opgen_top.specs.Running.{IsRunText}
use Rattle.opgen_top.specs.Simulate.{GivesDesign, IsSimulated, RefusesRows, RefusesVhdl}
use Rattle.opgen_top.specs.Targets.{Device}
use Rattle.opgen_top.proofs.Listed.{listed_refusal, listed_success}
use Rattle.opgen_top.proofs.Unfetched.{on_fetch, on_missing, on_longer, unfetched, unfetched-before}

-- a fault of rows is not out of memory
pub names_fault : (widths vectors : List ℕ) (a : Answer) (cause : RefusesRows widths vectors a) → cause.fault ≢ vector_faults.Memory
names_fault widths vectors a cause = λ e. subst (λ f. IsReading widths (lines vectors) (Err f)) e cause.cause

-- VHDL that is refused answers the command
pub vhdl_answers : (out text rows : List ℕ) (refusal : Refusal) → IfRefused {X = Design} (Err refusal) (RefusesVhdl text)
    → OnAnswer (Err refusal) (IsSimulated out text rows)
vhdl_answers out text rows (refusals.Line line) h = inl h
vhdl_answers out text rows refusals.Memory h = tt

pub vhdl_listed : (text : List ℕ) (refusal : Refusal) → IfRefused {X = Design} (Err refusal) (RefusesVhdl text)
    → OnAnswer (Err refusal) IsListed
vhdl_listed text (refusals.Line line) h =
    subst IsListed (sym h.answer) (listed_refusal (printed.VhdlRefused h.fault) h.of_text)
vhdl_listed text refusals.Memory h = tt

-- so do vectors
pub rows_answer : (out text vectors : List ℕ) (design : Design) (refusal : Refusal) → GivesDesign text design
    → IfRefused {X = Rows} (Err refusal) (RefusesRows (input_widths design) vectors) → OnAnswer (Err refusal) (IsSimulated out text vectors)
rows_answer out text vectors design (refusals.Line line) gives h = inr (inl record { design = design; gives = gives; refused = h })
rows_answer out text vectors design refusals.Memory gives h = tt

pub rows_listed : (widths vectors : List ℕ) (refusal : Refusal) → IfRefused {X = Rows} (Err refusal) (RefusesRows widths vectors)
    → OnAnswer (Err refusal) IsListed
rows_listed widths vectors (refusals.Line line) h =
    subst IsListed (sym h.answer) (listed_refusal (printed.VectorsRefused h.fault) (names_fault widths vectors (refusal line) h))
rows_listed widths vectors refusals.Memory h = tt

-- and so do rows
pub run_made : (out : List ℕ) (design : Design) (count : ℕ) (cells : List ℕ) (a : Answer) (name rows : List ℕ)
    → IsRunText design count cells rows → name ≡ out → a ≡ success (printed.Simulated count) (stored_file name rows ∷ [])
    → HasSimulated out design count cells a
run_made out design count cells a name rows run named e = record { rows = rows; run = run; answer = rw (e, named) refl }

pub run_answers : (out text vectors : List ℕ) (a : Answer) (design : Design) (held : Rows) → GivesDesign text design
    → HoldsRows (input_widths design) vectors held → HasSimulated out design held.count held.inputs.cells.items a → IsSimulated out text vectors a
run_answers out text vectors a design held gives holds h =
    inr (inr record {
      design = design;
      gives = gives;
      cells = held.inputs.cells.items;
      read = holds.reading;
      rows = h.rows;
      run = subst (λ n. IsRunText design n held.inputs.cells.items h.rows) holds.count h.run;
      answer = h.answer ∙ ap (λ n. success (printed.Simulated n) (stored_file out h.rows ∷ [])) holds.count;
    })

pub run_listed : (out : List ℕ) (design : Design) (count : ℕ) (cells : List ℕ) (a : Answer) → HasSimulated out design count cells a → IsListed a
run_listed out design count cells a h =
    subst IsListed (sym h.answer) (listed_success (success (printed.Simulated count) (stored_file out h.rows ∷ [])) tt refl)

-- the answer to both files has status 0, 6 or 7
simulated_status : (out text rows : List ℕ) (a : Answer) → IsSimulated out text rows a
    → (status_of a ≡ 6) ⊎ ((status_of a ≡ 7) ⊎ (status_of a ≡ 0))
simulated_status out text rows a (inl cause) = inl (ap status_of cause.answer)
simulated_status out text rows a (inr (inl cause)) = inr (inl (ap status_of cause.refused.answer))
simulated_status out text rows a (inr (inr runs)) = inr (inr (ap status_of runs.answer))

module _ (devices : List Device) (vhdl vectors out : List ℕ) (told : Option Files) where
  abbrev SaysOf : Files → Answer → (text : List ℕ) → Type 0
  SaysOf files a text = OnFetch (fetched (files vectors) most_simulated_bytes) a (λ rows. IsSimulated out text rows a)

  -- VHDL that was not fetched
  pub vhdl-unfetched : (before now : Reads) (refusal : Refusal) → Fetches vhdl most_simulated_bytes told before now (Err refusal)
      → OnAnswer (Err refusal) (IsPrepared (Some (Simulate vhdl vectors out)) devices told before now)
  vhdl-unfetched before now (refusals.Line line) cause =
      unfetched (Some (Simulate vhdl vectors out)) devices told before now vhdl most_simulated_bytes
      (λ files is e. on_missing (files vhdl) most_simulated_bytes (SaysOf files _) e)
      (λ files is e. on_longer (files vhdl) most_simulated_bytes (SaysOf files _) e) line cause
  vhdl-unfetched before now refusals.Memory cause = tt

  module _ (text : List ℕ) (stands : (files : Files) → told ≡ Some files → files vhdl ≡ Some text)
      (few : length text ≤ most_simulated_bytes) where
    on_vhdl : (files : Files) (a : Answer) → told ≡ Some files → SaysOf files a text
        → IsAnswerOf (Some (Simulate vhdl vectors out)) devices files a
    on_vhdl files a is said = on_fetch (files vhdl) most_simulated_bytes text a (SaysOf files a) (stands files is) few said

    -- vectors that were not fetched, after VHDL that was
    pub rows-unfetched : (before mid now : Reads) (refusal : Refusal) → Kept before mid
        → Fetches vectors most_simulated_bytes told mid now (Err refusal)
        → OnAnswer (Err refusal) (IsPrepared (Some (Simulate vhdl vectors out)) devices told before now)
    rows-unfetched before mid now (refusals.Line line) kept cause =
        unfetched (Some (Simulate vhdl vectors out)) devices told before now vectors most_simulated_bytes
        (λ files is e. on_vhdl files _ is (on_missing (files vectors) most_simulated_bytes (λ rows. IsSimulated out text rows _) e))
        (λ files is e. on_vhdl files _ is (on_longer (files vectors) most_simulated_bytes (λ rows. IsSimulated out text rows _) e))
        line (unfetched-before vectors most_simulated_bytes told before mid now line kept cause)
    rows-unfetched before mid now refusals.Memory kept cause = tt

    module _ (rows : List ℕ) (before now : Reads) (also : (files : Files) → told ≡ Some files → files vectors ≡ Some rows)
        (short : length rows ≤ most_simulated_bytes) where
      answers : (a : Answer) → IsSimulated out text rows a → IsListed a
          → IsPrepared (Some (Simulate vhdl vectors out)) devices told before now a
      answers a is listed =
          let status = simulated_status out text rows a is in record {
            listed = listed;
            usage = λ other. absurd
                (elim status [
                  | inl e ↦ omega (arith, e, other)
                  | inr (inl e) ↦ omega (arith, e, other)
                  | inr (inr e) ↦ omega
                      (arith, e, other)
                ]);
            read_counted =
                λ other. absurd
                (elim status [
                  | inl e ↦ omega (arith, e, other)
                  | inr (inl e) ↦ omega (arith, e, other)
                  | inr (inr e) ↦ omega
                      (arith, e, other)
                ]);
            long_counted =
                λ other. absurd
                (elim status [
                  | inl e ↦ omega (arith, e, other)
                  | inr (inl e) ↦ omega (arith, e, other)
                  | inr (inr e) ↦ omega
                      (arith, e, other)
                ]);
            due = λ files there.
                inr (on_vhdl files a there (on_fetch (files vectors) most_simulated_bytes rows a (λ given. IsSimulated out text given a)
                (also files there) short is));
          }

      pub simulate-prepared : (r : Result Held Refusal) → OnAnswer r (IsSimulated out text rows) → OnAnswer r IsListed
          → OnAnswer r (IsPrepared (Some (Simulate vhdl vectors out)) devices told before now)
      simulate-prepared (Ok held) is listed = answers (answer_of held) is listed
      simulate-prepared (Err (refusals.Line line)) is listed = answers (refusal line) is listed
      simulate-prepared (Err refusals.Memory) is listed = tt
