-- From what a specification, VHDL and vectors give to what `check` answers to its files.
use Rattle.std.proofs.Common.{◌≡◌, ◌⊎◌, inl, inr, ℕ, zero, suc, ◌*◌, ◌≤◌, List, [], ◌∷◌, length, Option, Some, Result, Ok, Err, refl, sym, ap, ◌∙◌, subst, arith}
use Rattle.std.specs.Str.Lines.{lines}
use Rattle.opgen_num.specs.Words.{AreRowsOfCells}
use Rattle.opgen_num.proofs.RowsOfCells.{length-rows_of_cells}
use Rattle.opgen_check.specs.declared.checked.Checked.{Checked}
use Rattle.opgen_check.specs.declared.checked.Checked.TheVariants.{Good, Bad}
use Rattle.opgen_check.specs.Ports.{PortsAgree}
use Rattle.opgen_check.specs.Verdict.{IsChecked}
use Rattle.opgen_check.proofs.Sides.{in_columns}
use Rattle.opgen_command.specs.declared.command.Command.TheVariants.{Check}
use Rattle.opgen_design.specs.declared.design.Design.{Design}
use Rattle.opgen_design.specs.Run.{input_widths}
use Rattle.opgen_io.specs.Fetched.{fetched}
use Rattle.opgen_io.specs.Files.{Files}
use Rattle.opgen_operator.specs.declared.spec.Spec.{Spec}
use Rattle.opgen_operator.specs.Valid.{IsValidSpec}
use Rattle.opgen_operator.proofs.Operators.{some_input}
use Rattle.opgen_spec.specs.declared.fault.SpecFault.{SpecFault}
use Rattle.opgen_document.specs.Document.{tree}
use Rattle.opgen_spec.specs.Faults.{read}
use Rattle.opgen_vec.specs.Writing.{row_count}
use Rattle.opgen_top.specs.declared.answer.Answer.{Answer as Held}
use Rattle.opgen_top.specs.declared.answer.Refusal.{Refusal}
use Rattle.opgen_top.specs.declared.answer.Refusal.TheVariants as refusals
use Rattle.opgen_top.specs.declared.rows.Rows.{Rows}
use Rattle.opgen_top.specs.declared.line.Line.TheVariants as printed
use Rattle.opgen_top.specs.Answer.{Answer, refusal, status_of, success}
use Rattle.opgen_top.specs.Check.{GivesRows, IsAnswerToCheck, IsAnswerToVhdl}
use Rattle.opgen_top.specs.Due.{most_bytes, most_simulated_bytes, OnFetch, IsAnswerOf}
use Rattle.opgen_top.specs.Prepared.{Reads, Kept, OnAnswer, Fetches, HoldsRows, IsAnswerToDesign, IsListed, IsPrepared, OnRefusal, answer_of, verdict_answer}
use Rattle.opgen_top.specs.Simulate.{GivesDesign, RefusesRows, RefusesVhdl}
use Rattle.opgen_top.specs.Specified.{OnReading}
use Rattle.opgen_top.specs.Targets.{Device}
use Rattle.opgen_top.proofs.Columns.{counted}
use Rattle.opgen_top.proofs.Listed.{listed_refusal, listed_success}
use Rattle.opgen_top.proofs.Refusing.{answers-map, refusal-map}
use Rattle.opgen_top.proofs.SpecCases.{on_reading-map, reading_ok}
use Rattle.opgen_top.proofs.Unfetched.{on_fetch, on_missing, on_longer, unfetched, unfetched-before}

-- ---- the verdict on a design

-- rows of cells are as many as their cells make, but for cells of no column
pub as_counted : (widths : List ℕ) (columns count : ℕ) (cells : List ℕ) → columns ≡ length widths → AreRowsOfCells widths count cells
    → AreRowsOfCells widths (row_count columns cells) cells
as_counted [] zero count [] e fit = refl
as_counted [] zero count (c ∷ cells) e fit = absurd (let long = length-rows_of_cells [] (c ∷ cells) count fit in omega (arith, long))
as_counted [] (suc columns) count cells e fit = absurd (omega (arith, e))
as_counted (w ∷ ws) zero count cells e fit = absurd (omega (arith, e))
as_counted (w ∷ ws) (suc columns) count cells e fit =
    let long = length-rows_of_cells (w ∷ ws) cells count fit in
    let whole : length cells ≡ count * suc columns = long ∙ ap (λ n. count * n) (sym e) in
    subst (λ n. AreRowsOfCells (w ∷ ws) n cells) (sym (counted columns count cells whole)) fit

pub same_count : (widths : List ℕ) (columns count : ℕ) (cells : List ℕ) → columns ≡ length widths → AreRowsOfCells widths count cells
    → 1 ≤ columns → row_count columns cells ≡ count
same_count widths zero count cells e fit some = absurd (omega (arith, some))
same_count widths (suc columns) count cells e fit some =
    counted columns count cells (length-rows_of_cells widths cells count fit ∙ ap (λ n. count * n) (sym e))

pub few_counted : (widths : List ℕ) (columns count : ℕ) (cells : List ℕ) → columns ≡ length widths → AreRowsOfCells widths count cells
    → row_count columns cells ≤ count
few_counted widths zero count cells e fit = omega arith
few_counted widths (suc columns) count cells e fit =
    let same = same_count widths (suc columns) count cells e fit (omega arith) in omega (arith, same)

-- a design with the ports of a specification has an input
some_column : (spec : Spec) (d : Design) → IsValidSpec spec → PortsAgree spec d → 1 ≤ length (input_widths d)
some_column spec d valid agree = let same = in_columns spec d agree in let some = some_input spec.op valid.op.ranges in omega (arith, same, some)

pub design_judged : (spec : Spec) (d : Design) (latency columns count : ℕ) (cells : List ℕ) (checked : Checked) (a : Answer)
    → IsValidSpec spec → columns ≡ length (input_widths d) → AreRowsOfCells (input_widths d) count cells → PortsAgree spec d
    → IsChecked spec d latency (row_count columns cells) cells checked → a ≡ verdict_answer checked
    → IsAnswerToDesign spec d latency count cells a
design_judged spec d latency columns count cells checked a valid e fit agree is said =
    let some = some_column spec d valid agree in
    let same = same_count (input_widths d) columns count cells e fit (omega (arith, e, some)) in
    inr (record {
      agree = agree;
      checked = checked;
      verdict = subst (λ n. IsChecked spec d latency n cells checked) same is;
      answer = said;
    })

pub verdict_listed : (checked : Checked) (a : Answer) → a ≡ verdict_answer checked → IsListed a
verdict_listed (Good judged) a e = subst IsListed (sym e) (listed_success (success (printed.Good judged) []) tt refl)
verdict_listed (Bad row) a e = subst IsListed (sym e) (listed_refusal (printed.BadRow row) tt)

pub ports_listed : IsListed (refusal printed.Ports)
ports_listed = listed_refusal printed.Ports tt

-- ---- from the three files

-- by a specification
module _ (spec : Spec) (latency : ℕ) (text vectors : List ℕ) where
  pub vhdl_answers_check : (refusal : Refusal) → OnRefusal refusal (RefusesVhdl text)
      → OnRefusal refusal (IsAnswerToVhdl spec latency text vectors)
  vhdl_answers_check refusal h = refusal-map refusal _ _ (λ a k. inl k) h

  module _ (design : Design) (gives : GivesDesign text design) where
    pub rows_answer_check : (refusal : Refusal) → OnRefusal refusal (RefusesRows (input_widths design) vectors)
        → OnRefusal refusal (IsAnswerToVhdl spec latency text vectors)
    rows_answer_check refusal h = refusal-map refusal _ _
        (λ a k. inr (inl record { design = design; gives = gives; refused = k })) h

    design_answers : (held : Rows) (a : Answer) → HoldsRows (input_widths design) vectors held
        → IsAnswerToDesign spec design latency held.count held.inputs.cells.items a → IsAnswerToVhdl spec latency text vectors a
    design_answers held a holds is =
        let rows : GivesRows text vectors design held.inputs.cells.items = record {
          gives = gives;
          reads = holds.reading;
        } in
        elim is [
          | inl other ↦ inr (inr (inl (record {
            design = design;
            cells = held.inputs.cells.items;
            rows = rows;
            differ = other.0;
            answer = other.1;
          })))
          | inr found ↦ judged rows found.agree found.checked
              (subst (λ n. IsChecked spec design latency n held.inputs.cells.items found.checked) holds.count found.verdict) found.answer
        ]
      where
        judged : GivesRows text vectors design held.inputs.cells.items → PortsAgree spec design → (checked : Checked)
            → IsChecked spec design latency (length (lines vectors)) held.inputs.cells.items checked → a ≡ verdict_answer checked
            → IsAnswerToVhdl spec latency text vectors a
        judged rows agree (Good n) verdict said = inr (inr (inr (inr (record {
          judged = n;
          verdict = record { design = design; cells = held.inputs.cells.items; rows = rows; agree = agree; verdict = verdict };
          answer = said;
        }))))
        judged rows agree (Bad row) verdict said = inr (inr (inr (inl (record {
          row = row;
          verdict = record { design = design; cells = held.inputs.cells.items; rows = rows; agree = agree; verdict = verdict };
          answer = said;
        }))))

    pub rows_judged : (held : Rows) (r : Result Held Refusal) → HoldsRows (input_widths design) vectors held
        → OnAnswer r (IsAnswerToDesign spec design latency held.count held.inputs.cells.items)
        → OnAnswer r (IsAnswerToVhdl spec latency text vectors)
    rows_judged held r holds h = answers-map r _ _ (λ a k. design_answers held a holds k) h

-- by the bytes of one
module _ (latency : ℕ) (bytes text vectors : List ℕ) where
  pub fault_answers : (refusal : Refusal) → OnRefusal refusal (λ a. OnReading (read (tree bytes)) a (λ spec. ⊥))
      → OnRefusal refusal (IsAnswerToCheck latency bytes text vectors)
  fault_answers refusal h =
      refusal-map refusal _ _ (λ a. on_reading-map (read (tree bytes)) a (λ spec. ⊥) _ (λ spec no. absurd no)) h

  pub spec_answers : (spec : Spec) → read (tree bytes) ≡ Ok spec → (r : Result Held Refusal)
      → OnAnswer r (IsAnswerToVhdl spec latency text vectors) → OnAnswer r (IsAnswerToCheck latency bytes text vectors)
  spec_answers spec reads r h =
      answers-map r _ _
      (λ a k. reading_ok (read (tree bytes)) a (λ s. IsAnswerToVhdl s latency text vectors a) spec reads k) h

-- ---- from the folder

-- the answer to all three files has status 0, 1, 6, 7 or 8
abbrev IsStatusOfCheck : ℕ → Type 0
IsStatusOfCheck n = (n ≡ 0) ⊎ ((n ≡ 1) ⊎ ((n ≡ 6) ⊎ ((n ≡ 7) ⊎ (n ≡ 8))))

vhdl_status : (spec : Spec) (latency : ℕ) (text rows : List ℕ) (a : Answer) → IsAnswerToVhdl spec latency text rows a
    → IsStatusOfCheck (status_of a)
vhdl_status spec latency text rows a (inl h) = inr (inr (inl (ap status_of h.answer)))
vhdl_status spec latency text rows a (inr (inl h)) = inr (inr (inr (inl (ap status_of h.refused.answer))))
vhdl_status spec latency text rows a (inr (inr (inl h))) = inr (inr (inl (ap status_of h.answer)))
vhdl_status spec latency text rows a (inr (inr (inr (inl h)))) = inr (inr (inr (inr (ap status_of h.answer))))
vhdl_status spec latency text rows a (inr (inr (inr (inr h)))) = inl (ap status_of h.answer)

check_status : (r : Result Spec SpecFault) (latency : ℕ) (text rows : List ℕ) (a : Answer)
    → OnReading r a (λ spec. IsAnswerToVhdl spec latency text rows a) → IsStatusOfCheck (status_of a)
check_status (Ok spec) latency text rows a h = vhdl_status spec latency text rows a h
check_status (Err fault) latency text rows a h = inr (inl (ap status_of h))

-- which is none of the words and none of a fetch
other_status : (n : ℕ) → IsStatusOfCheck n → (n ≡ 2 → ⊥) × (n ≡ 3 → ⊥) × (n ≡ 9 → ⊥)
other_status n (inl e) = (λ f. omega (arith, e, f), λ f. omega (arith, e, f), λ f. omega (arith, e, f))
other_status n (inr (inl e)) = (λ f. omega (arith, e, f), λ f. omega (arith, e, f), λ f. omega (arith, e, f))
other_status n (inr (inr (inl e))) = (λ f. omega (arith, e, f), λ f. omega (arith, e, f), λ f. omega (arith, e, f))
other_status n (inr (inr (inr (inl e)))) = (λ f. omega (arith, e, f), λ f. omega (arith, e, f), λ f. omega (arith, e, f))
other_status n (inr (inr (inr (inr e)))) = (λ f. omega (arith, e, f), λ f. omega (arith, e, f), λ f. omega (arith, e, f))

module _ (devices : List Device) (spec vhdl vectors : List ℕ) (latency : ℕ) (told : Option Files) where
  -- what is said of the specification, and of the VHDL beside it
  abbrev SaysOfVhdl : Files → Answer → (bytes text : List ℕ) → Type 0
  SaysOfVhdl files a bytes text = OnFetch (fetched (files vectors) most_simulated_bytes) a (λ rows. IsAnswerToCheck latency bytes text rows a)

  abbrev SaysOfSpec : Files → Answer → (bytes : List ℕ) → Type 0
  SaysOfSpec files a bytes = OnFetch (fetched (files vhdl) most_simulated_bytes) a (SaysOfVhdl files a bytes)

  -- a specification that was not fetched
  pub check_spec-unfetched : (before now : Reads) (refusal : Refusal) → Fetches spec most_bytes told before now (Err refusal)
      → OnAnswer (Err refusal) (IsPrepared (Some (Check spec vhdl vectors latency)) devices told before now)
  check_spec-unfetched before now (refusals.Line line) cause =
      unfetched (Some (Check spec vhdl vectors latency)) devices told before now spec most_bytes
      (λ files is e. on_missing (files spec) most_bytes (SaysOfSpec files _) e)
      (λ files is e. on_longer (files spec) most_bytes (SaysOfSpec files _) e) line cause
  check_spec-unfetched before now refusals.Memory cause = tt

  module _ (bytes : List ℕ) (stands : (files : Files) → told ≡ Some files → files spec ≡ Some bytes) (few : length bytes ≤ most_bytes) where
    on_spec : (files : Files) (a : Answer) → told ≡ Some files → SaysOfSpec files a bytes
        → IsAnswerOf (Some (Check spec vhdl vectors latency)) devices files a
    on_spec files a is said = on_fetch (files spec) most_bytes bytes a (SaysOfSpec files a) (stands files is) few said

    -- VHDL that was not fetched, after a specification that was
    pub check_vhdl-unfetched : (before mid now : Reads) (refusal : Refusal) → Kept before mid
        → Fetches vhdl most_simulated_bytes told mid now (Err refusal)
        → OnAnswer (Err refusal) (IsPrepared (Some (Check spec vhdl vectors latency)) devices told before now)
    check_vhdl-unfetched before mid now (refusals.Line line) kept cause =
        unfetched (Some (Check spec vhdl vectors latency)) devices told before now vhdl most_simulated_bytes
        (λ files is e. on_spec files _ is (on_missing (files vhdl) most_simulated_bytes (SaysOfVhdl files _ bytes) e))
        (λ files is e. on_spec files _ is (on_longer (files vhdl) most_simulated_bytes (SaysOfVhdl files _ bytes) e))
        line (unfetched-before vhdl most_simulated_bytes told before mid now line kept cause)
    check_vhdl-unfetched before mid now refusals.Memory kept cause = tt

    module _ (text : List ℕ) (also : (files : Files) → told ≡ Some files → files vhdl ≡ Some text)
        (short : length text ≤ most_simulated_bytes) where
      on_vhdl : (files : Files) (a : Answer) → told ≡ Some files → SaysOfVhdl files a bytes text
          → IsAnswerOf (Some (Check spec vhdl vectors latency)) devices files a
      on_vhdl files a is said =
          on_spec files a is (on_fetch (files vhdl) most_simulated_bytes text a (SaysOfVhdl files a bytes) (also files is) short said)

      -- vectors that were not fetched, after both
      pub check_rows-unfetched : (before mid now : Reads) (refusal : Refusal) → Kept before mid
          → Fetches vectors most_simulated_bytes told mid now (Err refusal)
          → OnAnswer (Err refusal) (IsPrepared (Some (Check spec vhdl vectors latency)) devices told before now)
      check_rows-unfetched before mid now (refusals.Line line) kept cause =
          unfetched (Some (Check spec vhdl vectors latency)) devices told before now vectors most_simulated_bytes
          (λ files is e. on_vhdl files _ is
          (on_missing (files vectors) most_simulated_bytes (λ rows. IsAnswerToCheck latency bytes text rows _) e))
          (λ files is e. on_vhdl files _ is
          (on_longer (files vectors) most_simulated_bytes (λ rows. IsAnswerToCheck latency bytes text rows _) e))
          line (unfetched-before vectors most_simulated_bytes told before mid now line kept cause)
      check_rows-unfetched before mid now refusals.Memory kept cause = tt

      module _ (rows : List ℕ) (before now : Reads) (too : (files : Files) → told ≡ Some files → files vectors ≡ Some rows)
          (brief : length rows ≤ most_simulated_bytes) where
        answers : (a : Answer) → IsAnswerToCheck latency bytes text rows a → IsListed a
            → IsPrepared (Some (Check spec vhdl vectors latency)) devices told before now a
        answers a is listed =
            let (words, missing, longer) =
            other_status (status_of a) (check_status (read (tree bytes)) latency text rows a is) in record {
              listed = listed;
              usage = λ e. absurd (words e);
              read_counted = λ e. absurd (missing e);
              long_counted = λ e. absurd (longer e);
              due = λ files there.
                  inr (on_vhdl files a there (on_fetch (files vectors) most_simulated_bytes rows a
                  (λ given. IsAnswerToCheck latency bytes text given a) (too files there) brief is));
            }

        pub check-prepared : (r : Result Held Refusal) → OnAnswer r (IsAnswerToCheck latency bytes text rows) → OnAnswer r IsListed
            → OnAnswer r (IsPrepared (Some (Check spec vhdl vectors latency)) devices told before now)
        check-prepared (Ok held) is listed = answers (answer_of held) is listed
        check-prepared (Err (refusals.Line line)) is listed = answers (refusal line) is listed
        check-prepared (Err refusals.Memory) is listed = tt

-- the counts of two fetches
pub kept_twice : (before mid now : Reads) → Kept before mid → Kept mid now → Kept before now
kept_twice before mid now first second = record {
  faults = let a = first.faults in let b = second.faults in omega (arith, a, b);
  lacks = let a = first.lacks in let b = second.lacks in omega (arith, a, b);
  longs = let a = first.longs in let b = second.longs in omega (arith, a, b);
}
