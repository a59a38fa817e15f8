-- The answer of `generate` carries the headline.
use Rattle.std.proofs.Common.{◌≡◌, inl, inr, ℕ, Bool, true, false, cond, List, ◌++◌, length, Option, Some, None, Ok, Err, refl, ap, ◌∙◌, arith}
use Rattle.std.specs.Prelude.{nat_le}
use Rattle.opgen_command.specs.declared.command.Command.TheVariants.{Generate}
use Rattle.opgen_io.specs.Fetched.{fetched}
use Rattle.opgen_io.specs.Files.{Files}
use Rattle.opgen_io.specs.declared.folder.FetchFault.TheVariants as fetch
use Rattle.opgen_operator.specs.declared.spec.Spec.{Spec}
use Rattle.opgen_report.specs.Report.{report}
use Rattle.opgen_document.specs.Document.{tree}
use Rattle.opgen_spec.specs.Faults.{read}
use Rattle.opgen_spec.proofs.Readings.{read_from}
use Rattle.opgen_target.specs.Delays.{Delays}
use Rattle.opgen_vhdl.specs.DesignText.{text_of}
use Rattle.opgen_vhdl.proofs.Walks.{one_design}
use Rattle.opgen_top.specs.Answer.{Answer, status_of}
use Rattle.opgen_top.specs.Circuit.{CircuitsRecover, CircuitsServe}
use Rattle.opgen_top.specs.Due.{IsAnswerOf, OnFetch, most_bytes}
use Rattle.opgen_top.specs.Headline.{Headline}
use Rattle.opgen_top.specs.Lines.{line_bytes}
use Rattle.opgen_top.specs.Specified.{IsAnswerToSpec, IsGenerated}
use Rattle.opgen_top.specs.Stores.{stored_all}
use Rattle.opgen_top.specs.Targets.{Device, IsTableOf}
use Rattle.opgen_top.proofs.Planning.{circuit_has_few, circuit_in_time, circuit_is_least, circuit_sound, circuit_spells, fitting}
use Rattle.opgen_top.proofs.Reported.{report-has_latency}
use Rattle.opgen_top.proofs.SpecCases.{cases_of_spec}

-- an answer of status 0 was made from the specification in the file, and from the table of a target
module _ (file : List ℕ) (enable : Bool) (devices : List Device) (files : Files) (a : Answer) (ok : status_of a ≡ 0) where
  record Made : Type 0 where
    bytes : List ℕ
    stands : files file ≡ Some bytes
    spec : Spec
    reads : read (tree bytes) ≡ Ok spec
    table : Delays
    of_target : IsTableOf spec devices table
    says : IsGenerated enable spec table a

  not_refused : status_of a ≡ 1 → ⊥
  not_refused other = omega (arith, ok, other)

  made_of : (bytes : List ℕ) → files file ≡ Some bytes → IsAnswerToSpec bytes devices (IsGenerated enable) a → Made
  made_of bytes stands h =
      cases_of_spec bytes devices (IsGenerated enable) a Made
      (λ fault reads is. absurd (not_refused (ap status_of is)))
      (λ spec reads found is. absurd (not_refused (ap status_of is)))
      (λ spec device reads found takes is. absurd (not_refused (ap status_of is)))
      (λ spec table reads of on. elim on [
        | inl short ↦ absurd (not_refused (ap status_of short.answer))
        | inr (inl large) ↦ absurd (not_refused (ap status_of large.answer))
        | inr (inr says) ↦ record {
          bytes = bytes;
          stands = stands;
          spec = spec;
          reads = reads;
          table = table;
          of_target = of;
          says = says;
        }
      ]) h

  made_under : (under : Option (List ℕ)) (most : ℕ) → files file ≡ under
      → OnFetch (fetched under most) a (λ bytes. IsAnswerToSpec bytes devices (IsGenerated enable) a) → Made
  made_under None most e is = let other : status_of a ≡ 3 = ap status_of is in absurd (omega (arith, ok, other))
  made_under (Some bytes) most e is = go (nat_le (length bytes) most) is
    where
      go : (fits : Bool)
          → OnFetch (cond fits (Ok bytes) (Err fetch.TooLong)) a (λ bytes. IsAnswerToSpec bytes devices (IsGenerated enable) a) → Made
      go true h = made_of bytes e h
      go false h = let other : status_of a ≡ 9 = ap status_of h in absurd (omega (arith, ok, other))

pub heading : CircuitsServe → CircuitsRecover → (file : List ℕ) (workers : ℕ) (enable : Bool) (devices : List Device) (files : Files) (a : Answer)
    (after : Option Files) (before now : Option (List ℕ)) → IsAnswerOf (Some (Generate file workers enable)) devices files a
    → status_of a ≡ 0 → after ≡ Some (stored_all a.stores files) → ((held : List ℕ) → before ≡ Some held → now ≡ Some (held ++ line_bytes a.line))
    → Headline file enable devices files after before now
heading serves recovers file workers enable devices files a after before now due ok stores line =
    let made = made_under file enable devices files a ok (files file) most_bytes refl due in
    let spec = made.spec in
    let table = made.table in
    let g = made.says in
    let planned = g.planned in
    let from = read_from (tree made.bytes) spec made.reads in
    let spelled = circuit_spells spec from.valid table enable planned g.adders g.circuit in record {
      promise = record {
        bytes = made.bytes;
        stands = made.stands;
        spec = spec;
        document = from.document;
        parsed = from.parsed;
        written = from.written;
        valid = from.valid;
        vhdl = text_of planned.design;
        report = report spec planned g.adders;
        stores = stores ∙ ap (λ (b : Answer). Some (stored_all b.stores files)) g.answer;
        design = planned.design;
        called = ap (λ d. d.name) g.circuit.plan.design;
        spelled = spelled;
        no_other = λ other s. one_design (text_of planned.design) other planned.design s spelled;
        sound = circuit_sound spec from.valid table enable planned g.adders g.circuit;
        latency = planned.latency;
        reported = report-has_latency spec planned g.adders;
        line = λ held tells. line held tells ∙ ap (λ (b : Answer). Some (held ++ line_bytes b.line)) g.answer;
        serves = serves spec from.valid table enable planned g.adders g.circuit;
        recovers = recovers spec from.valid table enable planned g.adders g.circuit;
      };
      provenance = record {
        accepted = made.reads;
        table = table;
        of_target = made.of_target;
        planned = planned;
        adders = g.adders;
        circuit = g.circuit;
        design_is = refl;
        latency_is = refl;
        vhdl_is = refl;
        report_is = refl;
        cells = (fitting spec from.valid table enable planned g.adders g.circuit).fits.valid;
        in_time = circuit_in_time spec from.valid table enable planned g.adders g.circuit;
        least = circuit_is_least spec from.valid table enable planned g.adders g.circuit;
        few = circuit_has_few spec from.valid table enable planned g.adders g.circuit;
      };
    }
