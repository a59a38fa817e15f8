use Rattle.std.proofs.Common.{◌≡◌, ◌∙◌, ap, sym, None, Ok, unwrap_or}
use Rattle.toml.specs.View.{table_view}
use Rattle.opgen_operator.specs.declared.kind.Kind.TheVariants as kind
use Rattle.opgen_document.specs.Document.{tree}
use Rattle.opgen_entries.specs.kinds.{kind_of}
use Rattle.opgen_spec.specs.Faults.{read, field_fault, limit_fault}
use Rattle.opgen_spec.specs.Spec.{spec_with, spec_of}
use Rattle.opgen_spec.proofs.Reading.{field_first, limit_first, none_first, gives_fault}
use Rattle.opgen_spec.proofs.Fine.{fine, no_kind}
use Rattle.opgen_spec.proofs.Validity.{valid_in}
use Rattle.opgen_spec.proofs.sound.All.{sound}
use Rattle.opgen_spec.proofs.Written.{written}
use Rattle.opgen_spec.proofs.read.read_spec.Goals as goal

pub returns-in-Some-clause-gives : goal.returns-in-Some-clause-gives
returns-in-Some-clause-gives c =
    gives_fault c.in-Some.fault (read (tree c.args.bytes.now))
    (ap read c.in_ok-table.ensures ∙ field_first (table_view c.in_ok-table.table) c.in-Some.fault (sym c.in-Some.ensures))

pub returns-in_default-kind_of-clause-gives : goal.returns-in_default-kind_of-clause-gives
returns-in_default-kind_of-clause-gives c =
    let ms = table_view c.in_ok-table.table in
    let none : field_fault ms ≡ None = sym c.field_fault.ensures ∙ c.in_default.is in
    let no_name : kind_of ms ≡ None = sym c.kind_of.ensures ∙ c.in_default-kind_of.is in
    absurd (no_kind ms (fine ms none).kind no_name)

pub limit_fault-requires : goal.limit_fault-requires
unfolding spec_with
limit_fault-requires c =
    let ms = table_view c.in_ok-table.table in
    let none : field_fault ms ≡ None = sym c.field_fault.ensures ∙ c.in_default.is in
    let named = sym c.in-Some-kind_of.ensures in
    rw c.in_ok-spec.ensures (record {
      op = (sound c.in-Some-kind_of.kind).ranges ms (fine ms none) named;
      inputs = (sound c.in-Some-kind_of.kind).inputs ms (fine ms none) named;
    })

pub returns-in-Some-limit_fault-clause-gives : goal.returns-in-Some-limit_fault-clause-gives
returns-in-Some-limit_fault-clause-gives c =
    let ms = table_view c.in_ok-table.table in
    let none : field_fault ms ≡ None = sym c.field_fault.ensures ∙ c.in_default.is in
    let same : c.in_ok-spec.spec ≡ spec_of ms = c.in_ok-spec.ensures
    ∙ ap (λ o. spec_with (unwrap_or o kind.Scale) ms) c.in-Some-kind_of.ensures in
    gives_fault c.in-Some-limit_fault.fault (read (tree c.args.bytes.now))
    (ap read c.in_ok-table.ensures ∙ limit_first ms c.in-Some-limit_fault.fault none (ap limit_fault (sym same)
    ∙ sym c.in-Some-limit_fault.ensures))

pub returns-clause-gives : goal.returns-clause-gives
returns-clause-gives c =
    let ms = table_view c.in_ok-table.table in
    let none : field_fault ms ≡ None = sym c.field_fault.ensures ∙ c.in_default.is in
    let same : c.in_ok-spec.spec ≡ spec_of ms = c.in_ok-spec.ensures
    ∙ ap (λ o. spec_with (unwrap_or o kind.Scale) ms) c.in-Some-kind_of.ensures in
    ap read c.in_ok-table.ensures ∙ none_first ms none (ap limit_fault (sym same) ∙ (sym c.limit_fault.ensures
    ∙ c.in_default-limit_fault.is)) ∙ ap Ok (sym same)

pub returns-clause-valid : goal.returns-clause-valid
returns-clause-valid c =
    let ms = table_view c.in_ok-table.table in
    let none : field_fault ms ≡ None = sym c.field_fault.ensures ∙ c.in_default.is in
    let clear : limit_fault (spec_with c.in-Some-kind_of.kind ms) ≡ None = ap limit_fault (sym c.in_ok-spec.ensures)
    ∙ (sym c.limit_fault.ensures ∙ c.in_default-limit_fault.is) in
    let named = sym c.in-Some-kind_of.ensures in
    rw c.in_ok-spec.ensures (valid_in ms c.in-Some-kind_of.kind (fine ms none) named clear)

pub returns-clause-written : goal.returns-clause-written
returns-clause-written c =
    let ms = table_view c.in_ok-table.table in
    let none : field_fault ms ≡ None = sym c.field_fault.ensures ∙ c.in_default.is in
    rw c.in_ok-table.ensures (rw c.in_ok-spec.ensures (written ms c.in-Some-kind_of.kind none (sym c.in-Some-kind_of.ensures)))
