use Rattle.std.proofs.Common.{Err, Some, length, sym, ap, ◌∙◌, arith}
use Rattle.opgen_top.specs.Due.{most_simulated_bytes}
use Rattle.opgen_top.proofs.PreparingChecks.{check-prepared, check_rows-unfetched, check_spec-unfetched, check_vhdl-unfetched, kept_twice}
use Rattle.opgen_top.proofs.Refusing.{answer_passed, fetched_alike}
use Rattle.opgen_top.proofs.check.check.Goals as goal

pub returns-in_err-document-clause-prepared : goal.returns-in_err-document-clause-prepared
returns-in_err-document-clause-prepared g c = λ devices.
    let refusal = c.in_err-document.field-0.0 in
    answer_passed _ refusal _ c.from_residual.ensures.1
    (check_spec-unfetched devices c.args.spec.now c.args.vhdl.now c.args.vectors.now c.args.latency (g.F.Folder.told c.args.folder.now)
    _ _ refusal c.in_err-document.ensures.fetched)

pub returns-in_err-text-clause-prepared : goal.returns-in_err-text-clause-prepared
returns-in_err-text-clause-prepared g c = λ devices.
    let refusal = c.in_err-text.field-0.0 in
    let spec = c.in_ok-document.ensures.fetched in
    answer_passed _ refusal _ c.from_residual-in_err-text.ensures.1
    (check_vhdl-unfetched devices c.args.spec.now c.args.vhdl.now c.args.vectors.now c.args.latency (g.F.Folder.told c.args.folder.now)
    c.in_ok-document.document.items spec.1 spec.0 _ _ _ refusal c.fetch.ensures.kept
    (fetched_alike c.args.vhdl.now most_simulated_bytes _ _ _ _ (Err refusal) c.fetch.ensures.told_same
    c.in_err-text.ensures.fetched))

pub returns-in_err-rows-clause-prepared : goal.returns-in_err-rows-clause-prepared
returns-in_err-rows-clause-prepared g c = λ devices.
    let refusal = c.in_err-rows.field-0.0 in
    let spec = c.in_ok-document.ensures.fetched in
    let vhdl = c.in_ok-text.ensures.fetched in
    answer_passed _ refusal _ c.from_residual-in_err-rows.ensures.1
    (check_rows-unfetched devices c.args.spec.now c.args.vhdl.now c.args.vectors.now c.args.latency (g.F.Folder.told c.args.folder.now)
    c.in_ok-document.document.items spec.1 spec.0
    c.in_ok-text.text.items (λ files told. vhdl.1 files (c.fetch.ensures.told_same ∙ told)) vhdl.0
    _ _ _ refusal (kept_twice _ _ _ c.fetch.ensures.kept c.fetch-2.ensures.kept)
    (fetched_alike c.args.vectors.now most_simulated_bytes _ _ _ _ (Err refusal)
    (c.fetch-2.ensures.told_same ∙ c.fetch.ensures.told_same) c.in_err-rows.ensures.fetched))

pub returns-clause-prepared : goal.returns-clause-prepared
returns-clause-prepared g c = λ devices.
    let said = c.judge_document.ensures in
    let spec = c.in_ok-document.ensures.fetched in
    let vhdl = c.in_ok-text.ensures.fetched in
    let vectors = c.in_ok-rows.ensures.fetched in
    let few = spec.0 in
    let short = vhdl.0 in
    let brief = vectors.0 in
    check-prepared devices c.args.spec.now c.args.vhdl.now c.args.vectors.now c.args.latency (g.F.Folder.told c.args.folder.now)
    c.deref.result.now
    (λ files told. spec.1 files told ∙ ap Some (sym c.deref.ensures.value)) (omega (arith, few, ap length c.deref.ensures.value))
    c.deref-2.result.now
    (λ files told. vhdl.1 files (c.fetch.ensures.told_same ∙ told) ∙ ap Some (sym c.deref-2.ensures.value))
    (omega (arith, short, ap length c.deref-2.ensures.value))
    c.deref-3.result.now _ _
    (λ files told. vectors.1 files (c.fetch-2.ensures.told_same ∙ c.fetch.ensures.told_same ∙ told)
    ∙ ap Some (sym c.deref-3.ensures.value))
    (omega (arith, brief, ap length c.deref-3.ensures.value))
    c.judge_document.result said.answer said.listed
