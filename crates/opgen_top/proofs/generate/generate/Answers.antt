use Rattle.opgen_top.proofs.PreparingSpecs.{generate-prepared, generate-unfetched}
use Rattle.opgen_top.proofs.Refusing.{answer_passed}
use Rattle.opgen_top.proofs.generate.generate.Goals as goal

pub returns-in_err-document-clause-prepared : goal.returns-in_err-document-clause-prepared
returns-in_err-document-clause-prepared g c =
    let refusal = c.in_err-document.field-0.0 in
    answer_passed _ refusal _ c.from_residual.ensures.1
    (generate-unfetched c.args.file.now _ (g.F.Folder.told c.args.folder.now) _ _ c.args.workers c.args.enable refusal
    c.in_err-document.ensures.fetched)

pub returns-clause-prepared : goal.returns-clause-prepared
returns-clause-prepared g c =
    let made = c.generate_document in
    generate-prepared c.args.file.now _ (g.F.Folder.told c.args.folder.now) _ _ c.in_ok-document.document c.in_ok-document.ensures.fetched
    c.deref.result.now c.deref.ensures.value c.args.workers c.args.enable made.result made.ensures.answer made.ensures.listed
