use Rattle.opgen_top.proofs.PreparingSpecs.{vectors-prepared, vectors-unfetched}
use Rattle.opgen_top.proofs.Refusing.{answer_passed}
use Rattle.opgen_top.proofs.vectors.make_vectors.Goals as goal

pub returns-in_err-document-clause-prepared : goal.returns-in_err-document-clause-prepared
returns-in_err-document-clause-prepared g c =
    let refusal = c.in_err-document.field-0.0 in
    answer_passed _ refusal _ c.from_residual.ensures.1
    (vectors-unfetched c.args.file.now _ (g.F.Folder.told c.args.folder.now) _ _ c.args.seed c.args.cycles refusal
    c.in_err-document.ensures.fetched)

pub returns-clause-prepared : goal.returns-clause-prepared
returns-clause-prepared g c =
    let made = c.run_document in
    vectors-prepared c.args.file.now _ (g.F.Folder.told c.args.folder.now) _ _ c.in_ok-document.document c.in_ok-document.ensures.fetched
    c.deref.result.now c.deref.ensures.value c.args.seed c.args.cycles made.result made.ensures.answer made.ensures.listed
