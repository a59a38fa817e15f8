use Rattle.std.proofs.Common.{refl}
use Rattle.opgen_document.specs.Keys.{document_keys}
use Rattle.opgen_document.proofs.key.document_keys.Goals as goal

pub returns : goal.returns
unfolding document_keys
returns c = refl
