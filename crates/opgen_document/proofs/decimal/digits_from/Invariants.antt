use Rattle.opgen_document.proofs.Digits.{IsReadSoFar}
use Rattle.opgen_document.proofs.decimal.digits_from.Given as goal

abbrev pub invariant-digits : goal.invariant-digits
invariant-digits l = IsReadSoFar l.digits l.fn.start l.number l.digit-index
