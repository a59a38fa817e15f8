-- What is proved of the kinds, kind by kind.
use Rattle.opgen_operator.specs.declared.kind.Kind.{Kind}
use Rattle.opgen_operator.specs.declared.kind.Kind.TheVariants as kind
use Rattle.opgen_spec.proofs.sound.Sound.{IsSound}
use Rattle.opgen_spec.proofs.sound.Sum.{scale, fir}
use Rattle.opgen_spec.proofs.sound.Product.{multiply}
use Rattle.opgen_spec.proofs.sound.Pair.{divide}
use Rattle.opgen_spec.proofs.sound.Single.{root}
use Rattle.opgen_spec.proofs.sound.Several.{mcm}
use Rattle.opgen_spec.proofs.sound.SmallDiv.{constdiv}
use Rattle.opgen_spec.proofs.sound.Poly.{poly}
use Rattle.opgen_spec.proofs.sound.Taps.{tfir}
use Rattle.opgen_spec.proofs.sound.Sop.{sop}

pub sound : (one : Kind) → IsSound one
sound kind.Scale = scale
sound kind.Fir = fir
sound kind.Multiply = multiply
sound kind.Divide = divide
sound kind.Root = root
sound kind.Mcm = mcm
sound kind.Constdiv = constdiv
sound kind.Poly = poly
sound kind.Tfir = tfir
sound kind.Sop = sop
