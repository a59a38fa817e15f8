-- A design may have the name and the ports of a net that fits a valid specification.
use Rattle.opgen_net.specs.declared.net.Net.{Net}
use Rattle.opgen_operator.specs.declared.spec.Spec.{Spec}
use Rattle.opgen_operator.specs.Fits.{FitsSpec}
use Rattle.opgen_operator.specs.Valid.{IsValidSpec}
use Rattle.opgen_operator.proofs.PortNames.{fitting_named}
use Rattle.opgen_top.specs.Circuit.{IsFitting}
use Rattle.opgen_top.proofs.Names.{spec_name-allowed}

pub fitting : (spec : Spec) (net : Net) → IsValidSpec spec → FitsSpec spec net → IsFitting spec net
fitting spec net valid fits = record {
  fits = fits;
  named = fitting_named spec net valid.op.ranges valid.names fits spec.name (spec_name-allowed spec.name valid.name);
}
