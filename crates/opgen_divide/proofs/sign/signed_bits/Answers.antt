use Rattle.std.proofs.Common.{◌≡◌, sym, subst}
use Rattle.std.specs.Prelude.{slice_index}
use Rattle.opgen_net.specs.declared.net.Net.{Net}
use Rattle.opgen_net.specs.Valid.{widths}
use Rattle.opgen_divide.proofs.Signed.{sign-still}
use Rattle.opgen_divide.proofs.sign.signed_bits.Goals as goal

pub with_sign-requires-clause-sign : goal.with_sign-requires-clause-sign
with_sign-requires-clause-sign c =
    let net = c.args.net.now in
    subst (λ (n : Net). slice_index (widths n.nodes) c.args.sign ≡ 1) (sym c.in_ok-node.ensures.ok)
    (sign-still net c.args.sign c.args.bits.now c.requires.net c.requires.width c.requires.there c.requires.sign)
