-- The net of a valid specification fits it: one case a kind.
use Rattle.std.proofs.Common.{ℕ, Bool, true, false, List, All, refl, sym, subst}
use Rattle.std.specs.Prelude.{ℤ, IsTrue}
use Rattle.opgen_constdiv.proofs.Fits as divisions
use Rattle.opgen_divide.proofs.Whole as quotients
use Rattle.opgen_fir.proofs.Whole as sums
use Rattle.opgen_graph.specs.declared.ranks.Graph.{Graph}
use Rattle.opgen_graph.specs.Served.{Serves}
use Rattle.opgen_graph.proofs.Fits as multiples
use Rattle.opgen_mult.proofs.Whole as products
use Rattle.opgen_net.specs.declared.net.Net.{Net}
use Rattle.opgen_operator.specs.declared.operator.Operator.{Operator}
use Rattle.opgen_operator.specs.declared.operator.Operator.TheVariants.{Scale, Fir, Multiply, Divide, Root, Mcm, Constdiv, Poly, Tfir, Sop}
use Rattle.opgen_operator.specs.declared.spec.Spec.{Spec}
use Rattle.opgen_operator.specs.Fits.{FitsInEachMode, FitsSpec}
use Rattle.opgen_operator.specs.Operator.{IsAccepted}
use Rattle.opgen_operator.specs.Valid.{IsValidSpec}
use Rattle.opgen_operator.proofs.Accepted.{accepted_ranges, valid_accepted}
use Rattle.opgen_poly.proofs.Fits as polynomials
use Rattle.opgen_ports.specs.Ranges.{IsWithin}
use Rattle.opgen_saturate.proofs.ChosenNets.{cut_fits}
use Rattle.opgen_search.proofs.Serving.{least_serves}
use Rattle.opgen_shared.proofs.Serving.{rule_graph_serves}
use Rattle.opgen_sop.proofs.Whole as terms
use Rattle.opgen_sqrt.proofs.Whole as roots
use Rattle.opgen_tfir.proofs.Filters as filters
use Rattle.opgen_top.specs.AdderGraphs.{IsGraphOf}
use Rattle.opgen_target.specs.Delays.{Delays}
use Rattle.opgen_top.specs.Circuit.{IsFitting, IsNetFor, NetsFit, made_net}
use Rattle.opgen_top.specs.Kinds.{IsNetOfOperator}
use Rattle.opgen_top.proofs.Made.{made_fits}
use Rattle.opgen_top.proofs.Naming.{fitting}

-- the graph of some numbers serves them
graph_serves : (searched : Bool) (numbers : List ℤ) (width extra : ℕ) (set : List ℕ) (graph : Graph) → All (IsWithin 1048575) numbers
    → (IsTrue searched → All (IsWithin 2047) numbers) → IsGraphOf searched numbers width extra set graph → Serves numbers graph
graph_serves true numbers width extra set graph wide small is = least_serves numbers width extra (small refl) set graph is
graph_serves false numbers width extra set graph wide small is = (rule_graph_serves numbers graph wide is.rule).1

-- the net of an accepted operator fits it in each mode
operator_fits : (op : Operator) → IsAccepted op → (net : Net) → IsNetOfOperator op net → FitsInEachMode op net
operator_fits (Scale s) accepted net is =
    subst (FitsInEachMode (Scale s)) (sym is) (sums.fits_modes s (valid_accepted.multiples s accepted)).0
operator_fits (Fir s) accepted net is = subst (FitsInEachMode (Fir s)) (sym is) (sums.fits_modes s accepted).1
operator_fits (Multiply p) accepted net is = products.fits_modes p accepted net is
operator_fits (Divide p) accepted net is = subst (FitsInEachMode (Divide p)) (sym is) (quotients.fits_modes p accepted)
operator_fits (Root r) accepted net is = subst (FitsInEachMode (Root r)) (sym is) (roots.fits_modes r accepted)
operator_fits (Mcm m) accepted net is =
    let ranges = accepted_ranges (Mcm m) accepted in
    let serves = graph_serves m.searched m.constants m.input.width m.extra is.set is.graph ranges.constants
    (λ asked. (ranges.searched asked).constants) is.is in
    subst (FitsInEachMode (Mcm m)) (sym is.by) (multiples.fits_modes m accepted is.graph serves)
operator_fits (Constdiv c) accepted net is = subst (FitsInEachMode (Constdiv c)) (sym is) (divisions.fits_modes c accepted)
operator_fits (Poly p) accepted net is = subst (FitsInEachMode (Poly p)) (sym is) (polynomials.fits_modes p accepted)
operator_fits (Tfir f) accepted net is =
    let ranges = accepted_ranges (Tfir f) accepted in
    let serves = graph_serves f.searched f.taps f.input.width f.extra is.set is.graph ranges.taps
    (λ asked. (ranges.searched asked).taps) is.is in
    subst (FitsInEachMode (Tfir f)) (sym is.by) (filters.fits_modes f accepted is.graph serves)
operator_fits (Sop s) accepted net is = terms.fits_modes s accepted net is

pub nets_fit : NetsFit
nets_fit spec valid net is =
    let own = operator_fits spec.op (valid_accepted.operators spec valid) is.own is.by_kind in
    let fits : FitsSpec spec net = subst (FitsSpec spec) (sym is.cut) (cut_fits spec is.own valid own) in
    (fitting spec net valid fits, λ table. fitting spec (made_net spec table net) valid (made_fits spec table net fits))

-- so does the net for a table
pub net_for_fits : (spec : Spec) → IsValidSpec spec → (table : Delays) (net : Net) → IsNetFor spec table net → IsFitting spec net
net_for_fits spec valid table net is =
    subst (IsFitting spec) (sym is.made) ((nets_fit spec valid is.own is.is_own).1 table)
