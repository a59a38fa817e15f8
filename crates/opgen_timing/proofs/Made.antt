-- The net for a table of delays and a period is valid and the same circuit, and may have the same names.
use Rattle.std.proofs.Common.{◌≡◌, ℕ, ◌<◌, ◌≤◌, Bool, true, false, List, sym, subst, arith}
use Rattle.std.specs.Prelude.{◌≢◌, All, IsTrue, nat_le, if◌then◌else◌}
use Rattle.std.specs.List.{AllPairs}
use Rattle.std.proofs.lemmas.Bool.{cond-false, cond-true, le-leb, lt-leb}
use Rattle.opgen_num.specs.declared.format.TheConstants.{MAX_WIDTH}
use Rattle.opgen_cuts.specs.Recipe.{cut_net}
use Rattle.opgen_cuts.specs.Same.{IsSameCircuit}
use Rattle.opgen_cuts.proofs.Law.{cut-same, cut-valid, same-count, same-names}
use Rattle.opgen_names.specs.Names.{is_allowed_name}
use Rattle.opgen_net.specs.declared.net.Net.{Net}
use Rattle.opgen_net.specs.Named.{IsFree, IsNamed}
use Rattle.opgen_net.specs.Valid.{IsValid}
use Rattle.opgen_pipe.specs.Cells.{need}
use Rattle.opgen_target.specs.Delays.{Delays}
use Rattle.opgen_timing.specs.Nets.{CutNetsAreSame, net_for}
use Rattle.opgen_timing.specs.Widths.{sum_width}
use Rattle.opgen_timing.proofs.Widest.{sum_width-is}

abbrev IsGoodFor : (old new : Net) → Type 0
IsGoodFor old new = IsValid new × IsSameCircuit old new

cut-good : (net : Net) → IsValid net → (most : ℕ) → 4 ≤ most → most ≤ MAX_WIDTH → IsGoodFor net (cut_net most net)
cut-good net valid most least few = (cut-valid net valid most least few, cut-same net valid most least few)

either : (net one other : Net) (b : Bool) → IsGoodFor net one → IsGoodFor net other → IsGoodFor net (if b then one else other)
either net one other true h k = h
either net one other false h k = k

pub cut_nets_are_same : CutNetsAreSame
cut_nets_are_same table period net valid =
    let w = sum_width table period in
    let is = sum_width-is table period in
    either net (cut_net MAX_WIDTH net) (cut_net w net) (nat_le (need table (cut_net MAX_WIDTH net)) period)
    (cut-good net valid MAX_WIDTH (omega arith) (omega arith)) (cut-good net valid w is.least is.few)

-- a net that is the same circuit may have the same names
pub same-named : (name : List ℕ) (old new : Net) → IsSameCircuit old new → IsNamed name old → IsNamed name new
same-named name old new same named =
    let names = sym (same-names old new same) in record {
      has_port = let some = named.has_port in omega (arith, some, same-count old new same);
      name_allowed = named.name_allowed;
      allowed = subst (All (λ n. IsTrue (is_allowed_name n))) names named.allowed;
      differ = subst (AllPairs (λ a b. a ≢ b)) names named.differ;
      free = subst (All IsFree) names named.free;
    }

-- the net for the period, by whether the net without cuts fits
module _ (table : Delays) (period : ℕ) (net : Net) where
  pub whole-is : need table (cut_net MAX_WIDTH net) ≤ period → cut_net MAX_WIDTH net ≡ net_for table period net
  whole-is fits =
      let needed = need table (cut_net MAX_WIDTH net) in
      sym (cond-true (nat_le needed period) (cut_net MAX_WIDTH net) (cut_net (sum_width table period) net) (le-leb needed period fits))

  pub cut-is : period < need table (cut_net MAX_WIDTH net) → cut_net (sum_width table period) net ≡ net_for table period net
  cut-is long =
      let needed = need table (cut_net MAX_WIDTH net) in
      sym (cond-false (nat_le needed period) (cut_net MAX_WIDTH net) (cut_net (sum_width table period) net) (lt-leb needed period long))
