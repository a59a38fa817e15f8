-- The outcome of planning by the version, and from it to a circuit, or to its refusal.
use Rattle.std.proofs.Common.{◌≡◌, inl, inr, ℕ, ◌<◌, ◌≤◌, Bool, true, false, List, Result, Ok, Err, refl, sym, ap, ◌∙◌, subst}
use Rattle.std.specs.Prelude.{nat_lt, if◌then◌else◌}
use Rattle.std.proofs.lemmas.Bool.{le-ltb, lt-ltb}
use Rattle.opgen_cuts.specs.Recipe.{cut_net}
use Rattle.opgen_net.specs.declared.net.Net.{Net}
use Rattle.opgen_operator.specs.declared.spec.Spec.{Spec}
use Rattle.opgen_pipe.specs.declared.placing.Placing.TheVariants.{Earliest, Few}
use Rattle.opgen_pipe.specs.declared.planning.Planned.{Planned}
use Rattle.opgen_pipe.specs.declared.planning.PlanFault.{PlanFault}
use Rattle.opgen_pipe.specs.declared.planning.PlanFault.TheVariants.{PeriodTooShort, TooLarge, Memory}
use Rattle.opgen_pipe.specs.Cells.{need}
use Rattle.opgen_pipe.specs.Planned.{IsOutcome}
use Rattle.opgen_target.specs.Delays.{Delays}
use Rattle.opgen_timing.specs.Nets.{net_for}
use Rattle.opgen_timing.specs.Outcomes.{IsOutcomeOfCut}
use Rattle.opgen_top.specs.declared.line.Line.TheVariants as printed
use Rattle.opgen_top.specs.Answer.{Answer, refusal}
use Rattle.opgen_top.specs.Circuit.{IsCircuit, IsNetFor, made_net}
use Rattle.opgen_top.specs.Kinds.{AreAddersOf, IsNetOf}
use Rattle.opgen_top.specs.Prepared.{IsListed, IsOutcomeFor, TellsPlanFault}
use Rattle.opgen_top.specs.Specified.{OnTable}
use Rattle.opgen_top.proofs.Listed.{listed_refusal}

-- what planning returns up to version 3, and in version 4
module _ (spec : Spec) (enable : Bool) (table : Delays) (net : Net) (name : List ℕ) (called : name ≡ spec.name) where
  abbrev Said : Result Planned PlanFault → (name : List ℕ) → (below : Bool) → Type 0
  Said r n below =
      IsOutcome n enable (if below then net else net_for table spec.period net) (if below then Earliest else Few) table spec.period r

  abbrev needed : (below : Bool) → ℕ
  needed below = need table (if below then net else cut_net 4 net)

  said : (r : Result Planned PlanFault) (b : Bool) → nat_lt spec.version 4 ≡ b → Said r name b → Said r spec.name (nat_lt spec.version 4)
  said r b e h = subst (Said r spec.name) (sym e) (subst (λ n. Said r n b) called h)

  pub planned_below : spec.version < 4 → (r : Result Planned PlanFault) → IsOutcome name enable net Earliest table spec.period r
      → IsOutcomeFor spec enable net table r
  planned_below early (Ok planned) h = said (Ok planned) true (lt-ltb spec.version 4 early) h
  planned_below early (Err (PeriodTooShort n)) h =
      let is = lt-ltb spec.version 4 early in
      (h.0 ∙ ap needed (sym is), (said (Err (PeriodTooShort n)) true is h).1)
  planned_below early (Err TooLarge) h = said (Err TooLarge) true (lt-ltb spec.version 4 early) h
  planned_below early (Err Memory) h = tt

  pub planned_since : 4 ≤ spec.version → (r : Result Planned PlanFault) → IsOutcomeOfCut name enable net table spec.period r
      → IsOutcomeFor spec enable net table r
  planned_since late (Ok planned) h = said (Ok planned) false (le-ltb spec.version 4 late) h
  planned_since late (Err (PeriodTooShort n)) h =
      let is = le-ltb spec.version 4 late in
      (h.0 ∙ ap needed (sym is), subst (λ b. spec.period < need table (if b then net else net_for table spec.period net)) (sym is) h.1)
  planned_since late (Err TooLarge) h = said (Err TooLarge) false (le-ltb spec.version 4 late) h
  planned_since late (Err Memory) h = tt

module _ (spec : Spec) (enable : Bool) (table : Delays) (own : Net) (of_own : IsNetOf spec own) where
  abbrev net : Net
  net = made_net spec table own

  of_spec : IsNetFor spec table net
  of_spec = record { own = own; is_own = of_own; made = refl }

  pub planned_circuit : (planned : Planned) (adders : List ℕ) → AreAddersOf spec adders → IsOutcomeFor spec enable own table (Ok planned)
      → IsCircuit spec table enable planned adders
  planned_circuit planned adders are (long, few, plan) =
      record { net = net; of_spec = of_spec; are_adders = are; long_enough = long; few_signals = few; plan = plan }

  pub unplanned_refused : (fault : PlanFault) (a : Answer) → IsOutcomeFor spec enable own table (Err fault) → TellsPlanFault fault a
      → OnTable spec table a ⊥
  unfolding of_spec
  unplanned_refused (PeriodTooShort n) a (is, short) told =
      inl record { net = net; of_spec = of_spec; short = short; answer = told ∙ ap (λ n. refusal (printed.PeriodTooShort n)) is }
  unplanned_refused TooLarge a (long, many) said =
      inr (inl record { net = net; of_spec = of_spec; long_enough = long; many_signals = many; answer = said })
  unplanned_refused Memory a outcome said = absurd said

pub unplanned_listed : (fault : PlanFault) (a : Answer) → TellsPlanFault fault a → IsListed a
unplanned_listed (PeriodTooShort need) a said =
    subst IsListed (sym said) (listed_refusal (printed.PeriodTooShort need) tt)
unplanned_listed TooLarge a said = subst IsListed (sym said) (listed_refusal printed.TooLarge tt)
unplanned_listed Memory a said = absurd said
