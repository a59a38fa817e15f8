-- The cycles that count are a run of the design without its enable.
use Rattle.std.proofs.Common.{◌≡◌, ℕ, Bool, true, false, List, [], ◌∷◌, Option, Some, None, refl, ap, subst}
use Rattle.std.specs.Prelude.{if◌then◌else◌, All}
use Rattle.std.specs.List.{list_any}
use Rattle.std.proofs.lemmas.Bool.{or_parts}
use Rattle.std.proofs.lemmas.List.Elements.{All-nil, All-cons}
use Rattle.opgen_net.specs.declared.net.Net.{Net}
use Rattle.opgen_design.specs.declared.design.Design.{Design}
use Rattle.opgen_design.specs.declared.design.Driver.{Driver}
use Rattle.opgen_design.specs.declared.design.Driver.TheVariants.{Assign, Choice, Table, Register, Output}
use Rattle.opgen_design.specs.Run.{without_enable, marked, ones_at, IsNoRegister, EnabledCyclesAreRuns, AnyCyclesAreRuns, Words, RunsOn, initial_words, counted}
use Rattle.opgen_design.specs.Order.{is_register}
use Rattle.opgen_schedule.specs.Schedule.{Schedule}
use Rattle.opgen_pipe.specs.Pipelined.{all_of, node_signals, ports_of, drivers_of, enable_of, design_of}
use Rattle.opgen_pipe.specs.Standings.{standings}
use Rattle.opgen_pipe.specs.Laws.{RunFollowsFlow}
use Rattle.opgen_pipe.proofs.Follows.{run-follows}

no_register : (k : Driver) → is_register k ≡ false → IsNoRegister k
no_register (Assign to e) h = tt
no_register (Choice to on one other) h = tt
no_register (Table to on rows other) h = tt
no_register (Register to e) h = absurd (cc)
no_register (Output place e) h = tt

no_registers : (ks : List Driver) → list_any is_register ks ≡ false → All IsNoRegister ks
no_registers [] h = All-nil IsNoRegister
no_registers (k ∷ ks) h =
    let a = or_parts (is_register k) (list_any is_register ks) h in
    All-cons IsNoRegister k ks (no_register k a.0) (no_registers ks a.1)

module _ (enabled : EnabledCyclesAreRuns) (any : AnyCyclesAreRuns) (called : List ℕ) (net : Net) (s : Schedule) where
  abbrev with : Option ℕ → Design
  with e = record {
    name = called;
    ports = ports_of true net;
    signals = all_of (node_signals net (standings net s)) 0 net.nodes;
    drivers = drivers_of true net s;
    enable = e;
  }

  -- of the design with the enable's port
  counted-run : (start : List (List Bool)) (inputs : List (List (List Bool))) (vs : List Words) → RunsOn (design_of called true net s) start inputs vs
      → RunsOn (without_enable (design_of called true net s)) start (marked (ones_at 0 vs) inputs) (marked (ones_at 0 vs) vs)
  counted-run start inputs vs r = by (list_any is_register (drivers_of true net s)) refl
    where
      by : (b : Bool) → list_any is_register (drivers_of true net s) ≡ b
          → RunsOn (without_enable (design_of called true net s)) start (marked (ones_at 0 vs) inputs) (marked (ones_at 0 vs) vs)
      by true e =
          let f : enable_of true (drivers_of true net s) ≡ Some 0 = ap (λ b. if b then Some 0 else None) e in
          enabled (design_of called true net s) 0 start inputs vs f r
      by false e =
          let f : enable_of true (drivers_of true net s) ≡ None = ap (λ b. if b then Some 0 else None) e in
          any (with None) start inputs vs (ones_at 0 vs) (no_registers (drivers_of true net s) e)
          (subst (λ x. RunsOn (with x) start inputs vs) f r)

-- the cycles that count are a run of the design without its enable, from the same words of the registers
pub counted-runs : EnabledCyclesAreRuns → AnyCyclesAreRuns → (called : List ℕ) (enable : Bool) (net : Net) (s : Schedule)
    (start : List (List Bool)) (inputs : List (List (List Bool))) (vs : List Words) → RunsOn (design_of called enable net s) start inputs vs
    → RunsOn (without_enable (design_of called enable net s)) start (counted enable vs inputs) (counted enable vs vs)
counted-runs enabled any called true net s start inputs vs r = counted-run enabled any called net s start inputs vs r
counted-runs enabled any called false net s start inputs vs r = r

pub follows-flow : EnabledCyclesAreRuns → AnyCyclesAreRuns → RunFollowsFlow
follows-flow enabled any called true net delays setup period s valid fits inputs vs r u v h =
    run-follows called true net s delays setup period valid fits (marked (ones_at 0 vs) inputs) (marked (ones_at 0 vs) vs)
    (counted-run enabled any called net s (initial_words (design_of called true net s).signals) inputs vs r) u v h
follows-flow enabled any called false net delays setup period s valid fits inputs vs r u v h =
    run-follows called false net s delays setup period valid fits inputs vs r u v h
