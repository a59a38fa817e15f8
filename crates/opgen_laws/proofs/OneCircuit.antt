-- A specification leaves at most one net, and one circuit for a table.
use Rattle.std.proofs.Common.{◌≡◌, ℕ, Bool, List, refl, sym, ap, ◌∙◌, subst}
use Rattle.opgen_design.specs.declared.design.Design.{Design}
use Rattle.opgen_net.specs.declared.net.Net.{Net}
use Rattle.opgen_operator.specs.declared.spec.Spec.{Spec}
use Rattle.opgen_pipe.specs.declared.placing.Placing.{Placing}
use Rattle.opgen_pipe.specs.declared.planning.Planned.{Planned}
use Rattle.opgen_pipe.specs.Planned.{IsPlanOf}
use Rattle.opgen_saturate.specs.Chosen.{cut_net}
use Rattle.opgen_target.specs.Delays.{Delays}
use Rattle.opgen_top.specs.Circuit.{IsNetFor, made_net, placing_of}
use Rattle.opgen_top.specs.Kinds.{AreAddersOf}
use Rattle.opgen_laws.specs.Circuits.{HasOneCircuit, HasOneNet}
use Rattle.opgen_laws.proofs.ByKind.{OneOfEach, one_adders_of, one_of_operator}

module _ (one : OneOfEach) where
  pub one_adders : (spec : Spec) (a b : List ℕ) → AreAddersOf spec a → AreAddersOf spec b → a ≡ b
  one_adders spec a b h k = one_adders_of one spec.op a b h k

  pub one_net : HasOneNet
  one_net spec a b h k = h.cut ∙ ap (cut_net spec) (one_of_operator one spec.op h.own k.own h.by_kind k.by_kind) ∙ sym k.cut

  pub one_net_for : (spec : Spec) (table : Delays) (a b : Net) → IsNetFor spec table a → IsNetFor spec table b → a ≡ b
  one_net_for spec table a b h k = h.made ∙ ap (made_net spec table) (one_net spec h.own k.own h.is_own k.is_own) ∙ sym k.made

-- plans of the same parts are the same
abbrev plan_with : (design : Design) (latency slack : ℕ) (cells : List ℕ) → Planned
plan_with design latency slack cells = record { design = design; latency = latency; slack = slack; cells = cells }

same_parts : (d e : Design) (l m s t : ℕ) (c n : List ℕ) → d ≡ e → l ≡ m → s ≡ t → c ≡ n → plan_with d l s c ≡ plan_with e m t n
same_parts d e l m s t c n is_d is_l is_s is_c = rw (is_d, is_l, is_s, is_c) refl

one_plan : (name : List ℕ) (enable : Bool) (net : Net) (placing : Placing) (table : Delays) (period : ℕ) (p q : Planned)
    → IsPlanOf name enable net placing table period p → IsPlanOf name enable net placing table period q → p ≡ q
one_plan name enable net placing table period p q h k =
    same_parts p.design q.design p.latency q.latency p.slack q.slack p.cells q.cells (h.design ∙ sym k.design) (h.latency
    ∙ sym k.latency) (h.slack ∙ sym k.slack) (h.cells ∙ sym k.cells)

pub one_circuit : OneOfEach → HasOneCircuit
one_circuit one spec table enable p q a b h k =
    let same = one_net_for one spec table h.net k.net h.of_spec k.of_spec in
    let plan = subst (λ n. IsPlanOf spec.name enable n (placing_of spec) table spec.period p) same h.plan in
    (one_plan spec.name enable k.net (placing_of spec) table spec.period p q plan k.plan, one_adders one spec a b h.are_adders k.are_adders)
