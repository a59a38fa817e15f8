-- A schedule that is taken of the proposals fits, has no greater latency than the first one, and no more bits of registers.
use Rattle.std.proofs.Common.{◌≡◌, ℕ, zero, suc, ◌+◌, ◌-◌, ◌*◌, ◌<◌, ◌≤◌, Bool, true, false, List, length, refl, sym, ap, ◌∙◌, arith, inl, inr}
use Rattle.std.specs.Prelude.{All, ◌&&◌, min, nat_lt, nat_le, if◌then◌else◌, slice_index}
use Rattle.std.specs.Cmp.{both_ways}
use Rattle.std.specs.Cmp.Derive.{both_true}
use Rattle.std.proofs.Math.Nat.{mul-le-mul_right}
use Rattle.std.proofs.lemmas.Bool.{leb-true, le-leb, ltb-true, lt-ltb, cases_lt}
use Rattle.std.proofs.lemmas.List.{get_or_past}
use Rattle.opgen_design.specs.declared.design.TheConstants.{MAX_SIGNALS}
use Rattle.opgen_net.specs.declared.net.Net.{Net}
use Rattle.opgen_net.specs.Valid.{IsValid, widths}
use Rattle.opgen_schedule.specs.declared.frame.Frame.{Frame}
use Rattle.opgen_schedule.specs.declared.slot.Slot.{Slot}
use Rattle.opgen_schedule.specs.Fitting.{does_fit}
use Rattle.opgen_schedule.specs.Graph.{graph_of}
use Rattle.opgen_schedule.specs.Moves.{cycles_of, moved_back, moved_later, timed}
use Rattle.opgen_schedule.specs.Schedule.{Fits, greatest}
use Rattle.opgen_schedule.specs.Stage.{slot_at, stage}
use Rattle.opgen_schedule.proofs.Graphs.{both, test-fits}
use Rattle.opgen_schedule.proofs.Least.{stage_fits}
use Rattle.opgen_target.specs.Delays.{IsTableWidth}
use Rattle.opgen_pipe.specs.declared.placing.Placing.{Placing}
use Rattle.opgen_pipe.specs.declared.placing.Placing.TheVariants.{Earliest, Few}
use Rattle.opgen_pipe.specs.Copies.{copies, net_latency, signal_count, signals_before}
use Rattle.opgen_pipe.specs.Placed.{bits_before, fewer, frame_of, may_take, register_bits, slots_placed}
use Rattle.opgen_pipe.proofs.CellLaws.{all-wide}

pick : (P : List Slot → Type 0) (b : Bool) (xs ys : List Slot) → (b ≡ true → P xs) → P ys → P (if b then xs else ys)
pick P true xs ys x y = x refl
pick P false xs ys x y = y

-- fewer bits than 128 to a signal
bits-few : (ws : List ℕ) (count : ℕ → ℕ) → All IsTableWidth ws → (n : ℕ) → bits_before ws count n ≤ 128 * signals_before count n
bits-few ws count wide zero = omega arith
bits-few ws count wide (suc i) =
    let w : slice_index ws i ≤ 128 =
    elim (cases_lt i (length ws)) [ inl l ↦ (wide i 0 l).1 | inr l ↦ omega (arith, get_or_past ws i 0 l) ] in
    omega (arith, bits-few ws count wide i, mul-le-mul_right (count i) w)

bits-same : (ws : List ℕ) (f g : ℕ → ℕ) (n : ℕ) → ((i : ℕ) → i < n → f i ≡ g i) → bits_before ws f n ≡ bits_before ws g n
bits-same ws f g zero h = refl
bits-same ws f g (suc i) h =
    let e : bits_before ws f i ≡ bits_before ws g i = bits-same ws f g i (λ k l. h k (omega (arith, l))) in
    omega (arith, e, ap (λ k. slice_index ws i * k) (h i (omega arith)))

-- the copies of all nodes, as bits
pub bits-are : (net : Net) (slots : List Slot) (ws counts ks : List ℕ) → ws ≡ widths net.nodes → length counts ≡ length net.nodes
    → ((i : ℕ) → i < length net.nodes → slice_index counts i ≡ copies net (slot_at slots) i) → ks ≡ counts
    → bits_before ws (slice_index ks) (length ks) ≡ register_bits net (slot_at slots)
bits-are net slots ws counts ks w long each e =
    ap (λ xs. bits_before ws (slice_index xs) (length xs)) e
    ∙ ap (bits_before ws (slice_index counts)) long
    ∙ bits-same ws (slice_index counts) (copies net (slot_at slots)) (length net.nodes) each
    ∙ ap (λ vs. bits_before vs (copies net (slot_at slots)) (length net.nodes)) w

-- numbers that may be greater than a word holds tell whether a schedule is taken
module _ (f : Frame) (net : Net) (valid : IsValid net) (best ps : List Slot) (fits : does_fit f.room f.graph ps ≡ true)
    (last signals own other : ℕ) (l : last ≡ net_latency net (slot_at ps))
    (s : signals ≡ min (signal_count net (slot_at ps)) 18446744073709551615)
    (b : own ≡ min (register_bits net (slot_at ps)) 18446744073709551615)
    (c : other ≡ min (register_bits net (slot_at best)) 18446744073709551615) where
  abbrev taken : Bool
  taken = may_take f net ps && nat_lt (register_bits net (slot_at ps)) (register_bits net (slot_at best))

  abbrev found : Bool
  found = nat_le last f.latency && (nat_le signals MAX_SIGNALS && nat_lt own other)

  from-found : found ≡ true → taken ≡ true
  from-found h =
      let x = both (nat_le last f.latency) _ h in
      let y = both (nat_le signals MAX_SIGNALS) _ x.1 in
      let p = leb-true last f.latency x.0 in
      let q = leb-true signals MAX_SIGNALS y.0 in
      let r = ltb-true own other y.1 in
      both_true
      (both_true fits
      (both_true (le-leb (net_latency net (slot_at ps)) f.latency (omega (arith, p, l)))
      (le-leb (signal_count net (slot_at ps)) MAX_SIGNALS (omega (arith, q, s)))))
      (lt-ltb (register_bits net (slot_at ps)) (register_bits net (slot_at best)) (omega (arith, r, b, c)))

  from-taken : taken ≡ true → found ≡ true
  from-taken h =
      let x = both (may_take f net ps) _ h in
      let y = both (does_fit f.room f.graph ps) _ x.0 in
      let z = both (nat_le (net_latency net (slot_at ps)) f.latency) _ y.1 in
      let p = leb-true (net_latency net (slot_at ps)) f.latency z.0 in
      let q = leb-true (signal_count net (slot_at ps)) MAX_SIGNALS z.1 in
      let r = ltb-true (register_bits net (slot_at ps)) (register_bits net (slot_at best)) x.1 in
      let few = bits-few (widths net.nodes) (copies net (slot_at ps)) (all-wide net valid (widths net.nodes) refl) (length net.nodes) in
      both_true (le-leb last f.latency (omega (arith, p, l)))
      (both_true (le-leb signals MAX_SIGNALS (omega (arith, q, s)))
      (lt-ltb own other (omega (arith, few, q, r, b, c))))

  chosen : (r : Bool) → r ≡ (nat_le last f.latency && (nat_le signals MAX_SIGNALS && nat_lt own other))
      → fewer f net best ps ≡ (if r then ps else best)
  chosen r e = ap (λ (t : Bool). if t then ps else best) (both_ways taken found from-taken from-found ∙ sym e)

  pub taken-is : (r : Bool) → r ≡ (nat_le last f.latency && (nat_le signals MAX_SIGNALS && nat_lt own other)) → r ≡ true
      → ps ≡ fewer f net best ps
  taken-is r e h = sym (chosen r e ∙ ap (λ (t : Bool). if t then ps else best) h)

  pub left-is : (r : Bool) → r ≡ (nat_le last f.latency && (nat_le signals MAX_SIGNALS && nat_lt own other)) → r ≡ false
      → best ≡ fewer f net best ps
  left-is r e h = sym (chosen r e ∙ ap (λ (t : Bool). if t then ps else best) h)

-- what does not fit is not taken
pub unfit-is : (f : Frame) (net : Net) (best ps : List Slot) → does_fit f.room f.graph ps ≡ false → best ≡ fewer f net best ps
unfit-is f net best ps h =
    let rest : Bool = nat_le (net_latency net (slot_at ps)) f.latency && nat_le (signal_count net (slot_at ps)) MAX_SIGNALS in
    let less : Bool = nat_lt (register_bits net (slot_at ps)) (register_bits net (slot_at best)) in
    sym (ap (λ (t : Bool). if (t && rest) && less then ps else best) h)

-- a schedule that is no worse than the first one
pub record Serves (net : Net) (delays : List ℕ) (setup period : ℕ) (first ps : List Slot) : Type 0 where
  pub fits : Fits net.nodes delays setup period (slot_at ps)
  pub latency : net_latency net (slot_at ps) ≤ net_latency net (slot_at first)
  pub bits : register_bits net (slot_at ps) ≤ register_bits net (slot_at first)

module _ (net : Net) (delays : List ℕ) (setup period : ℕ) (first : List Slot) (long : length delays ≡ length net.nodes)
    (short : setup ≤ period) where
  abbrev framed : Frame
  framed = frame_of delays (period - setup) (net_latency net (slot_at first)) net

  fewer-serves : (best ps : List Slot) → Serves net delays setup period first best
      → Serves net delays setup period first (fewer framed net best ps)
  fewer-serves best ps h =
      pick (Serves net delays setup period first)
      (may_take framed net ps && nat_lt (register_bits net (slot_at ps)) (register_bits net (slot_at best))) ps best
      (
      λ e.
      let x = both (may_take framed net ps) _ e in
      let y = both (does_fit framed.room framed.graph ps) _ x.0 in
      let z = both (nat_le (net_latency net (slot_at ps)) framed.latency) _ y.1 in
      record {
        fits =
            test-fits net.nodes delays (widths net.nodes) setup period (period - setup) ps (omega (arith, short))
            (graph_of delays (widths net.nodes) net.nodes) refl long y.0;
        latency = leb-true (net_latency net (slot_at ps)) framed.latency z.0;
        bits =
            omega (arith, h.bits, ltb-true (register_bits net (slot_at ps)) (register_bits net (slot_at best)) x.1);
      }
      )
      h

stage-serves : (net : Net) (delays : List ℕ) (setup period : ℕ) → IsValid net → length delays ≡ length net.nodes
    → greatest delays + setup ≤ period
    → Serves net delays setup period (stage delays setup period net.nodes) (stage delays setup period net.nodes)
stage-serves net delays setup period valid long short = record {
  fits = stage_fits net.nodes delays setup period valid.nodes long short;
  latency = omega arith;
  bits = omega arith;
}

pub placed-serves : (placing : Placing) (net : Net) (delays : List ℕ) (setup period : ℕ) → IsValid net → length delays ≡ length net.nodes
    → greatest delays + setup ≤ period
    → Serves net delays setup period (stage delays setup period net.nodes) (slots_placed placing delays setup period net)
placed-serves Earliest net delays setup period valid long short = stage-serves net delays setup period valid long short
placed-serves Few net delays setup period valid long short =
    let first = stage delays setup period net.nodes in
    let f : Frame = frame_of delays (period - setup) (net_latency net (slot_at first)) net in
    let fit : setup ≤ period = omega (arith, short) in
    fewer-serves net delays setup period first long fit
    (fewer f net first (timed f.graph (moved_later f (cycles_of first))))
    (timed f.graph (moved_back f (cycles_of first)))
    (fewer-serves net delays setup period first long fit first (timed f.graph (moved_later f (cycles_of first)))
    (stage-serves net delays setup period valid long short))
