-- The design of a net whose names can stand in it can be written: its names are allowed, and it has a port.
use Rattle.std.proofs.Common.{◌≡◌, ℕ, suc, zero, ◌+◌, ◌^◌, ◌<◌, ◌≤◌, Bool, true, false, nat_le, nat_eq, List, [], ◌∷◌, ◌++◌, length, map, Some, decimal, IsTrue, refl, sym, ap, ◌∙◌, subst, arith, inl, inr}
use Rattle.std.specs.Prelude.{codes, slice_get}
use Rattle.std.specs.Char.{digit_value}
use Rattle.std.specs.List.{list_all}
use Rattle.std.specs.Str.Parse.{AllDigits}
use Rattle.std.proofs.lemmas.Bool.{le-leb}
use Rattle.std.proofs.lemmas.Bool.Decides.{nat_tests}
use Rattle.std.proofs.lemmas.Fmt.{decimal_is_IsNumeral, length-decimal-le}
use Rattle.std.proofs.lemmas.List.{append_assoc, length-append}
use Rattle.std.proofs.lemmas.Option.{get_or_from_slice_get, slice_get-get_or, slice_get_within}
use Rattle.opgen_names.specs.Names.{refused_words, is_refused, is_underscore, is_name_byte, ends_with_underscore, has_double_underscore, is_allowed_name}
use Rattle.opgen_design.specs.declared.design.Port.{Port}
use Rattle.opgen_design.specs.declared.design.Signal.{Signal}
use Rattle.opgen_net.specs.declared.net.Net.{Net}
use Rattle.opgen_net.specs.Made.{signal_name}
use Rattle.opgen_net.specs.Named.{port_names, IsNamed}
use Rattle.opgen_schedule.specs.Schedule.{Schedule}
use Rattle.opgen_design.specs.Run.{enable_inputs}
use Rattle.opgen_pipe.specs.Copies.{copies, signal_count}
use Rattle.opgen_pipe.specs.Laws.{DesignIsWritable}
use Rattle.opgen_pipe.specs.Pipelined.{all_of, node_signals, copy_name, ports_of}
use Rattle.opgen_pipe.specs.Standings.{standings}
use Rattle.opgen_pipe.proofs.Blocks.{before-most, before-within}
use Rattle.opgen_pipe.proofs.Lists.{get-left, get-right, get-append, get-mapped}
use Rattle.opgen_pipe.proofs.Parts.{by_port, by_signal, length-ports}
use Rattle.opgen_pipe.proofs.Soundness.{design_sound}

abbrev Allowed : List ℕ → Type 0
Allowed n = IsTrue (is_allowed_name n)

-- digits are bytes of names, and no underscores

digit_name_byte : (c : ℕ) → digit_value c < 10 → is_name_byte c ≡ true
digit_name_byte c h = grind (arith, nat_tests)

digit-no_underscore : (c : ℕ) → digit_value c < 10 → is_underscore c ≡ false
digit-no_underscore c h = grind (arith, nat_tests)

digit-between : (c : ℕ) → digit_value c < 10 → (48 ≤ c) × (c ≤ 57)
digit-between c h = grind (arith, nat_tests)

name_bytes : (ds more : List ℕ) → AllDigits 10 ds → list_all is_name_byte more ≡ true → list_all is_name_byte (ds ++ more) ≡ true
name_bytes [] more h k = k
name_bytes (c ∷ cs) more h k = rw (digit_name_byte c h.0, name_bytes cs more h.1 k) refl

all_bytes : (ds : List ℕ) → AllDigits 10 ds → list_all is_name_byte ds ≡ true
all_bytes [] h = refl
all_bytes (c ∷ cs) h = rw (digit_name_byte c h.0, all_bytes cs h.1) refl

no_end : (c : ℕ) (ds : List ℕ) → is_underscore c ≡ false → AllDigits 10 ds → ends_with_underscore (c ∷ ds) ≡ false
no_end c [] e h = e
no_end c (d ∷ ds) e h = no_end d ds (digit-no_underscore d h.0) h.1

no_double : (c : ℕ) (ds : List ℕ) → is_underscore c ≡ false → AllDigits 10 ds → has_double_underscore (c ∷ ds) ≡ false
no_double c [] e h = refl
no_double c (d ∷ ds) e h = rw (e, no_double d ds (digit-no_underscore d h.0) h.1) refl

-- an underscore between digits
no_end_within : (c : ℕ) (ds : List ℕ) (e : ℕ) (es : List ℕ) → digit_value e < 10 → AllDigits 10 es
    → ends_with_underscore (c ∷ (ds ++ 95 ∷ e ∷ es)) ≡ false
no_end_within c [] e es h k = no_end e es (digit-no_underscore e h) k
no_end_within c (d ∷ ds) e es h k = no_end_within d ds e es h k

no_double_within : (c : ℕ) (ds : List ℕ) (e : ℕ) (es : List ℕ) → is_underscore c ≡ false → AllDigits 10 ds → digit_value e < 10
    → AllDigits 10 es
    → has_double_underscore (c ∷ (ds ++ 95 ∷ e ∷ es)) ≡ false
no_double_within c [] e es u a h k = rw (u, digit-no_underscore e h, no_double e es (digit-no_underscore e h) k) refl
no_double_within c (d ∷ ds) e es u a h k = rw (u, no_double_within d ds e es (digit-no_underscore d a.0) a.1 h k) refl

unequal : (n c : ℕ) → 58 ≤ n → c ≤ 57 → nat_eq n c ≡ false
unequal n c h k = grind (arith, nat_tests)

-- `s` and a digit begin no refused word
not_refused : (c : ℕ) (ds : List ℕ) → digit_value c < 10 → is_refused (115 ∷ c ∷ ds) ≡ false
unfolding refused_words
not_refused c ds h =
    let most = (digit-between c h).1 in
    let e = unequal 101 c (omega arith) most in
    let h = unequal 104 c (omega arith) most in
    let i = unequal 105 c (omega arith) most in
    let l = unequal 108 c (omega arith) most in
    let r = unequal 114 c (omega arith) most in
    let u = unequal 117 c (omega arith) most in
    let t = unequal 116 c (omega arith) most in
    rw (e, h, i, l, r, u, t) refl

digits-allowed : (ds : List ℕ) → 0 < length ds → length ds ≤ 20 → AllDigits 10 ds → is_allowed_name (115 ∷ ds) ≡ true
digits-allowed [] some short h = absurd (omega (arith, some))
digits-allowed (c ∷ cs) some short h =
    let fits : nat_le (length (115 ∷ c ∷ cs)) 64 ≡ true = le-leb (length (115 ∷ c ∷ cs)) 64 (omega (arith, short)) in
    rw (fits, all_bytes (c ∷ cs) h, no_end 115 (c ∷ cs) refl h, no_double 115 (c ∷ cs) refl h, not_refused c cs h.0) refl

two-allowed : (ds es : List ℕ) → 0 < length ds → length ds ≤ 20 → AllDigits 10 ds → 0 < length es → length es ≤ 20 → AllDigits 10 es
    → is_allowed_name (115 ∷ (ds ++ 95 ∷ es)) ≡ true
two-allowed [] es some short h more few k = absurd (omega (arith, some))
two-allowed (c ∷ cs) [] some short h more few k = absurd (omega (arith, more))
two-allowed (c ∷ cs) (e ∷ es) some short h more few k =
    let long : length (115 ∷ ((c ∷ cs) ++ 95 ∷ e ∷ es)) ≤ 64 = omega (arith, length-append (c ∷ cs) (95 ∷ e ∷ es), short, few) in
    let fits : nat_le (length (115 ∷ ((c ∷ cs) ++ 95 ∷ e ∷ es))) 64 ≡ true = le-leb (length (115 ∷ ((c ∷ cs) ++ 95 ∷ e ∷ es))) 64 long in
    let bytes : list_all is_name_byte ((c ∷ cs) ++ 95 ∷ e ∷ es) ≡ true = name_bytes (c ∷ cs) (95 ∷ e ∷ es) h (all_bytes (e ∷ es) k) in
    rw (
      fits,
      bytes,
      no_end_within 115 (c ∷ cs) e es k.0 k.1,
      no_double_within 115 (c ∷ cs) e es refl h k.0 k.1,
      not_refused c (cs ++ 95 ∷ e ∷ es) h.0,
    ) refl

signal-allowed : (i : ℕ) → i < 2 ^ 64 → Allowed (signal_name i)
signal-allowed i h =
    let numeral = (decimal_is_IsNumeral i h).0 in
    digits-allowed (decimal i) numeral.0 (length-decimal-le 20 i (omega arith) (omega (arith, h)) h) numeral.1

copy-allowed : (i k : ℕ) → i < 2 ^ 64 → k < 2 ^ 64 → Allowed (copy_name i k)
copy-allowed i k h l =
    let a = (decimal_is_IsNumeral i h).0 in
    let b = (decimal_is_IsNumeral k l).0 in
    let e : copy_name i k ≡ 115 ∷ (decimal i ++ 95 ∷ decimal k) = ap (λ ds. 115 ∷ ds) (append_assoc (decimal i) (codes "_") (decimal k)) in
    ap is_allowed_name e
    ∙ two-allowed (decimal i) (decimal k) a.0 (length-decimal-le 20 i (omega arith) (omega (arith, h)) h) a.1 b.0
    (length-decimal-le 20 k (omega arith) (omega (arith, l)) l) b.1

enable-allowed : Allowed (codes "ce")
unfolding refused_words
enable-allowed = refl

enable_name : (enable : Bool) (i : ℕ) (x : List ℕ × ℕ) → slice_get (enable_inputs enable) i ≡ Some x → x.0 ≡ codes "ce"
enable_name true zero x h = let is : (codes "ce", 1) ≡ x = cc in ap (λ y. y.0) (sym is)
enable_name true (suc i) x h = absurd (cc)
enable_name false i x h = absurd (cc)

module _ (called : List ℕ) (enable : Bool) (net : Net) (s : Schedule) (named : IsNamed called net) (few : signal_count net s ≤ 2 ^ 64) where
  name_at : (i : ℕ) (n : List ℕ) → slice_get (port_names net) i ≡ Some n → Allowed n
  name_at i n h = subst Allowed (get_or_from_slice_get (port_names net) i n n h)
      (named.allowed i n (slice_get_within (port_names net) i n h))

  ports-allowed : (i : ℕ) → (p : Port) → slice_get (ports_of enable net) i ≡ Some p → Allowed p.name
  ports-allowed =
      by_port enable net (λ i p. Allowed p.name)
      (
      λ i x h.
      elim (get-append (enable_inputs enable) net.inputs i x h) [
        | inl a ↦ subst Allowed (sym (enable_name enable i x a)) enable-allowed
        | inr b ↦
            let at = get-mapped (λ y. y.0) net.inputs b.0 x b.2 in
            name_at b.0 x.0 (get-left (map (λ y. y.0) net.inputs) (map (λ o. o.name) net.outputs) b.0
            (slice_get_within (map (λ y. y.0) net.inputs) b.0 x.0 at) ∙ at)
      ]
      )
      (
      λ j o h.
      let names = map (λ y. y.0) net.inputs in
      name_at (length names + j) o.name (get-right names (map (λ o. o.name) net.outputs) (length names + j) j refl
      ∙ get-mapped (λ o. o.name) net.outputs j o h)
      )

  small : (i : ℕ) → i < length net.nodes → (i < 2 ^ 64) × (copies net s i < 2 ^ 64)
  small i l =
      let w = before-within (copies net s) i (length net.nodes) l in
      (omega (arith, before-most (copies net s) i, w, few), omega (arith, w, few))

  signals-allowed : (m : ℕ) (x : Signal) → slice_get (all_of (node_signals net (standings net s)) 0 net.nodes) m ≡ Some x → Allowed x.name
  signals-allowed =
      by_signal net s (λ m x. Allowed x.name)
      (λ i n h. signal-allowed i (small i (slice_get_within net.nodes i n h)).0)
      (λ i k n h l. let a = small i (slice_get_within net.nodes i n h) in copy-allowed i (1 + k) a.0 (omega (arith, l, a.1)))

pub design-writable : DesignIsWritable
design-writable called enable net delays setup period s valid named fits few = record {
  sound = design_sound called enable net delays setup period s valid named fits few;
  names = record {
    entity = named.name_allowed;
    ports = λ i d l. ports-allowed called enable net s named few i _ (slice_get-get_or (ports_of enable net) i d l);
    signals = λ i d l. signals-allowed called enable net s named few i _
        (slice_get-get_or (all_of (node_signals net (standings net s)) 0 net.nodes) i d l);
  };
  has_port = omega (arith, named.has_port, length-ports enable net);
}
