-- The numbers of a machine before the first cycle.
use Rattle.std.proofs.Common.{◌≡◌, ℕ, zero, suc, ◌+◌, ◌-◌, ◌^◌, ◌<◌, ◌≤◌, Bool, List, [], ◌∷◌, ◌++◌, length, map, take, get_or, Option, Some, None, refl, sym, ap, ◌∙◌, subst, arith, length-append}
use Rattle.std.specs.Prelude.{IfSome, replicate, slice_get, unwrap_or}
use Rattle.std.specs.List.{AllZip}
use Rattle.std.proofs.lemmas.Nat.{pow_pos}
use Rattle.std.proofs.lemmas.List.{get_or_append_left, length-map, length-replicate, get_or-replicate}
use Rattle.opgen_num.specs.Words.{nat, word, words_of}
use Rattle.opgen_num.proofs.Words.{nat-below, word-nat}
use Rattle.opgen_design.specs.declared.design.Design.{Design}
use Rattle.opgen_design.specs.declared.design.Driver.{Driver}
use Rattle.opgen_design.specs.declared.design.Driver.TheVariants.{Assign, Choice, Table, Register, Output}
use Rattle.opgen_design.specs.declared.design.Signal.{Signal}
use Rattle.opgen_design.specs.Run.{initial_words, input_widths}
use Rattle.opgen_design.specs.Sound.{IsSound, IsSignalWide, signal_widths}
use Rattle.opgen_runs.specs.Registers.{SameRegisters}
use Rattle.opgen_runs.proofs.Starts.{start, starts-registers, wide-at}
use Rattle.opgen_machine.specs.Laid.{AreLaid, Grown, HasRoom, IsFlat, IsLaid}
use Rattle.opgen_machine.specs.Layout.{rest_of, start_number, start_of}
use Rattle.opgen_machine.specs.Machines.{IsState, registers}
use Rattle.opgen_machine.specs.Moves.{FitFirst}
use Rattle.opgen_machine.proofs.Compiled.{words-kept}
use Rattle.opgen_machine.proofs.First.{fit-first, ports-zero}

room-of : (low base : ℕ) (m : List ℕ) (k : Driver) (from : ℕ) → length m ≡ base → IsLaid low m k from → HasRoom base k from
room-of low base m (Assign to e) from l h = tt
room-of low base m (Choice to on one other) from l h = tt
room-of low base m (Table to on [] other) from l h = tt
room-of low base m (Table to on (r ∷ rows) other) from l h = omega (arith, l, h.within)
room-of low base m (Register to e) from l h = tt
room-of low base m (Output place e) from l h = tt

pub rooms : (low base : ℕ) (m : List ℕ) (ks : List Driver) (places : List ℕ) → length m ≡ base → AreLaid low m ks places
    → AllZip (HasRoom base) ks places
rooms low base m [] [] l h = tt
rooms low base m [] (p ∷ places) l h = absurd h
rooms low base m (k ∷ ks) [] l h = absurd h
rooms low base m (k ∷ ks) (p ∷ places) l h = (room-of low base m k p l h.0, rooms low base m ks places l h.1)

pub append-right : (a b : List ℕ) (i : ℕ) → get_or (a ++ b) (length a + i) 0 ≡ get_or b i 0
append-right [] b i = let e : 0 + i ≡ i = omega arith in ap (λ k. get_or b k 0) e
append-right (x ∷ a) b i = let e : length (x ∷ a) + i ≡ suc (length a + i) = omega arith in
    ap (λ k. get_or (x ∷ (a ++ b)) k 0) e ∙ append-right a b i

-- the numbers of initial words
start-below : (o : Option (List Bool)) (w : ℕ) → IfSome o (λ x. length x ≡ w) → nat (unwrap_or o []) < 2 ^ w
start-below None w h = pow_pos w
start-below (Some x) w h = subst (λ n. nat x < 2 ^ n) h (nat-below x)

start-word : (o : Option (List Bool)) (w : ℕ) → IfSome o (λ x. length x ≡ w) → word w (nat (unwrap_or o [])) ≡ unwrap_or o (word w 0)
start-word None w h = refl
start-word (Some x) w h = ap (λ n. word n (nat x)) (sym h) ∙ word-nat x

starts-below : (ss : List Signal) → ((i : ℕ) (s : Signal) → slice_get ss i ≡ Some s → IsSignalWide s) → (i : ℕ) → i < length ss
    → get_or (map start_number ss) i 0 < 2 ^ get_or (map (λ s. s.width) ss) i 0
starts-below [] f i l = absurd (omega (arith, l))
starts-below (s ∷ ss) f zero l = start-below s.initial s.width (f 0 s refl).1
starts-below (s ∷ ss) f (suc i) l = starts-below ss (λ j q e. f (suc j) q e) i (omega (arith, l))

starts-words : (ss : List Signal) (xs : List ℕ) → ((i : ℕ) (s : Signal) → slice_get ss i ≡ Some s → IsSignalWide s)
    → words_of (map (λ s. s.width) ss) (map start_number ss ++ xs) ≡ map start ss
starts-words [] xs f = refl
starts-words (s ∷ ss) xs f =
    ap (λ v. v ∷ words_of (map (λ s. s.width) ss) (map start_number ss ++ xs)) (start-word s.initial s.width (f 0 s refl).1)
    ∙ ap (λ l. start s ∷ l) (starts-words ss xs (λ j q e. f (suc j) q e))

module _ (d : Design) (sound : IsSound d) (flat : IsFlat d) where
  pub length-start : length (start_of d) ≡ rest_of d + 1
  length-start = omega (
    arith,
    length-append (map start_number d.signals) (replicate (length (input_widths d) + 1) 0),
    length-map d.signals start_number,
    length-replicate {A = ℕ} (length (input_widths d) + 1) 0,
  )

  front : (i : ℕ) → i < length d.signals → get_or (start_of d) i 0 ≡ get_or (map start_number d.signals) i 0
  front i l = get_or_append_left (map start_number d.signals) (replicate (length (input_widths d) + 1) 0) 0 i
      (omega (arith, l, length-map d.signals start_number))

  behind : (i : ℕ) → length d.signals ≤ i → i ≤ rest_of d → get_or (start_of d) i 0 ≡ 0
  behind i a b =
      let n = length-map d.signals start_number in
      let j = i - length d.signals in
      let e : i ≡ length (map start_number d.signals) + j = omega (arith, n, a) in
      ap (λ k. get_or (start_of d) k 0) e
      ∙ append-right (map start_number d.signals) (replicate (length (input_widths d) + 1) 0) j
      ∙ get_or-replicate {A = ℕ} (length (input_widths d) + 1) j 0 0 (omega (arith, a, b))

  pub state-of : (tables : List ℕ) (base : ℕ) (m : List ℕ) → Grown (start_of d) m → length m ≡ base
      → AreLaid (length (start_of d)) m d.drivers tables → IsState d tables base m
  state-of tables base m grown l laid =
      let ws = signal_widths d in
      let n : length ws ≡ length d.signals = length-map d.signals (λ s. s.width) in
      let fits : FitFirst ws m = λ i j.
      subst (λ x. x < 2 ^ get_or ws i 0) (sym (grown.kept i (omega (arith, j, n, length-start)) ∙ front i (omega (arith, j, n))))
      (starts-below d.signals (wide-at d sound) i (omega (arith, j, n))) in
      record {
        count = l;
        fit = (fit-first m ws fits, ports-zero d flat m (λ i a b. grown.kept i (omega (arith, b, length-start)) ∙ behind i a b));
        laid = subst (λ low. AreLaid low m d.drivers tables) length-start laid;
      }

  pub registers-of : (m : List ℕ) → Grown (start_of d) m → SameRegisters d (registers d m) (initial_words d.signals)
  registers-of m grown =
      let ws = signal_widths d in
      let n : length ws ≡ length d.signals = length-map d.signals (λ s. s.width) in
      let same : registers d m ≡ map start d.signals =
      words-kept ws m (start_of d) (omega (arith, n, length-start, grown.longer)) (omega (arith, n, length-start))
      (λ i j. grown.kept i (omega (arith, j, n, length-start)))
      ∙ starts-words d.signals (replicate (length (input_widths d) + 1) 0) (wide-at d sound) in
      subst (λ now. SameRegisters d now (initial_words d.signals)) (sym same) (starts-registers d sound)

-- more numbers behind
pub grown-behind : (a b zs c : List ℕ) → Grown a b → c ≡ b ++ zs → Grown a c
grown-behind a b zs c h e = record {
  longer = omega (arith, h.longer, ap length e, length-append b zs);
  kept = λ i l. ap (λ x. get_or x i 0) e ∙ get_or_append_left b zs 0 i (omega (arith, l, h.longer)) ∙ h.kept i l;
}

pub take-front : (b zs c : List ℕ) (n : ℕ) → c ≡ b ++ zs → length b ≡ n → take n c ≡ b
take-front b zs c n e l = ap (take n) e ∙ ap (λ k. take k (b ++ zs)) (sym l) ∙ whole b
  where
    whole : (b : List ℕ) → take (length b) (b ++ zs) ≡ b
    whole [] = refl
    whole (x ∷ b) = ap (λ q. x ∷ q) (whole b)
