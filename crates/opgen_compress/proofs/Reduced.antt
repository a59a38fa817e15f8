-- An adder, and all adders of a column, keep the column's sum with the carries, but for the carries of the highest column.
use Rattle.std.proofs.Common.{◌≡◌, ℕ, zero, suc, ◌+◌, ◌-◌, ◌*◌, ◌≤◌, Bool, true, false, ◌&&◌, ◌||◌, List, [], ◌∷◌, ◌++◌, length, length-append, refl, sym, ap, ◌∙◌, subst, arith}
use Rattle.std.specs.Prelude.{ℤ, All, slice_index_or}
use Rattle.std.proofs.lemmas.List.Elements.{All-append, All-cons, All-nil}
use Rattle.opgen_num.specs.Words.{digit, xor}
use Rattle.opgen_heap.specs.Sum.{Words, bit_under, ones}
use Rattle.opgen_heap.proofs.Sums.{ones-append}
use Rattle.opgen_net.specs.declared.cell.Class.TheVariants.{Logic}
use Rattle.opgen_net.specs.declared.net.Net.{Net}
use Rattle.opgen_net.specs.declared.node.Node.TheVariants.{Cells}
use Rattle.opgen_net.specs.declared.word_bits.WordBit.{WordBit}
use Rattle.opgen_design.specs.Tree.{Tree}
use Rattle.opgen_design.specs.Value.{value}
use Rattle.opgen_net.specs.Cells.{IsLogic}
use Rattle.opgen_net.specs.Flow.{Inputs}
use Rattle.opgen_design.specs.Run.{AreWords}
use Rattle.opgen_net.specs.Valid.{widths, input_widths, IsValid, FitsNodes}
use Rattle.opgen_net.specs.WordRule.{IsThere}
use Rattle.opgen_net.proofs.Appending.{flow-append_last, width-append_last}
use Rattle.opgen_compress.specs.Adder.{Work, half_sum, half_carry, full_sum, full_carry, with_logic, next_bit, with_adder, full_adder, half_adder}
use Rattle.opgen_compress.specs.Recipe.{reduced}
use Rattle.opgen_compress.specs.Kept.{WorkThere, words_at}
use Rattle.opgen_net.proofs.Later.{Later, later-same, later-then, later-node, words-later}
use Rattle.opgen_heap.proofs.Kept.{ones-kept, bit-kept}
use Rattle.opgen_net.proofs.Grown.{grown-there, grown-all_there}
use Rattle.opgen_compress.proofs.Firsts.{first_of, rest_of}
use Rattle.opgen_compress.proofs.Operands.{scope_at, half_sum-stands, half_carry-stands, full_sum-stands, full_carry-stands, half_sum-value, half_carry-value, full_sum-value, full_carry-value, digits-two, digits-three}

-- the number of a column in work: its bits, and its carries at twice the weight
abbrev pub work_sum : Work → Inputs → ℤ → ℕ
work_sum w inputs t = ones (words_at w.net.nodes inputs t) w.column + 2 * ones (words_at w.net.nodes inputs t) w.carries

-- from one state of a column in work to a later one
pub record Reduced (top : Bool) (w v : Work) : Type 0 where
  pub later : Later w.net v.net
  pub there : WorkThere v
  pub sum : (inputs : Inputs) (t : ℤ) → All (AreWords (input_widths w.net)) inputs
      → (d : ℕ) × (work_sum v inputs t + 2 * d ≡ work_sum w inputs t) × (top ≡ false → d ≡ 0)

reduced-same : (top : Bool) (w : Work) → IsValid w.net → WorkThere w → Reduced top w w
reduced-same top w v h = record { later = later-same w.net v; there = h; sum = λ inputs t words. (0, omega arith, λ e. refl) }

-- inputs of the widths of a net's ports, in the net when it has grown
reduced-then : (top : Bool) (w v u : Work) → Reduced top w v → Reduced top v u → Reduced top w u
reduced-then top w v u a b = record {
  later = later-then w.net v.net u.net a.later b.later;
  there = b.there;
  sum = λ inputs t words.
      let x = a.sum inputs t words in
      let y = b.sum inputs t (words-later w.net v.net a.later inputs words) in
      (x.0 + y.0, omega (arith, x.1, y.1), λ e. omega (arith, x.2 e, y.2 e));
}

-- a node of one bit more

-- an expression that may stand in a node of logic of one bit
abbrev MayBeLogic : List ℕ → Tree → Type 0
MayBeLogic ws e = IsLogic ws e × FitsNodes ws 1 e

logic-later : (net : Net) (e : List ℕ → Tree) → IsValid net → MayBeLogic (widths net.nodes) (e (widths net.nodes))
    → Later net (with_logic net e)
logic-later net e v stands = later-node net (Cells Logic 1 (e (widths net.nodes))) v stands refl

next-there : (net : Net) (e : List ℕ → Tree) → IsThere (widths (with_logic net e).nodes) (next_bit net)
next-there net e = omega (arith, width-append_last net.nodes (Cells Logic 1 (e (widths net.nodes))))

next-value : (net : Net) (e : List ℕ → Tree) (inputs : Inputs) (t : ℤ) (x : Bool) → value (scope_at net inputs t) (e (widths net.nodes))
    ≡ x ∷ []
    → bit_under (words_at (with_logic net e).nodes inputs t) (next_bit net) ≡ x
next-value net e inputs t x h = ap (λ w. slice_index_or w 0 false)
    (flow-append_last net.nodes (Cells Logic 1 (e (widths net.nodes))) inputs t ∙ h)

push-there : (ws : List ℕ) (bs : List WordBit) (b : WordBit) → All (IsThere ws) bs → IsThere ws b → All (IsThere ws) (bs ++ b ∷ [])
push-there ws bs b h k = All-append (IsThere ws) bs (b ∷ []) h (All-cons (IsThere ws) b [] k (All-nil (IsThere ws)))

ones-push : (words : Words) (bs : List WordBit) (b : WordBit) → ones words (bs ++ b ∷ []) ≡ ones words bs + digit (bit_under words b)
ones-push words bs b = ones-append words bs (b ∷ []) ∙ omega arith

-- the first bits of a column, and those after them

pub front-two : (P : WordBit → Type 0) (a b : WordBit) (rest : List WordBit) → All P (a ∷ b ∷ rest) → All P (a ∷ b ∷ [])
front-two P a b rest h = All-cons P a (b ∷ []) (first_of P a (b ∷ rest) h)
    (All-cons P b [] (first_of P b rest (rest_of P a (b ∷ rest) h)) (All-nil P))

after-two : (P : WordBit → Type 0) (a b : WordBit) (rest : List WordBit) → All P (a ∷ b ∷ rest) → All P rest
after-two P a b rest h = rest_of P b rest (rest_of P a (b ∷ rest) h)

pub front-three : (P : WordBit → Type 0) (a b c : WordBit) (rest : List WordBit) → All P (a ∷ b ∷ c ∷ rest) → All P (a ∷ b ∷ c ∷ [])
front-three P a b c rest h = All-cons P a (b ∷ c ∷ []) (first_of P a (b ∷ c ∷ rest) h) (front-two P b c rest (rest_of P a (b ∷ c ∷ rest) h))

-- the bits of an adder that were taken from a column stand in the net with the node of their sum

pub full-still_there : (net one : Net) (column : List WordBit) (a b c : WordBit) (rest : List WordBit) → IsValid net
    → All (IsThere (widths net.nodes)) column
    → column ≡ a ∷ b ∷ c ∷ rest → one ≡ with_logic net (full_sum a b c) → All (IsThere (widths one.nodes)) (a ∷ b ∷ c ∷ [])
full-still_there net one column a b c rest v h e is =
    let P = IsThere (widths net.nodes) in
    let front = front-three P a b c rest (subst (All P) e h) in
    let later = logic-later net (full_sum a b c) v (full_sum-stands (widths net.nodes) a b c front) in
    subst (λ (n : Net). All (IsThere (widths n.nodes)) (a ∷ b ∷ c ∷ [])) (sym is)
    (grown-all_there net (with_logic net (full_sum a b c)) later.grown (a ∷ b ∷ c ∷ []) front)

pub half-still_there : (net one : Net) (column : List WordBit) (a b : WordBit) (rest : List WordBit) → IsValid net
    → All (IsThere (widths net.nodes)) column
    → column ≡ a ∷ b ∷ rest → one ≡ with_logic net (half_sum a b) → All (IsThere (widths one.nodes)) (a ∷ b ∷ [])
half-still_there net one column a b rest v h e is =
    let P = IsThere (widths net.nodes) in
    let front = front-two P a b rest (subst (All P) e h) in
    let later = logic-later net (half_sum a b) v (half_sum-stands (widths net.nodes) a b front) in
    subst (λ (n : Net). All (IsThere (widths n.nodes)) (a ∷ b ∷ [])) (sym is)
    (grown-all_there net (with_logic net (half_sum a b)) later.grown (a ∷ b ∷ []) front)

-- an adder of bits that were taken from the front of a column
module _ (net : Net) (valid : IsValid net) (sum carry : List ℕ → Tree) (taken rest carries : List WordBit)
    (sum_stands : MayBeLogic (widths net.nodes) (sum (widths net.nodes)))
    (carry_stands : MayBeLogic (widths (with_logic net sum).nodes) (carry (widths (with_logic net sum).nodes)))
    (x y : Words → Bool)
    (is_sum : (inputs : Inputs) (t : ℤ) → All (AreWords (input_widths net)) inputs
    → value (scope_at net inputs t) (sum (widths net.nodes)) ≡ x (words_at net.nodes inputs t) ∷ [])
    (is_carry : (inputs : Inputs) (t : ℤ) → All (AreWords (input_widths net)) inputs
    → value (scope_at (with_logic net sum) inputs t) (carry (widths (with_logic net sum).nodes)) ≡ y (words_at net.nodes inputs t) ∷ [])
    (adds : (words : Words) → digit (x words) + 2 * digit (y words) ≡ ones words taken)
    (rest_there : All (IsThere (widths net.nodes)) rest) (carries_there : All (IsThere (widths net.nodes)) carries) where
  abbrev start : Work
  start = record { net = net; column = taken ++ rest; carries = carries }

  abbrev one : Net
  one = with_logic net sum

  abbrev two : Net
  two = with_logic one carry

  to_one : Later net one
  to_one = logic-later net sum valid sum_stands

  one_to_two : Later one two
  one_to_two = logic-later one carry to_one.valid carry_stands

  to_two : Later net two
  to_two = later-then net one two to_one one_to_two

  adder-reduced : (top : Bool) → Reduced top start (with_adder top sum carry net rest carries)
  adder-reduced true = record {
    later = to_one;
    there = record {
      column = push-there (widths one.nodes) rest (next_bit net) (grown-all_there net one to_one.grown rest rest_there)
          (next-there net sum);
      carries = grown-all_there net one to_one.grown carries carries_there;
    };
    sum = λ inputs t words.
        let before = words_at net.nodes inputs t in
        let after = words_at one.nodes inputs t in (
          digit (y before),
          omega (
            arith,
            adds before,
            ones-push after rest (next_bit net),
            ones-kept net one to_one.grown inputs t rest rest_there,
            ones-kept net one to_one.grown inputs t carries carries_there,
            ap digit (next-value net sum inputs t (x before) (is_sum inputs t words)),
            ones-append before taken rest,
          ),
          λ h. absurd (cc),
        );
  }
  adder-reduced false = record {
    later = to_two;
    there = record {
      column = push-there (widths two.nodes) rest (next_bit net) (grown-all_there net two to_two.grown rest rest_there)
          (grown-there one two one_to_two.grown (next_bit net) (next-there net sum));
      carries = push-there (widths two.nodes) carries (next_bit one) (grown-all_there net two to_two.grown carries carries_there)
          (next-there one carry);
    };
    sum = λ inputs t words.
        let before = words_at net.nodes inputs t in
        let after = words_at two.nodes inputs t in (
          0,
          omega (
            arith,
            adds before,
            ones-push after rest (next_bit net),
            ones-push after carries (next_bit one),
            ones-kept net two to_two.grown inputs t rest rest_there,
            ones-kept net two to_two.grown inputs t carries carries_there,
            ap digit (bit-kept one two one_to_two.grown inputs t (next_bit net) (next-there net sum)),
            ap digit (next-value net sum inputs t (x before) (is_sum inputs t words)),
            ap digit (next-value one carry inputs t (y before) (is_carry inputs t words)),
            ones-append before taken rest,
          ),
          λ h. refl,
        );
  }

module _ (top : Bool) (net : Net) (valid : IsValid net) (carries : List WordBit)
    (carries_there : All (IsThere (widths net.nodes)) carries) where
  abbrev P : WordBit → Type 0
  P = IsThere (widths net.nodes)

  same : Later net net
  same = later-same net valid

  abbrev work : List WordBit → Work
  work column = record { net = net; column = column; carries = carries }

  full-on : (a b c : WordBit) (rest : List WordBit) → All P (a ∷ b ∷ c ∷ []) → All P rest
      → Reduced top (work (a ∷ b ∷ c ∷ rest)) (with_adder top (full_sum a b c) (full_carry a b c) net rest carries)
  full-on a b c rest h g =
      let stands = full_sum-stands (widths net.nodes) a b c h in
      let one = with_logic net (full_sum a b c) in
      let later : Later net one = logic-later net (full_sum a b c) valid stands in
      adder-reduced net valid (full_sum a b c) (full_carry a b c) (a ∷ b ∷ c ∷ []) rest carries stands
      (full_carry-stands (widths one.nodes) a b c (grown-all_there net one later.grown (a ∷ b ∷ c ∷ []) h))
      (λ words. xor (xor (bit_under words a) (bit_under words b)) (bit_under words c))
      (λ words. ((bit_under words a && bit_under words b) || (bit_under words a && bit_under words c)) ||
      (bit_under words b && bit_under words c))
      (λ inputs t words. full_sum-value net net same inputs t words a b c h)
      (λ inputs t words. full_carry-value net one later inputs t (words-later net one later inputs words) a b c h)
      (λ words. digits-three (bit_under words a) (bit_under words b) (bit_under words c))
      g carries_there top

  half-on : (a b : WordBit) (rest : List WordBit) → All P (a ∷ b ∷ []) → All P rest
      → Reduced top (work (a ∷ b ∷ rest)) (with_adder top (half_sum a b) (half_carry a b) net rest carries)
  half-on a b rest h g =
      let stands = half_sum-stands (widths net.nodes) a b h in
      let one = with_logic net (half_sum a b) in
      let later : Later net one = logic-later net (half_sum a b) valid stands in
      adder-reduced net valid (half_sum a b) (half_carry a b) (a ∷ b ∷ []) rest carries stands
      (half_carry-stands (widths one.nodes) a b (grown-all_there net one later.grown (a ∷ b ∷ []) h))
      (λ words. xor (bit_under words a) (bit_under words b))
      (λ words. bit_under words a && bit_under words b)
      (λ inputs t words. half_sum-value net net same inputs t words a b h)
      (λ inputs t words. half_carry-value net one later inputs t (words-later net one later inputs words) a b h)
      (λ words. digits-two (bit_under words a) (bit_under words b))
      g carries_there top

  pub full-reduced : (column : List WordBit) → All P column → Reduced top (work column) (full_adder top net column carries)
  full-reduced [] h = reduced-same top (work []) valid (record { column = h; carries = carries_there })
  full-reduced (a ∷ []) h = reduced-same top (work (a ∷ [])) valid (record { column = h; carries = carries_there })
  full-reduced (a ∷ b ∷ []) h = reduced-same top (work (a ∷ b ∷ [])) valid (record { column = h; carries = carries_there })
  full-reduced (a ∷ b ∷ c ∷ rest) h = full-on a b c rest (front-three P a b c rest h) (rest_of P c rest (after-two P a b (c ∷ rest) h))

  pub half-reduced : (column : List WordBit) → All P column → Reduced top (work column) (half_adder top net column carries)
  half-reduced [] h = reduced-same top (work []) valid (record { column = h; carries = carries_there })
  half-reduced (a ∷ []) h = reduced-same top (work (a ∷ [])) valid (record { column = h; carries = carries_there })
  half-reduced (a ∷ b ∷ rest) h = half-on a b rest (front-two P a b rest h) (after-two P a b rest h)

-- all adders of a column
pub all-reduced : (excess : ℕ) (top : Bool) (w : Work) → IsValid w.net → WorkThere w → Reduced top w (reduced excess top w)
all-reduced zero top w v h = reduced-same top w v h
all-reduced (suc zero) top w v h = half-reduced top w.net v w.carries h.carries w.column h.column
all-reduced (suc (suc excess)) top w v h =
    let next : Work = full_adder top w.net w.column w.carries in
    let first : Reduced top w next = full-reduced top w.net v w.carries h.carries w.column h.column in
    reduced-then top w next (reduced excess top next) first (all-reduced excess top next first.later.valid first.there)

pub reduced-next : (excess : ℕ) (top : Bool) (w : Work) → 2 ≤ excess → reduced excess top w
    ≡ reduced (excess - 2) top (full_adder top w.net w.column w.carries)
reduced-next zero top w h = absurd (omega (arith, h))
reduced-next (suc zero) top w h = absurd (omega (arith, h))
reduced-next (suc (suc excess)) top w h = let e : excess
    ≡ suc (suc excess) - 2 = omega arith in ap (λ k. reduced k top (full_adder top w.net w.column w.carries)) e

-- lengths

with_adder-length : (top : Bool) (sum carry : List ℕ → Tree) (net : Net) (column carries : List WordBit)
    → length (with_adder top sum carry net column carries).column ≡ length column + 1
with_adder-length true sum carry net column carries = length-append column (next_bit net ∷ [])
with_adder-length false sum carry net column carries = length-append column (next_bit net ∷ [])

pub full-length : (top : Bool) (net : Net) (column carries : List WordBit) → 3 ≤ length column
    → length (full_adder top net column carries).column + 2 ≡ length column
full-length top net [] carries h = absurd (omega (arith, h))
full-length top net (a ∷ []) carries h = absurd (omega (arith, h))
full-length top net (a ∷ b ∷ []) carries h = absurd (omega (arith, h))
full-length top net (a ∷ b ∷ c ∷ rest) carries h = omega (arith, with_adder-length top (full_sum a b c) (full_carry a b c) net rest carries)

half-length : (top : Bool) (net : Net) (column carries : List WordBit) → 2 ≤ length column
    → length (half_adder top net column carries).column + 1 ≡ length column
half-length top net [] carries h = absurd (omega (arith, h))
half-length top net (a ∷ []) carries h = absurd (omega (arith, h))
half-length top net (a ∷ b ∷ rest) carries h = omega (arith, with_adder-length top (half_sum a b) (half_carry a b) net rest carries)

-- so many adders bring a column down to its height
pub reduced-length : (excess height : ℕ) (top : Bool) (w : Work) → 2 ≤ height → length w.column - height ≡ excess
    → length (reduced excess top w).column ≤ height
reduced-length zero height top w l e = omega (arith, e)
reduced-length (suc zero) height top w l e = omega (arith, e, l, half-length top w.net w.column w.carries (omega (arith, e, l)))
reduced-length (suc (suc excess)) height top w l e =
    let next : Work = full_adder top w.net w.column w.carries in
    reduced-length excess height top next l (omega (arith, e, l, full-length top w.net w.column w.carries (omega (arith, e, l))))
