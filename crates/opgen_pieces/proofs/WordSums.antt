-- Sums of words that are cut in two: the carry of the low part goes on to the high part. A difference is a sum with turned bits and a
-- carry, so that what is borrowed is the turned carry.
use Rattle.std.proofs.Common.{◌≡◌, Bool, true, false, not, List, [], ◌∷◌, ◌++◌, length, map, refl, sym, ap, ◌∙◌, arith}
use Rattle.std.proofs.lemmas.List.{length-map, map-append}
use Rattle.opgen_num.specs.Words.{xor, majority, sum_with}
use Rattle.opgen_design.specs.Value.{combined}
use Rattle.opgen_pieces.specs.Recipe.{operator}

-- the last carry of the sum of two words and a carry
abbrev pub carried : Bool → List Bool → List Bool → Bool
carried k [] bs = k
carried k (a ∷ more) [] = k
carried k (a ∷ more) (b ∷ bs) = carried (majority a b k) more bs

pub sum-append : (k : Bool) (a b c d : List Bool) → length a ≡ length b
    → sum_with k (a ++ c) (b ++ d) ≡ sum_with k a b ++ sum_with (carried k a b) c d
sum-append k [] [] c d h = refl
sum-append k [] (y ∷ b) c d h = absurd (omega (arith, h))
sum-append k (x ∷ a) [] c d h = absurd (omega (arith, h))
sum-append k (x ∷ a) (y ∷ b) c d h =
    ap (λ w. xor (xor x y) k ∷ w) (sum-append (majority x y k) a b c d (omega (arith, h)))

-- what is added for a word, with a carry where it is taken off
abbrev pub turned : (is_minus : Bool) → List Bool → List Bool
turned false w = w
turned true w = map not w

abbrev pub turned_bit : (is_minus : Bool) → Bool → Bool
turned_bit false b = b
turned_bit true b = not b

pub turned-cons : (m b : Bool) (w : List Bool) → turned m (b ∷ w) ≡ turned_bit m b ∷ turned m w
turned-cons false b w = refl
turned-cons true b w = refl

pub turned-append : (m : Bool) (v w : List Bool) → turned m (v ++ w) ≡ turned m v ++ turned m w
turned-append false v w = refl
turned-append true v w = map-append not v w

pub length-turned : (m : Bool) (w : List Bool) → length (turned m w) ≡ length w
length-turned false w = refl
length-turned true w = length-map w not

pub combined-is : (m : Bool) (a b : List Bool) → combined (operator m) a b ≡ sum_with m a (turned m b)
combined-is false a b = refl
combined-is true a b = refl

-- the carry, or what is borrowed, behind the lowest places
abbrev pub handed_on : (is_minus : Bool) → (first second : List Bool) → Bool
handed_on m a b = carried m a (turned m b)

-- cut in two
pub combined-append : (m : Bool) (a b c d : List Bool) → length a ≡ length b
    → combined (operator m) (a ++ c) (b ++ d) ≡ combined (operator m) a b ++ sum_with (handed_on m a b) c (turned m d)
combined-append m a b c d h =
    combined-is m (a ++ c) (b ++ d)
    ∙ ap (sum_with m (a ++ c)) (turned-append m b d)
    ∙ sum-append m a (turned m b) c (turned m d) (h ∙ sym (length-turned m b))
    ∙ ap (λ w. w ++ sum_with (handed_on m a b) c (turned m d)) (sym (combined-is m a b))

-- a 0 above both words: the highest bit is the carry, or is turned where it is borrowed
zero-above : (m k : Bool) → sum_with k (false ∷ []) (turned m (false ∷ [])) ≡ turned_bit m k ∷ []
zero-above false false = refl
zero-above false true = refl
zero-above true false = refl
zero-above true true = refl

pub combined-zero : (m : Bool) (a b : List Bool) → length a ≡ length b
    → combined (operator m) (a ++ false ∷ []) (b ++ false ∷ []) ≡ combined (operator m) a b ++ turned_bit m (handed_on m a b) ∷ []
combined-zero m a b h =
    combined-append m a b (false ∷ []) (false ∷ []) h
    ∙ ap (λ w. combined (operator m) a b ++ w) (zero-above m (handed_on m a b))

-- a place below that makes the carry again
pub combined-carry : (m k : Bool) (a b : List Bool)
    → combined (operator m) (not m ∷ a) (turned_bit m k ∷ b) ≡ not k ∷ sum_with k a (turned m b)
combined-carry false false a b = refl
combined-carry false true a b = refl
combined-carry true false a b = refl
combined-carry true true a b = refl

-- a place at which 0 is added or taken off: the carry stays, and the result has the other word's bit
pub same-carry : (m x : Bool) → majority x m m ≡ m
same-carry false false = refl
same-carry false true = refl
same-carry true false = refl
same-carry true true = refl

pub same-bit : (m x : Bool) → xor (xor x m) m ≡ x
same-bit false false = refl
same-bit false true = refl
same-bit true false = refl
same-bit true true = refl
