-- The nodes that the code appends are those of the recipe, by what its calls say of each.
use Rattle.std.proofs.Common.{◌≡◌, ℕ, ◌+◌, true, List, [], ◌∷◌, ◌++◌, length, refl, sym, ap, ◌∙◌, subst}
use Rattle.opgen_design.specs.declared.expr.Op.TheVariants.{Plus}
use Rattle.opgen_design.specs.Tree.{Tree, name}
use Rattle.opgen_net.specs.declared.cell.Class.{Class}
use Rattle.opgen_net.specs.declared.cell.Class.TheVariants.{Logic, Add}
use Rattle.opgen_net.specs.declared.net.Net.{Net}
use Rattle.opgen_net.specs.declared.node.Node.TheVariants.{Cells}
use Rattle.opgen_net.specs.declared.word_bits.WordBit.{WordBit}
use Rattle.opgen_net.specs.declared.word_bits.WordBit.TheVariants.{Of}
use Rattle.opgen_net.specs.Placed.{with_last}
use Rattle.opgen_net.specs.Valid.{widths, MayStand, IsValid}
use Rattle.opgen_net.specs.WordRule.{IsThere, bits_from}
use Rattle.opgen_digits.specs.Digit.{Known}
use Rattle.opgen_nonrestoring.specs.declared.Divisor.{Divisor}
use Rattle.opgen_nonrestoring.specs.Recipe.{Division, two as two_of, negative, next_bit, next_sum, next_digit, stepped, remainder_bits, correction, finished}
use Rattle.opgen_nonrestoring.specs.Steps.{IsDivisor, AreReady}
use Rattle.opgen_nonrestoring.proofs.Steps as step
use Rattle.opgen_nonrestoring.proofs.Finished as end

made-stands : (made net : Net) (class : Class) (w : ℕ) (e tree : Tree) → made ≡ net → e ≡ tree
    → MayStand (widths net.nodes) (Cells class w tree) → MayStand (widths made.nodes) (Cells class w e)
made-stands made net class w e tree same is h =
    subst (λ (n : Net). MayStand (widths n.nodes) (Cells class w e)) (sym same)
    (subst (λ (x : Tree). MayStand (widths net.nodes) (Cells class w x)) (sym is) h)

made-cells : (made net : Net) (class : Class) (w : ℕ) (e tree : Tree) → made ≡ net → e ≡ tree
    → with_last made (Cells class w e) ≡ with_last net (Cells class w tree)
made-cells made net class w e tree same is =
    ap (λ (n : Net). with_last n (Cells class w e)) same ∙ ap (λ (x : Tree). with_last net (Cells class w x)) is

same-length : (made net : Net) (k : ℕ) → k ≡ length made.nodes → made ≡ net → k ≡ length net.nodes
same-length made net k e same = e ∙ ap (λ (n : Net). length n.nodes) same

abbrev pub division : Net → (digits : List WordBit) → (before last sum : ℕ) → Division
division net digits before last sum = record { net = net; digits = digits; before = before; last = last; sum = sum }

pub same-division : (n m : Net) (ds es : List WordBit) (b c l k s r : ℕ) → n ≡ m → ds ≡ es → b ≡ c → l ≡ k → s ≡ r
    → division n ds b l s ≡ division m es c k r
same-division n m ds es b c l k s r e f g h i =
    ap (λ (x : Net). division x ds b l s) e
    ∙ ap (λ (x : List WordBit). division m x b l s) f
    ∙ ap (λ (x : ℕ). division m es x l s) g
    ∙ ap (λ (x : ℕ). division m es c x s) h
    ∙ ap (λ (x : ℕ). division m es c k x) i

abbrev pub known_of : Net → (digits rest : List WordBit) → Known
known_of net digits rest = record { net = net; digits = digits; rest = rest }

-- a step: each net, and the place of its last node, by the call that made it
module _ (v : Divisor) (d : Division) (valid : IsValid d.net) (is : IsDivisor d.net v) (ready : AreReady v.width d) (bit : WordBit)
    (there : IsThere (widths d.net.nodes) bit) where
  abbrev w : ℕ
  w = v.width

  module _ (n1 : Net) (k1 : ℕ) (e1 : n1 ≡ step.one v d valid is ready bit there) (p1 : k1 ≡ step.a v d valid is ready bit there) (x2 : Tree)
      (t2 : x2 ≡ negative w d.sum) where
    pub negative-requires : MayStand (widths n1.nodes) (Cells Logic w x2)
    negative-requires =
        made-stands n1 (step.one v d valid is ready bit there) Logic w x2 (negative w d.sum) e1 t2
        (step.negative-stands v d valid is ready bit there)

    module _ (n2 : Net) (k2 : ℕ) (e2 : n2 ≡ with_last n1 (Cells Logic w x2)) (p2 : k2 ≡ length n1.nodes) (x3 : Tree)
        (t3 : x3 ≡ next_bit w k1 d.before d.sum) where
      two-is : n2 ≡ step.two v d valid is ready bit there
      two-is = e2 ∙ made-cells n1 (step.one v d valid is ready bit there) Logic w x2 (negative w d.sum) e1 t2

      k2-is : k2 ≡ step.n v d valid is ready bit there
      k2-is = same-length n1 (step.one v d valid is ready bit there) k2 p2 e1

      tree3 : x3 ≡ next_bit w (step.a v d valid is ready bit there) d.before d.sum
      tree3 = t3 ∙ ap (λ (k : ℕ). next_bit w k d.before d.sum) p1

      pub turned-requires : MayStand (widths n2.nodes) (Cells Logic 1 x3)
      turned-requires =
          made-stands n2 (step.two v d valid is ready bit there) Logic 1 x3 (next_bit w (step.a v d valid is ready bit there) d.before d.sum)
          two-is tree3 (step.turned-stands v d valid is ready bit there)

      module _ (n3 : Net) (k3 : ℕ) (e3 : n3 ≡ with_last n2 (Cells Logic 1 x3)) (p3 : k3 ≡ length n2.nodes) (x4 : Tree)
          (t4 : x4 ≡ next_sum v.node k2 k3) where
        three-is : n3 ≡ step.three v d valid is ready bit there
        three-is =
            e3
            ∙ made-cells n2 (step.two v d valid is ready bit there) Logic 1 x3
            (next_bit w (step.a v d valid is ready bit there) d.before d.sum) two-is tree3

        k3-is : k3 ≡ step.u v d valid is ready bit there
        k3-is = same-length n2 (step.two v d valid is ready bit there) k3 p3 two-is

        tree4 : x4 ≡ next_sum v.node (step.n v d valid is ready bit there) (step.u v d valid is ready bit there)
        tree4 = t4 ∙ ap (λ (k : ℕ). next_sum v.node k k3) k2-is ∙ ap (next_sum v.node (step.n v d valid is ready bit there)) k3-is

        pub sum-requires : MayStand (widths n3.nodes) (Cells Add (w + 1) x4)
        sum-requires =
            made-stands n3 (step.three v d valid is ready bit there) Add (w + 1) x4
            (next_sum v.node (step.n v d valid is ready bit there) (step.u v d valid is ready bit there)) three-is tree4
            (step.sum-stands v d valid is ready bit there)

        module _ (n4 : Net) (k4 : ℕ) (e4 : n4 ≡ with_last n3 (Cells Add (w + 1) x4)) (p4 : k4 ≡ length n3.nodes) (x5 : Tree)
            (t5 : x5 ≡ next_digit w d.last k4) where
          four-is : n4 ≡ step.four v d valid is ready bit there
          four-is =
              e4
              ∙ made-cells n3 (step.three v d valid is ready bit there) Add (w + 1) x4
              (next_sum v.node (step.n v d valid is ready bit there) (step.u v d valid is ready bit there)) three-is tree4

          k4-is : k4 ≡ step.s v d valid is ready bit there
          k4-is = same-length n3 (step.three v d valid is ready bit there) k4 p4 three-is

          tree5 : x5 ≡ next_digit w d.last (step.s v d valid is ready bit there)
          tree5 = t5 ∙ ap (next_digit w d.last) k4-is

          pub digit-requires : MayStand (widths n4.nodes) (Cells Logic 1 x5)
          digit-requires =
              made-stands n4 (step.four v d valid is ready bit there) Logic 1 x5 (next_digit w d.last (step.s v d valid is ready bit there))
              four-is tree5 (step.digit-stands v d valid is ready bit there)

          pub step-made : (n5 : Net) (k5 : ℕ) (digits : List WordBit) → n5 ≡ with_last n4 (Cells Logic 1 x5) → k5 ≡ length n4.nodes
              → digits ≡ d.digits ++ Of k5 0 ∷ [] → stepped v d bit ≡ division n5 digits d.last k5 k4
          step-made n5 k5 digits e5 p5 f =
              let five =
              e5
              ∙ made-cells n4 (step.four v d valid is ready bit there) Logic 1 x5 (next_digit w d.last (step.s v d valid is ready bit there))
              four-is tree5 in
              let k5-is : k5 ≡ step.q v d valid is ready bit there = same-length n4 (step.four v d valid is ready bit there) k5 p5 four-is in
              let same = f ∙ ap (λ (k : ℕ). d.digits ++ Of k 0 ∷ []) k5-is in
              sym (same-division n5 (step.five v d valid is ready bit there) digits (stepped v d bit).digits d.last d.last k5
              (step.q v d valid is ready bit there) k4 (step.s v d valid is ready bit there) five same refl k5-is k4-is)

-- the end
module _ (v : Divisor) (d : Division) (valid : IsValid d.net) (is : IsDivisor d.net v) (ready : AreReady v.width d) where
  abbrev width : ℕ
  width = v.width

  module _ (x1 : Tree) (t1 : x1 ≡ remainder_bits width d.before d.sum) where
    pub bits-require : MayStand (widths d.net.nodes) (Cells Logic width x1)
    bits-require =
        subst (λ (x : Tree). MayStand (widths d.net.nodes) (Cells Logic width x)) (sym t1) (end.bits-stand v d valid is ready)

    module _ (n1 : Net) (k1 : ℕ) (e1 : n1 ≡ with_last d.net (Cells Logic width x1)) (p1 : k1 ≡ length d.net.nodes) (x2 : Tree)
        (t2 : x2 ≡ correction v d.before d.sum) where
      one-is : n1 ≡ end.one v d valid is ready
      one-is = e1 ∙ ap (λ (x : Tree). with_last d.net (Cells Logic width x)) t1

      pub correction-requires : MayStand (widths n1.nodes) (Cells Logic width x2)
      correction-requires =
          made-stands n1 (end.one v d valid is ready) Logic width x2 (correction v d.before d.sum) one-is t2
          (end.correction-stands v d valid is ready)

      module _ (n2 : Net) (k2 : ℕ) (e2 : n2 ≡ with_last n1 (Cells Logic width x2)) (p2 : k2 ≡ length n1.nodes) (x3 : Tree)
          (t3 : x3 ≡ two_of Plus (name k1) (name k2)) where
        last-two-is : n2 ≡ end.two v d valid is ready
        last-two-is = e2 ∙ made-cells n1 (end.one v d valid is ready) Logic width x2 (correction v d.before d.sum) one-is t2

        last-is : k2 ≡ end.c v d valid is ready
        last-is = same-length n1 (end.one v d valid is ready) k2 p2 one-is

        last-tree : x3 ≡ two_of Plus (name (end.m v d valid is ready)) (name (end.c v d valid is ready))
        last-tree = t3 ∙ ap (λ (k : ℕ). two_of Plus (name k) (name k2)) p1 ∙ ap (λ (k : ℕ). two_of Plus (name (end.m v d valid is ready)) (name k)) last-is

        pub rest-requires : MayStand (widths n2.nodes) (Cells Add width x3)
        rest-requires =
            made-stands n2 (end.two v d valid is ready) Add width x3
            (two_of Plus (name (end.m v d valid is ready)) (name (end.c v d valid is ready))) last-two-is last-tree
            (end.rest-stands v d valid is ready)

        pub rest-made : (n3 : Net) (k3 : ℕ) (rest : List WordBit) → n3 ≡ with_last n2 (Cells Add width x3) → k3 ≡ length n2.nodes
            → rest ≡ bits_from k3 0 width → known_of n3 d.digits rest ≡ finished true v d
        rest-made n3 k3 rest e3 p3 f =
            let three =
            e3
            ∙ made-cells n2 (end.two v d valid is ready) Add width x3
            (two_of Plus (name (end.m v d valid is ready)) (name (end.c v d valid is ready))) last-two-is last-tree in
            let place : k3 ≡ end.r v d valid is ready = same-length n2 (end.two v d valid is ready) k3 p3 last-two-is in
            let bits = f ∙ ap (λ (k : ℕ). bits_from k 0 width) place in
            ap (λ (n : Net). known_of n d.digits rest) three ∙ ap (λ (bs : List WordBit). known_of (end.three v d valid is ready) d.digits bs) bits
