-- Ports that agree: how many they are, and their widths.
use Rattle.std.proofs.Common.{◌≡◌, ℕ, suc, ◌+◌, Bool, if◌then◌else◌, List, [], ◌∷◌, ◌++◌, length, map, refl, sym, subst, ap, ◌∙◌, arith}
use Rattle.std.specs.List.{AllZip}
use Rattle.std.proofs.lemmas.List.{length-map, length-append}
use Rattle.opgen_design.specs.declared.design.Design.{Design}
use Rattle.opgen_design.specs.declared.design.Dir.{Dir}
use Rattle.opgen_design.specs.declared.design.Dir.TheVariants.{In, Out}
use Rattle.opgen_design.specs.declared.design.Port.{Port}
use Rattle.opgen_design.specs.Run.{at_ports, input_widths, is_in, is_out}
use Rattle.opgen_design.specs.Sound.{port_widths}
use Rattle.opgen_ports.specs.declared.ports.PortFormat.{PortFormat}
use Rattle.opgen_operator.specs.declared.spec.Spec.{Spec}
use Rattle.opgen_operator.specs.Outputs.{inputs_of, outputs_of, port_of, operator_ports}
use Rattle.opgen_check.specs.Ports.{IsSamePort, PortsAgree}

pub zip-length : {X Y : Type 0} (R : X → Y → Type 0) (xs : List X) (ys : List Y) → AllZip R xs ys → length xs ≡ length ys
zip-length R [] [] all = refl
zip-length R [] (y ∷ ys) all = absurd all
zip-length R (x ∷ xs) [] all = absurd all
zip-length R (x ∷ xs) (y ∷ ys) all = ap suc (zip-length R xs ys all.1)

-- the widths of the ports of a direction
abbrev side : (is : Dir → Bool) → List Port → List ℕ
side is ps = at_ports is ps (map (λ p. p.width) ps)

same_side : (is : Dir → Bool) (ps qs : List Port) → AllZip IsSamePort ps qs → side is ps ≡ side is qs
same_side is [] [] all = refl
same_side is [] (q ∷ qs) all = absurd all
same_side is (p ∷ ps) [] all = absurd all
same_side is (p ∷ ps) (q ∷ qs) (same, all) =
    ap (λ dir. if is dir then p.width ∷ side is ps else side is ps) same.dir
    ∙ ap (λ w. if is q.dir then w ∷ side is ps else side is ps) same.width
    ∙ ap (λ ws. if is q.dir then q.width ∷ ws else ws) (same_side is ps qs all)

inputs_first : (is os : List PortFormat) → side is_in (map (port_of In) is ++ map (port_of Out) os) ≡ map (λ p. p.format.width) is
inputs_first [] [] = refl
inputs_first [] (o ∷ os) = inputs_first [] os
inputs_first (i ∷ is) os = ap (λ ws. i.format.width ∷ ws) (inputs_first is os)

outputs_last : (is os : List PortFormat) → side is_out (map (port_of In) is ++ map (port_of Out) os) ≡ map (λ p. p.format.width) os
outputs_last [] [] = refl
outputs_last [] (o ∷ os) = ap (λ ws. o.format.width ∷ ws) (outputs_last [] os)
outputs_last (i ∷ is) os = outputs_last is os

module _ (spec : Spec) (d : Design) (agree : PortsAgree spec d) where
  pub in_widths : input_widths d ≡ map (λ p. p.format.width) (inputs_of spec)
  in_widths = same_side is_in d.ports (operator_ports spec) agree ∙ inputs_first (inputs_of spec) (outputs_of spec)

  pub out_widths : at_ports is_out d.ports (port_widths d) ≡ map (λ p. p.format.width) (outputs_of spec)
  out_widths = same_side is_out d.ports (operator_ports spec) agree ∙ outputs_last (inputs_of spec) (outputs_of spec)

  pub in_columns : length (input_widths d) ≡ length (inputs_of spec)
  in_columns = ap length in_widths ∙ length-map (inputs_of spec) (λ p. p.format.width)

  pub all_ports : length d.ports ≡ length (inputs_of spec) + length (outputs_of spec)
  all_ports =
      let is = map (port_of In) (inputs_of spec) in
      let os = map (port_of Out) (outputs_of spec) in
      omega (
        arith,
        zip-length IsSamePort d.ports (operator_ports spec) agree,
        length-append is os,
        length-map (inputs_of spec) (port_of In),
        length-map (outputs_of spec) (port_of Out),
      )

-- ports of both directions, one after the other
zip-front : {X Y : Type 0} (R : X → Y → Type 0) (xs more : List X) (ys others : List Y) → length xs ≡ length ys
    → AllZip R (xs ++ more) (ys ++ others) → AllZip R xs ys
zip-front R [] more [] others e all = tt
zip-front R [] more (y ∷ ys) others e all = absurd (omega (arith, e))
zip-front R (x ∷ xs) more [] others e all = absurd (omega (arith, e))
zip-front R (x ∷ xs) more (y ∷ ys) others e all = (all.0, zip-front R xs more ys others (omega (arith, e)) all.1)

zip-back : {X Y : Type 0} (R : X → Y → Type 0) (xs more : List X) (ys others : List Y) → length xs ≡ length ys
    → AllZip R (xs ++ more) (ys ++ others) → AllZip R more others
zip-back R [] more [] others e all = all
zip-back R [] more (y ∷ ys) others e all = absurd (omega (arith, e))
zip-back R (x ∷ xs) more [] others e all = absurd (omega (arith, e))
zip-back R (x ∷ xs) more (y ∷ ys) others e all = zip-back R xs more ys others (omega (arith, e)) all.1

zip-both : {X Y : Type 0} (R : X → Y → Type 0) (xs more : List X) (ys others : List Y)
    → AllZip R xs ys → AllZip R more others → AllZip R (xs ++ more) (ys ++ others)
zip-both R [] more [] others all rest = rest
zip-both R [] more (y ∷ ys) others all rest = absurd all
zip-both R (x ∷ xs) more [] others all rest = absurd all
zip-both R (x ∷ xs) more (y ∷ ys) others all rest = (all.0, zip-both R xs more ys others all.1 rest)

module _ (ports given got : List Port) (is os : List PortFormat) (cut : ports ≡ given ++ got) (few : length given ≡ length is) where
  level : length given ≡ length (map (port_of In) is)
  level = few ∙ sym (length-map is (port_of In))

  pub front_agrees : AllZip IsSamePort ports (map (port_of In) is ++ map (port_of Out) os) → AllZip IsSamePort given (map (port_of In) is)
  front_agrees all = zip-front IsSamePort given got (map (port_of In) is) (map (port_of Out) os) level
      (subst (λ ps. AllZip IsSamePort ps (map (port_of In) is ++ map (port_of Out) os)) cut all)

  pub back_agrees : AllZip IsSamePort ports (map (port_of In) is ++ map (port_of Out) os) → AllZip IsSamePort got (map (port_of Out) os)
  back_agrees all = zip-back IsSamePort given got (map (port_of In) is) (map (port_of Out) os) level
      (subst (λ ps. AllZip IsSamePort ps (map (port_of In) is ++ map (port_of Out) os)) cut all)

  pub both_agree : AllZip IsSamePort given (map (port_of In) is) → AllZip IsSamePort got (map (port_of Out) os)
      → AllZip IsSamePort ports (map (port_of In) is ++ map (port_of Out) os)
  both_agree front back = subst (λ ps. AllZip IsSamePort ps (map (port_of In) is ++ map (port_of Out) os)) (sym cut)
      (zip-both IsSamePort given got (map (port_of In) is) (map (port_of Out) os) front back)
