use Rattle.std.proofs.Common.{◌≡◌, ◌+◌, ◌<◌, ◌++◌, ◌∷◌, [], ℕ, zero, suc, List, length, take, drop, get_or, refl, sym, ap, ◌∙◌, arith, append_assoc, length-append}
use Rattle.std.specs.Prelude.{slice_set}
use Rattle.std.proofs.lemmas.List.{drop_more, take_more, length-take-le}
use Rattle.opgen_machine.proofs.machine.take_inputs.Goals as goal

set-seam : (a c : List ℕ) (y x n : ℕ) → length a ≡ n → slice_set (a ++ y ∷ c) n x ≡ a ++ x ∷ c
set-seam [] c y x zero e = refl
set-seam [] c y x (suc n) e = absurd (cc)
set-seam (z ∷ a) c y x zero e = absurd (omega (arith, e))
set-seam (z ∷ a) c y x (suc n) e = ap (λ l. z ∷ l) (set-seam a c y x n (omega (arith, e)))

one-more : (m ns : List ℕ) (at i : ℕ) → at + length ns < length m + 1 → i < length ns
    → slice_set (take at m ++ (take i ns ++ drop (at + i) m)) (at + i) (get_or ns i 0) ≡ take at m ++
    (take (i + 1) ns ++ drop (at + (i + 1)) m)
one-more m ns at i room l =
    let x = get_or ns i 0 in
    let e : at + i + 1 ≡ at + (i + 1) = omega arith in
    let rest : drop (at + i) m ≡ get_or m (at + i) 0 ∷ drop (at + (i + 1)) m = drop_more m (at + i) 0 (omega (arith, room, l))
    ∙ ap (λ k. get_or m (at + i) 0 ∷ drop k m) e in
    let front : length (take at m ++ take i ns) ≡ at + i = omega
    (arith, length-append (take at m) (take i ns), length-take-le at m (omega (arith, room)), length-take-le i ns (omega (arith, l)))
    in
    ap (λ z. slice_set z (at + i) x)
    (sym (append_assoc (take at m) (take i ns) (drop (at + i) m)) ∙ ap (λ z. (take at m ++ take i ns) ++ z) rest)
    ∙ set-seam (take at m ++ take i ns) (drop (at + (i + 1)) m) (get_or m (at + i) 0) x (at + i) front
    ∙ append_assoc (take at m) (take i ns) (x ∷ drop (at + (i + 1)) m)
    ∙ ap (λ z. take at m ++ z) (sym (append_assoc (take i ns) (x ∷ []) (drop (at + (i + 1)) m))
    ∙ ap (λ z. z ++ drop (at + (i + 1)) m) (sym (take_more ns i 0 l)))

pub loop-i-preserved : goal.loop-i-preserved
loop-i-preserved c =
    let m = c.args.memory.now in
    let ns = c.args.inputs.now in
    let at = c.args.at in
    let i = c.loop-i.i in
    let old = append_assoc (take at m) (take i ns) (drop (at + i) m) in
    let new = append_assoc (take at m) (take (i + 1) ns) (drop (at + (i + 1)) m) in
    ap (λ z. slice_set z (at + i) (get_or ns i 0)) (c.loop-i.invariant ∙ old)
    ∙ one-more m ns at i (omega (arith, c.requires.room)) c.loop-i-test.true ∙ sym new
