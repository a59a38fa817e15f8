-- Where one pass holds the whole, all others are spent, and what it published is what was published.
use Rattle.std.proofs.Common.{◌≡◌, ℕ, zero, suc, ◌≤◌, min, List, [], ◌∷◌, refl, sym, ap, ◌∙◌, arith}
use mathlib.Core.Option.{some, some-ne-none, some-injective}
use lib.ListN.{get_elem?}
use Rattle.atomic_table.specs.Table.{Seen, Final}
use Rattle.opgen_bound.specs.declared.view.View.{View}
use Rattle.opgen_bound.specs.Views.{whole, most, spent, least_of, shares_of}
use Rattle.opgen_bound.specs.Rule.{IsBound, EmptyIsSpent}
use Rattle.opgen_bound.proofs.Lists.{shares_set}

least_of_spent : (start : ℕ) (vs : List View) → start ≤ most → EmptyIsSpent vs → shares_of vs ≡ 0 → least_of start vs ≡ start
least_of_spent start [] fits empty none = refl
least_of_spent start (x ∷ vs) fits empty none =
    let x_spent = empty 0 x refl (omega (arith, none)) in
    let rest = least_of_spent start vs fits (λ j u at. empty (suc j) u at) (omega (arith, none)) in
    omega (arith, rest, fits, ap (λ (u : View). u.published) x_spent)

pub least_of_one : (start : ℕ) (vs : List View) (i : ℕ) (v : View) → start ≤ most → EmptyIsSpent vs → get_elem? vs i ≡ some v → shares_of vs
    ≡ v.share → least_of start vs ≡ min start v.published
least_of_one start [] i v fits empty at all = absurd (some-ne-none v (sym at))
least_of_one start (x ∷ vs) zero v fits empty at all =
    let same = some-injective x v at in
    let rest = least_of_spent start vs fits (λ j u there. empty (suc j) u there) (omega (arith, all, ap (λ (u : View). u.share) same)) in
    omega (arith, rest, ap (λ (u : View). u.published) same)
least_of_one start (x ∷ vs) (suc i) v fits empty at all =
    let rest_has = shares_set vs i v spent at in
    let x_spent = empty 0 x refl (omega (arith, all, rest_has)) in
    let rest = least_of_one start vs i v fits (λ j u there. empty (suc j) u there) at
    (omega (arith, all, ap (λ (u : View). u.share) x_spent)) in
    omega (arith, rest, fits, ap (λ (u : View). u.published) x_spent)

word_is : (S : Type 0) (start id : ℕ) (v : View) (words : List ℕ) (slots : List S) (word : ℕ)
    (end : Final (Seen (IsBound S start) id v) words slots) → get_elem? words 0 ≡ some word → word ≡ least_of start end.0.views
word_is S start id v words slots word end there =
    let is : words ≡ least_of start end.0.views ∷ [] = sym end.2 ∙ end.1.0.word in
    sym (some-injective _ _ (sym (ap (λ l. get_elem? l 0) is) ∙ there))

pub closes : (S : Type 0) (start id : ℕ) (v : View) (words : List ℕ) (slots : List S) (word : ℕ)
    → Final (Seen (IsBound S start) id v) words slots → v.share ≡ whole → get_elem? words 0 ≡ some word → word ≡ min v.start v.published
closes S start id v words slots word end all there =
    let h = end.1.0 in
    let at = end.1.1 in
    let one = least_of_one start end.0.views id v h.fits h.empty at (h.shares ∙ sym all) in
    let start_is = h.known id v at (rw all (omega arith)) in
    omega (arith, word_is S start id v words slots word end there, one, start_is)

pub closes_seen : (S : Type 0) (start id : ℕ) (v : View) (words : List ℕ) (slots : List S) (word : ℕ)
    → Final (Seen (IsBound S start) id v) words slots → get_elem? words 0 ≡ some word → word ≤ v.seen
closes_seen S start id v words slots word end there = omega
    (arith, word_is S start id v words slots word end there, end.1.0.above id v end.1.1)
