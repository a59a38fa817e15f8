-- The numbers of an array, one by one in their places.
use Rattle.std.proofs.Common.{◌≡◌, ℕ, ◌+◌, ◌≤◌, ◌<◌, List, [], ◌∷◌, ◌++◌, length, map, take, drop, get_or, set, ℤ, ap, sym, ◌∙◌, arith}
use Rattle.std.proofs.lemmas.List.{take_more_set, drop_all, append_assoc, append-nil}
use Rattle.toml.specs.declared.value.Value.{Value}
use Rattle.toml.specs.Data.{Data}
use Rattle.toml.specs.View.{view, items_view}
use Rattle.opgen_document.specs.Document.{list_of}
use Rattle.opgen_document.proofs.Trees.{cut}

pub filled : (f : Data → ℤ) (vs : List Value) (i : ℕ) (v : Value) (ns : List ℤ) → i < length vs → i < length ns → v ≡ get_or vs i v
    → take (i + 1) (set ns i (f (view v))) ++ map f (list_of (items_view (drop (i + 1) vs)))
    ≡ take i ns ++ map f (list_of (items_view (drop i vs)))
filled f vs i v ns lt entry here =
    let rest = map f (list_of (items_view (drop (i + 1) vs))) in
    ap (λ front. front ++ rest) (take_more_set ns i (f (view v)) entry)
    ∙ append_assoc (take i ns) (f (view v) ∷ []) rest
    ∙ ap (λ w. take i ns ++ f (view w) ∷ rest) here
    ∙ ap (λ items. take i ns ++ map f (list_of items)) (sym (cut vs i v lt))

pub all_filled : (f : Data → ℤ) (vs : List Value) (i : ℕ) (ns numbers : List ℤ) → i ≤ length vs → length vs ≤ i
    → take i ns ++ map f (list_of (items_view (drop i vs))) ≡ numbers → take (length vs) ns ≡ numbers
all_filled f vs i ns numbers most least h =
    let same : length vs ≡ i = omega (arith, most, least) in
    ap (λ k. take k ns) same ∙ sym (append-nil (take i ns))
    ∙ ap (λ ws. take i ns ++ map f (list_of (items_view ws))) (sym (drop_all i vs least)) ∙ h
