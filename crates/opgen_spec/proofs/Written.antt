-- A document without a fault gives the values that it writes.
use Rattle.std.proofs.Common.{◌≡◌, sym, ℕ, Bool, true, false, Option, Some, None, is_none, find, refl, ap, ◌∙◌, arith, lit<, if◌then◌else◌, List, [], ◌∷◌, cond, unwrap_or}
use Rattle.std.specs.Prelude.{pos}
use Rattle.std.proofs.lemmas.Slice.Eq.{bytes_eq-Decides}
use Rattle.std.specs.Str.{bytes_eq}
use Rattle.toml.specs.Data.{string, Members}
use Rattle.opgen_net.specs.declared.cell.Class.{Class}
use Rattle.opgen_net.specs.declared.cell.Class.TheVariants as class
use Rattle.opgen_document.specs.declared.array.Array.TheVariants as array
use Rattle.opgen_document.specs.declared.key.Key.TheVariants as key
use Rattle.opgen_operator.specs.declared.kind.Kind.{Kind}
use Rattle.opgen_operator.specs.Operator.{kind_name}
use Rattle.opgen_document.specs.Keys.{line_keys}
use Rattle.opgen_document.specs.Document.{value_at, number_at, text_at, items_at, version_of}
use Rattle.opgen_document.specs.Ranges.{outside}
use Rattle.opgen_net.specs.Classes.{classes}
use Rattle.opgen_spec.specs.Spec.{class_name, class_named, spec_with, line_of}
use Rattle.opgen_spec.specs.Written.{IsAsWritten, IsLineAsWritten}
use Rattle.opgen_spec.specs.Faults.{field_fault, class_outside}
use Rattle.opgen_entries.specs.kinds.{kinds_of, kind_of}
use Rattle.opgen_spec.proofs.Fine.{fine, typed, ranged, present, there_inside}
use Rattle.opgen_spec.proofs.ArrayLines.{IsFineLine, IsAmong, line_fine, all_fine, lines_written}
use Rattle.opgen_document.proofs.Ranges.{inside}
use Rattle.opgen_spec.proofs.Versions.{bounds}
use Rattle.opgen_spec.proofs.Chosen.{width_written, sign_written}
use Rattle.opgen_spec.proofs.Fourth.{rounding_written, overflow_written}
use Rattle.opgen_document.proofs.Values.{text_stands, flag_stands, count_written}
use Rattle.opgen_spec.proofs.sound.All.{sound}
use Rattle.opgen_spec.proofs.Validity.{base_among, bit_among}

-- a kind that is found by a name has that name
kind_found : (text : List ℕ) (ks : List Kind) (one : Kind) → find (λ k. bytes_eq (kind_name k) text) ks ≡ Some one → text ≡ kind_name one
kind_found text [] one h = cc
kind_found text (k ∷ ks) one h = go (bytes_eq (kind_name k) text) refl (λ later. kind_found text ks one later)
  where
    go : (b : Bool) → bytes_eq (kind_name k) text ≡ b → (find (λ k. bytes_eq (kind_name k) text) ks ≡ Some one → text ≡ kind_name one)
        → text ≡ kind_name one
    go true e later =
        let first : Some k ≡ Some one = ap (λ b. cond b (Some k) (find (λ k. bytes_eq (kind_name k) text) ks)) (sym e) ∙ h in
        let same : k ≡ one = cc in
        sym ((bytes_eq-Decides (kind_name k) text).0 e) ∙ ap kind_name same
    go false e later = later (ap (λ b. cond b (Some k) (find (λ k. bytes_eq (kind_name k) text) ks)) (sym e) ∙ h)

-- the same of classes
class_found : (text : List ℕ) (cs : List Class) (one : Class) → find (λ c. bytes_eq (class_name c) text) cs ≡ Some one → text
    ≡ class_name one
class_found text [] one h = cc
class_found text (c ∷ cs) one h = go (bytes_eq (class_name c) text) refl (λ later. class_found text cs one later)
  where
    go : (b : Bool) → bytes_eq (class_name c) text ≡ b → (find (λ c. bytes_eq (class_name c) text) cs ≡ Some one → text ≡ class_name one)
        → text ≡ class_name one
    go true e later =
        let first : Some c ≡ Some one = ap (λ b. cond b (Some c) (find (λ c. bytes_eq (class_name c) text) cs)) (sym e) ∙ h in
        let same : c ≡ one = cc in
        sym ((bytes_eq-Decides (class_name c) text).0 e) ∙ ap class_name same
    go false e later = later (ap (λ b. cond b (Some c) (find (λ c. bytes_eq (class_name c) text) cs)) (sym e) ∙ h)

named_class : (n : ℕ) (text : List ℕ) → class_outside n text ≡ None → text ≡ class_name (unwrap_or (class_named text) class.Wire)
named_class n text h = go (class_named text) refl h
  where
    go : (o : Option Class) → class_named text ≡ o → (if is_none o then Some (pos n) else None) ≡ None → text
        ≡ class_name (unwrap_or o class.Wire)
    go (Some one) e none = class_found text classes one e
    go None e none = cc

-- delay lines
class_among : IsAmong array.Delay 0 key.Class
unfolding line_keys
class_among = record { below = lit< tt; is = refl }

line_written : (doc : Members) (n : ℕ) (ms : Members) → IsFineLine array.Delay doc n ms → IsLineAsWritten ms (line_of ms)
line_written doc n ms f =
    let class_fine = line_fine array.Delay doc n ms f 0 key.Class class_among refl in
    let base = line_fine array.Delay doc n ms f 1 key.Base base_among refl in
    let bit = line_fine array.Delay doc n ms f 2 key.PerBit bit_among refl in
    record {
      class_written = text_stands (value_at ms key.Class) class_fine.there class_fine.typed
          ∙ ap (λ text. Some (string text)) (named_class n (text_at ms key.Class) class_fine.within);
      base = count_written (value_at ms key.Base) 0 1000000 base.there base.typed
          (inside (pos 0) (pos 1000000) (number_at ms key.Base) base.within) (omega arith);
      per_bit = count_written (value_at ms key.PerBit) 0 10000 bit.there bit.typed
          (inside (pos 0) (pos 10000) (number_at ms key.PerBit) bit.within) (omega arith);
    }

pub written : (ms : Members) (one : Kind) → field_fault ms ≡ None → kind_of ms ≡ Some one → IsAsWritten ms (spec_with one ms)
unfolding spec_with
written ms one h e =
    let f = fine ms h in
    let s = sound one in
    let time_there = present ms one key.Period f e refl refl in
    let time = there_inside (value_at ms key.Period) (outside (pos 1) (pos 1000000) (number_at ms key.Period)) time_there
    (ranged ms key.Period f refl) in
    record {
      version = count_written (value_at ms key.Version) 1 4 (present ms one key.Version f e refl refl) (typed ms key.Version f refl)
          (bounds ms f) (omega arith);
      name = text_stands (value_at ms key.Name) (present ms one key.Name f e refl refl) (typed ms key.Name f refl);
      kind_written = text_stands (value_at ms key.Kind) (present ms one key.Kind f e refl refl) (typed ms key.Kind f refl)
          ∙ ap (λ text. Some (string text)) (kind_found (text_at ms key.Kind) (kinds_of (version_of ms)) one e ∙ ap kind_name (sym (s.kind_is ms)));
      exact = flag_stands (value_at ms key.Exact) (present ms one key.Exact f e refl refl) (typed ms key.Exact f refl);
      rounding = rounding_written ms one f e;
      out_width = width_written ms one f e;
      out_signed = sign_written ms f;
      overflow = overflow_written ms one f e;
      target = text_stands (value_at ms key.Target) (present ms one key.Target f e refl refl) (typed ms key.Target f refl);
      period = count_written (value_at ms key.Period) 1 1000000 time_there (typed ms key.Period f refl)
          (inside (pos 1) (pos 1000000) (number_at ms key.Period) time) (omega arith);
      op = s.written ms f e;
      delays = lines_written IsLineAsWritten line_of array.Delay ms (line_written ms) 1 (items_at ms key.Delay) (all_fine array.Delay ms f);
    }
