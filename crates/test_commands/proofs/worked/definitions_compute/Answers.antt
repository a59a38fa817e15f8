use Rattle.std.proofs.Common.{◌≡◌, [], ◌∷◌, true, false, List, Bool, None, refl}
use Rattle.std.specs.Prelude.{All}
use Rattle.std.proofs.lemmas.List.Elements.{All-nil, All-cons}
use Rattle.opgen_design.specs.declared.design.Driver.{Driver}
use Rattle.opgen_design.specs.declared.design.Driver.TheVariants.{Assign, Table, Output}
use Rattle.opgen_design.specs.Tree.{name, port}
use Rattle.opgen_design.specs.Run.{Meets, IsTableWord}
use Rattle.test_commands.specs.TimesThree.{bit_word, zero_word, three_word, cycle_words, times3_design}
use Rattle.test_commands.proofs.worked.definitions_compute.Goals as goal

abbrev OfRow : List Bool × List Bool → Type 0
OfRow r = r.0 ≡ bit_word true → three_word ≡ r.1

table_word : IsTableWord ((bit_word false, zero_word) ∷ []) three_word (bit_word true) three_word
table_word = record {
  of_row = All-cons OfRow (bit_word false, zero_word) [] (λ e. cc) (All-nil OfRow);
  of_none = λ h. refl;
}

abbrev Met : Driver → Type 0
Met = Meets None [] cycle_words []

equations : All Met times3_design.drivers
equations =
    let table = Table 1 (name 0) ((bit_word false, zero_word) ∷ []) three_word in
    let output = Output 1 (name 1) in
    All-cons Met (Assign 0 (port 0)) (table ∷ output ∷ []) refl
    (All-cons Met table (output ∷ []) table_word (All-cons Met output [] refl (All-nil Met)))

pub returns : goal.returns
returns c = record {
  design = refl;
  flow_now = refl;
  flow_next = refl;
  flow_before = refl;
  cycle = record {
    signal_widths = refl;
    port_widths = refl;
    inputs = refl;
    equations = equations;
  };
  sum = refl;
  difference = refl;
  cat = refl;
  width_of = refl;
  nesting_of = refl;
}
