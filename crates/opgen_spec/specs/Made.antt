-- The documents of which circuits are made: all of versions 1 to 3, and of version 4 those that ask for no sort of circuit that is not
-- made yet.
use Rattle.std.specs.Prelude.{◌==◌, ◌&&◌, ◌||◌, Bool, true, length, codes, is_none, int_le, nat_le}
use Rattle.std.specs.Option.{option_map_or}
use Rattle.std.specs.Str.{bytes_eq}
use Rattle.toml.specs.Data.{Items, Members}
use Rattle.opgen_operator.specs.declared.kind.Kind.{Kind}
use Rattle.opgen_operator.specs.declared.kind.Kind.TheVariants as kind
use Rattle.opgen_document.specs.declared.key.Key.TheVariants as key
use Rattle.opgen_document.specs.declared.key.Version.{Version}
use Rattle.opgen_document.specs.declared.key.Version.TheVariants.{First, Second, Third, Fourth}
use Rattle.opgen_document.specs.Document.{value_at, number_at, count_at, text_at, items_at, list_of, version_of}
use Rattle.opgen_entries.specs.kinds.{kind_of}

-- The compressor is named, and is one of heaps of bits. Where none is named version 4 adds up rows, of which no circuits are made yet.
abbrev pub is_dadda : Members → Bool
is_dadda ms = bytes_eq (text_at ms key.Compressor) (codes "dadda")

abbrev pub is_heap : Members → Bool
is_heap ms = is_dadda ms || bytes_eq (text_at ms key.Compressor) (codes "counters")

-- a sum of products has as few inputs and products as one of version 3
abbrev pub are_few : Items → Bool
are_few items = nat_le (length (list_of items)) 16

abbrev pub has_few_terms : Members → Bool
has_few_terms ms = are_few (items_at ms key.Input) && are_few (items_at ms key.Product)

-- the lowest place of a filter's output is not above that of its input
abbrev pub is_uncut : Members → Bool
is_uncut ms = option_map_or (λ _. int_le (number_at ms key.OutLsb) (number_at ms key.Lsb)) (value_at ms key.OutLsb) true

abbrev pub is_kind_made : Kind → Members → Bool
is_kind_made kind.Scale ms = is_heap ms
is_kind_made kind.Fir ms = is_heap ms
is_kind_made kind.Multiply ms = is_heap ms
is_kind_made kind.Divide ms = is_none (value_at ms key.OutWidth)
is_kind_made kind.Root ms = true
is_kind_made kind.Mcm ms = true
is_kind_made kind.Constdiv ms = true
is_kind_made kind.Poly ms = is_dadda ms
is_kind_made kind.Tfir ms = is_uncut ms
is_kind_made kind.Sop ms = is_heap ms && has_few_terms ms

-- tables have six inputs
abbrev pub has_six_inputs : Members → Bool
has_six_inputs ms = option_map_or (λ _. count_at ms key.Lut == 6) (value_at ms key.Lut) true

-- no rounding is chosen, and tables have six inputs
abbrev pub is_plain : Members → Bool
is_plain ms = is_none (value_at ms key.Rounding) && has_six_inputs ms

-- of a document of version 4, whose kind may be no kind
abbrev pub is_fourth_made : Members → Bool
is_fourth_made ms = is_plain ms && option_map_or (λ one. is_kind_made one ms) (kind_of ms) true

abbrev pub is_made_in : Version → Members → Bool
is_made_in First ms = true
is_made_in Second ms = true
is_made_in Third ms = true
is_made_in Fourth ms = is_fourth_made ms

-- circuits are made of the document
abbrev pub is_made : Members → Bool
is_made ms = is_made_in (version_of ms) ms
