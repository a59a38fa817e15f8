use Rattle.std.proofs.Common.{◌≡◌, ◌<◌, ◌≤◌, ◌^◌, length, drop}
use Rattle.opgen_num.specs.declared.format.TheConstants.{MAX_WIDTH}
use Rattle.opgen_vec.specs.Rows.{digit_count}
use Rattle.opgen_vec.specs.Digits.{hex_value}
use Rattle.opgen_vec.proofs.hex.hex_value.Given as goal

abbrev pub invariant-loop-byte : goal.invariant-loop-byte
invariant-loop-byte l = record {
  value : hex_value 0 l.digits ≡ hex_value l.value (drop l.byte-index l.digits);
  small : l.value < 16 ^ l.byte-index;
  few : length l.digits ≤ digit_count MAX_WIDTH;
}
