use Rattle.std.proofs.Common.{◌≡◌, ◌^◌, ◌<◌, drop}
use Rattle.vm_model.specs.Language.Reading.{digits_from, digits}
use Rattle.script_text.specs.inside.Radixes.{base_of, value_in}
use Rattle.script_text.proofs.fields.digits.Given as goal

abbrev pub invariant-loop-byte : goal.invariant-loop-byte
invariant-loop-byte l = record {
  fits : l.number < 2 ^ 64;
  rest : digits_from (base_of l.radix) (value_in l.radix) l.number (drop l.byte-index l.word)
      ≡ digits (base_of l.radix) (value_in l.radix) l.word;
}
