-- The two ways to spell a number.
use Rattle.std.specs.Prelude.{ℕ, Option}
use Rattle.hex.specs.Hex.{hex_digit_value}
use Rattle.vm_model.specs.Language.Reading.{digit}
use Rattle.script_text.specs.declared.fields.Radix.{Radix}
use Rattle.script_text.specs.declared.fields.Radix.TheVariants.{Decimal, Hex}

-- how many digits there are
abbrev pub base_of : Radix → ℕ
base_of Decimal = 10
base_of Hex = 16

-- what a digit stands for
abbrev pub value_in : Radix → ℕ → Option ℕ
value_in Decimal byte = digit byte
value_in Hex byte = hex_digit_value byte
