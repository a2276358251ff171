-- The base of a spelling.
use Rattle.std.proofs.Common.{◌≤◌, arith}
use Rattle.script_text.specs.declared.fields.Radix.{Radix}
use Rattle.script_text.specs.declared.fields.Radix.TheVariants.{Decimal, Hex}
use Rattle.script_text.specs.inside.Radixes.{base_of}

pub base_of-pos : (radix : Radix) → 1 ≤ base_of radix
base_of-pos Decimal = omega arith
base_of-pos Hex = omega arith
