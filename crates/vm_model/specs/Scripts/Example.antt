-- A small script and the text of its replies.
use Rattle.std.specs.Prelude.{ℕ, List, codes}

-- a VMO of two pages, two bytes written at the end of the first page, and five bytes read round them
abbrev pub example_script : List ℕ
example_script = codes "vmo_create v1 8192\nvmo_write v1 4094 aabb\nvmo_read v1 4093 5\n"

abbrev pub example_text : List ℕ
example_text = codes "OK\nOK\nOK 00aabb0000\n"
