-- What looking at a page says of it.
use Rattle.vm_model.proofs.ContentLaws.{sole-zero, bytes_of-none, bytes_of-some}
use Rattle.std.proofs.Common.{◌≡◌, ℕ, Bool, Option, None, Some, refl, arith}
use Rattle.std.specs.Prelude.{is_some}
use Rattle.vm_base.specs.declared.names.Tag.{Tag}
use Rattle.vm_model.specs.Contents.Content.{Page, Content, is_sole_page}
use Rattle.page_store.specs.declared.page_store.Look.TheVariants as look
use Rattle.page_store.specs.Pages.{look_at, tag_held}
use Rattle.page_store.proofs.PartLaws.{part_of_zeros}

pub zero_look : (c : Content) (v : ℕ) (o : Option Page) → look.Zero ≡ look_at c v o → o ≡ None
zero_look = grind (arith)

pub held_look : (c : Content) (v : ℕ) (o : Option Page) (tag : Tag) (alone : Bool) → look.Held tag alone ≡ look_at c v o
    → (held : Page) × (o ≡ Some held) × (held.tag ≡ tag.0) × (is_sole_page c v o ≡ alone)
held_look = grind (arith)

pub zero_frame : (o : Option Page) → None ≡ tag_held o → o ≡ None
zero_frame = grind (arith)

pub held_frame : (o : Option Page) (tag : Tag) → Some tag ≡ tag_held o → (held : Page) × (o ≡ Some held) × (held.tag ≡ tag.0)
held_frame = grind (arith)

pub is_held_frame : (o : Option Page) → is_some (tag_held o) ≡ is_some o
is_held_frame None = refl
is_held_frame (Some held) = refl

-- what a look at a page says of its frame and of its bytes
pub ruleset look_laws = (zero_look, held_look, zero_frame, held_frame, is_held_frame, part_of_zeros, sole-zero, bytes_of-none, bytes_of-some)
