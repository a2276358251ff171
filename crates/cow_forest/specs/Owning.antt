-- The frame of the row that a page of a VMO's node shows.
use Rattle.std.specs.Prelude.{Option, None, Some}
use Rattle.vm_base.specs.declared.names.Tag.{Tag}
use Rattle.page_list.specs.declared.row.Slot.{Slot}
use Rattle.page_list.specs.declared.row.Slot.TheVariants as slot
use Rattle.cow_split.specs.declared.answers.Holder.{Holder}
use Rattle.cow_split.specs.declared.answers.Holder.TheVariants as holder

-- the frame of a row. None if it says that the page is zero
abbrev pub tag_in : Slot → Option Tag
tag_in (slot.Frame tag left right) = Some tag
tag_in slot.Zero = None

-- the frame of a row, if there is one
abbrev pub tag_there : Option Slot → Option Tag
tag_there None = None
tag_there (Some row) = tag_in row

-- the frame of the row that holds a page, if the row is the page's own
abbrev pub own_frame : Holder → Option Tag
own_frame (holder.Own row) = tag_in row
own_frame (holder.Above node page side row) = None
own_frame holder.Nothing = None
