-- What a VMO holds: its held pages, those that it shares, and those that it is charged for. From the kernel's
-- attribution of memory, where each frame is charged to one VMO.
use Rattle.std.specs.Prelude.{ℕ, ◌-◌, ◌*◌, Bool, false, not, ◌&&◌, Option, None, Some}
use Rattle.vm_base.specs.declared.limits.TheConstants.{PAGE}
use Rattle.vm_model.specs.declared.reply.Info.{Info}
use Rattle.vm_model.specs.declared.reply.Stat.{Stat}
use Rattle.vm_base.specs.Search.{any_below, count_below}
use Rattle.vm_model.specs.Contents.Content.{Content, Page, is_held, pages_of, views, sole, used, vmos_of}
use Rattle.vm_model.specs.declared.names.Target.{Target}
use Rattle.vm_model.specs.Naming.Names.{children}
use Rattle.vm_model.specs.Machine.State.{State, name_pages}

-- how many pages of v pass
abbrev pub count_pages : Content → ℕ → (ℕ → Bool) → ℕ
count_pages c v test = count_below (pages_of c v) test

-- page p of v is held, and another VMO shows its frame too
abbrev pub is_shared : Content → ℕ → ℕ → Bool
is_shared c v p = is_held c v p && not (sole c v p)

-- a page of v is charged to v: it is held, and no VMO with a lesser koid shows its frame
unfoldable pub is_charged_page : Content → ℕ → Option Page → Bool
is_charged_page c v None = false
is_charged_page c v (Some held) = not (any_below v (views c held.tag))

abbrev pub is_charged : Content → ℕ → ℕ → Bool
is_charged c v p = is_charged_page c v (c.page v p)

-- What is told of a VMO by a name that stands for it. The size is the name's. All else is of the whole VMO
abbrev pub info_at : State → Target → Info
info_at s target = record {
  koid = target.koid;
  size = name_pages s.content target * PAGE;
  held = count_pages s.content target.koid.0 (is_held s.content target.koid.0);
  private_pages = count_pages s.content target.koid.0 (sole s.content target.koid.0);
  shared_pages = count_pages s.content target.koid.0 (is_shared s.content target.koid.0);
  charged = count_pages s.content target.koid.0 (is_charged s.content target.koid.0);
  children = children s.names s.lineage target.koid.0;
}

-- how many frames the machine has, how many some VMO shows, how many none shows, and how many VMOs there are
abbrev pub stat_of : Content → Stat
stat_of c = record { frames = c.frames; used = used c; free = c.frames - used c; vmos = vmos_of c }
