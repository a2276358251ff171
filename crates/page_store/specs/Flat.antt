-- The plain store as the values of its fields, and the content that they stand for.
use Rattle.std.specs.Prelude.{◌≡◌, ◌≢◌, ℕ, ◌≤◌, List, Option, Some, IsSome}
use Rattle.std.specs.Option.{option_map}
use Rattle.frame_pool.specs.Pool.{Pool, taken_frames, frame_bytes}
use Rattle.pair_map.specs.declared.pair_map.PairMap.{PairMap}
use Rattle.pair_map.specs.Maps.{values_of, count_of}
use Rattle.vm_base.specs.declared.names.Tag.{Tag}
use Rattle.vm_model.specs.Contents.Content.{Content, Page, vmos_of, IsGood}
use Rattle.page_store.specs.inside.Rows.{HasViewer}
use Rattle.page_store.specs.declared.flat_store.FlatStore.TheInside.{Inside}

-- the page frames, the next koid, the page counts by 0 and koid, the frames of the held pages by koid and page number,
-- the page that shows a frame by the frame's tag and the koid, and how many pages may be owned with no memory from the
-- host
pub record Flat : Type 0 where
  pub pool : Pool
  pub next : ℕ
  pub vmos : PairMap ℕ
  pub rows : PairMap Tag
  pub viewers : PairMap ℕ
  pub room : ℕ

-- a page with the frame of this tag and its bytes
abbrev pub page_with_tag : Pool → Tag → Page
page_with_tag pool tag = record { tag = tag.0; bytes = frame_bytes pool tag.0 }

-- the VMOs, and of each page the frame of its row with the bytes of the frame
abbrev pub flat_content : Flat → Content
flat_content f = record {
  frames = f.pool.frames;
  next = f.next;
  count = λ v. values_of f.vmos 0 v;
  page = λ v p. option_map (page_with_tag f.pool) (values_of f.rows v p);
}

-- how many pages may be owned with no memory from the host
abbrev pub flat_spare : Flat → ℕ
flat_spare f = f.room

-- Page p of v is held, and a VMO other than v and w shows its frame.
pub record IsSeenByThird (c : Content) (v p w : ℕ) : Type 0 where
  pub held : Page
  pub is : c.page v p ≡ Some held
  pub u : ℕ
  pub q : ℕ
  pub seen : Page
  pub shows : c.page u q ≡ Some seen
  pub same : seen.tag ≡ held.tag
  pub other : u ≢ v
  pub third : u ≢ w

-- The rows of pages and the pages under frames are the same pairs, and the frames that are taken are those that a page
-- shows.
pub record ArePaired (rows : ℕ → ℕ → Option Tag) (viewers : ℕ → ℕ → Option ℕ) (frames : ℕ → Option (List ℕ)) : Type 0 where
  pub there : (v p : ℕ) (tag : Tag) → rows v p ≡ Some tag → viewers tag.0 v ≡ Some p
  pub back : (t v p : ℕ) → viewers t v ≡ Some p → rows v p ≡ Some (record { 0 = t })
  pub taken : (t v p : ℕ) → viewers t v ≡ Some p → IsSome (frames t)
  pub shown : (t : ℕ) → IsSome (frames t) → HasViewer (viewers t)

-- What holds of all such pages.
pub record IsFlat (f : Flat) : Type 0 where
  pub good : IsGood (flat_content f)
  pub live : count_of f.vmos ≡ vmos_of (flat_content f)
  pub linked : ArePaired (values_of f.rows) (values_of f.viewers) (taken_frames f.pool)
  pub rows_room : f.room ≤ f.rows.spare
  pub viewers_room : f.room ≤ f.viewers.spare

abbrev pub flat_of : Inside → Flat
flat_of a = record { pool = a.pool; next = a.next; vmos = a.vmos; rows = a.rows; viewers = a.viewers; room = a.room }

-- the fields are such pages
pub record AreFlat (a : Inside) : Type 0 where
  pub flat : IsFlat (flat_of a)
