-- How the fields of the pool are seen, and what holds of them.
use Rattle.std.specs.Prelude.{◌≡◌, ℕ, ◌≤◌, Bool, List, [], ◌∷◌, if◌then◌else◌, reverse}
use Rattle.std.specs.Vec.{vec_len, vec_capacity}
use Rattle.vm_base.specs.Pages.{zeros}
use Rattle.frame_pool.specs.declared.frame_pool.FramePool.TheInside.{Inside}
use Rattle.frame_pool.specs.Pool.{Pool, IsPool}

-- what the frames show: those that are marked zeros, and any other its bytes
unfoldable pub frames_shown : List (List ℕ) → List Bool → List (List ℕ)
frames_shown [] marks = []
frames_shown (frame ∷ frames) [] = frame ∷ frames
frames_shown (frame ∷ frames) (mark ∷ marks) = (if mark then zeros else frame) ∷ frames_shown frames marks

abbrev pub pool_of : Inside → Pool
pool_of a = record {
  frames = a.frames;
  buffer = frames_shown a.buffer.items a.blank.items;
  links = a.links.items;
  idle = reverse a.idle.items;
}

-- the lists are a pool, each frame of the buffer has a mark, all frames have room in the buffer, in its marks and in the
-- list of idle ones, and each has a backlink
pub record ArePool (a : Inside) : Type 0 where
  pub pool : IsPool (pool_of a)
  pub marked : vec_len a.blank ≡ vec_len a.buffer
  pub buffer_room : a.frames ≤ vec_capacity a.buffer
  pub blank_room : a.frames ≤ vec_capacity a.blank
  pub idle_room : a.frames ≤ vec_capacity a.idle
  pub linked : vec_len a.links ≡ a.frames
