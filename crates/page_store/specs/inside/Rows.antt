-- What is found among the VMOs that show a frame.
use Rattle.std.specs.Prelude.{◌≡◌, ◌≢◌, ℕ, ◌<◌, ◌≤◌, Bool, Option, None, IsSome, is_some}

-- no VMO but v shows the frame
pub record IsAlone (viewers : ℕ → Option ℕ) (v : ℕ) : Type 0 where
  pub none : (w : ℕ) → w ≢ v → viewers w ≡ None

-- a VMO other than v shows the frame
pub record HasOther (viewers : ℕ → Option ℕ) (v : ℕ) : Type 0 where
  pub w : ℕ
  pub other : w ≢ v
  pub shows : IsSome (viewers w)

-- w is the koid of a VMO that shows the frame
abbrev pub is_viewer : (ℕ → Option ℕ) → ℕ → Bool
is_viewer viewers w = is_some (viewers w)

-- a VMO with a koid from `from` to below `end` shows the frame
pub record HasViewerIn (viewers : ℕ → Option ℕ) (from end : ℕ) : Type 0 where
  pub w : ℕ
  pub order : from ≤ w
  pub below : w < end
  pub shows : IsSome (viewers w)

-- a VMO other than v and w shows the frame
pub record HasThird (viewers : ℕ → Option ℕ) (v w : ℕ) : Type 0 where
  pub u : ℕ
  pub other : u ≢ v
  pub third : u ≢ w
  pub shows : IsSome (viewers u)

-- no VMO but v and w shows the frame
pub record HasNoThird (viewers : ℕ → Option ℕ) (v w : ℕ) : Type 0 where
  pub none : (u : ℕ) → u ≢ v → u ≢ w → viewers u ≡ None

-- some VMO shows the frame
pub record HasViewer (viewers : ℕ → Option ℕ) : Type 0 where
  pub w : ℕ
  pub shows : IsSome (viewers w)

-- no VMO shows the frame
pub record HasNoViewer (viewers : ℕ → Option ℕ) : Type 0 where
  pub none : (w : ℕ) → viewers w ≡ None
