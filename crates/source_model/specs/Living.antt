-- VMOs that live, and those that leave.
use Rattle.std.specs.Prelude.{◌≡◌, ℕ, ◌⊎◌, Option, None, Some}
use Rattle.vm_base.specs.Pages.{zeros}
use Rattle.source_model.specs.declared.link.Link.{Link}
use Rattle.source_model.specs.State.{SourceState}

-- A VMO lives while a name stands for it, or while it is the parent of a loose VMO that lives.
pub data LivesBy (names : ℕ → Option ℕ) (link : ℕ → Option Link) : ℕ → Type 0 where
  by_name : (n v : ℕ) → names n ≡ Some v → LivesBy names link v
  by_child : (w v : ℕ) (l : Link) → link w ≡ Some l → l.parent.0 ≡ v → LivesBy names link w → LivesBy names link v

abbrev pub IsLive : SourceState → ℕ → Type 0
IsLive s v = LivesBy s.names s.link v

-- all of a VMO is as it was
pub record StaysAt (old new : SourceState) (v : ℕ) : Type 0 where
  pub count : new.content.count v ≡ old.content.count v
  pub page : (p : ℕ) → new.content.page v p ≡ old.content.page v p
  pub backing : new.backing v ≡ old.backing v
  pub link : new.link v ≡ old.link v
  pub text : (p : ℕ) → new.text v p ≡ old.text v p

-- nothing of it is there
pub record IsGoneAt (new : SourceState) (v : ℕ) : Type 0 where
  pub count : new.content.count v ≡ None
  pub page : (p : ℕ) → new.content.page v p ≡ None
  pub backing : new.backing v ≡ None
  pub link : new.link v ≡ None
  pub text : (p : ℕ) → new.text v p ≡ zeros

-- From old, what does not live leaves, and nothing else changes.
pub record Leaves (old new : SourceState) : Type 0 where
  pub frames : new.content.frames ≡ old.content.frames
  pub next : new.content.next ≡ old.content.next
  pub names : new.names ≡ old.names
  pub each : (v : ℕ) → (IsLive old v × StaysAt old new v) ⊎ ((IsLive old v → ⊥) × IsGoneAt new v)
