-- What names stand for, in the content of a store.
use Rattle.std.specs.Prelude.{◌+◌, ◌≤◌, IsSome}
use Rattle.vm_model.specs.Contents.Content.{Content, pages_of}
use Rattle.vm_model.specs.declared.names.Target.{Target}
use Rattle.vm_model.specs.Machine.State.{name_pages}

-- what the name stands for lies inside its VMO
pub record IsInside (c : Content) (target : Target) : Type 0 where
  pub vmo : IsSome (c.count target.koid.0)
  pub pages : target.first + name_pages c target ≤ pages_of c target.koid.0
