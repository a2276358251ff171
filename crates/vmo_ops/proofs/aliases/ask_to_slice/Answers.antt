use Rattle.vmo_ops.proofs.NameLaws.{named_inside, named_known}
use Rattle.vmo_ops.proofs.aliases.ask_to_slice.Goals as goal

pub pages_inside-requires-clause-inside : goal.pages_inside-requires-clause-inside
pages_inside-requires-clause-inside g c = named_inside _ _ c.requires.parts.good c.requires.named

pub resizable-requires : goal.resizable-requires
resizable-requires g c = named_known _ _ c.requires.parts.good c.requires.named
