use Rattle.std.proofs.Common.{ℕ, ◌∙◌, ap}
use Rattle.page_store.specs.Flat.{flat_content, flat_of}
use Rattle.page_store.proofs.VmoLaws.{no_frames, content-filled, IsFlat-filled}
use Rattle.page_store.proofs.flat_store.FlatStorePageStore.fill.Goals as goal

pub fill-requires-clause-empty : goal.fill-requires-clause-empty
fill-requires-clause-empty c = no_frames (flat_of c.self.inside) (rw (← c.self.view_is) at c.requires.empty)

pub invariant_of-self-2 : goal.invariant_of-self-2
invariant_of-self-2 c = record { flat = IsFlat-filled (flat_of c.self.inside) (rw (← c.self.view_is) at c.requires.empty) c.fill.new.self c.self.invariant.flat c.in-Ok.ensures.taken }

pub returns-clause-ok : goal.returns-clause-ok
returns-clause-ok c =
    rw (← c.self.view_is) (content-filled (flat_of c.self.inside) (rw (← c.self.view_is) at c.requires.empty) c.fill.new.self
    ∙ ap (λ (n : ℕ). record (flat_content (flat_of c.self.inside)) { frames = n }) c.in-Ok.ensures.frames)
