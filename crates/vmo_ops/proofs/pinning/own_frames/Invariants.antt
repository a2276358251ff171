use Rattle.vm_model.specs.Contents.Writing.{touched}
use Rattle.vmo_ops.proofs.OwningLaws.{IsOwning, owning_pages}
use Rattle.vmo_ops.proofs.FrameLaws.{AreFrames}
use Rattle.vmo_ops.proofs.pinning.own_frames.Given as goal

abbrev pub invariant-loop-page : goal.invariant-loop-page
invariant-loop-page g l = record {
  owning : IsOwning (owning_pages l.v.0) l.v.0 (g.P.PageStore.content l.initial.store) (touched l.offset l.len)
      (g.P.PageStore.content l.store) l.page l.end (g.P.PageStore.spare l.store);
  frames : AreFrames (g.P.PageStore.content l.store) l.v.0 l.first l.page l.numbers;
}
