use Rattle.std.proofs.Common.{ap}
use Rattle.std.specs.Option.{option_map}
use Rattle.vm_model.specs.Contents.Content.{Page}
use Rattle.page_store.specs.Flat.{flat_of}
use Rattle.page_store.proofs.RowLaws.{page_of_viewer}
use Rattle.page_store.proofs.FrameLaws.{none_shown}
use Rattle.page_store.proofs.flat_store.FlatStore.viewer.Goals as goal

pub returns-in-Some : goal.returns-in-Some
returns-in-Some c = rw (← c.self.view_is) (record {
  some = ap (option_map (λ (held : Page). held.tag)) (page_of_viewer (flat_of c.self.inside) c.self.invariant.flat c.args.tag.0 c.in-Some.koid c.in-Some.page c.in-Some.ensures.value);
  none = tt;
})

pub returns-in-None : goal.returns-in-None
returns-in-None c = rw (← c.self.view_is) (record {
  some = tt;
  none = none_shown (flat_of c.self.inside) c.self.invariant.flat c.args.tag c.in-None.ensures.next;
})
