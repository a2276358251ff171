use Rattle.page_store.specs.Flat.{flat_of, flat_content}
use Rattle.page_store.proofs.VmoLaws.{content-dropped, IsFlat-dropped, count_stays}
use Rattle.page_store.proofs.flat_store.FlatStorePageStore.drop_vmo.Goals as goal

pub remove-requires : goal.remove-requires
remove-requires c = count_stays (flat_content c.args.self.now) (flat_content (flat_of c.self.inside)) c.args.v.0 _ _ (rw (← c.self.view_is) at c.release_pages.ensures.content) c.requires

pub invariant_of-self : goal.invariant_of-self
invariant_of-self c = record {
  flat = IsFlat-dropped (flat_content c.args.self.now) (flat_of c.self.inside) c.remove.new.self c.args.v.0 (rw (← c.self.view_is) at c.release_pages.ensures.content) c.self.invariant.flat
      c.remove.ensures.values c.requires c.remove.ensures.count;
}

pub returns : goal.returns
returns c =
    content-dropped (flat_content c.args.self.now) (flat_of c.self.inside) c.remove.new.self c.args.v.0 (rw (← c.self.view_is) at c.release_pages.ensures.content) c.self.invariant.flat
    c.remove.ensures.values
