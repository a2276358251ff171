use Rattle.std.proofs.Common.{◌≡◌, Some}
use Rattle.vm_model.specs.Contents.Zeroing.{zeroed}
use Rattle.page_store.specs.Flat.{flat_of, flat_content}
use Rattle.page_store.proofs.VmoLaws.{content-resized, IsFlat-resized, count_is, count_stays}
use Rattle.page_store.proofs.flat_store.FlatStorePageStore.set_count.Goals as goal

pub replace-requires : goal.replace-requires
replace-requires c =
    count_stays (flat_content (flat_of c.self.inside)) (flat_content (flat_of c.self-2.inside)) c.args.v.0 _ _
    (rw (← c.self.view_is, ← c.self-2.view_is) at c.release_pages.ensures.content) (rw (← c.self.view_is) at c.requires.vmo)

was : (c : goal.After-replace) → (flat_content (flat_of c.self.inside)).count c.args.v.0 ≡ Some c.unwrap_or-old.result
was c = count_is _ c.unwrap_or-old.result (rw (← c.self.view_is) at c.requires.vmo) (rw c.find.ensures at c.unwrap_or-old.ensures)

zero : (c : goal.After-replace) → flat_content (flat_of c.self-2.inside) ≡ zeroed (flat_content (flat_of c.self.inside)) c.args.v.0 c.args.count c.unwrap_or-old.result
zero c = rw (← c.self.view_is, ← c.self-2.view_is) at c.release_pages.ensures.content

pub invariant_of-self : goal.invariant_of-self
invariant_of-self c = record {
  flat = IsFlat-resized (flat_content (flat_of c.self.inside)) (flat_of c.self-2.inside) c.replace.new.self c.args.v.0 c.args.count _ (zero c) (was c) c.replace.ensures.values
      c.self.invariant.flat.good c.self-2.invariant.flat c.requires.count c.replace.ensures.count;
}

pub returns : goal.returns
returns c =
    rw (← c.self.view_is) (content-resized (flat_content (flat_of c.self.inside)) (flat_of c.self-2.inside) c.replace.new.self c.args.v.0 c.args.count _ (zero c) (was c) c.replace.ensures.values)
