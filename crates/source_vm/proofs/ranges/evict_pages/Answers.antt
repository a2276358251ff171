use Rattle.std.proofs.Common.{◌∙◌, ◌+◌, sym, ap, subst, arith}
use Rattle.std.specs.Prelude.{IsSome}
use Rattle.vm_base.proofs.SearchLaws.{any_from_at}
use Rattle.vm_model.specs.Contents.Content.{Content, IsGood, pages_of}
use Rattle.vm_model.specs.Contents.Zeroing.{zeroed}
use Rattle.source_vm.specs.Pages.{is_clean_at}
use Rattle.source_vm.proofs.EvictLaws.{cleared-none, cleared-first, cleared-append, count-cleared, IsGood-cleared, pages_of-cleared}
use Rattle.source_vm.proofs.ranges.evict_pages.Goals as goal

pub returns-in_default-clause-ok : goal.returns-in_default-clause-ok
returns-in_default-clause-ok g c =
    cleared-none c.args.backing.now (g.P.PageStore.content c.args.store.now) c.args.v.0 c.args.first c.args.end c.in_default.ensures

pub returns-in_default-reserve-clause-err : goal.returns-in_default-reserve-clause-err
returns-in_default-reserve-clause-err g c =
    let found = c.in-Some.ensures in
    any_from_at (is_clean_at c.args.backing.now (g.P.PageStore.content c.args.store.now) c.args.v.0) c.args.first c.args.end c.in-Some.page found.order found.below found.hit

pub evict_range-requires-clause-good : goal.evict_range-requires-clause-good
evict_range-requires-clause-good g c =
    let b = c.args.backing.now in
    let old = g.P.PageStore.content c.args.store.now in
    let v = c.args.v.0 in
    let page = c.in-Some.page in
    let mid = cleared-first b old _ v c.args.first c.args.end page c.in-Some.ensures
    (c.zero.ensures.zero ∙ ap (λ (d : Content). zeroed d v page (page + 1)) c.reserve.ensures.same) in
    subst IsGood (sym mid) (IsGood-cleared b old v c.args.first (page + 1) c.requires.good)

pub evict_range-requires-clause-vmo : goal.evict_range-requires-clause-vmo
evict_range-requires-clause-vmo g c =
    let b = c.args.backing.now in
    let old = g.P.PageStore.content c.args.store.now in
    let v = c.args.v.0 in
    let page = c.in-Some.page in
    let mid = cleared-first b old _ v c.args.first c.args.end page c.in-Some.ensures
    (c.zero.ensures.zero ∙ ap (λ (d : Content). zeroed d v page (page + 1)) c.reserve.ensures.same) in
    subst (λ count. IsSome (count v)) (sym (count-cleared b old _ v c.args.first (page + 1) mid)) c.requires.vmo

pub evict_range-requires-clause-pages : goal.evict_range-requires-clause-pages
evict_range-requires-clause-pages g c =
    let b = c.args.backing.now in
    let old = g.P.PageStore.content c.args.store.now in
    let v = c.args.v.0 in
    let page = c.in-Some.page in
    let mid = cleared-first b old _ v c.args.first c.args.end page c.in-Some.ensures
    (c.zero.ensures.zero ∙ ap (λ (d : Content). zeroed d v page (page + 1)) c.reserve.ensures.same) in
    let same = ap (λ (d : Content). pages_of d v) mid ∙ pages_of-cleared b old v c.args.first (page + 1) v in
    omega (arith, same, c.requires.pages)

pub returns-clause-ok : goal.returns-clause-ok
returns-clause-ok g c =
    let b = c.args.backing.now in
    let old = g.P.PageStore.content c.args.store.now in
    let v = c.args.v.0 in
    let page = c.in-Some.page in
    let mid = cleared-first b old _ v c.args.first c.args.end page c.in-Some.ensures
    (c.zero.ensures.zero ∙ ap (λ (d : Content). zeroed d v page (page + 1)) c.reserve.ensures.same) in
    c.evict_range.ensures ∙ cleared-append b old _ v c.args.first (page + 1) c.args.end mid (omega (arith, c.in-Some.ensures.order)) (omega (arith, c.in-Some.ensures.below))
