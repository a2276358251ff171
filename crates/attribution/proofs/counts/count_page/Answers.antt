use Rattle.std.proofs.Common.{ℕ, ◌+◌, not, refl, ap, arith}
use Rattle.attribution.proofs.CountLaws.{byte_le, looks_held, counts_room, AreCounts-page}
use Rattle.attribution.proofs.counts.count_page.Goals as goal

pub overflow_add-counts : goal.overflow_add-counts
overflow_add-counts g c =
    let few = counts_room _ _ _ _ c.requires.good c.requires.held c.requires.before in
    omega (arith, few.held)

pub overflow_add-counts-2 : goal.overflow_add-counts-2
overflow_add-counts-2 g c =
    let few = counts_room _ _ _ _ c.requires.good c.requires.held c.requires.before in
    omega (arith, few.alone, c.from.ensures, byte_le c.in-Held.sole)

pub overflow_add-counts-3 : goal.overflow_add-counts-3
overflow_add-counts-3 g c =
    let few = counts_room _ _ _ _ c.requires.good c.requires.held c.requires.before in
    omega (arith, few.shared, c.from-2.ensures, byte_le (not c.in-Held.sole))

pub overflow_add-counts-4 : goal.overflow_add-counts-4
overflow_add-counts-4 g c =
    let few = counts_room _ _ _ _ c.requires.good c.requires.held c.requires.before in
    omega (arith, few.charged, c.from-3.ensures, byte_le c.charges.result)

pub returns : goal.returns
returns g c =
    let is =
    looks_held (g.P.PageStore.content c.args.store.now) c.args.koid.0 c.args.page c.in-Held.tag c.in-Held.sole
    c.in-Held.ensures in
    AreCounts-page _ _ _ _ _ c.charges.result c.args.counts.now _ is c.charges.ensures c.requires.before refl
    (ap (λ (n : ℕ). c.args.counts.now.sole + n) c.from.ensures)
    (ap (λ (n : ℕ). c.args.counts.now.shared + n) c.from-2.ensures)
    (ap (λ (n : ℕ). c.args.counts.now.charged + n) c.from-3.ensures)
