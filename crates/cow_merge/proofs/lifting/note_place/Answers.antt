use Rattle.cow_merge.proofs.Words.{ℕ, ap, passes, Backlink}
use Rattle.cow_merge.proofs.lifting.note_place.Goals as goal

pub returns-in-Frame-clause-links : goal.returns-in-Frame-clause-links
unfolding passes
returns-in-Frame-clause-links c t = rw c.in-Frame.is (ap (λ (links : ℕ → Backlink). links t) c.set_backlink.ensures.links)
