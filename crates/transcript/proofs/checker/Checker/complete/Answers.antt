use Rattle.std.proofs.Common.{refl}
use Rattle.std.proofs.lemmas.Bool.{false≢true}
use Rattle.transcript.proofs.CheckLaws.{idle_whole, due_part, listing_part}
use Rattle.transcript.proofs.checker.Checker.complete.Goals as goal

pub returns-in-Idle : goal.returns-in-Idle
returns-in-Idle c = λ frames lines read. (λ e. idle_whole frames c.args.self.now lines read c.in-Idle.is, λ whole. refl)

pub returns-in-Due : goal.returns-in-Due
returns-in-Due c = λ frames lines read. (λ e. absurd (false≢true e), λ whole. absurd (due_part frames c.args.self.now lines read c.in-Due.is whole))

pub returns-in-Listing : goal.returns-in-Listing
returns-in-Listing c = λ frames lines read. (λ e. absurd (false≢true e), λ whole. absurd (listing_part frames c.args.self.now lines read c.in-Listing.is whole))
