use Rattle.transcript.proofs.CheckLaws.{due_asked, listing_asked}
use Rattle.transcript.proofs.checker.Checker.ask.Goals as goal

pub returns-in-Due : goal.returns-in-Due
returns-in-Due c = λ frames tells is. due_asked frames c.args.self.now tells c.args.script.now is c.requires.filled c.in-Due.is

pub returns-in-Listing : goal.returns-in-Listing
returns-in-Listing c = λ frames tells is. listing_asked frames c.args.self.now tells c.args.script.now is c.requires.filled c.in-Listing.is
