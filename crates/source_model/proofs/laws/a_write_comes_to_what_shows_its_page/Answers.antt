use Rattle.source_model.proofs.KeepLaws.{smaller_of}
use Rattle.source_model.proofs.ReachLaws.{shows_through-reaches, reaches-shows}
use Rattle.source_model.proofs.laws.a_write_comes_to_what_shows_its_page.Goals as goal

pub returns : goal.returns
returns c = λ s good v p w q. (shows_through-reaches s (smaller_of s good) v p w q, reaches-shows s (smaller_of s good) v p w q)
