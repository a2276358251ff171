use Rattle.source_model.proofs.TextLaws.{read_stays, supply_stays, evict_stays}
use Rattle.source_model.proofs.laws.paging_changes_no_text.Goals as goal

pub returns-clause-reads : goal.returns-clause-reads
returns-clause-reads c = read_stays

pub returns-clause-supplies : goal.returns-clause-supplies
returns-clause-supplies c = supply_stays

pub returns-clause-evictions : goal.returns-clause-evictions
returns-clause-evictions c = evict_stays
