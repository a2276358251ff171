use Rattle.std.proofs.Common.{◌≡◌, ◌≤◌, ◌-◌, true}
use Rattle.fault.specs.Table.{translations_of, room_of}
use Rattle.fault.specs.inside.Walks.{changed_where, change_by}
use Rattle.fault.proofs.WalkLaws.{page_below}
use Rattle.fault.proofs.translations.Translations.change_pages.Given as goal

-- the translations of the pages up to here are changed
abbrev pub invariant-loop-page : goal.invariant-loop-page
invariant-loop-page l = record {
  first : l.first ≤ l.from;
  end : l.from ≤ l.end;
  changed : translations_of l.self ≡ changed_where (change_by l.change) (page_below l.v.0 l.first l.from (λ k. true)) (translations_of l.initial.self);
  room : room_of l.initial.self ≤ room_of l.self;
}

abbrev pub decreases-loop-page : goal.decreases-loop-page
decreases-loop-page l = l.end - l.from
