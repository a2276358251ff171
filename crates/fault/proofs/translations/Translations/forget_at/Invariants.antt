use Rattle.std.proofs.Common.{◌≡◌, ◌≤◌, ◌-◌}
use Rattle.fault.specs.Table.{translations_of, room_of}
use Rattle.fault.specs.inside.Walks.{changed_where, dropped}
use Rattle.fault.proofs.WalkLaws.{place_below}
use Rattle.fault.proofs.translations.Translations.forget_at.Given as goal

-- the translations of the pages up to here are dropped
abbrev pub invariant-loop-page : goal.invariant-loop-page
invariant-loop-page l = record {
  first : l.first ≤ l.from;
  end : l.from ≤ l.end;
  changed : translations_of l.self ≡ changed_where dropped (place_below l.root.0 l.first l.from) (translations_of l.initial.self);
  room : room_of l.initial.self ≤ room_of l.self;
}

abbrev pub decreases-loop-page : goal.decreases-loop-page
decreases-loop-page l = l.end - l.from
