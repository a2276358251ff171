use Rattle.std.proofs.Common.{◌≡◌, ◌≤◌, ◌-◌}
use Rattle.vm_model.specs.Space.Readiness.{frame_at}
use Rattle.fault.specs.Table.{translations_of, room_of}
use Rattle.fault.specs.inside.Walks.{changed_where, dropped, holds_other}
use Rattle.fault.proofs.WalkLaws.{page_below}
use Rattle.fault.proofs.translations.Translations.forget_changed.Given as goal

-- the translations of the pages up to here that hold another frame are dropped
abbrev pub invariant-loop-page : goal.invariant-loop-page
invariant-loop-page g l = record {
  first : l.first ≤ l.from;
  end : l.from ≤ l.end;
  changed : translations_of l.self ≡ changed_where dropped (page_below l.v.0 l.first l.from (λ k. holds_other (frame_at (g.P.PageStore.content l.store) l.v.0 k.entry.page) k)) (translations_of l.initial.self);
  room : room_of l.initial.self ≤ room_of l.self;
}

abbrev pub decreases-loop-page : goal.decreases-loop-page
decreases-loop-page g l = l.end - l.from
