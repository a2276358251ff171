use Rattle.std.proofs.Common.{◌≡◌, ◌≢◌, ◌+◌, ◌<◌, ◌⊎◌, ◌++◌, List, ℕ, [], length, append-nil, refl, sym, ap, ◌∙◌, subst, arith}
use Rattle.std.proofs.lemmas.List.Elements.{All-append}
use Rattle.script_io.specs.Reader.{Window, Reader, HasNoFeedBeforeLast}
use Rattle.script_io.specs.Fetching.{IsPending, Measured}
use Rattle.script_io.proofs.FetchingLaws.{limit_fetched, found_fetched, last_fetched, kept_waiting, window_dropped, no_feed_held}
use Rattle.script_io.proofs.line_reader.Lines.look.Goals as goal
use Rattle.script_io.proofs.line_reader.Lines.look.Goals.{else-self-eq0-via-then-self-eq0+else-seen_len-eq0, else-self-eq0-via-else-self-eq0}
use Rattle.script_io.specs.declared.line_buffer.TheConstants.{LINE_FEED}

pub returns-then-self-clause-looked : goal.returns-then-self-clause-looked
returns-then-self-clause-looked c = λ remaining pending p.
    let taken = ap (λ (r : Reader). r.taken) c.self.view_is in
    let limit = ap (λ (r : Reader). r.limit) c.self.view_is in
    limit_fetched c.args.self.now c.args.self.now remaining pending p refl
    (subst (λ (r : Reader). HasNoFeedBeforeLast r.held) c.self.view_is (c.self.invariant.over c.if-self.true))
    c.requires
    (omega (arith, taken, limit, c.self.invariant.within, c.if-self.true))

pub returns-then-find_line-clause-looked : goal.returns-then-find_line-clause-looked
returns-then-find_line-clause-looked c = λ remaining pending p.
    let found = c.if-find_line.ensures.found in
    let buffer = c.self.inside.buffer in
    found_fetched c.measure.result _ _ remaining pending buffer.seen buffer.fresh found.1 c.find_line.new.self.fresh
    (subst (λ (r : Reader). IsPending r remaining pending) (sym c.self.view_is) p) refl found.4
    c.self.invariant.no_feed found.2
    (subst (λ (xs : List ℕ). Measured c.self.inside.dropped xs c.measure.new.buffer.line c.measure.result) found.3
    c.measure.ensures.measured)
    c.measure.ensures.dropped
    (ap (λ (w : Window). w.seen ++ w.fresh) c.measure.ensures.buffer
    ∙ ap (λ (xs : List ℕ). xs ++ c.find_line.new.self.fresh) found.0)
    refl (omega arith)

pub returns-then-self-2-clause-looked : goal.returns-then-self-2-clause-looked
returns-then-self-2-clause-looked c = λ remaining pending p.
    let searched = c.if-find_line.ensures.found in
    let buffer = c.self.inside.buffer in
    let seen : c.find_line.new.self.seen ≡ buffer.seen ++ buffer.fresh = ap (λ (w : Window). w.seen) searched.1 in
    let some : 0 < c.self.inside.dropped + length (buffer.seen ++ buffer.fresh) = elim c.else-self-eq0.branch [
      | else-self-eq0-via-then-self-eq0+else-seen_len-eq0 w ↦ omega
          (arith, ap length seen, w.seen_len.ensures, w.if-seen_len-eq0.false)
      | else-self-eq0-via-else-self-eq0 w ↦ omega (arith, w.if-self-eq0.false)
    ] in
    last_fetched c.measure-then-self-2.result _ _ remaining pending (buffer.seen ++ buffer.fresh)
    (subst (λ (r : Reader). IsPending r remaining pending) (sym c.self.view_is) p) refl
    (All-append (λ b. b ≢ LINE_FEED) buffer.seen buffer.fresh c.self.invariant.no_feed searched.0)
    some c.if-self-2.true
    (subst (λ (xs : List ℕ). Measured c.self.inside.dropped xs c.measure-then-self-2.new.buffer.line
    c.measure-then-self-2.result)
    (ap (λ (w : Window). w.line) c.take_seen.ensures ∙ seen) c.measure-then-self-2.ensures.measured)
    c.measure-then-self-2.ensures.dropped
    (ap (λ (w : Window). w.seen ++ w.fresh) c.measure-then-self-2.ensures.buffer
    ∙ ap (λ (w : Window). w.seen ++ w.fresh) c.take_seen.ensures ∙ ap (λ (w : Window). w.fresh) searched.1)
    refl (omega arith)

pub returns-clause-looked : goal.returns-clause-looked
returns-clause-looked c = λ remaining pending p.
    let searched = c.if-find_line.ensures.found in
    let buffer = c.self.inside.buffer in
    let left = c.drop_long.new.buffer in
    let seen : c.find_line.new.self.seen ≡ buffer.seen ++ buffer.fresh = ap (λ (w : Window). w.seen) searched.1 in
    let dropped = window_dropped c.find_line.new.self left (ap (λ (w : Window). w.fresh) searched.1)
    c.drop_long.ensures.buffer in
    let size : length (left.seen ++ left.fresh) ≡ length left.seen = ap (λ (xs : List ℕ). length (left.seen ++ xs))
    dropped.1 ∙ ap length (append-nil left.seen) in
    kept_waiting _ _ remaining pending (buffer.seen ++ buffer.fresh)
    (subst (λ (r : Reader). IsPending r remaining pending) (sym c.self.view_is) p) refl
    (All-append (λ b. b ≢ LINE_FEED) buffer.seen buffer.fresh c.self.invariant.no_feed searched.0)
    (omega (arith, size, ap length seen, c.drop_long.ensures.dropped))
    (subst (λ (xs : List ℕ). (left.seen ++ left.fresh ≡ xs) ⊎ (left.seen ++ left.fresh ≡ [])) seen dropped.0)
    refl

pub returns-clause-none : goal.returns-clause-none
returns-clause-none c =
    let searched = c.if-find_line.ensures.found in
    let buffer = c.self.inside.buffer in
    let left = c.drop_long.new.buffer in
    let seen : c.find_line.new.self.seen ≡ buffer.seen ++ buffer.fresh = ap (λ (w : Window). w.seen) searched.1 in
    let dropped = window_dropped c.find_line.new.self left (ap (λ (w : Window). w.fresh) searched.1)
    c.drop_long.ensures.buffer in
    let size : length (left.seen ++ left.fresh) ≡ length left.seen = ap (λ (xs : List ℕ). length (left.seen ++ xs))
    dropped.1 ∙ ap length (append-nil left.seen) in
    let all = All-append (λ b. b ≢ LINE_FEED) buffer.seen buffer.fresh c.self.invariant.no_feed searched.0 in (
      c.if-self-2.false,
      omega arith,
      dropped.2 ∙ ap (λ (w : Window). w.line) searched.1 ∙ ap (λ (r : Reader). r.line) c.self.view_is ∙ c.requires,
      no_feed_held (left.seen ++ left.fresh) (buffer.seen ++ buffer.fresh) all
          (subst (λ (xs : List ℕ). (left.seen ++ left.fresh ≡ xs) ⊎ (left.seen ++ left.fresh ≡ [])) seen dropped.0),
      omega (arith, size, c.drop_long.ensures.short),
    )
