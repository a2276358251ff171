-- What a search of the bytes that are held fetches of those that are pending.
use Rattle.std.proofs.Common.{◌≡◌, ◌≢◌, ℕ, ◌+◌, ◌-◌, ◌≤◌, ◌<◌, ◌⊎◌, inl, inr, true, List, [], ◌∷◌, ◌++◌, length, take, drop, Option, None, Some, refl, sym, ap, ◌∙◌, subst, arith, append_assoc, append-nil, take-append-drop, length-append, length-drop}
use Rattle.std.proofs.lemmas.List.{nil_from_length, take_at}
use Rattle.std.proofs.lemmas.List.Elements.{All-append, All-nil}
use Rattle.script_io.specs.Reader.{HasNoFeed, HasNoFeedBeforeLast, Reader, Window}
use Rattle.script_io.specs.Fetching.{IsPending, Fetched, Measured, Looked}
use Rattle.vm_base.specs.declared.limits.TheConstants.{LINE_BYTES}
use Rattle.script_io.specs.declared.line_reader.Fetch.{Fetch}
use Rattle.script_io.specs.declared.line_reader.Fetch.TheVariants.{Line, TooLong, End, Fault, Limit}
use Rattle.script_io.specs.declared.line_buffer.TheConstants.{LINE_FEED}

-- a list of no bytes before others
none_before : (bytes rest : List ℕ) → length bytes ≡ 0 → bytes ++ rest ≡ rest
none_before bytes rest none = ap (λ (xs : List ℕ). xs ++ rest) (nil_from_length bytes none)

-- a measured line, closed or the last, with the front that was dropped
measured_line : (answer : Fetch) (new : Reader) (bytes front line left : List ℕ) (dropped : ℕ)
    → length front ≡ dropped → HasNoFeed front → HasNoFeed line
    → (bytes ≡ (front ++ line) ++ LINE_FEED ∷ left)
    ⊎ ((bytes ≡ front ++ line) × (left ≡ []) × (0 < length (front ++ line)) × (new.ended ≡ true))
    → Measured dropped line new.line answer → new.taken ≤ new.limit → Fetched new bytes left answer
measured_line Line new bytes front line left dropped size no_feed no_feed' parts measured within =
    let whole : front ++ line ≡ new.line = none_before front line (size ∙ measured.0) ∙ sym measured.2 in (
      record {
        no_feed = subst HasNoFeed (sym measured.2) no_feed';
        parts = subst
            (λ (xs : List ℕ). (bytes ≡ xs ++ LINE_FEED ∷ left)
            ⊎ ((bytes ≡ xs) × (left ≡ []) × (0 < length xs) × (new.ended ≡ true))) whole parts;
      },
      subst (λ (xs : List ℕ). length xs ≤ LINE_BYTES) (sym measured.2) measured.1,
      within,
    )
measured_line TooLong new bytes front line left dropped size no_feed no_feed' parts measured within =
    let long : LINE_BYTES < length (front ++ line) = simp length-append (omega (arith, measured.0)) in (
      front ++ line,
      record { no_feed = All-append (λ b. b ≢ LINE_FEED) front line no_feed no_feed'; parts = parts },
      long,
      measured.1,
      within,
    )
measured_line End new bytes front line left dropped size no_feed no_feed' parts measured within = absurd measured
measured_line Fault new bytes front line left dropped size no_feed no_feed' parts measured within = absurd measured
measured_line Limit new bytes front line left dropped size no_feed no_feed' parts measured within = absurd measured

-- a line feed was found behind `line`, in the bytes that were fresh
pub found_fetched : (answer : Fetch) (old new : Reader) (remaining : Option (List ℕ))
    (pending seen fresh line left : List ℕ) → IsPending old remaining pending
    → old.held ≡ seen ++ fresh → fresh ≡ line ++ LINE_FEED ∷ left → HasNoFeed seen → HasNoFeed line
    → Measured old.dropped (seen ++ line) new.line answer → new.dropped ≡ 0 → new.held ≡ left → new.ended ≡ old.ended
    → new.taken ≤ new.limit
    → Looked new remaining pending (Some answer)
found_fetched answer old new remaining pending seen fresh line left p held found no_feed no_feed' measured dropped
    rest ended within =
    let whole : pending ≡ (p.front ++ (seen ++ line)) ++ LINE_FEED ∷ left =
    p.parts ∙ ap (λ (xs : List ℕ). p.front ++ xs) (held ∙ ap (λ (xs : List ℕ). seen ++ xs) found)
    ∙ simp append_assoc in (
      left,
      record {
        front = [];
        no_feed = All-nil (λ b. b ≢ LINE_FEED);
        size = sym dropped;
        parts = sym rest;
        at_end = λ h. p.at_end (sym ended ∙ h);
      },
      measured_line answer new pending p.front (seen ++ line) left old.dropped p.size p.no_feed
          (All-append (λ b. b ≢ LINE_FEED) seen line no_feed no_feed') (inl whole) measured within,
    )

-- the source has ended, and what is held is a last line
pub last_fetched : (answer : Fetch) (old new : Reader) (remaining : Option (List ℕ)) (pending piece : List ℕ)
    → IsPending old remaining pending
    → old.held ≡ piece → HasNoFeed piece → 0 < old.dropped + length piece → new.ended ≡ true
    → Measured old.dropped piece new.line answer → new.dropped ≡ 0 → new.held ≡ [] → new.ended ≡ old.ended
    → new.taken ≤ new.limit
    → Looked new remaining pending (Some answer)
last_fetched answer old new remaining pending piece p held no_feed some at_end measured dropped rest ended within =
    let whole : pending ≡ p.front ++ piece = p.parts ∙ ap (λ (xs : List ℕ). p.front ++ xs) held in
    let some' : 0 < length (p.front ++ piece) = simp length-append (omega (arith, p.size)) in (
      [],
      record {
        front = [];
        no_feed = All-nil (λ b. b ≢ LINE_FEED);
        size = sym dropped;
        parts = sym rest;
        at_end = λ h. p.at_end (sym ended ∙ h);
      },
      measured_line answer new pending p.front piece [] old.dropped p.size p.no_feed no_feed
          (inr (whole, refl, some', at_end)) measured within,
    )

-- what is held is the front of a line: it stays so, or it is dropped
pub kept_waiting : (old new : Reader) (remaining : Option (List ℕ)) (pending piece : List ℕ)
    → IsPending old remaining pending
    → old.held ≡ piece → HasNoFeed piece → new.dropped + length new.held ≡ old.dropped + length piece
    → (new.held ≡ piece) ⊎ (new.held ≡ []) → new.ended ≡ old.ended
    → Looked new remaining pending None
kept_waiting old new remaining pending piece p held no_feed size (inl same) ended =
    let whole : pending ≡ p.front ++ piece = p.parts ∙ ap (λ (xs : List ℕ). p.front ++ xs) held in
    let equal : length new.held ≡ length piece = ap length same in (
      record {
        front = p.front;
        no_feed = p.no_feed;
        size = omega (arith, p.size);
        parts = whole ∙ ap (λ (xs : List ℕ). p.front ++ xs) (sym same);
        at_end = λ h. p.at_end (sym ended ∙ h);
      },
      subst HasNoFeed (sym whole) (All-append (λ b. b ≢ LINE_FEED) p.front piece p.no_feed no_feed),
    )
kept_waiting old new remaining pending piece p held no_feed size (inr none) ended =
    let whole : pending ≡ p.front ++ piece = p.parts ∙ ap (λ (xs : List ℕ). p.front ++ xs) held in
    let equal : length new.held ≡ 0 = ap length none in
    let all : HasNoFeed (p.front ++ piece) = All-append (λ b. b ≢ LINE_FEED) p.front piece p.no_feed no_feed in (
      record {
        front = p.front ++ piece;
        no_feed = all;
        size = simp length-append (omega (arith, p.size));
        parts = whole ∙ sym (append-nil (p.front ++ piece)) ∙ ap (λ (xs : List ℕ). (p.front ++ piece) ++ xs) (sym none);
        at_end = λ h. p.at_end (sym ended ∙ h);
      },
      subst HasNoFeed (sym whole) all,
    )

-- what a buffer holds where all of it was searched and the part that was searched may have been dropped
pub window_dropped : (found left : Window) → found.fresh ≡ [] → (left ≡ found) ⊎ (left ≡ record found { seen = [] })
    → ((left.seen ++ left.fresh ≡ found.seen) ⊎ (left.seen ++ left.fresh ≡ [])) × (left.fresh ≡ [])
    × (left.line ≡ found.line)
window_dropped found left none (inl same) = (
  inl (ap (λ (w : Window). w.seen ++ w.fresh) same ∙ ap (λ (xs : List ℕ). found.seen ++ xs) none
      ∙ append-nil found.seen),
  ap (λ (w : Window). w.fresh) same ∙ none,
  ap (λ (w : Window). w.line) same,
)
window_dropped found left none (inr same) = (
  inr (ap (λ (w : Window). w.seen ++ w.fresh) same ∙ none),
  ap (λ (w : Window). w.fresh) same ∙ none,
  ap (λ (w : Window). w.line) same,
)

-- neither of these has a line feed
pub no_feed_held : (held piece : List ℕ) → HasNoFeed piece → (held ≡ piece) ⊎ (held ≡ []) → HasNoFeed held
no_feed_held held piece no_feed (inl same) = subst HasNoFeed (sym same) no_feed
no_feed_held held piece no_feed (inr none) = subst HasNoFeed (sym none) (All-nil (λ b. b ≢ LINE_FEED))

-- a byte behind the limit stands behind bytes without a line feed
pub over_after : (held part : List ℕ) → HasNoFeed held → length part ≡ 1 → HasNoFeedBeforeLast (held ++ part)
over_after held part no_feed size =
    let count : length (held ++ part) ≡ length held + length part = length-append held part in
    let front : length held ≡ length (held ++ part) - 1 = omega arith in
    record {
      some = omega arith;
      no_feed = subst HasNoFeed (sym (take_at held part (length (held ++ part) - 1) front)) no_feed;
    }

-- the same with bytes before them
over_behind : (front held : List ℕ) → HasNoFeed front → HasNoFeedBeforeLast held → HasNoFeedBeforeLast (front ++ held)
over_behind front held no_feed over =
    let before : List ℕ = take (length held - 1) held in
    let last : List ℕ = drop (length held - 1) held in
    let size : length last ≡ 1 = simp length-drop (omega (arith, over.some)) in
    let whole : (front ++ before) ++ last ≡ front ++ held = append_assoc front before last
    ∙ ap (λ (xs : List ℕ). front ++ xs) (take-append-drop (length held - 1) held) in
    subst HasNoFeedBeforeLast whole
    (over_after (front ++ before) last (All-append (λ b. b ≢ LINE_FEED) front before no_feed over.no_feed) size)

-- a byte behind the limit was taken
pub limit_fetched : (old new : Reader) (remaining : Option (List ℕ)) (pending : List ℕ)
    → IsPending old remaining pending
    → new ≡ old → HasNoFeedBeforeLast old.held → old.line ≡ [] → old.taken ≡ old.limit + 1
    → Looked new remaining pending (Some Limit)
limit_fetched old new remaining pending p same over line taken =
    let all : HasNoFeedBeforeLast pending = subst HasNoFeedBeforeLast (sym p.parts)
    (over_behind p.front old.held p.no_feed over) in (
      pending,
      subst (λ (r : Reader). IsPending r remaining pending) (sym same) p,
      (
        refl,
        all,
        ap (λ (r : Reader). r.line) same ∙ line,
        ap (λ (r : Reader). r.taken) same ∙ taken
            ∙ ap (λ (r : Reader). r.limit + 1) (sym same),
      ),
    )
